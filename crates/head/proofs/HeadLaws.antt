-- The head: its judge as the code tests it, and what a sound table says of it.
use mathlib.Core.Path.{◌≡◌, sym, ap, ◌∙◌}
use mathlib.Core.Bool.{◌&&◌}
use mathlib.Core.List.{List}
use Prim.Native.Nat.{ℕ, ◌+◌, ◌*◌, ◌≤◌}
use native.Mathlib.Omega.{arith}
use lib.Dec.{eqb}
use lib.ListN.{length, drop}
use Rattle.rules.specs.Limits.{head_size, row_size, head_zeros_at}
use Rattle.rules.specs.Rows.{round}
use Rattle.rules.specs.Table.{field, every, head_tests, round_in, table_refusal}
use Rattle.rules.specs.Conditions.{used_in}
use Rattle.theory.specs.Back.{length_table, rising_le}
use Rattle.theory.specs.Judge.{head_judged}
use Rattle.theory.specs.Clauses.{rows_count}
use Rattle.theory.specs.Sane.{sound}
use Rattle.sorts.specs.declared.Round.{Round}
use Rattle.sorts.specs.Tail.{tail_of}
use Rattle.head.specs.Head.{HeadOf}
use Rattle.zeros.proofs.ZeroLaws.{zeros_split, zeros_by_number}

-- THE JUDGE of a head
pub head_is : (t : List ℕ) (h : Round) → HeadOf t h →
    every (head_tests h.slot.0 h.last.0 h.next.0 h.used h.room (tail_of h))
    && (eqb (field head_zeros_at 1 t) 0 && eqb (field (head_zeros_at + 1) 4 t) 0) ≡ head_judged t
unfolding head_judged
head_is t h d =
    rw (
      d.slot,
      d.last,
      d.next,
      d.used,
      d.room,
      d.sealed,
      zeros_split t head_zeros_at 1 4,
      zeros_by_number t (head_zeros_at + 1) 4,
    )

-- THE HEAD OF A SOUND TABLE
pub record SoundHead (t : List ℕ) (h : Round) : Type 0 where
  pub long : length t ≡ head_size + row_size * h.room
  pub some : 1 ≤ h.room
  pub few : h.room ≤ 1024
  pub used : h.used ≤ h.room
  pub last : h.last.0 ≤ 4095
  pub slot : h.slot.0 ≤ h.last.0 + 1
  pub least : 1 ≤ h.next.0
  pub most : h.next.0 ≤ 16777216

pub sound_head : (t : List ℕ) (h : Round) → table_refusal t ≡ 0 → HeadOf t h → SoundHead t h
unfolding round_in round
sound_head t h e k =
    let r = round_in t in
    let s = sound t e in
    let z = s.sane.size in
    let f = s.sane.fine in
    record {
      long = sym (ap length s.bytes) ∙ length_table r z.long ∙ ap (λ (n : ℕ). head_size + row_size * n) (sym k.room);
      some = omega (arith, s.sane.some, k.room);
      few = omega (arith, z.room, k.room);
      used = omega (arith, z.long, k.room, k.used, rows_count (used_in t) (drop head_size t));
      last = omega (arith, z.last, k.last);
      slot = omega (arith, f.time, k.slot, k.last);
      least = omega (arith, rising_le 1 r.next r.rows f.rising, k.next);
      most = omega (arith, z.next, k.next);
    }
