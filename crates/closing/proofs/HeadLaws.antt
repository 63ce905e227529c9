-- The head's numbers are those of the round that a sound table holds.
use mathlib.Core.Path.{◌≡◌, sym, ap, ◌∙◌}
use mathlib.Core.List.{List}
use Prim.Native.Nat.{ℕ, ◌≤◌}
use native.Mathlib.Omega.{arith}
use lib.ListN.{length, drop}
use Rattle.rules.specs.Limits.{head_size}
use Rattle.rules.specs.Rows.{round}
use Rattle.rules.specs.Conditions.{row_at, used_in}
use Rattle.rules.specs.Table.{round_in, table_refusal}
use Rattle.theory.specs.Back.{length_table}
use Rattle.theory.specs.Clauses.{rows_count}
use Rattle.theory.specs.Sane.{sound}
use Rattle.head.specs.Head.{HeadOf}
use Rattle.sorts.specs.declared.Round.{Round as Head}

module _ {t : List ℕ} {h : Head} (d : HeadOf t h) where
  pub head_slot : h.slot.0 ≡ (round_in t).slot
  unfolding round_in round
  head_slot = d.slot

  pub head_used : h.used ≡ length (round_in t).rows
  unfolding round_in round
  head_used = d.used ∙ sym (rows_count (used_in t) (drop head_size t))

-- so many rows fit a sound table
pub table_room : (t : List ℕ) → table_refusal t ≡ 0 → {u : ℕ} → u ≡ length (round_in t).rows → (u ≤ 1024) × (row_at u ≤ length t)
table_room t e l =
    let h = sound t e in
    let z = h.sane.size in
    (omega (arith, z.long, z.room), omega (arith, l, z.long, length_table (round_in t) z.long, ap length h.bytes))

pub slot_small : {t : List ℕ} {h : Head} → table_refusal t ≡ 0 → HeadOf t h → h.slot.0 ≤ 4096
slot_small {t} {h} e d = let z = (sound t e).sane in omega (arith, z.fine.time, z.size.last, head_slot d)
