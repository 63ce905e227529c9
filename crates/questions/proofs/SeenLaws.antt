-- What is lent and seen before a plan is asked for.
use mathlib.Core.Path.{◌≡◌, sym, ap, ◌∙◌}
use mathlib.Core.Bool.{Bool, true}
use mathlib.Core.List.{List}
use Prim.Native.Nat.{ℕ, ◌+◌, ◌*◌, ◌-◌, ◌≤◌, ◌<◌}
use native.Mathlib.Omega.{arith}
use lib.Dec.{leb}
use borrow.Author.Tests.{leb-true}
use lib.ListN.{take, replicate, length-replicate}
use Rattle.rules.specs.Table.{round_in, table_refusal}
use Rattle.sorts.specs.declared.Round.{Round as Head}
use Rattle.head.specs.Head.{HeadOf}
use Rattle.round.specs.Rows.{Ready, at}
use Rattle.round.specs.Buckets.{Counted}
use Rattle.round.proofs.ReadLaws.{known}
use Rattle.buckets.specs.Reach.{Reaches, ReachSays, head_top}
use Rattle.buckets.specs.declared.Reach.{Reach}
use Rattle.buckets.proofs.ReachLaws.{reaches}
use Rattle.plan.specs.Plans.{Lent}
use Rattle.plan.proofs.LentLaws.{ones_front}
use Rattle.every.specs.Every.{Whole}
use Rattle.far.specs.Far.{FarRow}
use Rattle.questions.specs.Seen.{Seen}

pub ready : (t : List ℕ) (h : Head) → table_refusal t ≡ 0 → HeadOf t h → h.slot.0 ≤ h.last.0 → Ready t h
ready t h sound head e = record { sound = sound; head = head; time = e }

-- SEEN by the counts
pub seen : (t : List ℕ) (h : Head) (cs : List ℕ) (x : Reach) → Ready t h → Counted (round_in t) cs → ReachSays cs (head_top h) x → Seen t cs h x
seen t h cs x k c s = record { ready = k; counted = c; reaches = reaches t h cs x k c s }

pub whole : (t : List ℕ) (h : Head) (cs : List ℕ) (x : Reach) → Seen t cs h x → x.over ≡ 0 → Whole t cs h x
whole t h cs x s e = record { ready = s.ready; counted = s.counted; reaches = s.reaches; none = e }

-- WHAT IS LENT for a plan: a flag for each row in the first of m, and p places
pub lends : (t : List ℕ) (h : Head) (cs : List ℕ) (x : Reach) (m p : ℕ) → Seen t cs h x → 1 ≤ x.over → h.used ≤ m → m + 2 ≤ p →
    Lent t cs (replicate p 0) (take h.used (replicate {A = ℕ} m 1)) (replicate p 0) h x
lends t h cs x m p s o a b =
    let z = length-replicate {A = ℕ} p 0 in
    record {
      ready = s.ready;
      counted = s.counted;
      reaches = s.reaches;
      some = o;
      keys = omega (arith, a, b, z);
      flags = ones_front h.used m a;
      heap = ap (λ (n : ℕ). replicate {A = ℕ} n 0) (sym z);
      room = omega (arith, a, b, z);
    }

pub few_rows : (t : List ℕ) (h : Head) → Ready t h → h.used ≤ 1024
few_rows t h r = let k = known t h r in omega (arith, k.used, k.small)

-- and places around a far row
pub around : (t : List ℕ) (h : Head) (x : Reach) (i n : ℕ) → Ready t h → Reaches (round_in t) x → i < h.used → h.slot.0 + x.free ≤ (at (round_in t) i).due →
    2 * h.used + 2 ≤ n → FarRow t (replicate n 0) h x i
around t h x i n k w l d o =
    let z = length-replicate {A = ℕ} n 0 in
    record { ready = k; reaches = w; there = l; far = d; room = omega (arith, o, z); none = ap (λ (m : ℕ). replicate {A = ℕ} m 0) (sym z) }

pub far_due : (h : Head) (x : Reach) (d : ℕ) (far : Bool) → h.slot.0 ≤ d → far ≡ leb x.free (d - h.slot.0) → far ≡ true → h.slot.0 + x.free ≤ d
far_due h x d far a e f = let g = leb-true x.free (d - h.slot.0) (sym e ∙ f) in omega (arith, a, g)
