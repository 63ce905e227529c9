-- Far slots, as `is_far` tells them.
use mathlib.Core.Path.{◌≡◌, sym, ◌∙◌}
use mathlib.Core.Bool.{Bool, true, false}
use mathlib.Core.List.{List}
use Prim.Native.Nat.{ℕ, ◌+◌, ◌-◌, ◌≤◌, ◌<◌}
use native.Mathlib.Omega.{arith}
use lib.Dec.{leb}
use borrow.Author.Tests.{leb-true, leb-false}
use Rattle.rules.specs.Table.{round_in}
use Rattle.rules.specs.Plan.{mark, planned}
use Rattle.theory.specs.Members.{planned_rows}
use Rattle.theory.specs.Near.{far_mark}
use Rattle.sorts.specs.declared.Round.{Round as Head}
use Rattle.round.specs.Rows.{Ready}
use Rattle.round.proofs.ReadLaws.{known}
use Rattle.buckets.specs.Reach.{Reaches}
use Rattle.buckets.specs.declared.Reach.{Reach}

-- A FAR SLOT
pub far_zero : (t : List ℕ) (h : Head) (x : Reach) (s : ℕ) (far : Bool) → Ready t h → Reaches (round_in t) x → h.slot.0 ≤ s → s ≤ h.last.0 →
    far ≡ leb x.free (s - h.slot.0) → far ≡ true → mark (round_in t) s ≡ 0
far_zero t h x s far k w a b e d =
    let n = known t h k in
    far_mark (round_in t) n.fine (planned (round_in t)) (planned_rows (round_in t) n.fine) ((round_in t).slot + x.free) w.near s
    (omega (arith, a, n.slot, leb-true x.free (s - h.slot.0) (sym e ∙ d))) (omega (arith, b, n.last))

pub not_far : (h : Head) (x : Reach) (s : ℕ) (far : Bool) → h.slot.0 ≤ s → far ≡ leb x.free (s - h.slot.0) → far ≡ false →
    s < h.slot.0 + x.free
not_far h x s far a e d = omega (arith, a, leb-false x.free (s - h.slot.0) (sym e ∙ d))
