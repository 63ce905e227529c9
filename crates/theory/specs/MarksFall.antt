-- Marks fall along the slots, and one mark reaches to the next tight slot: mark_falls, mark_reaches, member_mark, first_mark.
use Rattle.std.specs.Prelude.{◌≡◌}
use Rattle.std.proofs.Math.Path.{refl}
use Prim.Native.Nat.{ℕ, zero, suc, ◌≤◌}
use native.Mathlib.Omega.{arith}
use Rattle.rules.specs.Rows.{Row, Round, In}
use Rattle.rules.specs.Plan.{plan, mark, mark_in, tight_after, first_end}
use Rattle.theory.specs.Full.{Fine, plan_full}
use Rattle.theory.specs.Marks.{next, marked}
use Rattle.theory.specs.Leap.{mark_in_reach}
use Rattle.theory.specs.Picks.{mark_least}

module _ (r : Round) (f : Fine r) where
  -- no slot up to the first tight slot at or after d has a lesser mark than d
  pub mark_reaches : (d s : ℕ) → d ≤ r.last → r.slot ≤ s → s ≤ tight_after r (plan r) d → mark r d ≤ mark r s
  unfolding mark
  mark_reaches d s b c h = by_weight (mark_in r (plan r) d) refl
    where
      by_weight : (w : ℕ) → w ≡ mark_in r (plan r) d → w ≤ mark_in r (plan r) s
      by_weight zero q = omega arith
      by_weight (suc w) q = mark_in_reach r f (suc w) d (tight_after r (plan r) d) s (marked r f (suc w) d b (omega arith) (omega arith)) c h

  -- MARKS FALL along the slots
  pub mark_falls : (s d : ℕ) → r.slot ≤ s → s ≤ d → d ≤ r.last → mark r d ≤ mark r s
  mark_falls s d h i j = mark_reaches d s j h (omega (arith, (next r (plan r) d j (plan_full r f)).from))

  -- a member weighs the mark of its due slot at least
  pub member_mark : (x : Row) → In x (plan r) → x.due ≤ r.last → mark r x.due ≤ x.weight
  member_mark x i l = mark_least r f x.due x i (next r (plan r) x.due l (plan_full r f)).from

  -- one of the first segment weighs the mark of the current slot at least
  pub first_mark : (x : Row) → In x (plan r) → x.due ≤ first_end r (plan r) → mark r r.slot ≤ x.weight
  unfolding first_end
  first_mark x i h = mark_least r f r.slot x i h
