-- The plan is a full selection of rows and blanks, with a certificate by the next tight slots: Selection, plan_selection.
use Rattle.std.specs.Prelude.{◌≡◌, true, false, List, ℕ, suc, ◌-◌, ◌≤◌, ◌<◌}
use Rattle.std.proofs.Common.{ap, inl, inr, arith}
use Rattle.rules.specs.Rows.{Row, Round, heavier, slots_left, All, In}
use Rattle.rules.specs.Plan.{due_by, feasible, plan, in_plan, tight_after}
use Rattle.rules.specs.PlanM.{Member}
use Rattle.theory.specs.Tests.{leb?}
use Rattle.theory.specs.Sum.{sum, sum_le}
use Rattle.theory.specs.All.{all_in, all_of_in}
use Rattle.theory.specs.Feas.{below, num, due_below, feas_made}
use Rattle.theory.specs.Bounds.{RowFine}
use Rattle.theory.specs.Full.{plan_members, Fine, plan_feas, plan_full}
use Rattle.theory.specs.Marks.{next}
use Rattle.theory.specs.Change.{row_outside, not_in_plan}
use Rattle.theory.specs.Times.{ticks}
use Rattle.theory.specs.Border.{from_row_over, within, from_row, outside_by_order}
use Rattle.theory.specs.Same.{tick_once}
use Rattle.theory.specs.Unique.{within_below, all_within}

-- A FULL SELECTION: rows, each at most once, and blanks, feasible and filling every slot; a row left out is lighter than every member due by its next tight slot
pub record Selection (r : Round) (ps : List Row) : Type 0 where
  pub members : All (Member r) ps
  pub once : (k : ℕ) → 1 ≤ k → sum (ticks k) ps ≤ 1
  pub fits : feasible r ps ≡ true
  pub full : due_by r.last ps ≡ slots_left r
  pub out : (x : Row) → In x r.rows → in_plan x ps ≡ false → All (λ y. y.due ≤ tight_after r ps x.due → heavier y x ≡ true) ps

-- and the plan is one
pub plan_selection : (r : Round) → Fine r → Selection r (plan r)
unfolding slots_left
plan_selection r f =
    record {
      members = plan_members r;
      once = λ k h. omega (arith, tick_once r f k h);
      fits = feas_made r (plan r) (plan_feas r f);
      full = omega (arith, due_below r.last (plan r), plan_full r f);
      out = λ x i n. lighter x i n;
    }
  where
    lighter : (x : Row) → In x r.rows → in_plan x (plan r) ≡ false → All (λ y. y.due ≤ tight_after r (plan r) x.due → heavier y x ≡ true) (plan r)
    lighter x i n =
        let g = all_in (RowFine r) x r.rows f.fine i in
        let b = outside_by_order r f x g.some (row_outside r x i n) in
        let e = b.0 in
        let z : suc (e - 1) ≡ e = omega (arith, b.1) in
        let k : num 0 e (plan r) ≤ e - r.slot = plan_feas r f e (omega (arith, b.1, g.due_from)) b.2 in
        let t : num 0 e (plan r) ≡ e - r.slot = omega (arith, k, b.3, sum_le (within (from_row x) e) (below 0 e) (within_below (from_row x) e) (plan r)) in
        let q = next r (plan r) x.due g.due_by (plan_full r f) in
        let m : tight_after r (plan r) x.due ≤ e - 1 = elim (leb? (tight_after r (plan r) x.due) (e - 1)) [
          | inl h ↦ h.1
          | inr h ↦ absurd (q.first (e - 1) (omega (arith, b.1)) h.1 (omega (arith, t, z, ap (λ v. num 0 v (plan r)) z)))
        ] in
        all_of_in (λ y. y.due ≤ tight_after r (plan r) x.due → heavier y x ≡ true) (plan r) (λ y j h.
        from_row_over x y (not_in_plan x (plan r) n y j)
        (all_in (λ y. y.due < e → from_row x y ≡ true) y (plan r) (all_within (from_row x) e (plan r) (omega (arith, k, b.3))) j (omega (arith, h, m, z))))
