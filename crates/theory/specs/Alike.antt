-- Plans by two orders that put the larger weight first have one total and the same marks: Greedy, greedy_by, totals_alike, marks_alike.
use Rattle.std.specs.Prelude.{◌≡◌, refl, Bool, List, ℕ, zero, suc, ◌+◌, ◌-◌, ◌≤◌, ◌<◌}
use Rattle.std.proofs.Common.{inl, inr, arith}
use Rattle.rules.specs.Limits.{most_weight}
use Rattle.rules.specs.Rows.{Row, Round, blank, All}
use Rattle.rules.specs.Plan.{plan_by, total_weight, mark_in, tight_after}
use Rattle.theory.specs.Tests.{leb?}
use Rattle.theory.specs.Sum.{sum, total_sum}
use Rattle.theory.specs.All.{all_map, blank_weight, blank_is, due_of_blank}
use Rattle.theory.specs.Bounds.{RowFine}
use Rattle.theory.specs.Feas.{below, num, num_mono, num_early, num_weight, Feas, Edge}
use Rattle.theory.specs.Full.{Fine, blanks, outside_by, no_blanks, plan_all_by, LargerFirst, feas_by, edge_by, sum_by, full_by}
use Rattle.theory.specs.Marks.{next, num_heavy_by, mark_above, mark_limit, mark_all}
use Rattle.theory.specs.Totals.{sum_to_eq, weight_sum}

-- WHAT A RUN over all rows and blanks keeps, and what it leaves outside, by whichever order
pub record Greedy (r : Round) (ps os : List Row) : Type 0 where
  pub feas : Feas r ps
  pub edge : (w : ℕ) → Edge r w r.slot ps os
  pub sums : (μ : Row → ℕ) → sum μ ps + sum μ os ≡ sum μ r.rows + sum μ (blanks r)
  pub full : num 0 (suc r.last) ps ≡ suc r.last - r.slot
  pub weights : All (λ x. (x.weight ≤ most_weight) × (x.due < suc r.last)) ps

pub greedy_by : (f : Row → Row → Bool) → LargerFirst f → (r : Round) → Fine r → Greedy r (plan_by f r) (outside_by f r)
greedy_by f l r g =
    record { feas = feas_by f r g; edge = edge_by f l r g; sums = λ μ. sum_by μ f r; full = full_by f l r g; weights = weights_by }
  where
    weights_by : All (λ x. (x.weight ≤ most_weight) × (x.due < suc r.last)) (plan_by f r)
    weights_by =
        plan_all_by (λ x. (x.weight ≤ most_weight) × (x.due < suc r.last)) r
        (all_map {Q = λ x. (x.weight ≤ most_weight) × (x.due < suc r.last)} (λ x (h : RowFine r x). (h.most, omega (arith, h.due_by))) r.rows g.fine)
        (λ s h k. (omega (arith, blank_weight (blank s) (blank_is s)), omega (arith, due_of_blank s))) f

-- TWO OF ONE ROUND
module _ (r : Round) (ps os qs us : List Row) (g : Greedy r ps os) (h : Greedy r qs us) (w : ℕ) (c : 1 ≤ w) where
  -- from the second's edge on, it has no fewer rows of the weight
  pub no_fewer : (e : ℕ) → (h.edge w).at ≤ e → e ≤ suc r.last → num w e ps ≤ num w e qs
  no_fewer e k i =
      let d = h.edge w in
      omega (
        arith,
        d.low,
        d.high,
        d.full,
        num_early w d.at e k us d.out,
        h.sums (below w e),
        h.sums (below w d.at),
        g.sums (below w e),
        g.sums (below w d.at),
        no_blanks r w e c,
        no_blanks r w d.at c,
        g.feas d.at d.low d.high,
        num_weight 0 w d.at (omega arith) ps,
        num_mono w d.at e k os,
      )

  -- where rows of the weight fill all slots before one in the first, they do so before one as late in the second
  pub reaches : (e : ℕ) → r.slot ≤ e → e ≤ suc r.last → num w e ps ≡ e - r.slot →
      (k : ℕ) × (e ≤ k) × (k ≤ suc r.last) × (num w k qs ≡ k - r.slot)
  reaches e i j q =
      let d = h.edge w in
      elim (leb? e d.at) [
        | inl b ↦ (d.at, b.1, d.high, d.full)
        | inr b ↦ (e, omega arith, j, omega (arith, no_fewer e (omega (arith, b.1)) j, h.feas e i j, num_weight 0 w e (omega arith) qs))
      ]

-- as many rows of each weight
pub counts_alike : (r : Round) (ps os qs us : List Row) → Greedy r ps os → Greedy r qs us → (w : ℕ) → 1 ≤ w →
    num w (suc r.last) ps ≡ num w (suc r.last) qs
counts_alike r ps os qs us g h w c =
    omega (
      arith,
      no_fewer r ps os qs us g h w c (suc r.last) (h.edge w).high (omega arith),
      no_fewer r qs us ps os h g w c (suc r.last) (g.edge w).high (omega arith),
    )

-- ONE TOTAL
pub totals_alike : (r : Round) (ps os qs us : List Row) → Greedy r ps os → Greedy r qs us → total_weight ps ≡ total_weight qs
totals_alike r ps os qs us g h =
    omega (
      arith,
      total_sum ps,
      total_sum qs,
      weight_sum most_weight (suc r.last) ps g.weights,
      weight_sum most_weight (suc r.last) qs h.weights,
      sum_to_eq most_weight (λ w. num w (suc r.last) ps) (λ w. num w (suc r.last) qs) (λ w c k. counts_alike r ps os qs us g h w c),
    )

-- THE SAME MARKS: none is lower by the second
mark_no_lower : (r : Round) (ps os qs us : List Row) → Greedy r ps os → Greedy r qs us → (s : ℕ) → r.slot ≤ s → s ≤ r.last →
    mark_in r ps s ≤ mark_in r qs s
mark_no_lower r ps os qs us g h s i j = by_weight (mark_in r ps s) refl
  where
    by_weight : (w : ℕ) → w ≡ mark_in r ps s → w ≤ mark_in r qs s
    by_weight zero q = omega arith
    by_weight (suc w) q =
        let e = tight_after r ps s in
        let n = next r ps s j g.full in
        let b : All (λ x. x.due < suc e → suc w ≤ x.weight) ps =
        all_map {Q = λ x. x.due < suc e → suc w ≤ x.weight}
        (λ x (y : x.due ≤ e → mark_in r ps s ≤ x.weight) (u : x.due < suc e). omega (arith, y (omega arith))) ps (mark_all r ps s) in
        let k = reaches r ps os qs us g h (suc w) (omega arith) (suc e) (omega (arith, n.from)) (omega (arith, n.by))
        (omega (arith, num_heavy_by (suc w) (suc e) ps b, n.tight)) in
        mark_above r qs h.feas h.full (suc w) s k.0 (omega (arith, mark_limit r ps s)) i (omega (arith, k.1, n.from)) k.2 k.3

-- and none is higher
pub marks_alike : (r : Round) (ps os qs us : List Row) → Greedy r ps os → Greedy r qs us → (s : ℕ) → r.slot ≤ s → s ≤ r.last →
    mark_in r ps s ≡ mark_in r qs s
marks_alike r ps os qs us g h s i j = omega (arith, mark_no_lower r ps os qs us g h s i j, mark_no_lower r qs us ps os h g s i j)
