-- The plan is a best set, and a newcomer adds what its weight is above the mark: sum_to, best_weight, newcomer.
use Rattle.std.specs.Prelude.{◌≡◌, refl, ◌⊎◌, ◌≢◌, cond, List, [], ◌∷◌, ℕ, zero, suc, ◌+◌, ◌-◌, ◌≤◌, ◌<◌, min, ltb, leb}
use Rattle.std.proofs.Common.{sym, ◌∙◌}
use Rattle.std.proofs.Math.Logic.{inl, inr}
use native.Mathlib.Omega.{arith}
use Rattle.rules.specs.Limits.{most_weight}
use Rattle.rules.specs.Rows.{blank, Row, Round, round, row, All, Frame}
use Rattle.rules.specs.Plan.{plan, total, total_weight, mark, mark_in, tight_after}
use Rattle.rules.specs.Steps.{taken, taken_row}
use Rattle.theory.specs.Tests.{leb?, ltb?}
use Rattle.theory.specs.Sum.{sum, sum_append, total_sum}
use Rattle.theory.specs.All.{all_map}
use Rattle.theory.specs.Feas.{below, num, below_yes, below_light, num_weight, num_early, Feas, Edge}
use Rattle.theory.specs.Bounds.{RowFine}
use Rattle.theory.specs.Full.{plan_all, Fine, blanks, outside, plan_feas, plan_edge, plan_sum, no_blanks, plan_full}
use Rattle.theory.specs.Marks.{box, box?, box_yes, box_num, marked, mark_above}
use Rattle.theory.specs.Calls.{Takes, taken_fine}

-- g 1 + .. + g n; shut, so that no numeral is counted through
unfoldable pub sum_to : ℕ → (ℕ → ℕ) → ℕ
sum_to zero g = 0
sum_to (suc n) g = g (suc n) + sum_to n g

pub sum_to_le : (n : ℕ) (g h : ℕ → ℕ) → ((w : ℕ) → 1 ≤ w → w ≤ n → g w ≤ h w) → sum_to n g ≤ sum_to n h
unfolding sum_to
sum_to_le zero g h f = omega arith
sum_to_le (suc n) g h f = omega (arith, f (suc n) (omega arith) (omega arith), sum_to_le n g h (λ w a b. f w a (omega arith)))

pub sum_to_eq : (n : ℕ) (g h : ℕ → ℕ) → ((w : ℕ) → 1 ≤ w → w ≤ n → g w ≡ h w) → sum_to n g ≡ sum_to n h
unfolding sum_to
sum_to_eq zero g h f = refl
sum_to_eq (suc n) g h f = omega (arith, f (suc n) (omega arith) (omega arith), sum_to_eq n g h (λ w a b. f w a (omega arith)))

pub sum_to_add : (n : ℕ) (g h : ℕ → ℕ) → sum_to n (λ w. g w + h w) ≡ sum_to n g + sum_to n h
unfolding sum_to
sum_to_add zero g h = refl
sum_to_add (suc n) g h = omega (arith, sum_to_add n g h)

pub sum_to_zero : (n : ℕ) → sum_to n (λ w. 0) ≡ 0
unfolding sum_to
sum_to_zero zero = refl
sum_to_zero (suc n) = omega (arith, sum_to_zero n)

pub below_sum : (n e : ℕ) (x : Row) → x.due < e → sum_to n (λ w. below w e x) ≡ min n x.weight
unfolding sum_to
below_sum zero e x h = omega arith
below_sum (suc n) e x h =
    elim (leb? (suc n) x.weight) [
      | inl a ↦ omega (arith, below_sum n e x h, below_yes (suc n) e x a.1 h)
      | inr a ↦ omega (arith, below_sum n e x h, below_light (suc n) e x a.1)
    ]

pub weight_sum : (n e : ℕ) (xs : List Row) → All (λ x. (x.weight ≤ n) × (x.due < e)) xs → sum (λ x. x.weight) xs ≡ sum_to n (λ w. num w e xs)
weight_sum n e [] a = sym (sum_to_zero n)
weight_sum n e (x ∷ xs) a =
    omega (arith, a.0.0, weight_sum n e xs a.1, below_sum n e x a.0.1, sum_to_add n (λ w. below w e x) (λ w. num w e xs))

-- THE RANK of a weight: no feasible set of waiting rows has more, and the plan has as many
pub rank_most : (r : Round) → (xs : List Row) → Feas r xs → ((μ : Row → ℕ) → sum μ xs ≤ sum μ r.rows) → (w m : ℕ) →
    r.slot ≤ m → m ≤ suc r.last → num w (suc r.last) xs ≤ m - r.slot + sum (box w m (suc r.last)) r.rows
rank_most r xs f s w m h k =
    omega (arith, f m h k, num_weight 0 w m (omega arith) xs, box_num w m (suc r.last) k xs, s (box w m (suc r.last)))

pub plan_less : (r : Round) → (w v e : ℕ) → 1 ≤ w → v ≤ e → sum (box w v e) (plan r) + sum (box w v e) (outside r) ≡ sum (box w v e) r.rows
plan_less r w v e h k =
    omega (arith, plan_sum (box w v e) r, box_num w v e k (blanks r), no_blanks r w e h)

pub rank_plan : (r : Round) → Fine r → (w m : ℕ) → 1 ≤ w → r.slot ≤ m → m ≤ suc r.last →
    num w (suc r.last) (plan r) ≤ num w m (plan r) + sum (box w m (suc r.last)) r.rows
rank_plan r f w m h i k = omega (arith, box_num w m (suc r.last) k (plan r), plan_less r w m (suc r.last) h k)

pub rank_at : (r : Round) → Fine r → (w m : ℕ) → 1 ≤ w → (d : Edge r w m (plan r) (outside r)) →
    num w (suc r.last) (plan r) ≡ d.at - r.slot + sum (box w d.at (suc r.last)) r.rows
rank_at r f w m h d =
    omega (
      arith,
      d.full,
      box_num w d.at (suc r.last) d.high (plan r),
      plan_less r w d.at (suc r.last) h d.high,
      num_early w d.at (suc r.last) d.high (outside r) d.out,
      box_num w d.at (suc r.last) d.high (outside r),
    )

-- an edge past any filled stretch
pub edge_past : (r : Round) → Fine r → (w m : ℕ) → m ≤ suc r.last → num w m (plan r) ≡ m - r.slot → Edge r w m (plan r) (outside r)
edge_past r f w m k e =
    let d = plan_edge r f w in
    elim (leb? m d.at) [
      | inl a ↦ record { at = d.at; low = a.1; high = d.high; full = d.full; out = d.out }
      | inr a ↦ record {
        at = m;
        low = omega arith;
        high = k;
        full = e;
        out = all_map {Q = λ x. w ≤ x.weight → x.due < m} (λ x (h : w ≤ x.weight → x.due < d.at) (i : w ≤ x.weight). omega (arith, h i))
            (outside r) d.out;
      }
    ]

pub best_count : (r : Round) → Fine r → (xs : List Row) → Feas r xs → ((μ : Row → ℕ) → sum μ xs ≤ sum μ r.rows) → (w : ℕ) → 1 ≤ w →
    num w (suc r.last) xs ≤ num w (suc r.last) (plan r)
best_count r f xs g s w h =
    let d = plan_edge r f w in omega (arith, rank_most r xs g s w d.at d.low d.high, rank_at r f w r.slot h d)

-- weights of the plan
pub plan_weights : (r : Round) → Fine r → All (λ x. (x.weight ≤ 16777216) × (x.due < suc r.last)) (plan r)
unfolding blank
plan_weights r f =
    plan_all (λ x. (x.weight ≤ 16777216) × (x.due < suc r.last)) r
    (all_map {Q = λ x. (x.weight ≤ 16777216) × (x.due < suc r.last)} (λ x (h : RowFine r x). (h.most, omega (arith, h.due_by))) r.rows f.fine)
    (λ s h k. (omega arith, omega arith))

pub total_is : (r : Round) → Fine r → total r ≡ sum_to 16777216 (λ w. num w (suc r.last) (plan r))
unfolding total
total_is r f = total_sum (plan r) ∙ weight_sum 16777216 (suc r.last) (plan r) (plan_weights r f)

-- THE BEST SET
pub best_weight : (r : Round) → Fine r → (xs : List Row) → Feas r xs → ((μ : Row → ℕ) → sum μ xs ≤ sum μ r.rows) →
    All (λ x. (x.weight ≤ 16777216) × (x.due < suc r.last)) xs → total_weight xs ≤ total r
best_weight r f xs g s a =
    omega (
      arith,
      total_is r f,
      total_sum xs,
      weight_sum 16777216 (suc r.last) xs a,
      sum_to_le 16777216 (λ w. num w (suc r.last) xs) (λ w. num w (suc r.last) (plan r)) (λ w h k. best_count r f xs g s w h),
    )

-- THE NEWCOMER
unfoldable pub gain : (m b w : ℕ) → ℕ
gain m b w = cond (ltb m w) (cond (leb w b) 1 0) 0

pub gain? : (m b w : ℕ) → ((gain m b w ≡ 1) × (m < w) × (w ≤ b)) ⊎ ((gain m b w ≡ 0) × (w ≤ m)) ⊎ ((gain m b w ≡ 0) × (b < w))
unfolding gain
gain? m b w =
    elim (ltb? m w) [
      | inl h ↦ elim (leb? w b) [ inl k ↦ inl (rw (h.0, k.0), h.1, k.1) | inr k ↦ inr (inr (rw (h.0, k.0), k.1)) ]
      | inr h ↦ inr (inl (rw h.0, h.1))
    ]

pub gain_sum : (m b n : ℕ) → sum_to n (gain m b) ≡ min n b - m
unfolding sum_to
gain_sum m b zero = omega arith
gain_sum m b (suc n) =
    elim (gain? m b (suc n)) [
      | inl a ↦ omega (arith, gain_sum m b n)
      | inr (inl a) ↦ omega (arith, gain_sum m b n)
      | inr (inr a) ↦ omega (arith, gain_sum m b n)
    ]

-- the rows with the newcomer
pub more_box : (r : Round) (n : Frame) (w v e : ℕ) → sum (box w v e) (taken r n).rows ≡ sum (box w v e) r.rows + box w v e (taken_row r.next n)
unfolding taken round
more_box r n w v e = omega (arith, sum_append (box w v e) r.rows (taken_row r.next n ∷ []))

module _ (r : Round) (f : Fine r) (n : Frame) (k : Takes r n) (w : ℕ) (h : 1 ≤ w) where
  pub newcomer_upper : (m : ℕ) (c : Edge r w m (plan r) (outside r)) → r.slot ≤ m →
      num w (suc r.last) (plan (taken r n)) ≤ num w (suc r.last) (plan r) + box w c.at (suc r.last) (taken_row r.next n)
  unfolding taken round
  newcomer_upper m c i =
      let g = taken_fine r f n k in
      omega (
        arith,
        c.low,
        rank_at r f w m h c,
        rank_plan (taken r n) g w c.at h (omega (arith, c.low)) c.high,
        plan_feas (taken r n) g c.at (omega (arith, c.low)) c.high,
        num_weight 0 w c.at (omega arith) (plan (taken r n)),
        more_box r n w c.at (suc r.last),
      )

  pub newcomer_least : num w (suc r.last) (plan r) ≤ num w (suc r.last) (plan (taken r n))
  unfolding taken round
  newcomer_least =
      let g = taken_fine r f n k in
      let e = plan_edge (taken r n) g w in
      omega (
        arith,
        rank_at (taken r n) g w r.slot h e,
        rank_plan r f w e.at h e.low e.high,
        plan_feas r f e.at e.low e.high,
        num_weight 0 w e.at (omega arith) (plan r),
        more_box r n w e.at (suc r.last),
      )

  pub newcomer_more : w ≤ n.weight → ((m : ℕ) → n.due < m → m ≤ suc r.last → num w m (plan r) ≡ m - r.slot → ⊥) →
      num w (suc r.last) (plan r) + 1 ≤ num w (suc r.last) (plan (taken r n))
  unfolding taken round row
  newcomer_more i below =
      let g = taken_fine r f n k in
      let e = plan_edge (taken r n) g w in
      elim (leb? e.at n.due) [
        | inl a ↦ omega (
          arith,
          rank_at (taken r n) g w r.slot h e,
          rank_plan r f w e.at h e.low e.high,
          plan_feas r f e.at e.low e.high,
          num_weight 0 w e.at (omega arith) (plan r),
          more_box r n w e.at (suc r.last),
          box_yes w e.at (suc r.last) (taken_row r.next n) i a.1 (omega (arith, k.by)),
        )
        | inr a ↦
            let z : num w e.at (plan r) ≢ e.at - r.slot = below e.at a.1 e.high in
            omega (
              arith,
              rank_at (taken r n) g w r.slot h e,
              rank_plan r f w e.at h e.low e.high,
              plan_feas r f e.at e.low e.high,
              num_weight 0 w e.at (omega arith) (plan r),
              more_box r n w e.at (suc r.last),
            )
      ]

  pub box_none : (m : ℕ) → m ≤ suc r.last → (w ≤ n.weight → n.due < m) → box w m (suc r.last) (taken_row r.next n) ≡ 0
  unfolding row
  box_none m i below = elim (box? w m (suc r.last) (taken_row r.next n) i) [ inl a ↦ omega (arith, a.2, below a.1) | inr a ↦ a ]

  pub box_one : (m : ℕ) → m ≤ suc r.last → box w m (suc r.last) (taken_row r.next n) ≤ 1
  box_one m i = elim (box? w m (suc r.last) (taken_row r.next n) i) [ inl a ↦ omega arith | inr a ↦ omega arith ]

  pub newcomer_count : w ≤ most_weight →
      num w (suc r.last) (plan (taken r n)) ≡ num w (suc r.last) (plan r) + gain (mark r n.due) n.weight w
  unfolding mark
  newcomer_count l =
      let e = plan_edge r f w in
      elim (gain? (mark_in r (plan r) n.due) n.weight w) [
        | inl a ↦ omega (
          arith,
          newcomer_upper r.slot e (omega arith),
          box_one e.at e.high,
          newcomer_more a.2 (λ m i j p. omega (
            arith,
            a.1,
            mark_above r (plan r) (plan_feas r f) (plan_full r f) w n.due m l k.from i j p,
          )),
        )
        | inr (inl a) ↦
            let q = marked r f w n.due k.by h a.1 in
            let c = edge_past r f w (suc (tight_after r (plan r) n.due)) (omega (arith, q.next.by)) q.full in
            omega (
              arith,
              newcomer_upper (suc (tight_after r (plan r) n.due)) c (omega (arith, k.from, q.next.from)),
              newcomer_least,
              box_none c.at c.high (λ _. omega (arith, c.low, q.next.from)),
            )
        | inr (inr a) ↦ omega (arith, newcomer_upper r.slot e (omega arith), newcomer_least, box_none e.at e.high (λ i. omega arith))
      ]

pub newcomer : (r : Round) → Fine r → (n : Frame) → Takes r n → total (taken r n) ≡ total r + (n.weight - mark r n.due)
unfolding taken round
newcomer r f n k =
    omega (
      arith,
      total_is r f,
      total_is (taken r n) (taken_fine r f n k),
      k.limit,
      sum_to_eq most_weight (λ w. num w (suc r.last) (plan (taken r n))) (λ w. num w (suc r.last) (plan r) + gain (mark r n.due) n.weight w)
          (λ w h l. newcomer_count r f n k w h l),
      sum_to_add most_weight (λ w. num w (suc r.last) (plan r)) (gain (mark r n.due) n.weight),
      gain_sum (mark r n.due) n.weight most_weight,
    )
