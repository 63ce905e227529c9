-- Sound rounds: the plan by any order that puts the larger weight first, and so the plan, is feasible, fills every slot, and has an edge at each
-- weight: Fine, LargerFirst, feas_by, full_by, edge_by, plan_feas, plan_full, plan_edge.
use Rattle.std.specs.Prelude.{◌≡◌, refl, ◌⊎◌, Bool, true, false, List, [], ◌∷◌, ◌++◌, ℕ, zero, suc, ◌+◌, ◌-◌, ◌≤◌, ◌<◌, length, replicate}
use Rattle.std.proofs.Common.{sym, ◌∙◌, inl, inr, true≢false, arith}
use Rattle.rules.specs.Rows.{In, Row, Round, blank, slots_left, heavier, sorted, All}
use Rattle.rules.specs.Plan.{feasible, blanks_from, plan_by, plan}
use Rattle.rules.specs.PlanM.{Member}
use Rattle.theory.specs.Tests.{either, leb?, ltb?}
use Rattle.theory.specs.Sum.{sum, sum_append, sum_sorted, sum_kept, rejected}
use Rattle.theory.specs.All.{all_in, all_of_in, all_blanks, all_map, all_append, all_sorted, all_kept, Falling, falling_append, light_blanks, all_rejected}
use Rattle.theory.specs.Order.{InOrder, in_order_sorted, over_heavier, not_over_heavier}
use Rattle.theory.specs.Bounds.{RowFine}
use Rattle.theory.specs.Feas.{below, num, below_yes, below_late, num_mono, num_light, num_early, Feas, feas_made, kept_feas, Edge, run_edge}

-- tickets rise, from a number on, below another
abbrev pub Rising : (a b : ℕ) → List Row → Type 0
Rising a b [] = a ≤ b
Rising a b (x ∷ xs) = (a ≤ x.ticket) × Rising (suc x.ticket) b xs

-- A SOUND ROUND
pub record Fine (r : Round) : Type 0 where
  pub time : r.slot ≤ suc r.last
  pub fine : All (RowFine r) r.rows
  pub rising : Rising 1 r.next r.rows

abbrev pub blanks : Round → List Row
blanks r = blanks_from (slots_left r) r.slot (slots_left r)

-- all rows and blanks as a run by an order goes through them, and those that it does not keep
abbrev pub pool_by : (before : Row → Row → Bool) → Round → List Row
pool_by f r = sorted f r.rows ++ blanks r

abbrev pub outside_by : (before : Row → Row → Bool) → Round → List Row
outside_by f r = rejected r (pool_by f r) []

abbrev pub pool : Round → List Row
pool r = pool_by heavier r

unfoldable pub outside : Round → List Row
outside r = outside_by heavier r

-- what holds of the waiting rows and of each blank ahead holds of all that the run goes through, and of the plan
module _ (P : Row → Type 0) (r : Round) (a : All P r.rows) (b : (s : ℕ) → r.slot ≤ s → s ≤ r.last → P (blank s)) where
  pub pool_all_by : (f : Row → Row → Bool) → All P (pool_by f r)
  unfolding slots_left
  pool_all_by f = all_append P (sorted f r.rows) (blanks r) (all_sorted P f r.rows a) (all_blanks P _ _ _ (λ d h k. b d h (omega arith)))

  pub plan_all_by : (f : Row → Row → Bool) → All P (plan_by f r)
  plan_all_by f = all_kept P r (pool_by f r) [] (pool_all_by f) tt

  pub pool_all : All P (pool r)
  pool_all = pool_all_by heavier

  pub plan_all : All P (plan r)
  unfolding plan
  plan_all = plan_all_by heavier

pub plan_members : (r : Round) → All (Member r) (plan r)
unfolding blank
plan_members r = plan_all (Member r) r (all_of_in (Member r) r.rows (λ x i. inl i)) (λ s h k. inr (refl, h, k))

pub plan_member : (r : Round) (x : Row) → In x (plan r) → Member r x
plan_member r x i = all_in (Member r) x (plan r) (plan_members r) i

-- what is outside is a waiting row or a blank, too
pub outside_member : (r : Round) (x : Row) → In x (outside r) → Member r x
unfolding outside blank
outside_member r x i =
    all_in (Member r) x (outside r)
    (all_rejected (Member r) r (pool r) [] (pool_all (Member r) r (all_of_in (Member r) r.rows (λ x i. inl i)) (λ s h k. inr (refl, h, k)))) i

pub member_due : (r : Round) → Fine r → (x : Row) → Member r x → (r.slot ≤ x.due) × (x.due ≤ r.last)
member_due r g x (inl i) = let h = all_in (RowFine r) x r.rows g.fine i in (h.due_from, h.due_by)
member_due r g x (inr b) = (b.1, b.2)

pub pool_from_by : (f : Row → Row → Bool) (r : Round) → Fine r → All (λ x. r.slot ≤ x.due) (pool_by f r)
unfolding blank
pool_from_by f r g =
    pool_all_by (λ x. r.slot ≤ x.due) r (all_map {Q = λ x. r.slot ≤ x.due} (λ x (h : RowFine r x). h.due_from) r.rows g.fine) (λ s h k. h) f

pub pool_from : (r : Round) → Fine r → All (λ x. r.slot ≤ x.due) (pool r)
pool_from r g = pool_from_by heavier r g

pub feas_none : (r : Round) → Feas r []
feas_none r e h k = omega arith

-- ORDERS THAT PUT THE LARGER WEIGHT FIRST, whatever decides ties; heavier is one
unfoldable pub LargerFirst : (before : Row → Row → Bool) → Type 0
LargerFirst f = (a b : Row) → b.weight < a.weight → (f a b ≡ true) × (f b a ≡ false)

abbrev Lighter : Row → Row → Type 0
Lighter z x = z.weight ≤ x.weight

first_test : (f : Row → Row → Bool) → LargerFirst f → (a b : Row) → ((f a b ≡ true) × Lighter b a) ⊎ ((f a b ≡ false) × Lighter a b)
unfolding LargerFirst
first_test f l a b =
    elim (either (f a b)) [
      | inl e ↦ inl (e, elim (leb? b.weight a.weight) [ inl h ↦ h.1 | inr h ↦ absurd (true≢false (sym e ∙ (l b a h.1).1)) ])
      | inr e ↦ inr (e, elim (leb? a.weight b.weight) [ inl h ↦ h.1 | inr h ↦ absurd (true≢false (sym (l a b h.1).0 ∙ e)) ])
    ]

lighter_falling : (xs : List Row) → InOrder Lighter xs → Falling xs
lighter_falling [] o = tt
lighter_falling (x ∷ xs) o = (o.0, lighter_falling xs o.1)

-- sorted by such an order, weights fall
pub sorted_falling : (f : Row → Row → Bool) → LargerFirst f → (xs : List Row) → Falling (sorted f xs)
sorted_falling f l xs = lighter_falling (sorted f xs) (in_order_sorted f Lighter (λ z y x h k. omega arith) (first_test f l) xs)

pub heavier_first : LargerFirst heavier
unfolding LargerFirst
heavier_first a b h = (over_heavier a b (inl h), not_over_heavier b a (inl h))

-- THE PLAN BY AN ORDER is feasible, has an edge at each weight, and is all rows and blanks with those outside
pub feas_by : (f : Row → Row → Bool) (r : Round) → Fine r → Feas r (plan_by f r)
feas_by f r g = kept_feas r (pool_by f r) [] (pool_from_by f r g) tt (feas_none r)

pub edge_by : (f : Row → Row → Bool) → LargerFirst f → (r : Round) → Fine r → (w : ℕ) → Edge r w r.slot (plan_by f r) (outside_by f r)
edge_by f l r g w =
    run_edge r w (pool_by f r) [] (falling_append (sorted f r.rows) (blanks r) (sorted_falling f l r.rows) (light_blanks _ _ _))
    (pool_from_by f r g) tt tt (feas_none r) r.slot (omega arith) g.time (omega arith)

pub sum_by : (μ : Row → ℕ) (f : Row → Row → Bool) (r : Round) →
    sum μ (plan_by f r) + sum μ (outside_by f r) ≡ sum μ r.rows + sum μ (blanks r)
sum_by μ f r = omega (arith, sum_kept μ r (pool_by f r) [], sum_append μ (sorted f r.rows) (blanks r), sum_sorted μ f r.rows)

pub plan_feas : (r : Round) → Fine r → Feas r (plan r)
unfolding plan
plan_feas r g = feas_by heavier r g

pub plan_edge : (r : Round) → Fine r → (w : ℕ) → Edge r w r.slot (plan r) (outside r)
unfolding plan outside
plan_edge r g w = edge_by heavier heavier_first r g w

pub plan_sum : (μ : Row → ℕ) (r : Round) → sum μ (plan r) + sum μ (outside r) ≡ sum μ r.rows + sum μ (blanks r)
unfolding plan outside
plan_sum μ r = sum_by μ heavier r

pub no_blanks : (r : Round) (w e : ℕ) → 1 ≤ w → num w e (blanks r) ≡ 0
no_blanks r w e h =
    num_light w e (blanks r) (all_map {Q = λ x. x.weight < w} (λ x (k : x.weight ≤ 0). omega arith) (blanks r) (light_blanks _ _ _))

-- how many blanks
pub same_early : (k s e : ℕ) → s < e → num 0 e (replicate k (blank s)) ≡ k
unfolding blank
same_early zero s e h = refl
same_early (suc k) s e h = omega (arith, same_early k s e h, below_yes 0 e (blank s) (omega arith) h)

pub same_late : (k s e : ℕ) → e ≤ s → num 0 e (replicate k (blank s)) ≡ 0
unfolding blank
same_late zero s e h = refl
same_late (suc k) s e h = omega (arith, same_late k s e h, below_late 0 e (blank s) h)

pub blanks_at : (n s k m e : ℕ) → s ≤ m → m < s + n → m < e → num 0 m (blanks_from n s k) + k ≤ num 0 e (blanks_from n s k)
unfolding blanks_from
blanks_at zero s k m e h i j = omega arith
blanks_at (suc n) s k m e h i j =
    elim (ltb? s m) [
      | inl a ↦ omega (
        arith,
        blanks_at n (suc s) k m e a.1 (omega arith) j,
        num_mono 0 m e (omega arith) (replicate k (blank s)),
        sum_append (below 0 m) (replicate k (blank s)) (blanks_from n (suc s) k),
        sum_append (below 0 e) (replicate k (blank s)) (blanks_from n (suc s) k),
      )
      | inr a ↦ omega (
        arith,
        same_early k s e (omega arith),
        same_late k s m (omega arith),
        num_mono 0 m e (omega arith) (blanks_from n (suc s) k),
        sum_append (below 0 m) (replicate k (blank s)) (blanks_from n (suc s) k),
        sum_append (below 0 e) (replicate k (blank s)) (blanks_from n (suc s) k),
      )
    ]

-- THE PLAN IS FULL
pub full_by : (f : Row → Row → Bool) → LargerFirst f → (r : Round) → Fine r → num 0 (suc r.last) (plan_by f r) ≡ suc r.last - r.slot
unfolding slots_left
full_by f l r g =
    let d = edge_by f l r g 0 in
    let m = d.at in
    let t = suc r.last in
    let h : num 0 t (plan_by f r) ≤ t - r.slot = feas_by f r g t g.time (omega arith) in
    elim (leb? t m) [
      | inl a ↦ let e : m ≡ t = omega arith in omega (arith, num_mono 0 m t (omega arith) (plan_by f r))
      | inr a ↦ omega (
        arith,
        sum_by (below 0 t) f r,
        sum_by (below 0 m) f r,
        num_early 0 m t (omega arith) (outside_by f r) d.out,
        num_mono 0 m t (omega arith) r.rows,
        blanks_at (suc r.last - r.slot) r.slot (suc r.last - r.slot) m t d.low (omega arith) (omega arith),
      )
    ]

pub plan_full : (r : Round) → Fine r → num 0 (suc r.last) (plan r) ≡ suc r.last - r.slot
unfolding plan
plan_full r g = full_by heavier heavier_first r g

pub num_length : (e : ℕ) (xs : List Row) → All (λ x. x.due < e) xs → num 0 e xs ≡ length xs
num_length e [] a = refl
num_length e (x ∷ xs) a = omega (arith, num_length e xs a.1, below_yes 0 e x (omega arith) a.0)

pub plan_due : (r : Round) → Fine r → All (λ x. (r.slot ≤ x.due) × (x.due ≤ r.last)) (plan r)
plan_due r g =
    all_of_in (λ x. (r.slot ≤ x.due) × (x.due ≤ r.last)) (plan r) (λ x i. member_due r g x (plan_member r x i))

pub plan_length : (r : Round) → Fine r → (length (plan r) ≡ slots_left r) × (feasible r (plan r) ≡ true)
unfolding slots_left
plan_length r g = (
  omega (
    arith,
    plan_full r g,
    num_length (suc r.last) (plan r)
        (all_map {Q = λ x. x.due < suc r.last} (λ x (h : (r.slot ≤ x.due) × (x.due ≤ r.last)). omega arith) (plan r) (plan_due r g)),
  ),
  feas_made r (plan r) (plan_feas r g),
)
