-- Lists with the same rows in any order; the plan's rows are the waiting rows in the plan: Same, sorted_same, planned_same, listed_planned.
use Rattle.std.specs.Prelude.{◌≡◌, refl, ◌⊎◌, ◌≢◌, Bool, true, false, cond, List, [], ◌∷◌, ℕ, suc, ◌+◌, ◌-◌, ◌≤◌, ◌<◌, eqb}
use Rattle.std.proofs.Common.{sym, ap, ap₂, subst, inl, inr, arith, le-leb, ne_eqb}
use Rattle.std.proofs.lemmas.Bool.{false≢true}
use Rattle.rules.specs.Rows.{Row, Round, canonical, sorted, chosen, rows_only, All, In}
use Rattle.rules.specs.Plan.{plan, same_row, in_plan, total, total_weight, flags, planned, listed}
use Rattle.rules.specs.PlanM.{Member}
use Rattle.rules.specs.Demands.{member, in_time, turns}
use Rattle.theory.specs.Tests.{either, eqb?}
use Rattle.theory.specs.Sum.{sum, sum_sorted, total_sum}
use Rattle.theory.specs.All.{blank_weight, blank_ticket, ticketless_blanks, all_map, all_in, all_sorted, all_of_in}
use Rattle.theory.specs.Order.{Sorted, NotBefore, sorted_sorted, not_before_both, not_before_due}
use Rattle.theory.specs.Feas.{below, num, below_yes, Feas}
use Rattle.theory.specs.Bounds.{RowFine}
use Rattle.theory.specs.Full.{plan_members, Fine, Rising, blanks, outside, plan_feas, plan_sum, plan_due}
use Rattle.theory.specs.Change.{rising_same, rising_above, in_sum, not_in_plan}
use Rattle.theory.specs.Times.{is?, ticks, no_ticks, rising_ticks, apart_of, rank_due, in_slots, slots_of, row_rank, all_of_chosen, sum_rows_only, all_rows_only, plan_ticks}

-- THE SAME ROWS in any order
abbrev pub Same : List Row → List Row → Type 0
Same xs ys = (μ : Row → ℕ) → sum μ xs ≡ sum μ ys

-- a ticket that counts is somewhere
pub with_tick : (k : ℕ) (xs : List Row) → 1 ≤ sum (ticks k) xs → (x : Row) × In x xs × (x.ticket ≡ k)
with_tick k [] h = absurd (omega arith)
with_tick k (x ∷ xs) h =
    elim (is? k x.ticket) [
      | inl a ↦ (x, inl refl, a.1)
      | inr a ↦ let q = with_tick k xs (omega arith) in (q.0, inr q.1, q.2)
    ]

pub tick_self : (x : Row) → ticks x.ticket x ≡ 1
tick_self x = elim (is? x.ticket x.ticket) [ inl a ↦ a.0 | inr a ↦ absurd (a.1 refl) ]

-- two sorted lists with the same rows are one, where a ticket says the row
module _ (rows : List Row) (a b : ℕ) (s : Rising a b rows) where
  pub same_in : (xs ys : List Row) → All (λ x. In x rows) xs → All (λ x. In x rows) ys → Same xs ys → (x : Row) → In x xs → In x ys
  same_in xs ys i j e x h =
      let q = with_tick x.ticket ys (omega (arith, e (ticks x.ticket), in_sum (ticks x.ticket) x xs h, tick_self x)) in
      subst (λ (z : Row). In z ys) (rising_same a b q.0 x rows s (all_in (λ z. In z rows) q.0 ys j q.1) (all_in (λ z. In z rows) x xs i h)
      q.2) q.1

  pub same_head : (x y : Row) (xs ys : List Row) → All (λ x. In x rows) (x ∷ xs) → All (λ x. In x rows) (y ∷ ys) → Same (x ∷ xs) (y ∷ ys) →
      Sorted (x ∷ xs) → Sorted (y ∷ ys) → x ≡ y
  same_head x y xs ys i j e o p = elim (same_in (x ∷ xs) (y ∷ ys) i j e x (inl refl)) [
    | inl h ↦ h
    | inr h ↦ elim (same_in (y ∷ ys) (x ∷ xs) j i (λ μ. sym (e μ)) y (inl refl)) [
      | inl k ↦ sym k
      | inr k ↦ rising_same a b x y rows s i.0 j.0
          (not_before_both x y (all_in (λ z. NotBefore z y) x ys p.0 h) (all_in (λ z. NotBefore z x) y xs o.0 k))
    ]
  ]

  pub same_sorted : (xs ys : List Row) → All (λ x. In x rows) xs → All (λ x. In x rows) ys → Same xs ys → Sorted xs → Sorted ys → xs ≡ ys
  same_sorted [] [] i j e o p = refl
  same_sorted [] (y ∷ ys) i j e o p = absurd (omega (arith, e (λ _. 1)))
  same_sorted (x ∷ xs) [] i j e o p = absurd (omega (arith, e (λ _. 1)))
  same_sorted (x ∷ xs) (y ∷ ys) i j e o p =
      let h = same_head x y xs ys i j e o p in
      ap₂ (λ (z : Row) (zs : List Row). z ∷ zs) h (same_sorted xs ys i.1 j.1 (λ μ. omega (arith, e μ, ap μ h)) o.1 p.1)

  pub sorted_same : (xs ys : List Row) → All (λ x. In x rows) xs → All (λ x. In x rows) ys → Same xs ys → sorted canonical xs ≡ sorted canonical ys
  sorted_same xs ys i j e =
      same_sorted (sorted canonical xs) (sorted canonical ys) (all_sorted (λ x. In x rows) canonical xs i) (all_sorted (λ x. In x rows) canonical ys j)
      (λ μ. omega (arith, e μ, sum_sorted μ canonical xs, sum_sorted μ canonical ys)) (sorted_sorted xs) (sorted_sorted ys)

-- THE PLAN'S ROWS
pub in_plan? : (x : Row) (ps : List Row) →
    ((in_plan x ps ≡ true) × ((y : Row) × In y ps × (y.ticket ≡ x.ticket)))
    ⊎ ((in_plan x ps ≡ false) × ((y : Row) → In y ps → x.ticket ≡ y.ticket → ⊥))
unfolding in_plan same_row
in_plan? x ps = elim (either (in_plan x ps)) [ inl e ↦ inl (e, there x ps e) | inr e ↦ inr (e, not_in_plan x ps e) ]
  where
    there : (x : Row) (ps : List Row) → in_plan x ps ≡ true → (y : Row) × In y ps × (y.ticket ≡ x.ticket)
    there x [] e = absurd (false≢true e)
    there x (p ∷ ps) e =
        elim (eqb? x.ticket p.ticket) [
          | inl h ↦ (p, inl refl, sym h.1)
          | inr h ↦ let q = there x ps (rw h.0 at e) in (q.0, inr q.1, q.2)
        ]

-- a measure, of rows of the plan alone
unfoldable pub of_plan : (ps : List Row) (μ : Row → ℕ) → Row → ℕ
of_plan ps μ x = cond (eqb x.ticket 0) 0 (cond (in_plan x ps) (μ x) 0)

pub of_none : (ps : List Row) (μ : Row → ℕ) (x : Row) → x.ticket ≡ 0 → of_plan ps μ x ≡ 0
unfolding of_plan
of_none ps μ x e = elim (eqb? x.ticket 0) [ inl h ↦ rw h.0 | inr h ↦ absurd (h.1 e) ]

pub of_yes : (ps : List Row) (μ : Row → ℕ) (x : Row) → 1 ≤ x.ticket → in_plan x ps ≡ true → of_plan ps μ x ≡ μ x
unfolding of_plan
of_yes ps μ x h e = elim (eqb? x.ticket 0) [ inl k ↦ absurd (omega (arith, k.1)) | inr k ↦ rw (k.0, e) ]

pub of_no : (ps : List Row) (μ : Row → ℕ) (x : Row) → in_plan x ps ≡ false → of_plan ps μ x ≡ 0
unfolding of_plan
of_no ps μ x e = elim (either (eqb x.ticket 0)) [ inl k ↦ rw k | inr k ↦ rw (k, e) ]

pub of_rows : (ps : List Row) (μ : Row → ℕ) (xs : List Row) → All (λ x. In x ps) xs → sum (of_plan ps μ) xs ≡ sum μ (rows_only xs)
unfolding of_plan rows_only
of_rows ps μ [] i = refl
of_rows ps μ (x ∷ xs) i =
    elim (eqb? x.ticket 0) [
      | inl h ↦ rw h.0 (omega (arith, of_rows ps μ xs i.1))
      | inr h ↦ elim (in_plan? x ps) [
        | inl k ↦ rw (h.0, k.0) (omega (arith, of_rows ps μ xs i.1))
        | inr k ↦ absurd (k.1 x i.0 refl)
      ]
    ]

pub of_chosen : (ps : List Row) (μ : Row → ℕ) (xs : List Row) → All (λ x. 1 ≤ x.ticket) xs → sum (of_plan ps μ) xs ≡ sum μ (chosen (flags ps xs) xs)
unfolding of_plan chosen flags
of_chosen ps μ [] i = refl
of_chosen ps μ (x ∷ xs) i =
    elim (eqb? x.ticket 0) [
      | inl h ↦ absurd (omega (arith, i.0))
      | inr h ↦ elim (in_plan? x ps) [
        | inl k ↦ rw (h.0, k.0) (omega (arith, of_chosen ps μ xs i.1))
        | inr k ↦ rw (h.0, k.0) (omega (arith, of_chosen ps μ xs i.1))
      ]
    ]

pub sum_none : (μ : Row → ℕ) (xs : List Row) → All (λ x. μ x ≡ 0) xs → sum μ xs ≡ 0
sum_none μ [] a = refl
sum_none μ (x ∷ xs) a = omega (arith, a.0, sum_none μ xs a.1)

-- tickets of rows are 1 or more, each in the plan or outside, not both
pub row_ticket : (r : Round) → Fine r → All (λ x. 1 ≤ x.ticket) r.rows
row_ticket r f = all_of_in (λ x. 1 ≤ x.ticket) r.rows (λ x i. rising_above 1 r.next x r.rows f.rising i)

pub tick_once : (r : Round) → Fine r → (k : ℕ) → 1 ≤ k → sum (ticks k) (plan r) + sum (ticks k) (outside r) ≤ 1
tick_once r f k h =
    omega (
      arith,
      plan_sum (ticks k) r,
      (rising_ticks 1 r.next k r.rows f.rising).0,
      no_ticks k (blanks r) (all_map {Q = λ x. x.ticket ≢ k} (λ x (a : x.ticket ≡ 0). omega arith) (blanks r) (ticketless_blanks _ _ _)),
    )

pub of_outside : (r : Round) → Fine r → (μ : Row → ℕ) (x : Row) → In x (outside r) → of_plan (plan r) μ x ≡ 0
unfolding of_plan
of_outside r f μ x i =
    elim (eqb? x.ticket 0) [
      | inl h ↦ rw h.0
      | inr h ↦ elim (in_plan? x (plan r)) [
        | inl k ↦ absurd (twice x.ticket h.1 refl k.1.0 k.1.1 k.1.2)
        | inr k ↦ rw (h.0, k.0)
      ]
    ]
  where
    twice : (n : ℕ) → n ≢ 0 → x.ticket ≡ n → (y : Row) → In y (plan r) → y.ticket ≡ n → ⊥
    twice n h e y j d =
        omega (
          arith,
          subst (λ (z : ℕ). 1 ≤ sum (ticks z) (outside r)) e (omega (arith, in_sum (ticks x.ticket) x (outside r) i, tick_self x)),
          subst (λ (z : ℕ). 1 ≤ sum (ticks z) (plan r)) d (omega (arith, in_sum (ticks y.ticket) y (plan r) j, tick_self y)),
          tick_once r f n (omega arith),
        )

-- a row outside has no member's ticket
pub outside_not : (r : Round) → Fine r → (x : Row) → 1 ≤ x.ticket → In x (outside r) → in_plan x (plan r) ≡ false
outside_not r f x h i =
    elim (either (in_plan x (plan r))) [
      | inl e ↦ absurd (omega (arith, of_outside r f (λ y. 1) x i, of_yes (plan r) (λ y. 1) x h e))
      | inr e ↦ e
    ]

-- the plan's rows are the waiting rows in it
pub planned_same : (r : Round) → Fine r → Same (rows_only (plan r)) (planned r)
unfolding planned
planned_same r f μ =
    omega (
      arith,
      plan_sum (of_plan (plan r) μ) r,
      of_rows (plan r) μ (plan r) (all_of_in (λ y. In y (plan r)) (plan r) (λ y i. i)),
      of_chosen (plan r) μ r.rows (row_ticket r f),
      sum_none (of_plan (plan r) μ) (outside r) (all_of_in (λ x. of_plan (plan r) μ x ≡ 0) (outside r) (λ x i. of_outside r f μ x i)),
      sum_none (of_plan (plan r) μ) (blanks r)
          (all_map {Q = λ x. of_plan (plan r) μ x ≡ 0} (λ x (h : x.ticket ≡ 0). of_none (plan r) μ x h) (blanks r)
          (ticketless_blanks _ _ _)),
    )

pub chosen_in : (ms : List Bool) (xs : List Row) → All (λ x. In x xs) (chosen ms xs)
chosen_in ms xs = all_of_chosen (λ x. In x xs) ms xs (all_of_in (λ x. In x xs) xs (λ x i. i))

pub plan_rows_in : (r : Round) → Fine r → All (λ x. In x r.rows) (rows_only (plan r))
plan_rows_in r f =
    all_map {Q = λ x. In x r.rows}
    (λ x (h : (1 ≤ x.ticket) × Member r x). elim h.1 [ inl a ↦ a | inr a ↦ absurd (omega (arith, h.0, blank_ticket x a.0)) ])
    (rows_only (plan r)) (all_rows_only (Member r) (plan r) (plan_members r))

pub planned_in : (r : Round) → All (λ x. In x r.rows) (planned r)
unfolding planned
planned_in r = chosen_in (flags (plan r) r.rows) r.rows

pub all_planned : (P : Row → Type 0) (r : Round) → All P r.rows → All P (planned r)
unfolding planned
all_planned P r a = all_of_chosen P (flags (plan r) r.rows) r.rows a

pub listed_planned : (r : Round) → Fine r → listed r ≡ sorted canonical (planned r)
unfolding listed
listed_planned r f =
    sorted_same r.rows 1 r.next f.rising (rows_only (plan r)) (planned r) (plan_rows_in r f) (planned_in r) (planned_same r f)

-- its weight: a measure that is 0 for blanks
pub sum_of_rows : (μ : Row → ℕ) (xs : List Row) → All (λ y. y.ticket ≡ 0 → μ y ≡ 0) xs → sum μ (rows_only xs) ≡ sum μ xs
unfolding rows_only
sum_of_rows μ [] a = refl
sum_of_rows μ (x ∷ xs) a = elim (eqb? x.ticket 0) [
  | inl h ↦ rw h.0 (omega (arith, a.0 h.1, sum_of_rows μ xs a.1))
  | inr h ↦ rw h.0 (omega (arith, sum_of_rows μ xs a.1))
]

pub planned_weighs : (r : Round) → Fine r → total r ≡ total_weight (planned r)
unfolding total
planned_weighs r f =
    omega (
      arith,
      total_sum (plan r),
      total_sum (planned r),
      planned_same r f (λ x. x.weight),
      sum_of_rows (λ x. x.weight) (plan r) (all_map {Q = λ y. y.ticket ≡ 0 → y.weight ≡ 0}
          (λ y (h : Member r y) (q : y.ticket ≡ 0). elim h [
            | inr a ↦ blank_weight y a.0
            | inl a ↦ absurd (omega (arith, q, all_in (λ x. 1 ≤ x.ticket) y r.rows (row_ticket r f) a))
          ]) (plan r) (plan_members r)),
    )

pub listed_weighs : (r : Round) → Fine r → total r ≡ total_weight (listed r)
listed_weighs r f =
    let e = sum_sorted (λ x. x.weight) canonical (planned r) in
    rw (listed_planned r f) (omega (arith, planned_weighs r f, total_sum (planned r), total_sum (sorted canonical (planned r)), e))

-- and its slots
pub goes_in_time : (r : Round) (xs : List Row) → Feas r xs → All (λ x. (r.slot ≤ x.due) × (x.due ≤ r.last)) xs → All (λ x. 1 ≤ x.ticket) xs →
    ((k : ℕ) → 1 ≤ k → sum (ticks k) xs ≤ 1) → in_time r.slot xs (slots_of r.slot xs xs) ≡ true
goes_in_time r q g a b t =
    in_slots r.slot q q (all_of_in (λ y. In y q) q (λ y i. i)) (apart_of q t b)
    (all_of_in (λ x. r.slot + row_rank x q ≤ x.due) q (λ x i.
    let b = all_in (λ x. (r.slot ≤ x.due) × (x.due ≤ r.last)) x q a i in
    omega (arith, b.0, rank_due x q i, g (suc x.due) (omega (arith, b.0)) (omega (arith, b.1)))))

pub planned_feas : (r : Round) → Fine r → Feas r (planned r)
planned_feas r f e h k =
    omega (arith, planned_same r f (below 0 e), sum_rows_only (below 0 e) (plan r), plan_feas r f e h k)

pub planned_in_time : (r : Round) → Fine r → in_time r.slot (planned r) (slots_of r.slot (planned r) (planned r)) ≡ true
planned_in_time r f =
    goes_in_time r (planned r) (planned_feas r f)
    (all_planned (λ x. (r.slot ≤ x.due) × (x.due ≤ r.last)) r
    (all_map {Q = λ x. (r.slot ≤ x.due) × (x.due ≤ r.last)} (λ x (h : RowFine r x). (h.due_from, h.due_by)) r.rows f.fine))
    (all_planned (λ x. 1 ≤ x.ticket) r (row_ticket r f)) (λ k h. omega (arith, planned_same r f (ticks k), plan_ticks r f k h))

-- in canonical order, one slot after another
pub turn_fresh : (a b : ℕ) → a < b → (xs : List Row) → member a (turns b xs) ≡ false
unfolding member turns
turn_fresh a b h [] = refl
turn_fresh a b h (x ∷ xs) = rw (ne_eqb b a (λ e. omega (arith, e))) (turn_fresh a (suc b) (omega arith) xs)

pub in_turn : (r : Round) (a d : ℕ) (xs : List Row) → r.slot ≤ a → Sorted xs → All (λ x. (r.slot ≤ x.due) × (x.due ≤ r.last)) xs →
    All (λ x. d ≤ x.due) xs →
    ((e : ℕ) → d < e → r.slot ≤ e → e ≤ suc r.last → a - r.slot + num 0 e xs ≤ e - r.slot) → in_time r.slot xs (turns a xs) ≡ true
unfolding in_time turns
in_turn r a d [] h o i l g = refl
in_turn r a d (x ∷ xs) h o i l g =
    rw (
      le-leb r.slot a h,
      le-leb a x.due (omega (
        arith,
        g (suc x.due) (omega (arith, l.0)) (omega (arith, i.0.0)) (omega (arith, i.0.1)),
        below_yes 0 (suc x.due) x (omega arith) (omega arith),
        i.0.0,
      )),
      turn_fresh a (suc a) (omega arith) xs,
    )
    (in_turn r (suc a) x.due xs (omega arith) o.1 i.1
    (all_map {Q = λ z. x.due ≤ z.due} (λ z (k : NotBefore z x). not_before_due z x k) xs o.0)
    (λ e b c k. omega (arith, g e (omega (arith, l.0)) c k, below_yes 0 e x (omega arith) b)))

pub listed_in_order : (r : Round) → Fine r → in_time r.slot (listed r) (turns r.slot (listed r)) ≡ true
unfolding listed
listed_in_order r f =
    let q = rows_only (plan r) in
    in_turn r r.slot 0 (sorted canonical q) (omega arith) (sorted_sorted q)
    (all_sorted (λ x. (r.slot ≤ x.due) × (x.due ≤ r.last)) canonical q
    (all_map {Q = λ x. (r.slot ≤ x.due) × (x.due ≤ r.last)}
    (λ x (h : (1 ≤ x.ticket) × ((r.slot ≤ x.due) × (x.due ≤ r.last))). h.1) q
    (all_rows_only (λ x. (r.slot ≤ x.due) × (x.due ≤ r.last)) (plan r) (plan_due r f))))
    (all_of_in (λ x. 0 ≤ x.due) (sorted canonical q) (λ x i. omega arith))
    (λ e a b c. omega (arith, sum_sorted (below 0 e) canonical q, sum_rows_only (below 0 e) (plan r), plan_feas r f e b c))
