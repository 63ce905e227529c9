-- Tight slots and marks from the plan's rows alone, by least slack: slack_is, idlers_is, tight_least, least_tight, mark_idle, mark_rows.
use Rattle.std.specs.Prelude.{◌≡◌, ◌⊎◌, Bool, true, false, cond, List, [], ◌∷◌, ◌++◌, leb, eqb, replicate}
use Rattle.std.proofs.Math.Path.{refl, ap}
use Rattle.std.proofs.Common.{sym, ◌∙◌, true≢false}
use Rattle.std.proofs.Math.Logic.{inl, inr}
use Prim.Native.Nat.{ℕ, zero, suc, ◌+◌, ◌-◌, ◌≤◌, ◌<◌, min}
use native.Mathlib.Omega.{arith}
use Rattle.rules.specs.Rows.{Row, Round, blank, slots_left, heavier, sorted, rows_only, All, In}
use Rattle.rules.specs.Plan.{due_by, blanks_from, plan, tight, tight_from, tight_after, segment_from, least_weight, mark_in, mark}
use Rattle.theory.specs.Tests.{positive, either, leb?, ltb?, eqb?}
use Rattle.theory.specs.Sum.{sum, sum_le}
use Rattle.theory.specs.All.{blank_weight, all_map, all_in, all_append, all_sorted, all_replicate}
use Rattle.theory.specs.Feas.{below, num, below_yes, below_late, below_mono, below_weight, num_mono, due_below}
use Rattle.theory.specs.Full.{plan_member, Fine, blanks, pool, outside, pool_from, feas_none, plan_feas, plan_sum, plan_full, blanks_at}
use Rattle.theory.specs.Marks.{TightIn, tight?, NextTight, next, next_later, least_above, least_below, least_all, all_heavy, num_heavy_by, mark_all}
use Rattle.theory.specs.Border.{Of, Not, Downward, Border, border, within, within_yes, within_no, many}
use Rattle.theory.specs.Same.{Same, row_ticket}

-- slots up to one that the rows leave free
unfoldable pub slack : Round → (rs : List Row) → (s : ℕ) → ℕ
slack r rs s = (suc s - r.slot) - due_by s rs

-- the least from one slot on
unfoldable pub least_slack : (left : ℕ) → Round → (rs : List Row) → (s : ℕ) → ℕ
least_slack zero r rs s = slack r rs s
least_slack (suc n) r rs s = min (slack r rs s) (least_slack n r rs (suc s))

abbrev pub least_from : Round → (rs : List Row) → (s : ℕ) → ℕ
least_from r rs s = least_slack (r.last - s) r rs s

pub slack_all : (n : ℕ) (r : Round) (rs : List Row) (s u : ℕ) → s ≤ u → u ≤ s + n → least_slack n r rs s ≤ slack r rs u
unfolding least_slack
slack_all zero r rs s u h k = let e : s ≡ u = omega arith in omega (arith, ap (slack r rs) e)
slack_all (suc n) r rs s u h k = elim (eqb? s u) [
  | inl a ↦ omega (arith, ap (slack r rs) a.1)
  | inr a ↦ let q = a.1 in omega (arith, slack_all n r rs (suc s) u (omega arith) (omega arith))
]

pub slack_some : (n : ℕ) (r : Round) (rs : List Row) (s : ℕ) → (u : ℕ) × (s ≤ u) × (u ≤ s + n) × (slack r rs u ≡ least_slack n r rs s)
unfolding least_slack
slack_some zero r rs s = (s, omega arith, omega arith, refl)
slack_some (suc n) r rs s =
    let q = slack_some n r rs (suc s) in
    elim (leb? (slack r rs s) (least_slack n r rs (suc s))) [
      | inl a ↦ (s, omega arith, omega arith, omega (arith, a.1))
      | inr a ↦ (q.0, omega (arith, q.1), omega (arith, q.2), omega (arith, q.3, a.1))
    ]

-- the first slot without slack, as the first tight slot of the rows alone; one past the last if there is none
pub search : (n s : ℕ) (r : Round) (ps : List Row) → s + n ≡ suc r.last →
    NextTight r ps s (tight_from n s r ps) ⊎ ((u : ℕ) → s ≤ u → u ≤ r.last → TightIn r ps u → ⊥)
unfolding tight_from
search zero s r ps e = inr (λ u a b. absurd (omega arith))
search (suc n) s r ps e = elim (tight? r ps s) [
  | inl k ↦ rw k.0 (inl (record { from = omega arith; by = omega arith; tight = k.1; first = λ u a b. omega arith }))
  | inr k ↦ rw k.0 (elim (search n (suc s) r ps (omega arith)) [
    | inl q ↦ inl (next_later r ps s (tight_from n (suc s) r ps) k.1 q)
    | inr q ↦ inr (λ u a b t. elim (ltb? s u) [ inl c ↦ q u c.1 b t | inr c ↦ let d : u ≡ s = omega (arith, c.1) in k.1 (rw d at t) ])
  ])
]

-- a measure of blanks alone
unfoldable pub of_blanks : (Row → ℕ) → Row → ℕ
of_blanks μ x = cond (eqb x.ticket 0) (μ x) 0

pub idle_sum : (μ : Row → ℕ) (xs : List Row) → sum μ xs ≡ sum μ (rows_only xs) + sum (of_blanks μ) xs
unfolding rows_only of_blanks
idle_sum μ [] = refl
idle_sum μ (x ∷ xs) = elim (either (eqb x.ticket 0)) [
  | inl h ↦ rw h (omega (arith, idle_sum μ xs))
  | inr h ↦ rw h (omega (arith, idle_sum μ xs))
]

pub idle_le : (μ ν : Row → ℕ) → ((x : Row) → μ x ≤ ν x) → (x : Row) → of_blanks μ x ≤ of_blanks ν x
unfolding of_blanks
idle_le μ ν h x = elim (either (eqb x.ticket 0)) [ inl e ↦ rw e (h x) | inr e ↦ rw e (omega arith) ]

-- the plan's blanks due before e
abbrev pub idlers : Round → ℕ → ℕ
idlers r e = sum (of_blanks (below 0 e)) (plan r)

pub idlers_mono : (r : Round) (v e : ℕ) → v ≤ e → idlers r v ≤ idlers r e
idlers_mono r v e h = sum_le (of_blanks (below 0 v)) (of_blanks (below 0 e)) (idle_le (below 0 v) (below 0 e) (below_mono 0 v e h)) (plan r)

-- ROWS AND EARLY BLANKS come first in the run
unfoldable pub early : (s : ℕ) → Row → Bool
early s x = cond (eqb x.ticket 0) (leb x.due s) true

pub early_row : (s : ℕ) (x : Row) → 1 ≤ x.ticket → Of (early s) x
unfolding early
early_row s x h = elim (eqb? x.ticket 0) [ inl k ↦ absurd (omega (arith, k.1)) | inr k ↦ rw k.0 ]

pub early_by : (s : ℕ) (x : Row) → x.due ≤ s → Of (early s) x
unfolding early
early_by s x h = elim (either (eqb x.ticket 0)) [
  | inl k ↦ rw k (elim (leb? x.due s) [ inl l ↦ l.0 | inr l ↦ absurd (omega (arith, l.1)) ])
  | inr k ↦ rw k
]

pub not_early : (s : ℕ) (x : Row) → eqb x.ticket 0 ≡ true → leb x.due s ≡ false → Not (early s) x
unfolding early
not_early s x e g = rw (e, g)

pub late_blank : (s d : ℕ) → s < d → Not (early s) (blank d)
unfolding early blank
late_blank s d h = elim (leb? d s) [ inl l ↦ absurd (omega (arith, l.1)) | inr l ↦ l.0 ]

pub down_none : (u : Row → Bool) (xs : List Row) → All (Not u) xs → Downward u xs
down_none u [] a = tt
down_none u (x ∷ xs) a = (λ _. a.1, down_none u xs a.1)

pub down_all : (u : Row → Bool) (xs ys : List Row) → All (Of u) xs → Downward u ys → Downward u (xs ++ ys)
down_all u [] ys a d = d
down_all u (x ∷ xs) ys a d = (λ h. absurd (true≢false (sym a.0 ∙ h)), down_all u xs ys a.1 d)

pub late_blanks : (s n a k : ℕ) → s < a → All (Not (early s)) (blanks_from n a k)
unfolding blanks_from
late_blanks s zero a k h = tt
late_blanks s (suc n) a k h =
    all_append (Not (early s)) (replicate k (blank a)) (blanks_from n (suc a) k) (all_replicate (Not (early s)) k (blank a) (late_blank s a h))
    (late_blanks s n (suc a) k (omega arith))

pub down_blanks : (s n a k : ℕ) → Downward (early s) (blanks_from n a k)
unfolding blanks_from blank
down_blanks s zero a k = tt
down_blanks s (suc n) a k = elim (leb? a s) [
  | inl h ↦ down_all (early s) (replicate k (blank a)) (blanks_from n (suc a) k) (all_replicate (Of (early s)) k (blank a) (early_blank h.1))
      (down_blanks s n (suc a) k)
  | inr h ↦ down_none (early s) (replicate k (blank a) ++ blanks_from n (suc a) k)
      (all_append (Not (early s)) (replicate k (blank a)) (blanks_from n (suc a) k) (all_replicate (Not (early s)) k (blank a) (late_blank s a h.1))
      (late_blanks s n (suc a) k (omega (arith, h.1))))
]
  where
    early_blank : a ≤ s → Of (early s) (blank a)
    early_blank h = early_by s (blank a) h

pub early_border : (r : Round) → Fine r → (s : ℕ) → Border r (early s) r.slot (plan r) (outside r)
unfolding plan outside
early_border r f s =
    border r (early s) (pool r) []
    (down_all (early s) (sorted heavier r.rows) (blanks r)
    (all_sorted (Of (early s)) heavier r.rows (all_map {Q = Of (early s)} (λ x (h : 1 ≤ x.ticket). early_row s x h) r.rows (row_ticket r f)))
    (down_blanks s _ _ _))
    (pool_from r f) tt tt (feas_none r) r.slot (omega arith) f.time (omega arith)

pub early_many : (s m : ℕ) → s < m → (xs : List Row) → many (early s) m xs ≡ num 0 m (rows_only xs) + sum (of_blanks (below 0 (suc s))) xs
unfolding rows_only of_blanks
early_many s m h [] = refl
early_many s m h (x ∷ xs) = elim (eqb? x.ticket 0) [
  | inl k ↦ rw k.0 (elim (leb? x.due s) as (λ _. within (early s) m x + many (early s) m xs ≡
      num 0 m (rows_only xs) + (below 0 (suc s) x + sum (of_blanks (below 0 (suc s))) xs)) [
        | inl l ↦ omega (
          arith,
          early_many s m h xs,
          within_yes (early s) m x (early_by s x l.1),
          below_yes 0 m x (omega arith) (omega (arith, l.1)),
          below_yes 0 (suc s) x (omega arith) (omega (arith, l.1)),
        )
        | inr l ↦ omega (arith, early_many s m h xs, within_no (early s) m x (not_early s x k.0 l.0), below_late 0 (suc s) x l.1)
      ])
  | inr k ↦ rw k.0 (omega (arith, early_many s m h xs, within_yes (early s) m x (early_row s x (positive x.ticket k.1))))
]

-- where the run's border comes by s, no slot is left after it
pub none_at : (s m : ℕ) → m ≤ s → (xs : List Row) → All (λ x. Of (early s) x → x.due < m) xs → num 0 (suc s) xs ≡ num 0 s xs
none_at s m h [] a = refl
none_at s m h (x ∷ xs) a = elim (leb? x.due s) [
  | inl k ↦ omega (
    arith,
    none_at s m h xs a.1,
    below_yes 0 (suc s) x (omega arith) (omega (arith, k.1)),
    below_yes 0 s x (omega arith) (omega (arith, a.0 (early_by s x k.1))),
  )
  | inr k ↦ omega (arith, none_at s m h xs a.1, below_late 0 (suc s) x k.1, below_late 0 s x (omega (arith, k.1)))
]

-- a blank that counts is somewhere
pub with_blank : (e : ℕ) (xs : List Row) → 1 ≤ sum (of_blanks (below 0 e)) xs → (x : Row) × In x xs × (x.ticket ≡ 0) × (x.due < e)
unfolding of_blanks
with_blank e [] h = absurd (omega arith)
with_blank e (x ∷ xs) h = elim (eqb? x.ticket 0) [
  | inl a ↦ elim (ltb? x.due e) [
    | inl b ↦ (x, inl refl, a.1, b.1)
    | inr b ↦ let q = with_blank e xs (omega (arith, below_late 0 e x b.1, rw a.0 at h)) in (q.0, inr q.1, q.2, q.3)
  ]
  | inr a ↦ let q = with_blank e xs (omega (arith, rw a.0 at h)) in (q.0, inr q.1, q.2, q.3)
]

-- least weights by counts
pub least_le : (z : ℕ) (xs ys : List Row) (b : ℕ) → ((w : ℕ) → num w (suc z) xs ≡ num w (suc z) ys) → least_weight z xs b ≤ least_weight z ys b
least_le z xs ys b h =
    let w = least_weight z xs b in
    let c : All (λ x. x.due < suc z → w ≤ x.weight) xs =
    all_map {Q = λ x. x.due < suc z → w ≤ x.weight} (λ x (g : x.due ≤ z → w ≤ x.weight) (k : x.due < suc z). g (omega arith)) xs (least_all z xs b) in
    least_above w z ys b (least_below z xs b)
    (all_map {Q = λ x. x.due ≤ z → w ≤ x.weight} (λ x (g : x.due < suc z → w ≤ x.weight) (k : x.due ≤ z). g (omega arith)) ys
    (all_heavy w (suc z) ys (omega (arith, h w, h 0, num_heavy_by w (suc z) xs c))))

pub least_same : (z : ℕ) (xs ys : List Row) (b : ℕ) → ((w : ℕ) → num w (suc z) xs ≡ num w (suc z) ys) → least_weight z xs b ≡ least_weight z ys b
least_same z xs ys b h = omega (arith, least_le z xs ys b h, least_le z ys xs b (λ w. sym (h w)))

module _ (r : Round) (f : Fine r) (rs : List Row) (same : Same (rows_only (plan r)) rs) where
  pub rows_num : (w e : ℕ) → num w e (plan r) ≡ num w e rs + sum (of_blanks (below w e)) (plan r)
  rows_num w e = omega (arith, idle_sum (below w e) (plan r), same (below w e))

  pub slack_is : (s : ℕ) → r.slot ≤ s → s ≤ r.last → slack r rs s + num 0 (suc s) rs ≡ suc s - r.slot
  unfolding slack
  slack_is s h k = omega (arith, due_below s rs, rows_num 0 (suc s), plan_feas r f (suc s) (omega arith) (omega arith))

  -- the blanks due by a slot are at most the slack of any later one
  pub idlers_most : (s u : ℕ) → r.slot ≤ s → s ≤ u → u ≤ r.last → idlers r (suc s) ≤ slack r rs u
  idlers_most s u h i k =
      omega (
        arith,
        slack_is u (omega arith) k,
        rows_num 0 (suc u),
        plan_feas r f (suc u) (omega arith) (omega arith),
        idlers_mono r (suc s) (suc u) (omega arith),
      )

  -- and as many as the slack of one
  pub idlers_least : (s : ℕ) → r.slot ≤ s → s ≤ r.last → (u : ℕ) × (s ≤ u) × (u ≤ r.last) × (slack r rs u ≡ idlers r (suc s))
  unfolding slots_left
  idlers_least s h k =
      let b = early_border r f s in
      let m = b.at in
      elim (ltb? s m) [
        | inl a ↦
            let z : suc (m - 1) ≡ m = omega (arith, a.1) in (
              m - 1,
              omega (arith, a.1),
              omega (arith, a.1, b.high),
              omega (
                arith,
                slack_is (m - 1) (omega (arith, a.1)) (omega (arith, a.1, b.high)),
                z,
                ap (λ v. num 0 v rs) z,
                same (below 0 m),
                early_many s m a.1 (plan r),
                b.full,
              ),
            )
        | inr a ↦
            let t : s ≡ r.last = omega (
              arith,
              none_at s m a.1 (outside r) b.out,
              plan_sum (below 0 s) r,
              plan_sum (below 0 (suc s)) r,
              num_mono 0 s (suc s) (omega arith) r.rows,
              blanks_at (suc r.last - r.slot) r.slot (suc r.last - r.slot) s (suc s) h (omega arith) (omega arith),
              plan_feas r f (suc s) (omega arith) (omega arith),
            ) in (
              s,
              omega arith,
              k,
              omega (arith, slack_is s h k, rows_num 0 (suc s), ap (λ v. num 0 (suc v) (plan r)) t, t, plan_full r f),
            )
      ]

  -- TIGHT: where the slack is the least from there on
  pub tight_least : (s : ℕ) → r.slot ≤ s → s ≤ r.last → tight r (plan r) s ≡ true → (u : ℕ) → s ≤ u → u ≤ r.last → slack r rs s ≤ slack r rs u
  tight_least s h k e u i l = elim (tight? r (plan r) s) [
    | inl a ↦ omega (arith, a.1, slack_is s h k, rows_num 0 (suc s), idlers_most s u h i l)
    | inr a ↦ absurd (true≢false (sym e ∙ a.0))
  ]

  pub least_tight : (s : ℕ) → r.slot ≤ s → s ≤ r.last → ((u : ℕ) → s ≤ u → u ≤ r.last → slack r rs s ≤ slack r rs u) → tight r (plan r) s ≡ true
  least_tight s h k g =
      let q = idlers_least s h k in
      elim (tight? r (plan r) s) [
        | inl a ↦ a.0
        | inr a ↦ absurd (a.1 (omega (
          arith,
          g q.0 q.1 q.2,
          q.3,
          slack_is s h k,
          rows_num 0 (suc s),
          plan_feas r f (suc s) (omega arith) (omega arith),
        )))
      ]

  -- MARKS: 0 where every slot from there on has slack
  pub mark_idle : (s : ℕ) → r.slot ≤ s → s ≤ r.last → ((u : ℕ) → s ≤ u → u ≤ r.last → 1 ≤ slack r rs u) → mark r s ≡ 0
  unfolding mark mark_in
  mark_idle s h k g =
      let e = tight_after r (plan r) s in
      let n = next r (plan r) s k (plan_full r f) in
      let b : 1 ≤ sum (of_blanks (below 0 (suc e))) (plan r) =
      omega (arith, n.tight, n.from, rows_num 0 (suc e), slack_is e (omega (arith, n.from)) n.by, g e n.from n.by) in
      let p = with_blank (suc e) (plan r) b in
      let c = all_in (λ x. x.due ≤ e → mark_in r (plan r) s ≤ x.weight) p.0 (plan r) (mark_all r (plan r) s) p.1 (omega (arith, p.3)) in
      elim (plan_member r p.0 p.1) [
        | inr a ↦ omega (arith, blank_weight p.0 a.0, c)
        | inl a ↦ absurd (omega (arith, p.2, all_in (λ x. 1 ≤ x.ticket) p.0 r.rows (row_ticket r f) a))
      ]

  -- else the least weight of the rows due by the first slot without
  pub mark_rows : (s z : ℕ) → r.slot ≤ s → s ≤ z → z ≤ r.last → slack r rs z ≡ 0 → ((u : ℕ) → s ≤ u → u < z → 1 ≤ slack r rs u) →
      mark r s ≡ least_weight z rs 16777216
  unfolding mark mark_in
  mark_rows s z h i k e g =
      let n = next r (plan r) s (omega arith) (plan_full r f) in
      let c : sum (of_blanks (below 0 (suc z))) (plan r) ≡ 0 = omega (arith, idlers_most z z (omega arith) (omega arith) k) in
      let t : TightIn r (plan r) z = omega (arith, slack_is z (omega arith) k, rows_num 0 (suc z)) in
      let a : tight_after r (plan r) s ≤ z = elim (leb? (tight_after r (plan r) s) z) [
        | inl l ↦ l.1
        | inr l ↦ absurd (n.first z i l.1 t)
      ] in
      let b : z ≤ tight_after r (plan r) s = elim (leb? z (tight_after r (plan r) s)) [
        | inl l ↦ l.1
        | inr l ↦ absurd (omega (
          arith,
          g (tight_after r (plan r) s) n.from l.1,
          slack_is (tight_after r (plan r) s) (omega (arith, n.from)) n.by,
          n.tight,
          rows_num 0 (suc (tight_after r (plan r) s)),
          idlers_mono r (suc (tight_after r (plan r) s)) (suc z) (omega (arith, l.1)),
          c,
        ))
      ] in
      let q : tight_after r (plan r) s ≡ z = omega (arith, a, b) in
      ap (λ v. least_weight v (plan r) 16777216) q
      ∙ least_same z (plan r) rs 16777216 (λ w. omega (
        arith,
        rows_num w (suc z),
        c,
        sum_le (of_blanks (below w (suc z))) (of_blanks (below 0 (suc z))) (idle_le (below w (suc z)) (below 0 (suc z))
            (below_weight 0 w (suc z) (omega arith))) (plan r),
      ))

  -- THE SAME BY COMPUTATION
  pub idlers_is : (s : ℕ) → r.slot ≤ s → s ≤ r.last → idlers r (suc s) ≡ least_from r rs s
  idlers_is s h k =
      let q = idlers_least s h k in
      let p = slack_some (r.last - s) r rs s in
      omega (
        arith,
        q.3,
        slack_all (r.last - s) r rs s q.0 q.1 (omega (arith, q.2)),
        p.3,
        idlers_most s p.0 h p.1 (omega (arith, p.2)),
      )

  pub tight_is : (s : ℕ) → r.slot ≤ s → s ≤ r.last → tight r (plan r) s ≡ leb (slack r rs s) (least_from r rs s)
  tight_is s h k =
      let p = slack_some (r.last - s) r rs s in
      elim (leb? (slack r rs s) (least_from r rs s)) [
        | inl a ↦ least_tight s h k (λ u i l. omega (arith, a.1, slack_all (r.last - s) r rs s u i (omega arith))) ∙ sym a.0
        | inr a ↦ elim (either (tight r (plan r) s)) [
          | inl b ↦ absurd (omega (arith, a.1, p.3, tight_least s h k b p.0 p.1 (omega (arith, p.2))))
          | inr b ↦ b ∙ sym a.0
        ]
      ]

-- THE SEARCHES over tight slots, by a test of the rows' slack
unfoldable pub least_here : Round → (rs : List Row) → (s : ℕ) → Bool
least_here r rs s = leb (slack r rs s) (least_from r rs s)

unfoldable pub first_from : (test : ℕ → Bool) → (left s : ℕ) → ℕ
first_from t zero s = s
first_from t (suc n) s = cond (t s) s (first_from t n (suc s))

unfoldable pub past_last : (test : ℕ → Bool) → (left s : ℕ) → (start : ℕ) → ℕ
past_last t zero s b = b
past_last t (suc n) s b = past_last t n (suc s) (cond (t s) (suc s) b)

module _ (r : Round) (f : Fine r) (rs : List Row) (same : Same (rows_only (plan r)) rs) where
  pub tight_from_is : (n s : ℕ) → r.slot ≤ s → s + n ≡ suc r.last → tight_from n s r (plan r) ≡ first_from (least_here r rs) n s
  unfolding tight_from first_from least_here
  tight_from_is zero s h e = refl
  tight_from_is (suc n) s h e = rw (tight_is r f rs same s h (omega arith), tight_from_is n (suc s) (omega arith) (omega arith))

  pub segment_from_is : (n s b : ℕ) → r.slot ≤ s → s + n ≤ suc r.last → segment_from n s r (plan r) b ≡ past_last (least_here r rs) n s b
  unfolding segment_from past_last least_here
  segment_from_is zero s b h e = refl
  segment_from_is (suc n) s b h e =
      rw (tight_is r f rs same s h (omega arith)) (segment_from_is n (suc s) (cond (leb (slack r rs s) (least_from r rs s)) (suc s) b) (omega arith)
      (omega arith))
