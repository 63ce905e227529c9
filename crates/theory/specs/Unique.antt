-- Feasible flags by which each row left out has heavier members past its due slot are the plan's: certified_plan, plan_certified.
use Rattle.std.specs.Prelude.{◌≡◌, ◌⊎◌, ◌≢◌, Bool, true, false, ◌||◌, cond, ℕ, zero, suc, ◌+◌, ◌-◌, ◌≤◌, ◌<◌, eqb, length, get_or}
use Rattle.std.proofs.Math.Path.{refl}
use Rattle.std.proofs.Common.{sym, ap, ap₂, ◌∙◌, subst, true≢false, arith, eq-eqb, ne_eqb}
use Rattle.std.proofs.Math.Logic.{inl, inr}
use mathlib.Core.List.{List, [], ◌∷◌, ◌++◌}
use Rattle.rules.specs.Rows.{Row, Round, heavier, sorted, chosen, rows_only, All, In}
use Rattle.rules.specs.Plan.{due_by, feasible, kept, plan, same_row, in_plan, flags, planned}
use Rattle.rules.specs.PlanM.{Member}
use Rattle.theory.specs.Tests.{either, leb?}
use Rattle.theory.specs.Sum.{sum, sum_le, sum_sorted}
use Rattle.theory.specs.All.{blank_weight, ticketless_blanks, all_map, all_in, all_sorted, all_kept, all_of_in}
use Rattle.theory.specs.Order.{NotOver, heavier?, over_absurd, Ordered, ordered_sorted}
use Rattle.theory.specs.Feas.{below, num, below_yes, below_late, due_below, Feas, feas_yes, feas_made}
use Rattle.theory.specs.Bounds.{RowFine}
use Rattle.theory.specs.Full.{plan_members, Fine, Rising, blanks}
use Rattle.theory.specs.Change.{rising_same, rising_above, kept_keeps, row_outside, in_sorted}
use Rattle.theory.specs.Times.{all_of_chosen}
use Rattle.theory.specs.Border.{from_row_over, within, within_yes, within_no, many, from_row, over_light, outside_by_order}
use Rattle.theory.specs.Same.{Same, in_plan?, of_plan, of_yes, of_no, of_chosen, row_ticket, planned_same, planned_feas, chosen_in, sum_of_rows}

-- THE CERTIFICATE of a row left out: a slot from its due slot on, filled up to it by members that are heavier
pub record LeftOut (r : Round) (rs : List Row) (x : Row) : Type 0 where
  pub at : ℕ
  pub from : x.due ≤ at
  pub by : at ≤ r.last
  pub full : due_by at rs ≡ suc at - r.slot
  pub heavy : All (λ y. y.due ≤ at → heavier y x ≡ true) rs

-- the rows without a flag
unfoldable pub unchosen : List Bool → List Row → List Row
unchosen [] xs = xs
unchosen (m ∷ ms) [] = []
unchosen (m ∷ ms) (x ∷ xs) = cond m (unchosen ms xs) (x ∷ unchosen ms xs)

pub record Certified (r : Round) (fs : List Bool) : Type 0 where
  pub long : length fs ≡ length r.rows
  pub fits : feasible r (chosen fs r.rows) ≡ true
  pub out : All (LeftOut r (chosen fs r.rows)) (unchosen fs r.rows)

-- flags of rows chosen by flags
pub in_plan_other : (y x : Row) (ps : List Row) → x.ticket ≢ y.ticket → in_plan y (x ∷ ps) ≡ in_plan y ps
unfolding in_plan same_row
in_plan_other y x ps n = rw (ne_eqb y.ticket x.ticket (λ e. n (sym e)))

pub in_plan_self : (x : Row) (ps : List Row) → in_plan x (x ∷ ps) ≡ true
unfolding in_plan same_row
in_plan_self x ps = rw (eq-eqb x.ticket x.ticket refl)

pub in_plan_ticket : (x y : Row) (ps : List Row) → x.ticket ≡ y.ticket → in_plan x ps ≡ in_plan y ps
unfolding in_plan same_row
in_plan_ticket x y [] e = refl
in_plan_ticket x y (p ∷ ps) e = ap₂ (λ (a : Bool) (b : Bool). a || b) (ap (λ z. eqb z p.ticket) e) (in_plan_ticket x y ps e)

pub flags_other : (x : Row) (ps ys : List Row) → All (λ y. x.ticket ≢ y.ticket) ys → flags (x ∷ ps) ys ≡ flags ps ys
unfolding flags
flags_other x ps [] a = refl
flags_other x ps (y ∷ ys) a = ap₂ (λ (b : Bool) (bs : List Bool). b ∷ bs) (in_plan_other y x ps a.0) (flags_other x ps ys a.1)

pub rising_other : (b : ℕ) (x : Row) (xs : List Row) → Rising (suc x.ticket) b xs → All (λ y. x.ticket ≢ y.ticket) xs
rising_other b x xs s =
    all_of_in (λ y. x.ticket ≢ y.ticket) xs (λ y i. let h = rising_above (suc x.ticket) b y xs s i in λ e. omega arith)

pub not_there : (x : Row) (ps : List Row) → All (λ y. x.ticket ≢ y.ticket) ps → in_plan x ps ≡ false
not_there x ps a = elim (in_plan? x ps) [
  | inl h ↦ absurd (all_in (λ y. x.ticket ≢ y.ticket) h.1.0 ps a h.1.1 (sym h.1.2))
  | inr h ↦ h.0
]

pub flags_chosen : (a b : ℕ) (fs : List Bool) (xs : List Row) → Rising a b xs → length fs ≡ length xs → flags (chosen fs xs) xs ≡ fs
unfolding flags chosen
flags_chosen a b [] [] s e = refl
flags_chosen a b [] (x ∷ xs) s e = absurd (omega arith)
flags_chosen a b (m ∷ fs) [] s e = absurd (omega arith)
flags_chosen a b (true ∷ fs) (x ∷ xs) s e =
    ap₂ (λ (b : Bool) (bs : List Bool). b ∷ bs) (in_plan_self x (chosen fs xs))
    (flags_other x (chosen fs xs) xs (rising_other b x xs s.1) ∙ flags_chosen (suc x.ticket) b fs xs s.1 (omega arith))
flags_chosen a b (false ∷ fs) (x ∷ xs) s e =
    ap₂ (λ (b : Bool) (bs : List Bool). b ∷ bs)
    (not_there x (chosen fs xs) (all_of_chosen (λ y. x.ticket ≢ y.ticket) fs xs (rising_other b x xs s.1)))
    (flags_chosen (suc x.ticket) b fs xs s.1 (omega arith))

-- a row is chosen or unchosen
pub unchosen_in : (fs : List Bool) (xs : List Row) (x : Row) → In x xs → In x (chosen fs xs) ⊎ In x (unchosen fs xs)
unfolding chosen unchosen
unchosen_in [] xs x i = inr i
unchosen_in (m ∷ fs) [] x i = absurd i
unchosen_in (true ∷ fs) (y ∷ ys) x (inl e) = inl (inl e)
unchosen_in (true ∷ fs) (y ∷ ys) x (inr i) = elim (unchosen_in fs ys x i) [ inl h ↦ inl (inr h) | inr h ↦ inr h ]
unchosen_in (false ∷ fs) (y ∷ ys) x (inl e) = inr (inl e)
unchosen_in (false ∷ fs) (y ∷ ys) x (inr i) = elim (unchosen_in fs ys x i) [ inl h ↦ inl h | inr h ↦ inr (inr h) ]

pub kept_yes : (r : Round) (x : Row) (xs ps : List Row) → feasible r (x ∷ ps) ≡ true → kept r (x ∷ xs) ps ≡ kept r xs (x ∷ ps)
unfolding kept
kept_yes r x xs ps e = rw e

pub kept_no : (r : Round) (x : Row) (xs ps : List Row) → feasible r (x ∷ ps) ≡ false → kept r (x ∷ xs) ps ≡ kept r xs ps
unfolding kept
kept_no r x xs ps e = rw e

-- THE GREEDY RUN keeps what is selected
abbrev pub OfSet : List Row → Row → Type 0
OfSet rs y = (y.ticket ≡ 0) ⊎ (in_plan y rs ≡ true)

pub record Follows (r : Round) (rs xs ps : List Row) : Type 0 where
  pub has : (y : Row) → In y xs → in_plan y rs ≡ true → In y ps
  pub only : All (OfSet rs) ps

module _ (r : Round) (f : Fine r) (rs : List Row) (members : All (λ y. In y r.rows) rs) (fits : Feas r rs)
    (out : (x : Row) → In x r.rows → in_plan x rs ≡ false → LeftOut r rs x) where
  -- a waiting row with a member's ticket is that member
  pub member_is : (y : Row) → In y r.rows → in_plan y rs ≡ true → In y rs
  member_is y i e = elim (in_plan? y rs) [
    | inl h ↦ subst (λ (z : Row). In z rs)
        (rising_same 1 r.next h.1.0 y r.rows f.rising (all_in (λ z. In z r.rows) h.1.0 rs members h.1.1) i h.1.2) h.1.1
    | inr h ↦ absurd (true≢false (sym e ∙ h.0))
  ]

  -- no member due by the slot of a certificate comes later in the order
  pub none_later : (x : Row) (c : LeftOut r rs x) (xs : List Row) → All (λ y. In y r.rows) xs → All (λ y. NotOver y x) xs →
      sum (of_plan rs (below 0 (suc c.at))) xs ≡ 0
  unfolding of_plan
  none_later x c [] i o = refl
  none_later x c (y ∷ ys) i o = elim (either (eqb y.ticket 0)) [
    | inl h ↦ rw h (omega (arith, none_later x c ys i.1 o.1))
    | inr h ↦ elim (either (in_plan y rs)) [
      | inl k ↦ rw (h, k) (elim (leb? y.due c.at) as (λ _. below 0 (suc c.at) y + sum (of_plan rs (below 0 (suc c.at))) ys ≡ 0) [
        | inl l ↦
            let q = all_in (λ z. z.due ≤ c.at → heavier z x ≡ true) y rs c.heavy (member_is y i.0 k) l.1 in
            elim (heavier? y x) [
              | inl m ↦ absurd (over_absurd y x m.1 o.0)
              | inr m ↦ absurd (true≢false (sym q ∙ m.0))
            ]
        | inr l ↦ omega (arith, none_later x c ys i.1 o.1, below_late 0 (suc c.at) y l.1)
      ])
      | inr k ↦ rw (h, k) (omega (arith, none_later x c ys i.1 o.1))
    ]
  ]

  pub run_refuses : (x : Row) (xs ps : List Row) → All (λ y. In y r.rows) (x ∷ xs) → All (λ y. NotOver y x) xs → All (λ y. r.slot ≤ y.due) (x ∷ ps) →
      ((μ : Row → ℕ) → sum μ ps + sum (of_plan rs μ) (x ∷ xs) ≡ sum μ rs) → in_plan x rs ≡ false → feasible r (x ∷ ps) ≡ false
  run_refuses x xs ps i o d e n = elim (either (feasible r (x ∷ ps))) [
    | inl y ↦
        let c = out x i.0 n in
        absurd (omega (
          arith,
          feas_yes r (x ∷ ps) y d (suc c.at) (omega (arith, d.0, c.from)) (omega (arith, c.by)),
          below_yes 0 (suc c.at) x (omega arith) (omega (arith, c.from)),
          e (below 0 (suc c.at)),
          of_no rs (below 0 (suc c.at)) x n,
          none_later x c xs i.1 o,
          c.full,
          due_below c.at rs,
        ))
    | inr y ↦ y
  ]

  pub follows : (xs bs ps : List Row) → Ordered xs → All (λ y. In y r.rows) xs → All (λ y. y.ticket ≡ 0) bs → All (λ y. r.slot ≤ y.due) ps →
      All (OfSet rs) ps → ((μ : Row → ℕ) → sum μ ps + sum (of_plan rs μ) xs ≡ sum μ rs) → Follows r rs xs (kept r (xs ++ bs) ps)
  follows [] bs ps o i b d s e =
      record {
        has = λ y j. absurd j;
        only = all_kept (OfSet rs) r bs ps (all_map {Q = OfSet rs} (λ y (h : y.ticket ≡ 0). inl h) bs b) s;
      }
  follows (x ∷ xs) bs ps o i b d s e =
      let t = all_in (λ x. 1 ≤ x.ticket) x r.rows (row_ticket r f) i.0 in
      let u = (all_in (RowFine r) x r.rows f.fine i.0).due_from in
      elim (either (in_plan x rs)) [
        | inl k ↦
            let y : feasible r (x ∷ ps) ≡ true =
            feas_made r (x ∷ ps) (λ m a c. omega (arith, fits m a c, e (below 0 m), of_yes rs (below 0 m) x t k)) in
            let q = follows xs bs (x ∷ ps) o.1 i.1 b (u, d) (inr k, s) (λ μ. omega (arith, e μ, of_yes rs μ x t k)) in
            rw (kept_yes r x (xs ++ bs) ps y) (record {
              has = λ z j g. elim j [ inl h ↦ kept_keeps r z (xs ++ bs) (x ∷ ps) (inl h) | inr h ↦ q.has z h g ];
              only = q.only;
            })
        | inr k ↦
            let q = follows xs bs ps o.1 i.1 b d s (λ μ. omega (arith, e μ, of_no rs μ x k)) in
            rw (kept_no r x (xs ++ bs) ps (run_refuses x xs ps i o.0 (u, d) e k)) (record {
              has = λ z j g. elim j [ inl h ↦ absurd (true≢false (sym g ∙ ap (λ (a : Row). in_plan a rs) h ∙ k)) | inr h ↦ q.has z h g ];
              only = q.only;
            })
      ]

  pub plan_follows : ((μ : Row → ℕ) → sum (of_plan rs μ) r.rows ≡ sum μ rs) → Follows r rs (sorted heavier r.rows) (plan r)
  unfolding plan
  plan_follows e =
      follows (sorted heavier r.rows) (blanks r) [] (ordered_sorted r.rows)
      (all_sorted (λ y. In y r.rows) heavier r.rows (all_of_in (λ y. In y r.rows) r.rows (λ y i. i)))
      (ticketless_blanks _ _ _) tt tt
      (λ μ. omega (arith, e μ, sum_sorted (of_plan rs μ) heavier r.rows))

  -- SO THE PLAN HAS JUST THE SELECTED ROWS
  pub plan_selected : ((μ : Row → ℕ) → sum (of_plan rs μ) r.rows ≡ sum μ rs) → (x : Row) → In x r.rows → in_plan x (plan r) ≡ in_plan x rs
  plan_selected e x i =
      let q = plan_follows e in
      elim (either (in_plan x rs)) [
        | inl k ↦ elim (in_plan? x (plan r)) [
          | inl h ↦ h.0 ∙ sym k
          | inr h ↦ absurd (h.1 x (q.has x (in_sorted heavier x r.rows i) k) refl)
        ]
        | inr k ↦ elim (in_plan? x (plan r)) [
          | inl h ↦ elim (all_in (OfSet rs) h.1.0 (plan r) q.only h.1.1) [
            | inl z ↦ absurd (omega (arith, z, h.1.2, all_in (λ x. 1 ≤ x.ticket) x r.rows (row_ticket r f) i))
            | inr z ↦ absurd (true≢false (sym z ∙ in_plan_ticket h.1.0 x rs h.1.2 ∙ k))
          ]
          | inr h ↦ h.0 ∙ sym k
        ]
      ]

pub flags_same : (ps rs xs : List Row) → All (λ x. in_plan x ps ≡ in_plan x rs) xs → flags ps xs ≡ flags rs xs
unfolding flags
flags_same ps rs [] a = refl
flags_same ps rs (x ∷ xs) a = ap₂ (λ (b : Bool) (bs : List Bool). b ∷ bs) a.0 (flags_same ps rs xs a.1)

-- A CERTIFIED SELECTION IS THE PLAN'S
pub certified_plan : (r : Round) → Fine r → (fs : List Bool) → Certified r fs → flags (plan r) r.rows ≡ fs
certified_plan r f fs c =
    let rs = chosen fs r.rows in
    let p = flags_chosen 1 r.next fs r.rows f.rising c.long in
    flags_same (plan r) rs r.rows
    (all_of_in (λ x. in_plan x (plan r) ≡ in_plan x rs) r.rows
    (plan_selected r f rs (chosen_in fs r.rows)
    (feas_yes r rs c.fits (all_of_chosen (λ x. r.slot ≤ x.due) fs r.rows
    (all_map {Q = λ x. r.slot ≤ x.due} (λ x (h : RowFine r x). h.due_from) r.rows f.fine)))
    (λ x i n. elim (unchosen_in fs r.rows x i) [
      | inl h ↦ elim (in_plan? x rs) [ inl k ↦ absurd (true≢false (sym k.0 ∙ n)) | inr k ↦ absurd (k.1 x h refl) ]
      | inr h ↦ all_in (LeftOut r rs) x (unchosen fs r.rows) c.out h
    ])
    (λ μ. of_chosen rs μ r.rows (row_ticket r f) ∙ ap (λ (bs : List Bool). sum μ (chosen bs r.rows)) p)))
    ∙ p

pub certified_rows : (r : Round) → Fine r → (fs : List Bool) → Certified r fs → Same (rows_only (plan r)) (chosen fs r.rows)
unfolding planned
certified_rows r f fs c μ = planned_same r f μ ∙ ap (λ (bs : List Bool). sum μ (chosen bs r.rows)) (certified_plan r f fs c)

-- two certified selections are one
pub certified_same : (r : Round) → Fine r → (fs gs : List Bool) → Certified r fs → Certified r gs → fs ≡ gs
certified_same r f fs gs c d = sym (certified_plan r f fs c) ∙ certified_plan r f gs d

-- AND THE PLAN'S SELECTION IS CERTIFIED
pub length_flags : (ps xs : List Row) → length (flags ps xs) ≡ length xs
unfolding flags
length_flags ps [] = refl
length_flags ps (x ∷ xs) = ap suc (length_flags ps xs)

pub unchosen_flags : (P : Row → Type 0) (ps xs : List Row) → All P xs → All (λ x. (in_plan x ps ≡ false) × P x) (unchosen (flags ps xs) xs)
unfolding flags unchosen
unchosen_flags P ps [] a = tt
unchosen_flags P ps (x ∷ xs) a = elim (either (in_plan x ps)) [
  | inl e ↦ rw e (unchosen_flags P ps xs a.1)
  | inr e ↦ rw e ((e, a.0), unchosen_flags P ps xs a.1)
]

pub chosen_flags : (ps xs : List Row) → All (λ x. in_plan x ps ≡ true) (chosen (flags ps xs) xs)
unfolding flags chosen
chosen_flags ps [] = tt
chosen_flags ps (x ∷ xs) = elim (either (in_plan x ps)) [ inl e ↦ rw e (e, chosen_flags ps xs) | inr e ↦ rw e (chosen_flags ps xs) ]

pub within_below : (u : Row → Bool) (e : ℕ) (x : Row) → within u e x ≤ below 0 e x
within_below u e x = elim (either (u x)) [ inl h ↦ omega (arith, within_yes u e x h) | inr h ↦ omega (arith, within_no u e x h) ]

pub all_within : (u : Row → Bool) (e : ℕ) (xs : List Row) → num 0 e xs ≤ many u e xs → All (λ x. x.due < e → u x ≡ true) xs
all_within u e [] h = tt
all_within u e (x ∷ xs) h = (
  λ k. elim (either (u x)) [
    | inl a ↦ a
    | inr a ↦ absurd (omega (arith, within_no u e x a, below_yes 0 e x (omega arith) k, sum_le (within u e) (below 0 e) (within_below u e) xs))
  ],
  all_within u e xs (omega (arith, within_below u e x)),
)

pub in_planned : (r : Round) (y : Row) → In y (planned r) → in_plan y (plan r) ≡ true
unfolding planned
in_planned r y i = all_in (λ x. in_plan x (plan r) ≡ true) y (planned r) (chosen_flags (plan r) r.rows) i

pub plan_out : (r : Round) → Fine r → (x : Row) → In x r.rows → in_plan x (plan r) ≡ false → LeftOut r (planned r) x
plan_out r f x i n =
    let w = (all_in (RowFine r) x r.rows f.fine i).some in
    let b = outside_by_order r f x w (row_outside r x i n) in
    let e = b.0 in
    let z : suc (e - 1) ≡ e = omega (arith, b.1) in
    let p : sum (within (from_row x) e) (rows_only (plan r)) ≡ many (from_row x) e (plan r) =
    sum_of_rows (within (from_row x) e) (plan r) (all_map {Q = λ y. y.ticket ≡ 0 → within (from_row x) e y ≡ 0}
    (λ y (h : Member r y) (q : y.ticket ≡ 0). elim h [
      | inr a ↦ within_no (from_row x) e y (over_light x y w (omega (arith, blank_weight y a.0)))
      | inl a ↦ absurd (omega (arith, q, all_in (λ x. 1 ≤ x.ticket) y r.rows (row_ticket r f) a))
    ]) (plan r) (plan_members r)) in
    let m : many (from_row x) e (planned r) ≡ e - r.slot = sym (planned_same r f (within (from_row x) e)) ∙ p ∙ b.3 in
    let k : num 0 e (planned r) ≤ e - r.slot =
    planned_feas r f e (omega (arith, b.1, (all_in (RowFine r) x r.rows f.fine i).due_from)) b.2 in
    record {
      at = e - 1;
      from = omega (arith, b.1);
      by = omega (arith, b.2, z);
      full = omega (
        arith,
        due_below (e - 1) (planned r),
        ap (λ v. num 0 v (planned r)) z,
        k,
        m,
        z,
        sum_le (within (from_row x) e) (below 0 e) (within_below (from_row x) e) (planned r),
      );
      heavy = all_of_in (λ y. y.due ≤ e - 1 → heavier y x ≡ true) (planned r) (λ y j h.
          from_row_over x y (λ q. true≢false (sym (in_planned r y j) ∙ in_plan_ticket y x (plan r) (sym q) ∙ n))
          (all_in (λ y. y.due < e → from_row x y ≡ true) y (planned r) (all_within (from_row x) e (planned r) (omega (arith, k, m))) j (omega (arith, h, z))));
    }

pub plan_certified : (r : Round) → Fine r → Certified r (flags (plan r) r.rows)
unfolding planned
plan_certified r f =
    record {
      long = length_flags (plan r) r.rows;
      fits = feas_made r (planned r) (planned_feas r f);
      out = all_map {Q = LeftOut r (planned r)} (λ x (h : (in_plan x (plan r) ≡ false) × In x r.rows). plan_out r f x h.1 h.0)
          (unchosen (flags (plan r) r.rows) r.rows)
          (unchosen_flags (λ x. In x r.rows) (plan r) r.rows (all_of_in (λ x. In x r.rows) r.rows (λ x i. i)));
    }

-- one flag at a time
pub flag_at : (ps xs : List Row) (y : Row) (i : ℕ) → i < length xs → in_plan (get_or xs i y) ps ≡ get_or (flags ps xs) i false
unfolding flags
flag_at ps [] y i h = absurd (omega arith)
flag_at ps (x ∷ xs) y zero h = refl
flag_at ps (x ∷ xs) y (suc i) h = flag_at ps xs y i (omega arith)

pub certified_at : (r : Round) → Fine r → (fs : List Bool) → Certified r fs → (y : Row) (i : ℕ) → i < length r.rows →
    in_plan (get_or r.rows i y) (plan r) ≡ get_or fs i false
certified_at r f fs c y i h = flag_at (plan r) r.rows y i h ∙ ap (λ (bs : List Bool). get_or bs i false) (certified_plan r f fs c)
