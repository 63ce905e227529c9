-- The plan's members by the rows that a computation has, each a blank or one of these: RowsOfPlan, planned_rows, found_member, member?.
use Rattle.std.specs.Prelude.{◌≡◌, refl, ◌⊎◌, Bool, false, List, [], ◌∷◌, ◌≤◌}
use Rattle.std.proofs.Common.{sym, ap, ◌∙◌, subst, inl, inr, true≢false, arith}
use Rattle.rules.specs.Rows.{Row, Round, chosen, rows_only, All, In}
use Rattle.rules.specs.Plan.{plan, in_plan, total, total_weight, planned}
use Rattle.theory.specs.Tests.{eqb?}
use Rattle.theory.specs.Sum.{total_sum}
use Rattle.theory.specs.All.{blank_ticket, IsBlank, all_in}
use Rattle.theory.specs.Bounds.{RowFine}
use Rattle.theory.specs.Full.{plan_member, Fine}
use Rattle.theory.specs.Change.{rising_same, in_sum}
use Rattle.theory.specs.Times.{ticks}
use Rattle.theory.specs.Same.{Same, in_plan?, with_tick, tick_self, row_ticket, planned_same, planned_in, chosen_in, planned_weighs}
use Rattle.theory.specs.Unique.{Certified, certified_rows}

pub in_rows_only : (x : Row) (xs : List Row) → 1 ≤ x.ticket → In x xs → In x (rows_only xs)
unfolding rows_only
in_rows_only x [] h i = i
in_rows_only x (y ∷ ys) h (inl e) = elim (eqb? y.ticket 0) [
  | inl k ↦ absurd (omega (arith, h, k.1, ap (λ (z : Row). z.ticket) e))
  | inr k ↦ rw k.0 (inl e)
]
in_rows_only x (y ∷ ys) h (inr i) = elim (eqb? y.ticket 0) [
  | inl k ↦ rw k.0 (in_rows_only x ys h i)
  | inr k ↦ rw k.0 (inr (in_rows_only x ys h i))
]

pub rows_only_in : (x : Row) (xs : List Row) → In x (rows_only xs) → In x xs
unfolding rows_only
rows_only_in x [] i = i
rows_only_in x (y ∷ ys) i = elim (eqb? y.ticket 0) [
  | inl k ↦ inr (rows_only_in x ys (rw k.0 at i))
  | inr k ↦ elim (the_case (rw k.0 at i)) [ inl e ↦ inl e | inr j ↦ inr (rows_only_in x ys j) ]
]
  where
    the_case : In x (y ∷ rows_only ys) → (x ≡ y) ⊎ In x (rows_only ys)
    the_case j = j

-- THE ROWS that a computation found: the plan's, in any order
pub record RowsOfPlan (r : Round) (rs : List Row) : Type 0 where
  pub same : Same (rows_only (plan r)) rs
  pub waiting : All (λ y. In y r.rows) rs

pub planned_rows : (r : Round) → Fine r → RowsOfPlan r (planned r)
planned_rows r f = record { same = planned_same r f; waiting = planned_in r }

pub certified_found : (r : Round) → Fine r → (fs : List Bool) → Certified r fs → RowsOfPlan r (chosen fs r.rows)
certified_found r f fs c = record { same = certified_rows r f fs c; waiting = chosen_in fs r.rows }

module _ (r : Round) (f : Fine r) (rs : List Row) (c : RowsOfPlan r rs) where
  pub of_rows_in : (x : Row) → In x rs → In x r.rows
  of_rows_in x i = all_in (λ y. In y r.rows) x rs c.waiting i

  pub of_rows_ticket : (x : Row) → In x rs → 1 ≤ x.ticket
  of_rows_ticket x i = all_in (λ y. 1 ≤ y.ticket) x r.rows (row_ticket r f) (of_rows_in x i)

  pub of_rows_fine : (x : Row) → In x rs → RowFine r x
  of_rows_fine x i = all_in (RowFine r) x r.rows f.fine (of_rows_in x i)

  -- a member with a ticket is one of them
  pub member_found : (x : Row) → In x (plan r) → 1 ≤ x.ticket → In x rs
  member_found x i t =
      let j : In x r.rows = elim (plan_member r x i) [
        | inl a ↦ a
        | inr a ↦ absurd (omega (arith, t, blank_ticket x a.0))
      ] in
      let w = with_tick x.ticket rs (omega (
        arith,
        c.same (ticks x.ticket),
        tick_self x,
        in_sum (ticks x.ticket) x (rows_only (plan r)) (in_rows_only x (plan r) t i),
      )) in
      subst (λ (z : Row). In z rs) (rising_same 1 r.next w.0 x r.rows f.rising (of_rows_in w.0 w.1) j w.2) w.1

  pub found_member : (x : Row) → In x rs → In x (plan r)
  found_member x i =
      let w = with_tick x.ticket (rows_only (plan r)) (omega (arith, c.same (ticks x.ticket), tick_self x, in_sum (ticks x.ticket) x rs i)) in
      let j = rows_only_in w.0 (plan r) w.1 in
      let k : In w.0 r.rows = elim (plan_member r w.0 j) [
        | inl a ↦ a
        | inr a ↦ absurd (omega (arith, w.2, of_rows_ticket x i, blank_ticket w.0 a.0))
      ] in
      subst (λ (z : Row). In z (plan r)) (rising_same 1 r.next w.0 x r.rows f.rising k (of_rows_in x i) w.2) j

  -- A MEMBER is a blank or one of the rows
  pub member? : (x : Row) → In x (plan r) → IsBlank x ⊎ In x rs
  member? x i = elim (plan_member r x i) [
    | inl a ↦ inr (member_found x i (all_in (λ y. 1 ≤ y.ticket) x r.rows (row_ticket r f) a))
    | inr a ↦ inl a.0
  ]

  pub in_plan_is : (x : Row) → In x r.rows → in_plan x (plan r) ≡ in_plan x rs
  in_plan_is x i =
      let t = all_in (λ y. 1 ≤ y.ticket) x r.rows (row_ticket r f) i in
      elim (in_plan? x (plan r)) [
        | inl a ↦ elim (in_plan? x rs) [
          | inl b ↦ a.0 ∙ sym b.0
          | inr b ↦ absurd (b.1 a.1.0 (member_found a.1.0 a.1.1 (omega (arith, t, a.1.2))) (sym a.1.2))
        ]
        | inr a ↦ elim (in_plan? x rs) [
          | inl b ↦ absurd (a.1 b.1.0 (found_member b.1.0 b.1.1) (sym b.1.2))
          | inr b ↦ a.0 ∙ sym b.0
        ]
      ]

  pub not_found : (x : Row) → In x r.rows → in_plan x rs ≡ false → In x rs → ⊥
  not_found x i n j = elim (in_plan? x rs) [ inl a ↦ true≢false (sym a.0 ∙ n) | inr a ↦ a.1 x j refl ]

  -- THE TOTAL AND THE LIST by them
  pub found_total : total r ≡ total_weight rs
  found_total =
      omega (arith, planned_weighs r f, total_sum (planned r), total_sum rs, planned_same r f (λ x. x.weight), c.same (λ x. x.weight))
