-- AN ORDINARY STEP: the plan's rows afterwards are those before without the one that goes, and none is late: rest_late, ordinary_planned.
use Rattle.std.specs.Prelude.{◌≡◌, ◌⊎◌, ◌≢◌, Bool, true, false, ℕ, zero, suc, ◌+◌, ◌-◌, ◌≤◌}
use Rattle.std.proofs.Common.{sym, ◌∙◌, subst, inl, inr, arith, le-leb}
use Rattle.std.proofs.Math.Path.{ap}
use mathlib.Core.List.{List, [], ◌∷◌}
use Rattle.rules.specs.Rows.{Row, Round, round, chosen, heavier, All, In}
use Rattle.rules.specs.Plan.{plan, due_by, in_plan, first_end, flags, planned}
use Rattle.rules.specs.Steps.{without, still_due, goes, sent}
use Rattle.theory.specs.Tests.{leb?, eqb?}
use Rattle.theory.specs.Sum.{sum}
use Rattle.theory.specs.All.{all_in, all_map, all_of_in, blank_ticket}
use Rattle.theory.specs.Feas.{below, num, below_yes, due_below, feas_made}
use Rattle.theory.specs.Bounds.{RowFine}
use Rattle.theory.specs.Full.{Fine, Rising, plan_member, plan_feas, plan_full}
use Rattle.theory.specs.Marks.{TightIn, NextTight, next}
use Rattle.theory.specs.Change.{rising_less, without_sum, in_sum, without_none, rising_first, all_without}
use Rattle.theory.specs.Send.{next_by}
use Rattle.theory.specs.Times.{sum_rows_only}
use Rattle.theory.specs.Same.{row_ticket, planned_same, planned_in}
use Rattle.theory.specs.Members.{planned_rows, member_found, found_member}
use Rattle.theory.specs.Turn.{goes_in}
use Rattle.theory.specs.Close.{after_slot}
use Rattle.theory.specs.Calls.{sent_fine}
use Rattle.theory.specs.Back.{rising_le}
use Rattle.theory.specs.Unique.{LeftOut, unchosen, Certified, certified_plan, plan_out, length_flags, unchosen_flags}
use Rattle.theory.specs.Gone.{two_in, rows_and_blank, without_in, without_gone, still_in, still_all, chosen_still, chosen_without}

-- tickets of chosen rows rise
pub rising_chosen : (a b : ℕ) (fs : List Bool) (xs : List Row) → Rising a b xs → Rising a b (chosen fs xs)
unfolding chosen
rising_chosen a b [] [] s = s
rising_chosen a b [] (x ∷ xs) s = rising_le a b (x ∷ xs) s
rising_chosen a b (m ∷ ms) [] s = s
rising_chosen a b (true ∷ ms) (x ∷ xs) s = (s.0, rising_chosen (suc x.ticket) b ms xs s.1)
rising_chosen a b (false ∷ ms) (x ∷ xs) s =
    rising_less (suc x.ticket) a b (chosen ms xs) (omega (arith, s.0)) (rising_chosen (suc x.ticket) b ms xs s.1)

-- tickets of the plan's rows rise
pub rising_planned : (r : Round) → Fine r → Rising 1 r.next (planned r)
unfolding planned
rising_planned r f = rising_chosen 1 r.next (flags (plan r) r.rows) r.rows f.rising

-- a member is a row of the plan, or has no ticket
pub row_or_blank : (r : Round) → Fine r → (p : Row) → In p (plan r) → In p (planned r) ⊎ (p.ticket ≡ 0)
row_or_blank r f p i = elim (plan_member r p i) [
  | inl a ↦ inl (member_found r f (planned r) (planned_rows r f) p i (all_in (λ y. 1 ≤ y.ticket) p r.rows (row_ticket r f) a))
  | inr a ↦ inr (blank_ticket p a.0)
]

module _ (r : Round) (f : Fine r) (p : Row) (i : In p (plan r)) where
  -- the plan's rows but p, and p
  pub rest_row : In p (planned r) → (μ : Row → ℕ) → sum μ (without p.ticket (planned r)) + μ p ≡ sum μ (planned r)
  rest_row j μ = without_sum μ p (planned r) (rising_first 1 r.next p (planned r) (rising_planned r f) j)

  -- a blank that goes leaves all rows
  pub rest_blank : p.ticket ≡ 0 → without p.ticket (planned r) ≡ planned r
  rest_blank t = rw t (without_none 1 r.next 0 (planned r) (omega arith) (rising_planned r f))

  -- the plan's rows but p, and p, are members
  pub rest_sum : (μ : Row → ℕ) → sum μ (without p.ticket (planned r)) + μ p ≤ sum μ (plan r)
  rest_sum μ = elim (row_or_blank r f p i) [
    | inl j ↦ omega (arith, rest_row j μ, planned_same r f μ, sum_rows_only μ (plan r))
    | inr t ↦ omega (arith, ap (sum μ) (rest_blank t), planned_same r f μ, rows_and_blank μ p (plan r) t i)
  ]

  module _ (o : r.slot ≤ r.last) (h : p.due ≤ first_end r (plan r)) where
    -- the first segment's end is the first tight slot
    pub first_next : NextTight r (plan r) r.slot (first_end r (plan r))
    unfolding first_end
    first_next = next r (plan r) r.slot o (plan_full r f)

    -- a row of the plan that stays is not due in the current slot
    pub rest_late : (y : Row) → In y (planned r) → y.ticket ≢ p.ticket → suc r.slot ≤ y.due
    rest_late y j n =
        let s = r.slot in
        let b = all_in (RowFine r) y r.rows f.fine (all_in (λ x. In x r.rows) y (planned r) (planned_in r) j) in
        let k = found_member r f (planned r) (planned_rows r f) y j in
        let w : num 0 (suc s) (plan r) ≤ suc s - s = plan_feas r f (suc s) (omega arith) (omega arith) in
        elim (leb? (suc s) y.due) [
          | inl a ↦ a.1
          | inr a ↦
              let y1 = below_yes 0 (suc s) y (omega arith) a.1 in
              let t : TightIn r (plan r) s = omega (arith, w, y1, in_sum (below 0 (suc s)) y (plan r) k) in
              elim (leb? (first_end r (plan r)) s) [
                | inl c ↦ absurd (omega (
                  arith,
                  w,
                  y1,
                  below_yes 0 (suc s) p (omega arith) (omega (arith, c.1)),
                  two_in (below 0 (suc s)) y p (plan r) k i n,
                ))
                | inr c ↦ absurd (first_next.first s (omega arith) c.1 t)
              ]
        ]

    -- all rows that stay are still due
    pub rest_due : All (λ x. suc r.slot ≤ x.due) (without p.ticket (planned r))
    rest_due =
        all_of_in (λ x. suc r.slot ≤ x.due) (without p.ticket (planned r)) (λ y j.
        rest_late y (without_in p.ticket y (planned r) j)
        (λ e. all_in (λ x. p.ticket ≢ x.ticket) y (without p.ticket (planned r))
        (without_gone 1 r.next p.ticket (planned r) (rising_planned r f)) j (sym e)))

    -- before p's due slot the plan leaves room, from there on p was one of its members
    pub rest_fits : (e : ℕ) → suc r.slot ≤ e → e ≤ suc r.last → num 0 e (without p.ticket (planned r)) ≤ e - suc r.slot
    rest_fits zero a b = absurd (omega arith)
    rest_fits (suc u) a b =
        let w : num 0 (suc u) (plan r) ≤ suc u - r.slot = plan_feas r f (suc u) (omega arith) b in
        elim (leb? p.due u) [
          | inl c ↦ omega (arith, w, rest_sum (below 0 (suc u)), below_yes 0 (suc u) p (omega arith) (omega (arith, c.1)))
          | inr c ↦ elim (eqb? (num 0 (suc u) (plan r)) (suc u - r.slot)) [
            | inl t ↦ absurd (first_next.first u (omega arith) (omega (arith, c.1, h)) t.1)
            | inr t ↦ let n = t.1 in omega (arith, w, rest_sum (below 0 (suc u)))
          ]
        ]

    -- a row left out stays so: its filled stretch reaches past p's due slot and loses p alone
    pub rest_out : (x : Row) → In x r.rows → in_plan x (plan r) ≡ false →
        (at : ℕ) × (x.due ≤ at) × (at ≤ r.last) × (due_by at (without p.ticket (planned r)) ≡ suc at - suc r.slot)
        × All (λ y. y.due ≤ at → heavier y x ≡ true) (without p.ticket (planned r))
    rest_out x j n =
        let c = plan_out r f x j n in
        let at = c.at in
        let b = all_in (RowFine r) x r.rows f.fine j in
        let w : num 0 (suc at) (plan r) ≤ suc at - r.slot = plan_feas r f (suc at) (omega (arith, b.due_from, c.from)) (omega (arith, c.by)) in
        let q : num 0 (suc at) (planned r) ≡ suc at - r.slot = sym (due_below at (planned r)) ∙ c.full in
        let t : TightIn r (plan r) at = omega (arith, w, q, planned_same r f (below 0 (suc at)), sum_rows_only (below 0 (suc at)) (plan r)) in
        let g : first_end r (plan r) ≤ at = next_by r (plan r) r.slot (first_end r (plan r)) at first_next (omega (arith, b.due_from, c.from)) t in
        let y1 = below_yes 0 (suc at) p (omega arith) (omega (arith, h, g)) in
        let d : num 0 (suc at) (without p.ticket (planned r)) + 1 ≡ suc at - r.slot = elim (row_or_blank r f p i) [
          | inl k ↦ omega (arith, rest_row k (below 0 (suc at)), y1, q)
          | inr k ↦ absurd (omega (arith, rest_sum (below 0 (suc at)), ap (num 0 (suc at)) (rest_blank k), y1, q, w))
        ] in (
          at,
          c.from,
          c.by,
          omega (arith, due_below at (without p.ticket (planned r)), d),
          all_without (λ y. y.due ≤ at → heavier y x ≡ true) p.ticket (planned r) c.heavy,
        )

    -- THE CHOICE that the plan makes of the rows left
    pub rest_chosen : chosen (flags (plan r) (still_due (suc r.slot) (without p.ticket r.rows))) (still_due (suc r.slot) (without p.ticket r.rows))
        ≡ without p.ticket (planned r)
    unfolding planned
    rest_chosen =
        chosen_still (plan r) (suc r.slot) (without p.ticket r.rows)
        ∙ ap (still_due (suc r.slot)) (chosen_without (plan r) 1 r.next p.ticket r.rows f.rising)
        ∙ still_all (suc r.slot) (without p.ticket (planned r)) rest_due

-- THE STEP of what goes
module _ (r : Round) (f : Fine r) (o : r.slot ≤ r.last) (h : (goes r).due ≤ first_end r (plan r)) where
  -- the rows left
  left_rows : List Row
  left_rows = still_due (suc r.slot) (without (goes r).ticket r.rows)

  ordinary_rows : sent r ≡ after_slot r left_rows
  unfolding sent left_rows
  ordinary_rows = rw (le-leb (goes r).due (first_end r (plan r)) h)

  -- the choice that the plan made of them is certified
  left_certified : Certified (after_slot r left_rows) (flags (plan r) left_rows)
  unfolding round left_rows
  left_certified =
      let p = goes r in
      let i = goes_in r f o in
      let rs = without p.ticket (planned r) in
      let z = after_slot r left_rows in
      record {
        long = length_flags (plan r) left_rows;
        fits = rw (rest_chosen r f p i o h) (feas_made z rs (rest_fits r f p i o h));
        out = rw (rest_chosen r f p i o h)
            (all_map {Q = LeftOut z rs}
            (λ x (k : (in_plan x (plan r) ≡ false) × In x r.rows).
            let c = rest_out r f p i o h x k.1 k.0 in record { at = c.0; from = c.1; by = c.2; full = c.3; heavy = c.4 })
            (unchosen (flags (plan r) left_rows) left_rows)
            (unchosen_flags (λ x. In x r.rows) (plan r) left_rows
            (all_of_in (λ x. In x r.rows) left_rows (λ x k. without_in p.ticket x r.rows (still_in (suc r.slot) x (without p.ticket r.rows) k)))));
      }

  -- THE PLAN'S ROWS AFTERWARDS are those before without what goes: no planned row is lost
  pub ordinary_planned : planned (sent r) ≡ without (goes r).ticket (planned r)
  unfolding planned round left_rows
  ordinary_planned =
      let z = after_slot r left_rows in
      ap planned ordinary_rows
      ∙ ap (λ (bs : List Bool). chosen bs left_rows)
      (certified_plan z (subst Fine ordinary_rows (sent_fine r f o)) (flags (plan r) left_rows) left_certified)
      ∙ rest_chosen r f (goes r) (goes_in r f o) o h
