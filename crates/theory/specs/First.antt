-- The plan's canonical first, blanks among its members: a step of it is ordinary, and it is silence or a row: first_due, goes_first, first_row, silent_goes.
use Rattle.std.specs.Prelude.{◌≡◌, refl, true, false, cond, List, [], ◌∷◌, ℕ, suc, ◌-◌, ◌≤◌, ◌<◌}
use Rattle.std.proofs.Common.{sym, ◌∙◌, true≢false}
use Rattle.std.proofs.Math.Path.{ap, subst}
use Rattle.std.proofs.Math.Logic.{inl, inr}
use native.Mathlib.Omega.{arith}
use borrow.Author.Tests.{le-leb, eq-eqb}
use Rattle.rules.specs.Rows.{Row, Round, blank, canonical, In}
use Rattle.rules.specs.Plan.{plan, first_end, best, first_from, canonical_first}
use Rattle.rules.specs.Steps.{goes, is_ordinary}
use Rattle.rules.specs.PlanM.{Member, GoesFirst}
use Rattle.theory.specs.Tests.{eqb?, ltb?}
use Rattle.theory.specs.All.{all_in, IsBlank, blank_ticket}
use Rattle.theory.specs.Order.{NotBefore, canonical?, canonical_yes, canonical_no, before_not, before_absurd, not_before_self, not_before_trans, not_before_both, not_before_due}
use Rattle.theory.specs.Feas.{below, below_yes}
use Rattle.theory.specs.Full.{Fine, plan_member, plan_feas, plan_full, plan_due}
use Rattle.theory.specs.Marks.{next}
use Rattle.theory.specs.Change.{rising_same, in_sum}
use Rattle.theory.specs.Top.{Top, top_pick}
use Rattle.theory.specs.Same.{row_ticket}
use Rattle.theory.specs.Members.{RowsOfPlan, member?, found_member, of_rows_ticket}
use Rattle.theory.specs.Slack.{of_blanks, rows_num, idlers_is, with_blank, slack_some}
use Rattle.theory.specs.Picks.{with_due}
use Rattle.theory.specs.Substitute.{first_end_from}
use Rattle.theory.specs.Best.{best_row, silent_best, ordinary_is}
use Rattle.theory.specs.Near.{Near, near_empty, near_slack, near_edge}
use Rattle.theory.specs.Gone.{two_in}
use Rattle.theory.specs.Turn.{unsealed_goes, sealed_goes}

-- as the orders' laws say it
pub first_over : (r : Round) (p : Row) → GoesFirst r p → (y : Row) → In y (plan r) → NotBefore y p
first_over r p g y i = elim (canonical? y p) [ inl a ↦ absurd (g.1 y i a.1) | inr a ↦ a.1 ]

pub over_first : (r : Round) (p : Row) → In p (plan r) → ((y : Row) → In y (plan r) → NotBefore y p) → GoesFirst r p
over_first r p i n = (i, λ q j h. before_absurd q p h (n q j))

-- two members, each not before the other, are one: a waiting row has its ticket, a blank its due slot
pub members_same : (r : Round) → Fine r → (x y : Row) → Member r x → Member r y → x.ticket ≡ y.ticket → x.due ≡ y.due → x ≡ y
members_same r f x y (inl i) (inl j) t d = rising_same 1 r.next x y r.rows f.rising i j t
members_same r f x y (inl i) (inr b) t d = absurd (omega (arith, t, blank_ticket y b.0, all_in (λ x. 1 ≤ x.ticket) x r.rows (row_ticket r f) i))
members_same r f x y (inr b) (inl j) t d = absurd (omega (arith, t, blank_ticket x b.0, all_in (λ x. 1 ≤ x.ticket) y r.rows (row_ticket r f) j))
members_same r f x y (inr b) (inr c) t d = b.0 ∙ ap blank d ∙ sym c.0

-- so there is one first
pub first_same : (r : Round) → Fine r → (p q : Row) → GoesFirst r p → GoesFirst r q → p ≡ q
first_same r f p q a b =
    let h = first_over r q b p a.0 in
    let k = first_over r p a q b.0 in
    members_same r f p q (plan_member r p a.0) (plan_member r q b.0) (not_before_both p q h k)
    (omega (arith, not_before_due p q h, not_before_due q p k))

-- THE PASS keeps what none is before
pub pass_top : (xs : List Row) (b : Row) → Top (λ y. Unit {0}) NotBefore b xs (first_from xs b)
unfolding first_from
pass_top [] b = record { found = inl refl; first = not_before_self b; most = tt }
pass_top (x ∷ xs) b =
    top_pick (λ y. Unit {0}) NotBefore not_before_trans (canonical x b) x b xs (first_from xs (cond (canonical x b) x b))
    (λ e. (tt, before_not x b (canonical_yes x b e))) (λ e _. canonical_no x b e) (pass_top xs (cond (canonical x b) x b))

pub pass_first : (b : Row) (ps : List Row) → In b ps →
    (r : Round) → let p = canonical_first r ps in In p ps × ((y : Row) → In y ps → NotBefore y p)
unfolding canonical_first
pass_first b [] i r = absurd i
pass_first b (p ∷ ps) i r =
    let t = pass_top ps p in (
      elim t.found as (λ _. In (first_from ps p) (p ∷ ps)) [ inl q ↦ inl q | inr q ↦ inr q.0 ],
      λ y j. elim j [
        | inl q ↦ subst (λ (a : Row). NotBefore a (first_from ps p)) (sym q) t.first
        | inr k ↦ all_in (λ a. Unit {0} → NotBefore a (first_from ps p)) y ps t.most k tt
      ],
    )

module _ (r : Round) (f : Fine r) (o : r.slot ≤ r.last) where
  -- the plan has a member due by the first segment's end
  pub someone_due : (x : Row) × In x (plan r) × (x.due ≤ first_end r (plan r))
  unfolding first_end
  someone_due =
      let n = next r (plan r) r.slot o (plan_full r f) in
      let x = with_due (suc (first_end r (plan r))) (plan r) (omega (arith, n.tight, n.from)) in
      (x.0, x.1, omega (arith, x.2))

  -- THE STEP of the first is ordinary
  pub first_due : (p : Row) → GoesFirst r p → p.due ≤ first_end r (plan r)
  first_due p g = let x = someone_due in omega (arith, not_before_due x.0 p (first_over r p g x.0 x.1), x.2)

  -- A SEALED ROUND sends it
  pub goes_first : r.tail.sealed ≡ 1 → GoesFirst r (goes r)
  goes_first e =
      let x = someone_due in
      let q = pass_first x.0 (plan r) x.1 r in
      rw (sealed_goes r e) (over_first r (canonical_first r (plan r)) q.0 q.1)

  pub goes_as_first : r.tail.sealed ≡ 1 → (p : Row) → GoesFirst r p → goes r ≡ p
  goes_as_first e p g = first_same r f (goes r) p (goes_first e) g

  pub first_ordinary : r.tail.sealed ≡ 1 → is_ordinary r ≡ true
  unfolding is_ordinary
  first_ordinary e = le-leb (goes r).due (first_end r (plan r)) (first_due (goes r) (goes_first e))

  module _ (rs : List Row) (c : RowsOfPlan r rs) where
    -- BLANKS are due where rows fill no slot
    pub blank_late : (z : ℕ) → Near r z → (b : Row) → In b (plan r) → IsBlank b → z ≤ b.due
    unfolding of_blanks
    blank_late z k b i e = elim (ltb? b.due z) [
      | inr h ↦ h.1
      | inl h ↦
          let y : of_blanks (below 0 z) b ≡ 1 = rw (eq-eqb b.ticket 0 (blank_ticket b e)) (below_yes 0 z b (omega arith) h.1) in
          absurd (omega (
            arith,
            y,
            in_sum (of_blanks (below 0 z)) b (plan r) i,
            rows_num r f rs c.same 0 z,
            plan_feas r f z k.from k.by,
            near_edge r f rs c z k,
          ))
    ]

    -- A ROW is first where none of the plan's rows is before it, and it is due before the blanks
    pub first_row : (z : ℕ) → Near r z → (p : Row) → In p rs → p.due < z → ((q : Row) → In q rs → NotBefore q p) → GoesFirst r p
    first_row z k p i h n =
        over_first r p (found_member r f rs c p i) (λ y j. elim (member? r f rs c y j) [
          | inl b ↦ inl (omega (arith, h, blank_late z k y j b))
          | inr a ↦ n y a
        ])

    -- A BLANK due now is first: no other member is
    pub first_blank_now : In (blank r.slot) (plan r) → GoesFirst r (blank r.slot)
    unfolding blank
    first_blank_now i =
        over_first r (blank r.slot) i (λ y j. elim (member? r f rs c y j) [
          | inl b ↦ elim (ltb? r.slot y.due) [
            | inl h ↦ inl h.1
            | inr h ↦
                let d : y.due ≡ r.slot = omega (arith, h.1, due_ahead y j) in
                subst (λ (x : Row). NotBefore x (blank r.slot)) (sym (b ∙ ap blank d)) (not_before_self (blank r.slot))
          ]
          | inr a ↦ elim (ltb? r.slot y.due) [
            | inl h ↦ inl h.1
            | inr h ↦ absurd (omega (
              arith,
              plan_feas r f (suc r.slot) (omega arith) (omega (arith, o)),
              two_in (below 0 (suc r.slot)) y (blank r.slot) (plan r) j i (λ e. omega (arith, e, of_rows_ticket r f rs c y a)),
              below_yes 0 (suc r.slot) y (omega arith) (omega (arith, h.1)),
              below_yes 0 (suc r.slot) (blank r.slot) (omega arith) (omega arith),
            ))
          ]
        ])
      where
        due_ahead : (y : Row) → In y (plan r) → r.slot ≤ y.due
        due_ahead y j = (all_in (λ x. (r.slot ≤ x.due) × (x.due ≤ r.last)) y (plan r) (plan_due r f) j).0

    -- there is one where rows fill no slot
    pub blank_now : Near r r.slot → In (blank r.slot) (plan r)
    blank_now k =
        let q = slack_some (r.last - r.slot) r rs r.slot in
        let y = with_blank (suc r.slot) (plan r) (omega (
          arith,
          idlers_is r f rs c.same r.slot (omega arith) o,
          q.3,
          near_slack r f rs c r.slot k q.0 q.1 (omega (arith, q.2, o)),
        )) in
        elim (member? r f rs c y.0 y.1) [
          | inr a ↦ absurd (omega (arith, y.2, of_rows_ticket r f rs c y.0 a))
          | inl b ↦
              let d : y.0.due ≡ r.slot = omega (arith, y.3, blank_late r.slot k y.0 y.1 b) in
              subst (λ (x : Row). In x (plan r)) (b ∙ ap blank d) y.1
        ]

    -- SILENCE without rows, sealed or not
    pub silent_goes : r.rows ≡ [] → goes r ≡ blank r.slot
    silent_goes e = elim (eqb? r.tail.sealed 1) [
      | inl a ↦ goes_as_first a.1 (blank r.slot) (first_blank_now (blank_now (near_empty r o e)))
      | inr a ↦ unsealed_goes r a.1 ∙ silent_best r f o rs c e
    ]

    pub silence_ordinary : r.rows ≡ [] → is_ordinary r ≡ true
    unfolding blank
    silence_ordinary e = ordinary_is r f o rs c (blank r.slot) (silent_goes e) ∙ le-leb r.slot (first_end r (plan r)) (first_end_from r f o)

    -- what goes in a leap is a row
    pub leap_goes : is_ordinary r ≡ false → In (goes r) rs
    leap_goes n = elim (eqb? r.tail.sealed 1) [
      | inl a ↦ absurd (true≢false (sym (first_ordinary a.1) ∙ n))
      | inr a ↦ subst (λ (p : Row). In p rs) (sym (unsealed_goes r a.1)) (of_rows r.rows refl)
    ]
      where
        of_rows : (xs : List Row) → r.rows ≡ xs → In (best r (plan r)) rs
        of_rows [] e = absurd (true≢false (sym (silence_ordinary e) ∙ n))
        of_rows (x ∷ xs) e = best_row r f o rs c x (subst (λ (zs : List Row). In x zs) (sym e) (inl refl))
