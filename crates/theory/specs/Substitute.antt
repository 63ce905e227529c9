-- Substitutes and scores from the plan's rows alone: first_weight, first_row, later_row, later_none, later?, score_first, score_sub.
use Rattle.std.specs.Prelude.{◌≡◌, ◌⊎◌, true, false, List, ℕ, suc, ◌+◌, ◌*◌, ◌-◌, ◌≤◌, ◌<◌}
use Rattle.std.proofs.Common.{sym, ◌∙◌, subst, true≢false}
use Rattle.std.proofs.Math.Path.{ap}
use Rattle.std.proofs.Math.Logic.{inl, inr}
use native.Mathlib.Omega.{arith}
use borrow.Author.Tests.{le-leb, lt-leb, eq-eqb}
use Rattle.rules.specs.Rows.{Row, Round, blank, heavier, In}
use Rattle.rules.specs.Plan.{plan, in_plan, tight_after, segment_start, mark_in, mark, first_end, lightest_by, heaviest_outside, substitute}
use Rattle.theory.specs.Tests.{positive, leb?, ltb?, eqb?}
use Rattle.theory.specs.All.{all_in, all_of_in, IsBlank, blank_ticket, blank_weight, blank_is}
use Rattle.theory.specs.Order.{NotOver, over_absurd, not_over_both, heavier_yes, heavier_no, not_over_heavier, not_over_weight}
use Rattle.theory.specs.Feas.{below, below_yes, below_late, below_mono}
use Rattle.theory.specs.Bounds.{RowFine}
use Rattle.theory.specs.Full.{Fine, plan_feas, plan_full, plan_due}
use Rattle.theory.specs.Marks.{tight?, next, start, least_above, mark_all}
use Rattle.theory.specs.Change.{rising_same, in_sum}
use Rattle.theory.specs.Send.{next_by}
use Rattle.theory.specs.Times.{sum_less}
use Rattle.theory.specs.Same.{row_ticket}
use Rattle.theory.specs.Score.{Bounded, plan_bounded, score_of}
use Rattle.theory.specs.Select.{plan_selection}
use Rattle.theory.specs.Slack.{slack, slack_all, tight_is, least_from, of_blanks, idle_le, idlers, idlers_mono, rows_num, slack_is, idlers_most, idlers_least, idlers_is}
use Rattle.theory.specs.Members.{RowsOfPlan, of_rows_in, of_rows_fine, found_member, member?, in_plan_is}
use Rattle.theory.specs.Top.{lightest, LeftFrom, outside_top}

pub idle_blank : (μ : Row → ℕ) (x : Row) → x.ticket ≡ 0 → of_blanks μ x ≡ μ x
unfolding of_blanks
idle_blank μ x e = rw (eq-eqb x.ticket 0 e)

pub first_end_from : (r : Round) → Fine r → r.slot ≤ r.last → r.slot ≤ first_end r (plan r)
unfolding first_end
first_end_from r f o = (next r (plan r) r.slot o (plan_full r f)).from

-- a member due by the first segment's end that no member due by it is lighter than
pub record LightestOf (r : Round) (x : Row) : Type 0 where
  pub inside : In x (plan r)
  pub by : x.due ≤ first_end r (plan r)
  pub least : (y : Row) → In y (plan r) → y.due ≤ first_end r (plan r) → NotOver x y

pub first_lightest : (r : Round) (p : Row) → In p (plan r) → p.due ≤ first_end r (plan r) → LightestOf r (substitute r (plan r) p)
unfolding substitute
first_lightest r p i h =
    let t = lightest (first_end r (plan r)) (plan r) p in
    let x = lightest_by (first_end r (plan r)) (plan r) p in
    rw (le-leb p.due (first_end r (plan r)) h)
    (record {
      inside = elim t.found [ inl e ↦ subst (λ (z : Row). In z (plan r)) (sym e) i | inr j ↦ j.0 ];
      by = elim t.found [ inl e ↦ omega (arith, h, ap (λ (z : Row). z.due) e) | inr j ↦ j.1 ];
      least = λ y j k. all_in (λ y. y.due ≤ first_end r (plan r) → NotOver x y) y (plan r) t.most j k;
    })

-- its weight is the current slot's mark
pub first_weight : (r : Round) → Fine r → (p : Row) → In p (plan r) → p.due ≤ first_end r (plan r) → (substitute r (plan r) p).weight ≡ mark r r.slot
unfolding mark mark_in first_end
first_weight r f p i h =
    let x = substitute r (plan r) p in
    let l : LightestOf r x = first_lightest r p i h in
    omega (
      arith,
      all_in (λ x. x.due ≤ tight_after r (plan r) r.slot → mark_in r (plan r) r.slot ≤ x.weight) x (plan r) (mark_all r (plan r) r.slot)
          l.inside l.by,
      least_above x.weight (tight_after r (plan r) r.slot) (plan r) 16777216 (all_in Bounded x (plan r) (plan_bounded r f) l.inside)
          (all_of_in (λ y. y.due ≤ tight_after r (plan r) r.slot → x.weight ≤ y.weight) (plan r) (λ y j k. not_over_weight x y (l.least y j k))),
    )

-- of a member due later, the heaviest outside the plan
pub later_is : (r : Round) (p : Row) → first_end r (plan r) < p.due →
    substitute r (plan r) p ≡ heaviest_outside (segment_start r (plan r) p.due) r.rows (plan r) (blank (segment_start r (plan r) p.due))
unfolding substitute
later_is r p h = rw (lt-leb p.due (first_end r (plan r)) h)

module _ (r : Round) (f : Fine r) (rs : List Row) (c : RowsOfPlan r rs) where
  -- no blanks are due after a slot and by its next tight one
  pub idlers_level : (s : ℕ) → r.slot ≤ s → s ≤ r.last → idlers r (suc (tight_after r (plan r) s)) ≡ idlers r (suc s)
  idlers_level s h k =
      let e = tight_after r (plan r) s in
      let n = next r (plan r) s k (plan_full r f) in
      let q = idlers_least r f rs c.same s h k in
      let u = q.0 in
      elim (ltb? u e) [
        | inl a ↦ absurd (n.first u q.1 a.1 (omega (
          arith,
          rows_num r f rs c.same 0 (suc u),
          slack_is r f rs c.same u (omega (arith, q.1)) q.2,
          idlers_most r f rs c.same u u (omega (arith, q.1)) (omega arith) q.2,
          idlers_mono r (suc s) (suc u) (omega (arith, q.1)),
          q.3,
        )))
        | inr a ↦ omega (
          arith,
          idlers_most r f rs c.same e u (omega (arith, n.from)) a.1 q.2,
          q.3,
          idlers_mono r (suc s) (suc e) (omega (arith, n.from)),
        )
      ]

  pub first_idlers : r.slot ≤ r.last → idlers r (suc (first_end r (plan r))) ≡ least_from r rs r.slot
  unfolding first_end
  first_idlers o = idlers_level r.slot (omega arith) o ∙ idlers_is r f rs c.same r.slot (omega arith) o

  -- every blank due by the first end is due now
  pub first_blank : r.slot ≤ r.last → (x : Row) → In x (plan r) → IsBlank x → x.due ≤ first_end r (plan r) → x ≡ blank r.slot
  unfolding first_end
  first_blank o x i b h =
      let u = all_in (λ x. (r.slot ≤ x.due) × (x.due ≤ r.last)) x (plan r) (plan_due r f) i in
      let e = tight_after r (plan r) r.slot in
      elim (ltb? r.slot x.due) [
        | inl a ↦ absurd (omega (
          arith,
          idlers_level r.slot (omega arith) o,
          sum_less (of_blanks (below 0 (suc r.slot))) (of_blanks (below 0 (suc e)))
              (idle_le (below 0 (suc r.slot)) (below 0 (suc e)) (below_mono 0 (suc r.slot) (suc e) (omega (arith, a.1, h)))) x
              (omega (
                arith,
                idle_blank (below 0 (suc r.slot)) x (blank_ticket x b),
                idle_blank (below 0 (suc e)) x (blank_ticket x b),
                below_late 0 (suc r.slot) x a.1,
                below_yes 0 (suc e) x (omega arith) (omega (arith, h)),
              ))
              (plan r) i,
        ))
        | inr a ↦ let d : x.due ≡ r.slot = omega (arith, a.1, u.0) in b ∙ ap blank d
      ]

  -- DUE BY THE FIRST END: the lightest row due by it
  pub first_rows : r.slot ≤ r.last → (p : Row) → In p (plan r) → p.due ≤ first_end r (plan r) → least_from r rs r.slot ≡ 0 →
      (x : Row) → In x rs → x.due ≤ first_end r (plan r) → ((y : Row) → In y rs → y.due ≤ first_end r (plan r) → heavier x y ≡ false) →
      substitute r (plan r) p ≡ x
  first_rows o p i h g x j k m =
      let z = substitute r (plan r) p in
      let l : LightestOf r z = first_lightest r p i h in
      elim (member? r f rs c z l.inside) [
        | inl a ↦ absurd (omega (
          arith,
          g,
          first_idlers o,
          in_sum (of_blanks (below 0 (suc (first_end r (plan r))))) z (plan r) l.inside,
          idle_blank (below 0 (suc (first_end r (plan r)))) z (blank_ticket z a),
          below_yes 0 (suc (first_end r (plan r))) z (omega arith) (omega (arith, l.by)),
        ))
        | inr a ↦ rising_same 1 r.next z x r.rows f.rising (of_rows_in r f rs c z a) (of_rows_in r f rs c x j)
            (not_over_both z x (l.least x (found_member r f rs c x j) k) (heavier_no x z (m z a l.by)))
      ]

  -- with slack everywhere from now on, the first segment is the current slot and no row is due in it
  pub first_vacant : r.slot ≤ r.last → 1 ≤ least_from r rs r.slot → (first_end r (plan r) ≡ r.slot) × ((x : Row) → In x rs → r.slot < x.due)
  unfolding first_end
  first_vacant o g =
      let l : least_from r rs r.slot ≤ slack r rs r.slot = slack_all (r.last - r.slot) r rs r.slot r.slot (omega arith) (omega arith) in
      let k = slack_is r f rs c.same r.slot (omega arith) o in
      let n = next r (plan r) r.slot o (plan_full r f) in (
        elim (tight? r (plan r) r.slot) [
          | inl t ↦ omega (arith, n.from, next_by r (plan r) r.slot (tight_after r (plan r) r.slot) r.slot n (omega arith) t.1)
          | inr t ↦ absurd (true≢false (sym (tight_is r f rs c.same r.slot (omega arith) o ∙ le-leb (slack r rs r.slot) (least_from r rs r.slot)
              (omega (arith, k, g))) ∙ t.0))
        ],
        λ x i. elim (ltb? r.slot x.due) [
          | inl a ↦ a.1
          | inr a ↦ absurd (omega (
            arith,
            k,
            l,
            g,
            in_sum (below 0 (suc r.slot)) x rs i,
            below_yes 0 (suc r.slot) x (omega arith) (omega (arith, a.1)),
          ))
        ],
      )

  -- so where a row is due by the first end, the substitute is the lightest such row
  pub first_row : r.slot ≤ r.last → (p : Row) → In p (plan r) → p.due ≤ first_end r (plan r) →
      (x : Row) → In x rs → x.due ≤ first_end r (plan r) → ((y : Row) → In y rs → y.due ≤ first_end r (plan r) → heavier x y ≡ false) →
      substitute r (plan r) p ≡ x
  first_row o p i h x j k m = elim (eqb? (least_from r rs r.slot) 0) [
    | inl a ↦ first_rows o p i h a.1 x j k m
    | inr a ↦
        let v = first_vacant o (positive (least_from r rs r.slot) a.1) in
        absurd (omega (arith, v.0, v.1 x j, k))
  ]

  -- DUE LATER: the heaviest row outside the plan that is due from the segment's start on
  pub later_row : (p : Row) → first_end r (plan r) < p.due → (x : Row) → In x r.rows → in_plan x rs ≡ false → segment_start r (plan r) p.due ≤ x.due →
      ((y : Row) → In y r.rows → in_plan y rs ≡ false → segment_start r (plan r) p.due ≤ y.due → heavier y x ≡ false) →
      substitute r (plan r) p ≡ x
  later_row p h x i n k m =
      let b = segment_start r (plan r) p.due in
      let z = heaviest_outside b r.rows (plan r) (blank b) in
      let t = outside_top b (plan r) r.rows (blank b) in
      let o : NotOver x z = all_in (λ y. LeftFrom b (plan r) y → NotOver y z) x r.rows t.most i (k, in_plan_is r f rs c x i ∙ n) in
      later_is r p h
      ∙ (elim t.found [
        | inl e ↦ absurd (omega (
          arith,
          (all_in (RowFine r) x r.rows f.fine i).some,
          not_over_weight x z o,
          ap (λ (v : Row). v.weight) e,
          blank_weight (blank b) (blank_is b),
        ))
        | inr j ↦ rising_same 1 r.next z x r.rows f.rising j.0 i
            (not_over_both z x (heavier_no z x (m z j.0 (sym (in_plan_is r f rs c z j.0) ∙ j.1.1) j.1.0)) o)
      ])

  -- or the blank at the segment's start
  pub later_none : (p : Row) → first_end r (plan r) < p.due →
      ((y : Row) → In y r.rows → in_plan y rs ≡ false → y.due < segment_start r (plan r) p.due) →
      substitute r (plan r) p ≡ blank (segment_start r (plan r) p.due)
  later_none p h m =
      let b = segment_start r (plan r) p.due in
      let z = heaviest_outside b r.rows (plan r) (blank b) in
      let t = outside_top b (plan r) r.rows (blank b) in
      later_is r p h
      ∙ (elim t.found [
        | inl e ↦ e
        | inr j ↦ absurd (omega (arith, j.1.0, m z j.0 (sym (in_plan_is r f rs c z j.0) ∙ j.1.1)))
      ])

  -- one of the two
  pub record LaterSub (p s : Row) : Type 0 where
    pub waiting : In s r.rows
    pub outside : in_plan s rs ≡ false
    pub from : segment_start r (plan r) p.due ≤ s.due
    pub most : (y : Row) → In y r.rows → in_plan y rs ≡ false → segment_start r (plan r) p.due ≤ y.due → heavier y s ≡ false

  pub later? : (p : Row) → first_end r (plan r) < p.due →
      (substitute r (plan r) p ≡ blank (segment_start r (plan r) p.due)) ⊎ LaterSub p (substitute r (plan r) p)
  later? p h =
      let b = segment_start r (plan r) p.due in
      let z = heaviest_outside b r.rows (plan r) (blank b) in
      let t = outside_top b (plan r) r.rows (blank b) in
      elim t.found [
        | inl e ↦ inl (later_is r p h ∙ e)
        | inr j ↦ inr (subst (λ (v : Row). LaterSub p v) (sym (later_is r p h)) (record {
          waiting = j.0;
          outside = sym (in_plan_is r f rs c z j.0) ∙ j.1.1;
          from = j.1.0;
          most = λ y i n k. not_over_heavier y z
              (all_in (λ y. LeftFrom b (plan r) y → NotOver y z) y r.rows t.most i (k, in_plan_is r f rs c y i ∙ n));
        }))
      ]

  -- a blank is the segment's own
  pub later_blank : (p : Row) → first_end r (plan r) < p.due → (substitute r (plan r) p).ticket ≡ 0 →
      substitute r (plan r) p ≡ blank (segment_start r (plan r) p.due)
  later_blank p h e = elim (later? p h) [
    | inl a ↦ a
    | inr a ↦ absurd (omega (arith, e, all_in (λ y. 1 ≤ y.ticket) (substitute r (plan r) p) r.rows (row_ticket r f) a.waiting))
  ]

  -- no row outside is due from the start of a segment on that has a blank
  pub blank_none : (x : Row) → In x (plan r) → IsBlank x → (y : Row) → In y r.rows → in_plan y rs ≡ false → y.due < segment_start r (plan r) x.due
  blank_none x i b y j n =
      let d = segment_start r (plan r) x.due in
      let u = all_in (λ x. (r.slot ≤ x.due) × (x.due ≤ r.last)) x (plan r) (plan_due r f) i in
      let g = all_in (RowFine r) y r.rows f.fine j in
      let st = start r (plan r) x.due (plan_feas r f) f.time u.0 in
      let e = tight_after r (plan r) y.due in
      let k = next r (plan r) y.due g.due_by (plan_full r f) in
      elim (ltb? y.due d) [
        | inl a ↦ a.1
        | inr a ↦ elim (ltb? e x.due) [
          | inl l ↦ absurd (st.none e (omega (arith, a.1, k.from)) l.1 k.tight)
          | inr l ↦ absurd (over_absurd x y
              (heavier_yes x y (all_in (λ z. z.due ≤ e → heavier z y ≡ true) x (plan r) ((plan_selection r f).out y j (in_plan_is r f rs c y j ∙ n)) i l.1))
              (inl (omega (arith, g.some, blank_weight x b))))
        ]
      ]

  -- SCORES by these
  pub score_first : (p : Row) → In p (plan r) → p.due ≤ first_end r (plan r) → score_of r p ≡ p.weight * 39088169 + mark r r.slot * 63245986
  unfolding score_of
  score_first p i h = omega (arith, first_weight r f p i h)

  pub score_sub : (p s : Row) → substitute r (plan r) p ≡ s → score_of r p ≡ p.weight * 39088169 + s.weight * 63245986
  unfolding score_of
  score_sub p s e = omega (arith, ap (λ (z : Row). z.weight) e)

  pub score_none : (p : Row) (b : ℕ) → substitute r (plan r) p ≡ blank b → score_of r p ≡ p.weight * 39088169
  score_none p b e = omega (arith, score_sub p (blank b) e, blank_weight (blank b) (blank_is b))

  pub score_blank : r.slot ≤ r.last → (x : Row) → In x (plan r) → IsBlank x → score_of r x ≡ 0
  score_blank o x i b = elim (leb? x.due (first_end r (plan r))) [
    | inl h ↦
        let l = first_lightest r x i h.1 in
        omega (
          arith,
          score_first x i h.1,
          first_weight r f x i h.1,
          not_over_weight (substitute r (plan r) x) x (l.least x i h.1),
          blank_weight x b,
        )
    | inr h ↦ omega (arith, blank_weight x b, score_none x (segment_start r (plan r) x.due) (later_none x h.1 (blank_none x i b)))
  ]

  pub score_row : (x : Row) → In x rs → 1 ≤ score_of r x
  unfolding score_of
  score_row x i = omega (arith, (of_rows_fine r f rs c x i).some)
