-- The member that goes, from the plan's rows alone: best_goes, best_row, best_is, heaviest_beats, ordinary_is, silent_best.
use Rattle.std.specs.Prelude.{◌≡◌, refl, ◌⊎◌, Bool, true, false, cond, List, [], ◌∷◌, ℕ, suc, ◌-◌, ◌≤◌, ◌<◌, length}
use Rattle.std.proofs.Common.{sym, ◌∙◌, subst, true≢false, arith}
use Rattle.std.proofs.Math.Path.{ap}
use Rattle.std.proofs.Math.Logic.{inl, inr}
use Rattle.std.proofs.Math.Dec.{leb}
use Rattle.rules.specs.Rows.{Row, Round, blank, heavier, canonical, slots_left, All, In}
use Rattle.rules.specs.Plan.{plan, due_by, first_end, segment_start, heaviest_outside, substitute, sends_before, best_from, best, planned}
use Rattle.rules.specs.Steps.{goes, is_ordinary}
use Rattle.theory.specs.Tests.{ltb?, eqb?}
use Rattle.theory.specs.All.{all_in, all_of_in, IsBlank}
use Rattle.theory.specs.Order.{NotOver, NotBefore, canonical?, canonical_no, not_before_canonical, before_not, not_before_self, not_before_due, not_before_trans, not_before_both, heavier_no}
use Rattle.theory.specs.Bounds.{RowFine}
use Rattle.theory.specs.Full.{Fine, plan_length}
use Rattle.theory.specs.Change.{rising_same}
use Rattle.theory.specs.Same.{in_plan?, row_ticket}
use Rattle.theory.specs.Score.{score_of, sends_by_score}
use Rattle.theory.specs.Unique.{plan_out}
use Rattle.theory.specs.Slack.{idlers_is, with_blank, slack, slack_some}
use Rattle.theory.specs.Members.{RowsOfPlan, planned_rows, of_rows_in, of_rows_ticket, member_found, found_member, member?}
use Rattle.theory.specs.Top.{Top, top_pick}
use Rattle.theory.specs.Substitute.{first_end_from, first_weight, first_blank, later_is, score_blank, score_row}

-- q doesn't go before p
abbrev pub Beaten : Round → Row → Row → Type 0
Beaten r q p = (score_of r q < score_of r p) ⊎ ((score_of r q ≡ score_of r p) × NotBefore q p)

pub beaten_trans : (r : Round) (z y x : Row) → Beaten r z y → Beaten r y x → Beaten r z x
beaten_trans r z y x (inl a) (inl b) = inl (omega arith)
beaten_trans r z y x (inl a) (inr b) = inl (omega (arith, b.0))
beaten_trans r z y x (inr a) (inl b) = inl (omega (arith, a.0))
beaten_trans r z y x (inr a) (inr b) = inr (omega (arith, a.0, b.0), not_before_trans z y x a.1 b.1)

pub beaten_both : (r : Round) (a b : Row) → Beaten r a b → Beaten r b a → a.ticket ≡ b.ticket
beaten_both r a b (inl h) (inl k) = absurd (omega arith)
beaten_both r a b (inl h) (inr k) = absurd (omega (arith, k.0))
beaten_both r a b (inr h) (inl k) = absurd (omega (arith, h.0))
beaten_both r a b (inr h) (inr k) = not_before_both a b h.1 k.1

pub none_slack : (r : Round) (u : ℕ) → slack r [] u ≡ suc u - r.slot
unfolding slack due_by
none_slack r u = omega arith

pub sends? : (r : Round) → Fine r → (p q : Row) → In p (plan r) → In q (plan r) →
    ((sends_before r (plan r) p q ≡ true) × Beaten r q p) ⊎ ((sends_before r (plan r) p q ≡ false) × Beaten r p q)
sends? r f p q i j =
    let e = sends_by_score r f p q i j in
    let a = score_of r p in
    let b = score_of r q in
    elim (ltb? b a) [
      | inl h ↦ inl (e ∙ rw h.0, inl h.1)
      | inr h ↦ elim (eqb? a b) [
        | inl k ↦ elim (canonical? p q) [
          | inl l ↦ inl (e ∙ rw (h.0, k.0, l.0), inr (sym k.1, before_not p q l.1))
          | inr l ↦ inr (e ∙ rw (h.0, k.0, l.0), inr (k.1, l.1))
        ]
        | inr k ↦ let n = k.1 in inr (e ∙ rw (h.0, k.0), inl (omega (arith, h.1)))
      ]
    ]

abbrev pub Any : Row → Type 0
Any x = Unit {0}

pub best_from_top : (r : Round) → Fine r → (xs : List Row) (b : Row) → In b (plan r) → All (λ x. In x (plan r)) xs →
    Top Any (Beaten r) b xs (best_from r (plan r) xs b)
unfolding best_from
best_from_top r f [] b i a = record { found = inl refl; first = inr (refl, not_before_self b); most = tt }
best_from_top r f (y ∷ ys) b i a =
    top_pick Any (Beaten r) (beaten_trans r) (sends_before r (plan r) y b) y b ys (best_from r (plan r) ys (cond (sends_before r (plan r) y b) y b))
    (λ e. elim (sends? r f y b a.0 i) [ inl h ↦ (tt, h.1) | inr h ↦ absurd (true≢false (sym e ∙ h.0)) ])
    (λ e _. elim (sends? r f y b a.0 i) [ inl h ↦ absurd (true≢false (sym h.0 ∙ e)) | inr h ↦ h.1 ])
    (best_from_top r f ys (cond (sends_before r (plan r) y b) y b) (chosen_in (sends_before r (plan r) y b)) a.1)
  where
    chosen_in : (c : Bool) → In (cond c y b) (plan r)
    chosen_in true = a.0
    chosen_in false = i

-- THE BEST is a member, and no member goes before it
pub record IsBest (r : Round) (p : Row) : Type 0 where
  pub inside : In p (plan r)
  pub first : (q : Row) → In q (plan r) → Beaten r q p

pub best_goes : (r : Round) → Fine r → r.slot ≤ r.last → IsBest r (best r (plan r))
unfolding slots_left best
best_goes r f o = of_list (plan r) refl
  where
    of_list : (ps : List Row) → plan r ≡ ps → IsBest r (best r ps)
    of_list [] e = absurd (omega (arith, o, (plan_length r f).0, ap length e))
    of_list (p ∷ ps) e =
        let all : All (λ x. In x (plan r)) (p ∷ ps) =
        subst (λ (zs : List Row). All (λ x. In x (plan r)) zs) e (all_of_in (λ x. In x (plan r)) (plan r) (λ x i. i)) in
        of_pass p ps e all (subst (λ (zs : List Row). Top Any (Beaten r) p ps (best_from r zs ps p)) e (best_from_top r f ps p all.0 all.1))
      where
        of_pass : (p : Row) (ps : List Row) → plan r ≡ (p ∷ ps) → All (λ x. In x (plan r)) (p ∷ ps) → Top Any (Beaten r) p ps (best_from r (p ∷ ps) ps p) →
            IsBest r (best_from r (p ∷ ps) ps p)
        of_pass p ps e all t =
            record {
              inside = elim t.found [
                | inl d ↦ subst (λ (z : Row). In z (plan r)) (sym d) all.0
                | inr d ↦ all_in (λ x. In x (plan r)) (best_from r (p ∷ ps) ps p) ps all.1 d.0
              ];
              first = λ q i. elim (subst (λ (zs : List Row). In q zs) e i) [
                | inl d ↦ subst (λ (z : Row). Beaten r z (best_from r (p ∷ ps) ps p)) (sym d) t.first
                | inr d ↦ all_in (λ y. Any y → Beaten r y (best_from r (p ∷ ps) ps p)) q ps t.most d tt
              ];
            }

-- where there are rows, the plan has one
pub some_planned : (r : Round) → Fine r → (x : Row) → In x r.rows → (y : Row) × In y (planned r)
unfolding due_by
some_planned r f x i = of_list (planned r) refl
  where
    of_list : (zs : List Row) → planned r ≡ zs → (y : Row) × In y (planned r)
    of_list (z ∷ zs) e = (z, subst (λ (ws : List Row). In z ws) (sym e) (inl refl))
    of_list [] e = elim (in_plan? x (plan r)) [
      | inl a ↦ (x, member_found r f (planned r) (planned_rows r f) x (here a.1.0 a.1.1 a.1.2) (ticket_of i))
      | inr a ↦
          let l = plan_out r f x i a.0 in
          absurd (omega (
            arith,
            l.full,
            ap (λ (zs : List Row). due_by l.at zs) e,
            l.from,
            (all_in (RowFine r) x r.rows f.fine i).due_from,
          ))
    ]
      where
        ticket_of : In x r.rows → 1 ≤ x.ticket
        ticket_of i = all_in (λ y. 1 ≤ y.ticket) x r.rows (row_ticket r f) i

        here : (y : Row) → In y (plan r) → y.ticket ≡ x.ticket → In x (plan r)
        here y j q = subst (λ (z : Row). In z (plan r)) (rising_same 1 r.next y x r.rows f.rising
            (of_rows_in r f (planned r) (planned_rows r f) y (member_found r f (planned r) (planned_rows r f) y j (omega (arith, q, ticket_of i)))) i q) j

module _ (r : Round) (f : Fine r) (o : r.slot ≤ r.last) (rs : List Row) (c : RowsOfPlan r rs) where
  pub some_row : (x : Row) → In x r.rows → (y : Row) × In y rs
  some_row x i =
      let z = some_planned r f x i in
      let d = planned_rows r f in
      (z.0, member_found r f rs c z.0 (found_member r f (planned r) d z.0 z.1) (of_rows_ticket r f (planned r) d z.0 z.1))

  -- SILENCE without rows
  pub silent_best : r.rows ≡ [] → best r (plan r) ≡ blank r.slot
  silent_best e =
      let p = best r (plan r) in
      let g : IsBest r p = best_goes r f o in
      let none : (x : Row) → In x (plan r) → IsBlank x = λ x i. elim (member? r f rs c x i) [
        | inl a ↦ a
        | inr a ↦ absurd (subst (λ (zs : List Row). In x zs) e (of_rows_in r f rs c x a))
      ] in
      let q = slack_some (r.last - r.slot) r rs r.slot in
      let y = with_blank (suc r.slot) (plan r) (omega (
        arith,
        idlers_is r f rs c.same r.slot (omega arith) o,
        q.3,
        q.1,
        empty_slack rs (empty rs c.waiting e) q.0,
      )) in
      let bp = none p g.inside in
      let by = none y.0 y.1 in
      first_blank r f rs c o p g.inside bp (elim (g.first y.0 y.1) [
        | inl a ↦ absurd (omega (arith, a, score_blank r f rs c o p g.inside bp))
        | inr a ↦ omega (arith, y.3, first_end_from r f o, not_before_due y.0 p a.1)
      ])
    where
      empty : (zs : List Row) → All (λ y. In y r.rows) zs → r.rows ≡ [] → zs ≡ []
      empty [] a d = refl
      empty (z ∷ zs) a d = absurd (subst (λ (ws : List Row). In z ws) d a.0)

      empty_slack : (zs : List Row) → zs ≡ [] → (u : ℕ) → slack r zs u ≡ suc u - r.slot
      empty_slack zs d u = ap (λ (ws : List Row). slack r ws u) d ∙ none_slack r u

  -- A ROW goes where there are rows
  pub best_row : (x : Row) → In x r.rows → In (best r (plan r)) rs
  best_row x i =
      let p = best r (plan r) in
      let g : IsBest r p = best_goes r f o in
      let y = some_row x i in
      elim (member? r f rs c p g.inside) [
        | inr a ↦ a
        | inl a ↦ elim (g.first y.0 (found_member r f rs c y.0 y.1)) [
          | inl h ↦ absurd (omega (arith, h, score_blank r f rs c o p g.inside a))
          | inr h ↦ absurd (omega (arith, h.0, score_blank r f rs c o p g.inside a, score_row r f rs c y.0 y.1))
        ]
      ]

  -- THE ROW that no row goes before
  pub best_is : (p : Row) → In p rs → ((q : Row) → In q rs → (score_of r q < score_of r p) ⊎ ((score_of r q ≡ score_of r p) × (canonical q p ≡ false))) →
      best r (plan r) ≡ p
  best_is p i h =
      let b = best r (plan r) in
      let g : IsBest r b = best_goes r f o in
      let j = best_row p (of_rows_in r f rs c p i) in
      rising_same 1 r.next b p r.rows f.rising (of_rows_in r f rs c b j) (of_rows_in r f rs c p i)
      (beaten_both r b p (beaten b (h b j)) (g.first p (found_member r f rs c p i)))
    where
      beaten : (q : Row) → (score_of r q < score_of r p) ⊎ ((score_of r q ≡ score_of r p) × (canonical q p ≡ false)) → Beaten r q p
      beaten q (inl a) = inl a
      beaten q (inr a) = inr (a.0, canonical_no q p a.1)

  -- BY SEGMENTS: of rows whose substitutes weigh the same, only the heaviest counts
  pub heaviest_beats : (p q : Row) → (substitute r (plan r) q).weight ≡ (substitute r (plan r) p).weight → heavier q p ≡ false →
      (score_of r q < score_of r p) ⊎ ((score_of r q ≡ score_of r p) × (canonical q p ≡ false))
  unfolding score_of
  heaviest_beats p q e h = one (heavier_no q p h)
    where
      one : NotOver q p → (score_of r q < score_of r p) ⊎ ((score_of r q ≡ score_of r p) × (canonical q p ≡ false))
      one (inl a) = inl (omega (arith, a, e))
      one (inr (a, inl b)) = inr (omega (arith, a, e), not_before_canonical q p (inl b))
      one (inr (a, inr b)) = inr (omega (arith, a, e), not_before_canonical q p (inr (b.0, inr (a, inr b))))

  pub first_same : (p q : Row) → In p rs → In q rs → p.due ≤ first_end r (plan r) → q.due ≤ first_end r (plan r) →
      (substitute r (plan r) q).weight ≡ (substitute r (plan r) p).weight
  first_same p q i j h k = first_weight r f q (found_member r f rs c q j) k ∙ sym (first_weight r f p (found_member r f rs c p i) h)

  pub later_same : (p q : Row) → first_end r (plan r) < p.due → first_end r (plan r) < q.due → segment_start r (plan r) p.due ≡ segment_start r
      (plan r) q.due →
      substitute r (plan r) q ≡ substitute r (plan r) p
  later_same p q h k e =
      later_is r q k ∙ ap (λ b. heaviest_outside b r.rows (plan r) (blank b)) (sym e) ∙ sym (later_is r p h)

  -- of rows due in different slots the earlier one, if its score is no less
  pub earlier_beats : (p q : Row) → p.due < q.due → score_of r q ≤ score_of r p →
      (score_of r q < score_of r p) ⊎ ((score_of r q ≡ score_of r p) × (canonical q p ≡ false))
  earlier_beats p q h k = elim (ltb? (score_of r q) (score_of r p)) [
    | inl a ↦ inl a.1
    | inr a ↦ inr (omega (arith, a.1, k), not_before_canonical q p (inl h))
  ]

  pub beats_trans : (p q z : Row) → (score_of r q < score_of r p) ⊎ ((score_of r q ≡ score_of r p) × (canonical q p ≡ false)) →
      (score_of r z < score_of r q) ⊎ ((score_of r z ≡ score_of r q) × (canonical z q ≡ false)) →
      (score_of r z < score_of r p) ⊎ ((score_of r z ≡ score_of r p) × (canonical z p ≡ false))
  beats_trans p q z (inl a) (inl b) = inl (omega arith)
  beats_trans p q z (inl a) (inr b) = inl (omega (arith, b.0))
  beats_trans p q z (inr a) (inl b) = inl (omega (arith, a.0))
  beats_trans p q z (inr a) (inr b) = inr (
    omega (arith, a.0, b.0),
    not_before_canonical z p
        (not_before_trans z q p (canonical_no z q b.1) (canonical_no q p a.1)),
  )

  -- the kind of step
  pub ordinary_is : (p : Row) → goes r ≡ p → is_ordinary r ≡ leb p.due (first_end r (plan r))
  unfolding is_ordinary
  ordinary_is p e = ap (λ (z : Row). leb z.due (first_end r (plan r))) e
