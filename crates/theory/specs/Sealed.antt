-- ONE SEALED ROUND: its step is ordinary, and when silence goes; sealing leaves the plan: sealed_ordinary, unsealed_silence, sealed_silence, sealed_planned.
use Rattle.std.specs.Prelude.{◌≡◌, refl, true, false, cond, List, [], ◌∷◌, ℕ, ◌≤◌, ◌<◌, eqb}
use Rattle.std.proofs.Common.{sym, ap, ◌∙◌, subst, inl, inr, true≢false, ne_eqb}
use native.Mathlib.Omega.{arith}
use Rattle.rules.specs.Rows.{Row, HeadTail, Round, round, with_tail, blank, slots_left, chosen, In}
use Rattle.rules.specs.Plan.{feasible, kept, plan, in_plan, tight_after, first_end, best, flags, planned}
use Rattle.rules.specs.Steps.{sealed, goes}
use Rattle.rules.specs.Calls.{silence, frame, kept_blank, out_of}
use Rattle.rules.specs.Sealed.{SealedOrdinary, UnsealedSilence, SealedSilence}
use Rattle.theory.specs.Tests.{either, leb?}
use Rattle.theory.specs.All.{all_in, IsBlank, blank_ticket, blank_weight}
use Rattle.theory.specs.Order.{not_before_due}
use Rattle.theory.specs.Bounds.{RowFine}
use Rattle.theory.specs.Full.{Fine, plan_due, plan_full, plan_member}
use Rattle.theory.specs.Change.{rising_same}
use Rattle.theory.specs.Marks.{next}
use Rattle.theory.specs.Send.{next_by}
use Rattle.theory.specs.Same.{in_plan?, row_ticket}
use Rattle.theory.specs.Members.{planned_rows, member?, of_rows_ticket}
use Rattle.theory.specs.Best.{best_row}
use Rattle.theory.specs.Turn.{unsealed_goes}
use Rattle.theory.specs.First.{first_over, first_due, goes_first, first_ordinary, silent_goes}
use Rattle.theory.specs.PlanM.{planm}
use Rattle.theory.specs.Sane.{good_fine}

pub sealed_ordinary : SealedOrdinary
unfolding SealedOrdinary
sealed_ordinary r g o e = let f = good_fine r g in (goes_first r f o e, first_ordinary r f o e)

-- SILENCE is a blank's
pub out_named : (p : Row) → 1 ≤ p.ticket → out_of p ≡ silence → ⊥
unfolding out_of
out_named p h e = elim (either (eqb p.tail.kind 0)) [
  | inl k ↦ let q : frame p.ticket ≡ silence = rw (n, k) at e in let z : ◌≡◌ {A = ℕ} 0 1 = cc in omega (arith, z)
  | inr k ↦ let q : kept_blank p.ticket ≡ silence = rw (n, k) at e in let z : ◌≡◌ {A = ℕ} 0 1 = cc in omega (arith, z)
]
  where
    n : eqb p.ticket 0 ≡ false
    n = ne_eqb p.ticket 0 (λ z. omega (arith, h, z))

pub blank_silent : (s : ℕ) → out_of (blank s) ≡ silence
unfolding out_of blank
blank_silent s = refl

pub silent_blank : (r : Round) → Fine r → (p : Row) → In p (plan r) → out_of p ≡ silence → IsBlank p
silent_blank r f p i e = elim (member? r f (planned r) (planned_rows r f) p i) [
  | inl a ↦ a
  | inr a ↦ absurd (out_named p (of_rows_ticket r f (planned r) (planned_rows r f) p a) e)
]

pub unsealed_silence : UnsealedSilence
unfolding UnsealedSilence
unsealed_silence r g o u =
    let f = good_fine r g in
    let c = planned_rows r f in
    let n : goes r ≡ best r (plan r) = unsealed_goes r (λ q. omega (arith, u, q)) in (
      λ e. none r f o n e r.rows refl,
      λ e. ap out_of (silent_goes r f o (planned r) c e) ∙ blank_silent r.slot,
    )
  where
    none : (r : Round) → Fine r → r.slot ≤ r.last → goes r ≡ best r (plan r) → out_of (goes r) ≡ silence → (xs : List Row) → r.rows ≡ xs → r.rows ≡ []
    none r f o n e [] d = d
    none r f o n e (x ∷ xs) d =
        let c = planned_rows r f in
        let j = best_row r f o (planned r) c x (subst (λ (zs : List Row). In x zs) (sym d) (inl refl)) in
        absurd (out_named (best r (plan r)) (of_rows_ticket r f (planned r) c (best r (plan r)) j) (sym (ap out_of n) ∙ e))

-- A SEALED ROUND is silent only where every row is planned, and due later
module _ (r : Round) (f : Fine r) (o : r.slot ≤ r.last) (u : r.tail.sealed ≡ 1) (e : out_of (goes r) ≡ silence) (x : Row) (i : In x r.rows) where
  weighs_none : (goes r).weight ≡ 0
  weighs_none = blank_weight (goes r) (silent_blank r f (goes r) (goes_first r f o u).0 e)

  row_in_bounds : RowFine r x
  row_in_bounds = all_in (RowFine r) x r.rows f.fine i

  by_next : (goes r).due ≤ tight_after r (plan r) x.due
  unfolding first_end
  by_next =
      let b = row_in_bounds in
      let n = next r (plan r) r.slot o (plan_full r f) in
      let m = next r (plan r) x.due b.due_by (plan_full r f) in
      omega (
        arith,
        first_due r f o (goes r) (goes_first r f o u),
        next_by r (plan r) r.slot (first_end r (plan r)) (tight_after r (plan r) x.due) n (omega (arith, b.due_from, m.from)) m.tight,
      )

  in_it : in_plan x (plan r) ≡ true
  in_it = elim (either (in_plan x (plan r))) [
    | inl a ↦ a
    | inr a ↦ elim ((planm r f).outside x (goes r) i a (goes_first r f o u).0 by_next) [
      | inl h ↦ absurd (omega (arith, h, weighs_none))
      | inr h ↦ absurd (omega (arith, h.0, weighs_none, row_in_bounds.some))
    ]
  ]

  member_of : In x (plan r)
  member_of = elim (in_plan? x (plan r)) [
    | inl a ↦ elim (plan_member r a.1.0 a.1.1) [
      | inl j ↦ subst (λ (z : Row). In z (plan r)) (rising_same 1 r.next a.1.0 x r.rows f.rising j i a.1.2) a.1.1
      | inr b ↦ absurd (omega (
        arith,
        a.1.2,
        blank_ticket a.1.0 b.0,
        all_in (λ y. 1 ≤ y.ticket) x r.rows (row_ticket r f) i,
      ))
    ]
    | inr a ↦ absurd (true≢false (sym in_it ∙ a.0))
  ]

  due_later : r.slot < x.due
  due_later =
      let p = goes r in
      let g = goes_first r f o u in
      let d = all_in (λ x. (r.slot ≤ x.due) × (x.due ≤ r.last)) p (plan r) (plan_due r f) g.0 in
      elim (leb? x.due r.slot) [
        | inr a ↦ a.1
        | inl a ↦
            let q = not_before_due x p (first_over r p g x member_of) in
            absurd (g.1 x member_of (inr (omega (arith, a.1, q, d.0, row_in_bounds.due_from), inl (omega (arith, weighs_none, row_in_bounds.some)))))
      ]

pub sealed_silence : SealedSilence
unfolding SealedSilence
sealed_silence r g o u e x i = let f = good_fine r g in (in_it r f o u e x i, due_later r f o u e x i)

-- NO PLAN READS A TAIL
pub kept_tail : (m : HeadTail) (r : Round) (xs ps : List Row) → kept (with_tail m r) xs ps ≡ kept r xs ps
unfolding kept feasible slots_left round
kept_tail m r [] ps = refl
kept_tail m r (x ∷ xs) ps = kept_tail m r xs (cond (feasible r (x ∷ ps)) (x ∷ ps) ps)

pub sealed_plan : (r : Round) → plan (sealed r) ≡ plan r
unfolding plan sealed slots_left round
sealed_plan r = kept_tail _ r _ []

pub sealed_planned : (r : Round) → planned (sealed r) ≡ planned r
unfolding planned sealed round
sealed_planned r = ap (λ (ps : List Row). chosen (flags ps r.rows) r.rows) (sealed_plan r)

-- sealing again changes nothing
pub sealed_again : (r : Round) → r.tail.sealed ≡ 1 → sealed r ≡ r
unfolding sealed round
sealed_again r e i = record { slot = r.slot; last = r.last; next = r.next; room = r.room; rows = r.rows; tail = record { sealed = sym e i } }
