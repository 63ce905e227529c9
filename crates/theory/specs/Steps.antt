-- WHAT A SENDING LEAVES of every sound round with a slot ahead, and what it answers: makes, answers, steps.
use Rattle.std.specs.Prelude.{◌≡◌, refl, ◌⊎◌, List, ℕ, suc, ◌≤◌}
use Rattle.std.proofs.Common.{sym, subst, inl, inr, arith, le-leb, ne_eqb}
use Rattle.std.proofs.lemmas.Bool.{lt-leb}
use Rattle.rules.specs.Rows.{Row, Round, round, All}
use Rattle.rules.specs.Plan.{plan, first_end, planned}
use Rattle.rules.specs.Steps.{goes, sent, is_ordinary}
use Rattle.rules.specs.Calls.{out_of, says, deed, act}
use Rattle.rules.specs.StepsOf.{GoesOut, Unchanged, SlotOver, StepsOf, Went, AnswersOf}
use Rattle.rules.specs.Demands.{Steps}
use Rattle.theory.specs.Tests.{eqb?}
use Rattle.theory.specs.All.{all_in, blank_ticket}
use Rattle.theory.specs.Full.{Fine, plan_member}
use Rattle.theory.specs.Change.{rising_above}
use Rattle.theory.specs.Turn.{goes_in}
use Rattle.theory.specs.Members.{planned_rows}
use Rattle.theory.specs.Close.{closed, sent_ordinary}
use Rattle.theory.specs.Bounds.{TailFine}
use Rattle.theory.specs.Sane.{good_fine, good_tails}
use Rattle.theory.specs.SlotOver.{same_over}
use Rattle.theory.specs.LeapRows.{sent_rows_are, leap_of}

-- AN ORDINARY STEP
pub ordinary_of : (r : Round) → Fine r → (goes r).due ≤ first_end r (plan r) →
    SlotOver (suc r.slot) (GoesOut r) (Unchanged r) r.rows (sent r).rows
ordinary_of r f h =
    let p = goes r in
    let t = suc r.slot in
    subst (λ (zs : List Row). SlotOver t (GoesOut r) (Unchanged r) r.rows zs)
    (sym (sent_rows_are r t (closed t p.ticket r.rows) (sent_ordinary r f (planned r) (planned_rows r f) p refl h)))
    (same_over t p.ticket (GoesOut r) (Unchanged r) r.rows (λ x _ e. search e) (λ x _ n. (n, refl)))

pub makes : (r : Round) → Fine r → r.slot ≤ r.last → StepsOf r
unfolding sent round
makes r f o =
    record {
      slot = refl;
      last = refl;
      next = refl;
      room = refl;
      tail = refl;
      ordinary = ordinary_of r f;
      leap = leap_of r f (goes_in r f o);
    }

-- WHAT WENT OUT: a row has a ticket and kind 0 or 1, a blank has neither
pub kind? : (k : ℕ) → k ≤ 1 → (k ≡ 0) ⊎ (k ≡ 1)
kind? k h = elim (eqb? k 0) [ inl e ↦ inl e.1 | inr e ↦ let n = e.1 in inr (omega arith) ]

pub went_of : (r : Round) → Fine r → All TailFine r.rows → r.slot ≤ r.last → Went r (out_of (goes r))
unfolding out_of
went_of r f ks o =
    let p = goes r in
    elim (plan_member r p (goes_in r f o)) [
      | inl i ↦
          let t = rising_above 1 r.next p r.rows f.rising i in
          let n = ne_eqb p.ticket 0 (λ e. omega (arith, e, t)) in
          elim (kind? p.tail.kind (all_in TailFine p r.rows ks i).kinds) [
            | inl k ↦ inl (i, k, rw (n, k))
            | inr k ↦ inr (inl (i, k, rw (n, k)))
          ]
      | inr b ↦ inr (inr (b.0, rw (blank_ticket p b.0)))
    ]

pub answers : (r : Round) → Fine r → All TailFine r.rows → r.slot ≤ r.last → AnswersOf r
unfolding says deed act is_ordinary
answers r f ks o =
    record {
      out = out_of (goes r);
      went = went_of r f ks o;
      ordinary_said = λ h. rw (le-leb (goes r).due (first_end r (plan r)) h);
      leap_said = λ h. rw (lt-leb (goes r).due (first_end r (plan r)) h);
    }

pub steps : Steps
unfolding Steps
steps r g o = (makes r (good_fine r g) o, answers r (good_fine r g) (good_tails r g) o)
