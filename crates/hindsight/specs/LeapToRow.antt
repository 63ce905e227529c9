-- A leap whose substitute is a row: the shifts make a chain, along which the walk goes.
use Rattle.std.specs.Prelude.{◌≡◌, false, List, [], ◌∷◌}
use Rattle.std.proofs.Math.Path.{refl, sym, ap, subst}
use Rattle.std.proofs.Common.{◌∙◌, inl, inr}
use Prim.Native.Nat.{ℕ, suc, ◌+◌, ◌-◌, ◌≤◌, ◌<◌}
use native.Mathlib.Omega.{arith}
use borrow.Author.Tests.{ne_eqb}
use Rattle.rules.specs.Limits.{most_weight}
use Rattle.rules.specs.Rows.{All, In, Round, Row, row}
use Rattle.rules.specs.Plan.{in_plan, mark, mark_in, plan, tight_after}
use Rattle.rules.specs.Steps.{changed, replaced, shifted}
use Rattle.theory.specs.Sum.{sum}
use Rattle.theory.specs.All.{all_in, all_map, blank_ticket}
use Rattle.theory.specs.Bounds.{RowFine}
use Rattle.theory.specs.Full.{Fine, outside, plan_member}
use Rattle.theory.specs.Marks.{box, mark_all}
use Rattle.theory.specs.Change.{FirstOfTicket, changed_first, changed_sum, not_in_plan, rising_above, rising_same, row_outside, without_sum}
use Rattle.theory.specs.Leap.{AfterLeap, ShiftEnds, HeavyTo, at_its_mark, ends_of, outside_heavy, rows_kept}
use Rattle.theory.specs.Totals.{plan_weights}
use Rattle.theory.specs.Picks.{mark_least}
use Rattle.theory.specs.MarksFall.{mark_reaches}
use Rattle.hindsight.specs.Occurs.{like, like?, part_in, pull, seen}
use Rattle.hindsight.specs.Worth.{Split}
use Rattle.hindsight.specs.Stash.{StashEntry, Good, held}
use Rattle.hindsight.specs.Places.{PlaceChain, Link, ChainPlace, news, olds, missed_besides}
use Rattle.hindsight.specs.ChainEnd.{Last}
use Rattle.hindsight.specs.LeapStage.{LeapStage}
use Rattle.hindsight.specs.LeapCases.{leap_worth}
use Rattle.hindsight.specs.Shifts.{ShiftsAt, shift_top, shifts_step}
use Rattle.hindsight.specs.Step.{Fixed, split_either, lift}
use Rattle.hindsight.specs.LeapMade.{LeapMade, SegmentStart, held_later, made_from}

-- along a chain no weight above a fixed measure gets lost
pub chain_lift : (r : Round) (g b : ℕ) (κ : Row → ℕ) → Fixed κ → (p h : Row) (ds : List ChainPlace) →
    PlaceChain r g b p h ds →
    news (lift κ) ds + lift κ p + olds (λ x. x.weight) ds + h.weight ≤ olds (lift κ) ds + lift κ h + news (λ x. x.weight) ds + p.weight
chain_lift r g b κ fx p h [] q = omega (arith, ap (lift κ) q, ap (λ (x : Row). x.weight) q)
chain_lift r g b κ fx p h (d ∷ ds) q =
    omega (
      arith,
      chain_lift r g b κ fx p d.old ds q.2,
      link (κ d.new) (κ h) d.new.weight h.weight (fx d.new h q.0.ticket q.0.tail) (heavier_new q.0),
    )
  where
    link : (a b c h : ℕ) → a ≡ b → h ≤ c → c - a + h ≤ h - b + c
    link a b c h e l = omega arith

    heavier_new : {o c h : Row} → Link r g o c h → h.weight ≤ c.weight
    heavier_new k = omega (arith, k.rises)

module _ (r : Round) (f : Fine r) (o : r.slot ≤ r.last) (p s : Row) (b : ℕ) (sp : SegmentStart r p b) (fs : List Row) (es : List StashEntry)
    (sl : Split r fs (held es)) (gd : Good r (suc r.slot) es)
    (out : (w : ℕ) → 1 ≤ w → w ≤ most_weight → s.weight < w → All (λ y. w ≤ y.weight → y.due < b) (outside r))
    (top : All (λ y. y.due ≤ tight_after r (plan r) s.due → y.weight ≤ p.weight) (plan r)) where
  -- a row of the round that is a member's is that member
  same_member : (y : Row) → In y (plan r) → y.ticket ≡ p.ticket → y ≡ p
  same_member y i e =
      elim (plan_member r y i) [
        | inl a ↦ rising_same 1 r.next y p r.rows f.rising a sp.waits e
        | inr a ↦ absurd (omega (arith, blank_ticket y a.0, rising_above 1 r.next p r.rows f.rising sp.waits))
      ]

  -- WITH THE CHAIN at hand: e and g end the segments of p and s, ys are the free rows without s, xs the rows after the shifts
  module _ (j : In s r.rows) (hs : b ≤ s.due) (n : in_plan s (plan r) ≡ false) (e g : ℕ) (ee : e ≡ tight_after r (plan r) p.due)
      (ge : g ≡ tight_after r (plan r) s.due) (en : ShiftEnds r p s e g) (ys : List Row) (pu : (μ : Row → ℕ) → sum μ ys + μ s ≡ sum μ fs) (xs : List Row)
      (xe : xs ≡ shifted (suc r.last) r (plan r) e g r.rows) (q : ShiftsAt r f p b g e g xs) where
    -- the substitute is no member
    no_member : (x : Row) → In x (plan r) → like x s ≡ 0
    no_member x ip =
        elim (like? x s) [
          | inl a ↦ absurd (not_in_plan s (plan r) n x ip (ap (λ (y : Row). y.ticket) (sym a.1)))
          | inr a ↦ a
        ]

    -- the last place of the chain, to which it comes
    last_place : Last r s.weight (missed_besides r q.hole (at_its_mark r s)) g q.hole (at_its_mark r s)
    unfolding row mark
    last_place =
        record {
          inside = q.inside;
          waits = q.waits;
          low = omega (arith, q.from, sp.start.low);
          by = q.by;
          end = en.last.by;
          above = mark_least r f s.due q.hole q.inside (omega (arith, q.by));
          limit = (all_in (λ x. (x.weight ≤ most_weight) × (x.due < suc r.last)) q.hole (plan r) (plan_weights r f) q.inside).0;
          under = outside_heavy r f s j n;
          marks = λ v a l. mark_reaches r f s.due v (all_in (RowFine r) s r.rows f.fine j).due_by a (omega arith);
          adjust = λ w v. omega arith;
        }

    -- the stage of the leap
    row_stage : LeapStage r f p s q.hole (at_its_mark r s) b g q.places fs ys es
    unfolding row mark
    row_stage =
        record {
          time = o;
          p_from = sp.start.by;
          p_limit = (all_in (λ x. (x.weight ≤ most_weight) × (x.due < suc r.last)) p (plan r) (plan_weights r f) sp.inside).0;
          low = sp.low;
          edge = sp.start.edge;
          after = hs;
          next = en.last;
          out = out;
          less = λ w v a. pu (box w v (suc r.last));
          stands = λ a. row_outside r s j n;
          mark_s = outside_heavy r f s j n;
          same = refl;
          comes = refl;
          final = last_place;
          chain = q.chain;
          begin = q.from;
          split = sl;
          good = gd;
          present = λ x ip ir. omega (arith, sl.whole (like x), pu (like x), seen x r.rows ir, no_member x ip);
          lates = held_later r f fs es sl gd;
          top = subst (λ (z : ℕ). All (λ y. y.due ≤ z → y.weight ≤ p.weight) (plan r)) (sym ge) top;
        }

    -- the rows after the leap
    rows_after : (μ : Row → ℕ) → sum μ (AfterLeap r p s) + μ s + olds μ q.places + μ q.hole ≡ sum μ r.rows + news μ q.places + μ (at_its_mark r s)
    unfolding replaced row
    rows_after μ =
        let c = at_its_mark r s in
        let fs' : FirstOfTicket s xs = q.kept.others s j (λ y a b d. not_in_plan s (plan r) n y a (sym d)) in
        let fp : FirstOfTicket p (changed s.ticket c xs) = changed_first s.ticket c p (not_in_plan s (plan r) n p sp.inside) refl xs
        (q.kept.others p sp.waits (λ y a t d. omega (arith, en.first.from, t, ap (λ (x : Row). x.due) (same_member y a d)))) in
        let rows_are : shifted (suc r.last) r (plan r) (tight_after r (plan r) p.due) (tight_after r (plan r) s.due) r.rows ≡ xs = sym
        (xe ∙ ap (λ (z : ℕ). shifted (suc r.last) r (plan r) z g r.rows) ee
        ∙ ap (λ (z : ℕ). shifted (suc r.last) r (plan r) (tight_after r (plan r) p.due) z r.rows) ge) in
        rw (rows_are, ne_eqb s.ticket 0 (λ z. omega (arith, rising_above 1 r.next s r.rows f.rising j)))
        (omega (arith, q.sums μ, changed_sum μ s c xs fs', without_sum μ p (changed s.ticket c xs) fp))

    -- the leap made
    leap_along : LeapMade r p s fs es
    unfolding row mark
    leap_along =
        let hk = q.hole in
        let c = at_its_mark r s in
        let l = leap_worth r f p s hk c b g q.places fs ys es row_stage in
        let u = l.walk in
        made_from r f p s hk c b q.places fs ys es sp l l.xs
        (λ μ. omega (arith, rows_after μ, u.swap μ, l.olds_are μ, l.news_are μ, pu μ, sl.whole μ)) (omega arith)
        (λ κ fx. omega (
          arith,
          rows_after (lift κ),
          u.rises,
          l.olds_are (λ x. x.weight),
          l.news_are (λ x. x.weight),
          fx c s refl refl,
          outside_heavy r f s j n,
          chain_lift r g b κ fx p hk q.places q.chain,
        ))

  -- THE SUBSTITUTE IS A ROW
  pub leap_to_row : In s r.rows → b ≤ s.due → in_plan s (plan r) ≡ false → LeapMade r p s fs es
  leap_to_row j hs n =
      let oo = all_in (RowFine r) s r.rows f.fine j in
      let e = tight_after r (plan r) p.due in
      let g = tight_after r (plan r) s.due in
      let en = ends_of r f p s b sp.by (omega (arith, sp.start.low, sp.start.by)) sp.start hs oo.due_by in
      let hv : HeavyTo r g = all_map {Q = λ y. y.due ≤ g → 1 ≤ y.weight}
      (λ y (a : y.due ≤ g → mark_in r (plan r) s.due ≤ y.weight) (c : y.due ≤ g). omega (arith, a c, outside_heavy r f s j n, oo.some))
      (plan r) (mark_all r (plan r) s.due) in
      let inf : In s fs = elim (split_either r fs (held es) sl s j) [
        | inl a ↦ a
        | inr a ↦ absurd (not_in_plan s (plan r) n s (part_in (held es) (plan r) sl.inside s a) refl)
      ] in
      let pu = pull s fs inf in
      let q = shift_top r f g en.last.by en.last.tight hv (ShiftsAt r f p b g e)
      (λ e' xs h e'' st tp k. shifts_step r f p b g e en.last.by (omega (arith, sp.start.low)) e' xs h e'' st tp k)
      (suc r.last) e r.rows (omega (arith, en.start, en.first.from)) en.order (omega (arith, en.last.by)) en.first.tight
      (record {
        hole = p;
        places = [];
        chain = refl;
        next = en.first;
        inside = sp.inside;
        waits = sp.waits;
        by = omega (arith, en.first.from, en.order);
        from = sp.start.by;
        top = all_map {Q = λ y. e < y.due → y.due ≤ g → y.weight ≤ p.weight}
            (λ y (t : y.due ≤ g → y.weight ≤ p.weight) (i : e < y.due) (l : y.due ≤ g). t l) (plan r) top;
        kept = rows_kept r f e;
        sums = λ μ. omega arith;
      }) in
      leap_along j hs n e g refl refl en pu.0 pu.1 (shifted (suc r.last) r (plan r) e g r.rows) refl q
