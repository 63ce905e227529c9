-- A leap as a step, and every step of an unsealed round.
use Rattle.std.specs.Prelude.{◌≡◌, ◌⊎◌, ◌≢◌, List, ℕ, zero, suc, ◌+◌, ◌*◌, ◌-◌, ◌≤◌, ◌<◌}
use Rattle.std.proofs.Math.Path.{refl, ap, subst}
use Rattle.std.proofs.Common.{sym, ◌∙◌, arith}
use Rattle.std.proofs.Math.Logic.{inl, inr}
use Rattle.std.proofs.lemmas.Bool.{lt-leb}
use Rattle.rules.specs.Limits.{most_weight}
use Rattle.rules.specs.Rows.{All, In, Round, Row, blank}
use Rattle.rules.specs.Plan.{first_end, mark, plan, planned, segment_start, substitute, tight_after}
use Rattle.rules.specs.Steps.{goes, is_ordinary, leapt}
use Rattle.theory.specs.Tests.{leb?}
use Rattle.theory.specs.Sum.{sum}
use Rattle.theory.specs.All.{all_in, all_of_in}
use Rattle.theory.specs.Bounds.{RowFine}
use Rattle.theory.specs.Full.{Fine, outside, plan_due, plan_feas, plan_full}
use Rattle.theory.specs.Marks.{NextTight, Start, next, start}
use Rattle.theory.specs.Send.{WaitsOutside, outside_in}
use Rattle.theory.specs.Leap.{AfterLeap, outside_heavy}
use Rattle.theory.specs.Turn.{goes_in}
use Rattle.theory.specs.Calls.{sent_rows}
use Rattle.theory.specs.Members.{of_rows_in, planned_rows}
use Rattle.theory.specs.Substitute.{first_weight, later_is}
use Rattle.theory.specs.First.{leap_goes}
use Rattle.theory.specs.MarksFall.{mark_falls}
use Rattle.hindsight.specs.Worth.{worth}
use Rattle.hindsight.specs.Fibonacci.{fib_50, fib_51, fib_52, fib_53, fib_54, pair_50, pair_52}
use Rattle.hindsight.specs.Picked.{later_heaviest, no_heavier, picked_first, stand_ins_later, stands_from}
use Rattle.hindsight.specs.Stash.{StashEntry, held}
use Rattle.hindsight.specs.Settling.{State}
use Rattle.hindsight.specs.Step.{OwnSlot, StepMade, after_step, lift, own_slot, worth_time}
use Rattle.hindsight.specs.OrdinaryStep.{ordinary_step}
use Rattle.hindsight.specs.LeapMade.{LeapMade, SegmentStart}
use Rattle.hindsight.specs.LeapToRow.{leap_to_row}
use Rattle.hindsight.specs.LeapToBlank.{leap_to_blank}

-- the sum of a leap, in numbers: v are worths, p, s and m the weights of row, substitute and first mark
pub leap_bound : (v0 v1 v2 v3 v4 c p s m got given cost gain rise pending anchor mh : ℕ) →
    fib_52 * v0 + fib_53 * c ≤ fib_52 * v1 + fib_51 * p + fib_52 * s → v1 ≤ v2 + m → v2 + got ≤ v3 + given → v3 ≤ v4 →
    got + p ≡ given + cost + gain + s + rise + pending → s + cost + rise ≤ anchor → rise ≤ gain → anchor ≤ p → pending ≤ mh - anchor → mh ≤ m →
    fib_50 * m + fib_51 * m ≤ fib_50 * p + fib_51 * s →
    fib_52 * m + fib_53 * m ≤ fib_52 * p + fib_53 * s →
    fib_52 * v0 + fib_53 * (c + cost) + fib_54 * (rise + pending) ≤ fib_52 * v4 + fib_54 * p
leap_bound v0 v1 v2 v3 v4 c p s m got given cost gain rise pending anchor mh a b d e h i j k l n q t =
    elim (leb? pending 0) [ inl z ↦ omega arith | inr z ↦ omega arith ]

-- no segment starts between a slot and the next tight one
pub none_tight : (r : Round) → Fine r → (s y g c : ℕ) → NextTight r (plan r) s g → Start r (plan r) y c → y ≤ g → r.slot ≤ s → c ≤ s ⊎ (c ≤ r.slot)
none_tight r f s y g zero n st h i = inl (omega arith)
none_tight r f s y g (suc c) n st h i =
    elim (leb? (suc c) s) [
      | inl a ↦ inl a.1
      | inr a ↦ elim (leb? (suc c) r.slot) [
        | inl z ↦ inr z.1
        | inr z ↦ absurd (n.first c (omega arith) (omega (arith, st.by)) st.edge)
      ]
    ]

-- the substitute of a later member is the blank at the start of its segment, or a row outside
pub standing_in : (r : Round) (p : Row) → first_end r (plan r) < p.due →
    WaitsOutside r (plan r) (segment_start r (plan r) p.due) r.rows (blank (segment_start r (plan r) p.due)) (substitute r (plan r) p)
standing_in r p h =
    let b = segment_start r (plan r) p.due in
    rw (later_is r p h)
    (outside_in r (plan r) b r.rows (blank b) r.rows (blank b) (inl refl) (all_of_in (λ x. In x r.rows) r.rows (λ x j. j)))

-- the segment of a later member starts after the current slot
pub start_past : (r : Round) → Fine r → r.slot ≤ r.last → (p : Row) → first_end r (plan r) < p.due → p.due ≤ r.last → r.slot ≤ p.due →
    suc r.slot ≤ segment_start r (plan r) p.due
unfolding first_end
start_past r f o p h l k =
    let n = next r (plan r) r.slot o (plan_full r f) in
    let st = start r (plan r) p.due (plan_feas r f) f.time k in
    elim (leb? (segment_start r (plan r) p.due) (tight_after r (plan r) r.slot)) [
      | inl a ↦ absurd (st.none (tight_after r (plan r) r.slot) a.1 h n.tight)
      | inr a ↦ omega (arith, n.from)
    ]

-- no member due by the end of the substitute's segment is heavier than the row sent
pub none_heavier : (r : Round) → Fine r → r.tail.sealed ≢ 1 → r.slot ≤ r.last → first_end r (plan r) < (goes r).due →
    All (λ y. y.due ≤ tight_after r (plan r) (substitute r (plan r) (goes r)).due → y.weight ≤ (goes r).weight) (plan r)
unfolding blank mark
none_heavier r f u o h =
    let p = goes r in
    let s = substitute r (plan r) p in
    all_of_in (λ y. y.due ≤ tight_after r (plan r) s.due → y.weight ≤ p.weight) (plan r) (λ y j k.
    no_heavier r f u o y j (elim (standing_in r p h) [
      | inl a ↦ omega (arith, ap (λ (z : Row). z.weight) a)
      | inr a ↦
          let oo = all_in (RowFine r) s r.rows f.fine a.0 in
          let v = all_in (λ x. (r.slot ≤ x.due) × (x.due ≤ r.last)) y (plan r) (plan_due r f) j in
          elim (leb? y.due (first_end r (plan r))) [
            | inl q ↦ omega (
              arith,
              first_weight r f y j q.1,
              outside_heavy r f s a.0 a.2,
              mark_falls r f r.slot s.due (omega arith) oo.due_from oo.due_by,
            )
            | inr q ↦
                let sy = start r (plan r) y.due (plan_feas r f) f.time v.0 in
                let ok : segment_start r (plan r) y.due ≤ s.due = elim (none_tight r f s.due y.due (tight_after r (plan r) s.due)
                (segment_start r (plan r) y.due) (next r (plan r) s.due oo.due_by (plan_full r f)) sy k oo.due_from) [
                  | inl z ↦ z
                  | inr z ↦ omega (arith, oo.due_from)
                ] in
                later_heaviest r y q.1 s a.0 ok a.2
          ]
    ]))

module _ (r : Round) (f : Fine r) (unsealed : r.tail.sealed ≢ 1) (o : r.slot ≤ r.last) (es : List StashEntry) (fs : List Row)
    (w : OwnSlot r es fs) (h : first_end r (plan r) < (goes r).due) where
  -- the rows after the step are those after the leap
  leap_sums : (μ : Row → ℕ) → sum μ (sent_rows r) ≡ sum μ (AfterLeap r (goes r) (substitute r (plan r) (goes r)))
  unfolding leapt
  leap_sums μ = rw (lt-leb (goes r).due (first_end r (plan r)) h) refl

  -- from the leap to the step
  made_of : LeapMade r (goes r) (substitute r (plan r) (goes r)) w.free w.rest → StepMade r es fs
  made_of u =
      let e = suc r.last in
      let p = goes r in
      let s = substitute r (plan r) p in
      let z = after_step r f o u.zs u.xs u.good (λ μ. u.sums μ ∙ sym (leap_sums μ)) in
      record {
        stash = z.stash;
        free = z.free;
        state = z.state;
        credit = w.credit + u.cost;
        raised = u.rise + u.pending;
        owed = omega (arith, w.owed, u.owed, z.counts);
        keeps = λ us d. z.keeps us (u.keeps us (w.keeps us d));
        lifts = λ κ fx. omega (arith, u.lifts κ fx, leap_sums (lift κ));
        bound = leap_bound (worth r.slot e fs) (worth r.slot e w.free) (worth (suc r.slot) e w.free) (worth (suc r.slot) e u.xs)
            (worth (suc r.slot) e z.free) w.credit p.weight s.weight (mark r r.slot) u.got u.given u.cost u.gain u.rise
            u.pending u.anchor u.mh w.bound (worth_time r f o w.free (held w.rest) w.split) u.worthy z.worthy u.balance
            u.anchored u.rise_most u.under u.pending_most u.first (picked_first fib_50 fib_51 pair_50 r f unsealed o)
            (picked_first fib_52 fib_53 pair_52 r f unsealed o);
      }

  -- the row sent waits
  leap_waits : In (goes r) r.rows → StepMade r es fs
  unfolding blank
  leap_waits ir =
      let p = goes r in
      let s = substitute r (plan r) p in
      let b = segment_start r (plan r) p.due in
      let i = goes_in r f o in
      let u = all_in (λ x. (r.slot ≤ x.due) × (x.due ≤ r.last)) p (plan r) (plan_due r f) i in
      let st = start r (plan r) p.due (plan_feas r f) f.time u.0 in
      let sp : SegmentStart r p b = record { inside = i; waits = ir; start = st; low = start_past r f o p h u.1 u.0; by = u.1 } in
      let sn = stands_from r f o p i in
      let out : (w : ℕ) → 1 ≤ w → w ≤ most_weight → s.weight < w → All (λ y. w ≤ y.weight → y.due < b) (outside r) = λ w a l k.
      subst (λ (z : ℕ). All (λ y. w ≤ y.weight → y.due < z) (outside r)) (stand_ins_later r p h) (sn.out w a l k) in
      let tp = none_heavier r f unsealed o h in
      elim (standing_in r p h) [
        | inl a ↦ made_of (subst (λ (z : Row). LeapMade r p z w.free w.rest) (sym a)
            (leap_to_blank r f o p b sp w.free w.rest w.split w.good
            (λ v x y k. out v x y (omega (arith, ap (λ (z : Row). z.weight) a)))
            (subst (λ (z : Row). All (λ y. y.due ≤ tight_after r (plan r) z.due → y.weight ≤ p.weight) (plan r)) a tp)))
        | inr a ↦ made_of (leap_to_row r f o p s b sp w.free w.rest w.split w.good out tp a.0 a.1 a.2)
      ]

  -- A LEAP: what goes in it is a row
  pub leap_step : StepMade r es fs
  unfolding is_ordinary
  leap_step =
      let c = planned_rows r f in
      let i = leap_goes r f o (planned r) c (lt-leb (goes r).due (first_end r (plan r)) h) in
      leap_waits (of_rows_in r f (planned r) c (goes r) i)

-- A STEP, ordinary or a leap
pub step_made : (r : Round) (f : Fine r) → r.tail.sealed ≢ 1 → r.slot ≤ r.last → (es : List StashEntry) (fs : List Row) → State r es fs → StepMade r es fs
step_made r f u o es fs st =
    let w = own_slot r f u o es fs st in
    elim (leb? (goes r).due (first_end r (plan r))) [
      | inl a ↦ ordinary_step r f u o es fs w a.1
      | inr a ↦ leap_step r f u o es fs w a.1
    ]
