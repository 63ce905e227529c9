-- An ordinary step of an unsealed round: the row sent is a blank, held by the rival, or free.
use Rattle.std.specs.Prelude.{◌≡◌, refl, ◌≢◌, List, ◌∷◌}
use Rattle.std.proofs.Common.{ap, ◌∙◌, inl, inr, le-leb}
use Prim.Native.Nat.{ℕ, suc, ◌+◌, ◌*◌, ◌-◌, ◌≤◌, ◌<◌}
use native.Mathlib.Omega.{arith}
use Rattle.rules.specs.Limits.{most_weight}
use Rattle.rules.specs.Rows.{All, In, Round, Row}
use Rattle.rules.specs.Plan.{first_end, mark, plan, substitute}
use Rattle.rules.specs.Steps.{goes, without}
use Rattle.theory.specs.Sum.{sum}
use Rattle.theory.specs.All.{all_in, blank_ticket, blank_weight}
use Rattle.theory.specs.Full.{Fine, plan_due, plan_member}
use Rattle.theory.specs.Marks.{box}
use Rattle.theory.specs.Change.{in_sum, rising_first, without_none, without_sum}
use Rattle.theory.specs.Turn.{goes_in}
use Rattle.theory.specs.Calls.{sent_rows}
use Rattle.theory.specs.Totals.{sum_to_add, sum_to_le}
use Rattle.theory.specs.Score.{Bounded, plan_bounded}
use Rattle.theory.specs.Substitute.{first_weight}
use Rattle.theory.specs.MarksFall.{first_mark, mark_reaches}
use Rattle.hindsight.specs.Tails.{LatestBy, latest, none_by, none_past}
use Rattle.hindsight.specs.Occurs.{part_in, pull}
use Rattle.hindsight.specs.Worth.{rank, up_to, up_to_sum, worth}
use Rattle.hindsight.specs.Passing.{rank_ordinary, rank_ordinary_held}
use Rattle.hindsight.specs.Fibonacci.{fib_51, fib_52, fib_53, fib_54}
use Rattle.hindsight.specs.Picked.{no_heavier}
use Rattle.hindsight.specs.Stash.{StashEntry, give_up, held}
use Rattle.hindsight.specs.Step.{OwnSlot, StepMade, after_step, lift, split_either, worth_time}

-- the sum of such a step, in numbers: v are worths, c what was paid, p, s and m the weights of row, substitute and first mark
free_bound : (v0 v1 v2 v3 c p s m : ℕ) → fib_52 * v0 + fib_53 * c ≤ fib_52 * v1 + fib_51 * p + fib_52 * s → v1 ≤ v2 + p → v2 ≤ v3 → s ≡ m → m ≤ p →
    fib_52 * v0 + fib_53 * c + fib_54 * 0 ≤ fib_52 * v3 + fib_54 * p
free_bound v0 v1 v2 v3 c p s m a b d e h = omega arith

-- and with a row of weight g given up
held_bound : (v0 v1 v2 v3 c p s m g : ℕ) → fib_52 * v0 + fib_53 * c ≤ fib_52 * v1 + fib_51 * p + fib_52 * s → v1 + g ≤ v2 + p + m → v2 ≤ v3 → s ≡ m →
    m ≤ p → g ≤ p → m ≤ g → fib_52 * v0 + fib_53 * (c + (g - m)) + fib_54 * 0 ≤ fib_52 * v3 + fib_54 * p
held_bound v0 v1 v2 v3 c p s m g a b d e h i j = omega arith

module _ (r : Round) (f : Fine r) (unsealed : r.tail.sealed ≢ 1) (o : r.slot ≤ r.last) (es : List StashEntry) (fs : List Row)
    (w : OwnSlot r es fs) (h : (goes r).due ≤ first_end r (plan r)) where
  -- the row sent is a member
  sent_in : In (goes r) (plan r)
  sent_in = goes_in r f o

  -- it weighs the first mark at least
  sent_mark : mark r r.slot ≤ (goes r).weight
  sent_mark = first_mark r f (goes r) sent_in h

  -- and its substitute weighs the first mark
  sent_substitute : (substitute r (plan r) (goes r)).weight ≡ mark r r.slot
  sent_substitute = first_weight r f (goes r) sent_in h

  -- the rows after the step are those without the row sent
  without_sent : (μ : Row → ℕ) → sum μ (sent_rows r) ≡ sum μ (without (goes r).ticket r.rows)
  without_sent μ = rw (le-leb (goes r).due (first_end r (plan r)) h) refl

  -- where it has no ticket, those are all
  none_gone : (goes r).ticket ≡ 0 → (μ : Row → ℕ) → sum μ (sent_rows r) ≡ sum μ r.rows
  none_gone t μ =
      without_sent μ
      ∙ ap (λ (l : List Row). sum μ l) (ap (λ (k : ℕ). without k r.rows) t ∙ without_none 1 r.next 0 r.rows (omega arith) f.rising)

  -- where it waits, all but it
  one_gone : In (goes r) r.rows → (μ : Row → ℕ) → sum μ (sent_rows r) + μ (goes r) ≡ sum μ r.rows
  one_gone i μ =
      omega (arith, without_sent μ, without_sum μ (goes r) r.rows (rising_first 1 r.next (goes r) r.rows f.rising i))

  -- a blank is sent
  blank_sent : (goes r).weight ≤ 0 → (goes r).ticket ≡ 0 → StepMade r es fs
  blank_sent wz tz =
      let z = after_step r f o w.rest w.free w.good (λ μ. omega (arith, w.split.whole μ, none_gone tz μ)) in
      record {
        stash = z.stash;
        free = z.free;
        state = z.state;
        credit = w.credit;
        raised = 0;
        owed = omega (arith, w.owed, z.counts);
        keeps = λ us d. z.keeps us (w.keeps us d);
        lifts = λ κ fx. omega (arith, none_gone tz (lift κ));
        bound = omega (arith, w.bound, z.worthy, worth_time r f o w.free (held w.rest) w.split, sent_mark, sent_substitute);
      }

  -- the rival holds the row sent: it is owed the first mark instead
  held_sent : In (goes r) r.rows → In (goes r) (held w.rest) → StepMade r es fs
  unfolding first_end
  held_sent i hp =
      let p = goes r in
      let m = mark r r.slot in
      let u = all_in (λ x. (r.slot ≤ x.due) × (x.due ≤ r.last)) p (plan r) (plan_due r f) sent_in in
      let q = give_up r f p m (mark_reaches r f r.slot p.due o u.0 h) sent_mark u.1 (suc r.slot) w.rest (omega arith) hp w.good in
      let z = after_step r f o q.stash w.free q.good (λ μ. omega (arith, w.split.whole μ, q.sums μ, one_gone i μ)) in
      record {
        stash = z.stash;
        free = z.free;
        state = z.state;
        credit = w.credit + (p.weight - m);
        raised = 0;
        owed = omega (arith, w.owed, z.counts, q.counts, sent_mark);
        keeps = λ us d. z.keeps us (q.keeps us (w.keeps us d));
        lifts = λ κ fx. omega (arith, one_gone i (lift κ));
        bound = omega (arith, w.bound, z.worthy, worth_time r f o w.free (held w.rest) w.split, sent_mark, sent_substitute);
      }

  -- the row sent is free, and nothing is held in the first segment
  free_alone : In (goes r) r.rows → (xs : List Row) → ((μ : Row → ℕ) → sum μ xs + μ (goes r) ≡ sum μ w.free) →
      All (λ x. first_end r (plan r) < x.due) (held w.rest) → StepMade r es fs
  unfolding first_end worth
  free_alone i xs pu n =
      let p = goes r in
      let e = suc r.last in
      let t = r.slot in
      let z = after_step r f o w.rest xs w.good (λ μ. omega (arith, w.split.whole μ, pu μ, one_gone i μ)) in
      let v : worth t e w.free ≤ worth (suc t) e xs + p.weight =
      omega (
        arith,
        sum_to_le most_weight (λ v. rank v t e w.free) (λ v. rank v (suc t) e xs + up_to p.weight v) (λ v x y.
            rank_ordinary r f w.free (held w.rest) w.split v x y o p xs h sent_mark (λ s. pu (box v s e))
            (λ s. none_by (first_end r (plan r)) (held w.rest) n v s)),
        sum_to_add most_weight (λ v. rank v (suc t) e xs) (up_to p.weight),
        up_to_sum p.weight most_weight,
        all_in Bounded p (plan r) (plan_bounded r f) sent_in,
      ) in
      record {
        stash = z.stash;
        free = z.free;
        state = z.state;
        credit = w.credit;
        raised = 0;
        owed = omega (arith, w.owed, z.counts);
        keeps = λ us d. z.keeps us (w.keeps us d);
        lifts = λ κ fx. omega (arith, one_gone i (lift κ));
        bound = free_bound (worth t e fs) (worth t e w.free) (worth (suc t) e xs) (worth (suc t) e z.free) w.credit p.weight
            (substitute r (plan r) p).weight (mark r t) w.bound v z.worthy sent_substitute sent_mark;
      }

  -- the row sent is free, and g is the latest row held in the first segment: it is given up for the first mark
  free_beside : In (goes r) r.rows → (xs : List Row) → ((μ : Row → ℕ) → sum μ xs + μ (goes r) ≡ sum μ w.free) →
      (g : Row) → In g (held w.rest) → g.due ≤ first_end r (plan r) → LatestBy (first_end r (plan r)) g.due (held w.rest) → StepMade r es fs
  unfolding mark first_end worth
  free_beside i xs pu g j d lat =
      let p = goes r in
      let e = suc r.last in
      let t = r.slot in
      let m = mark r t in
      let gp : In g (plan r) = part_in (held w.rest) (plan r) w.split.inside g j in
      let gm : m ≤ g.weight = first_mark r f g gp d in
      let gw : g.weight ≤ p.weight = no_heavier r f unsealed o g gp (omega (arith, sent_substitute, first_weight r f g gp d)) in
      let u = all_in (λ x. (r.slot ≤ x.due) × (x.due ≤ r.last)) g (plan r) (plan_due r f) gp in
      let q = give_up r f g m (mark_reaches r f t g.due o u.0 d) gm u.1 (suc t) w.rest (omega arith) j w.good in
      let z = after_step r f o q.stash (g ∷ xs) q.good (λ μ. omega (arith, w.split.whole μ, pu μ, q.sums μ, one_gone i μ)) in
      let pl : p.weight ≤ most_weight = all_in Bounded p (plan r) (plan_bounded r f) sent_in in
      let v : worth t e w.free + g.weight ≤ worth (suc t) e (g ∷ xs) + p.weight + m =
      omega (
        arith,
        sum_to_le most_weight (λ v. rank v t e w.free + up_to g.weight v)
            (λ v. rank v (suc t) e (g ∷ xs) + up_to p.weight v + up_to m v) (λ v x y.
            rank_ordinary_held r f w.free (held w.rest) w.split v x y o p g (g ∷ xs) h gm gw u.0 d u.1
            (λ μ. in_sum μ g (held w.rest) j) (λ s. omega (arith, pu (box v s e)))
            (λ s l. none_past (first_end r (plan r)) g.due (held w.rest) lat v s l)),
        sum_to_add most_weight (λ v. rank v t e w.free) (up_to g.weight),
        sum_to_add most_weight (λ v. rank v (suc t) e (g ∷ xs) + up_to p.weight v) (up_to m),
        sum_to_add most_weight (λ v. rank v (suc t) e (g ∷ xs)) (up_to p.weight),
        up_to_sum p.weight most_weight,
        up_to_sum g.weight most_weight,
        up_to_sum m most_weight,
      ) in
      record {
        stash = z.stash;
        free = z.free;
        state = z.state;
        credit = w.credit + (g.weight - m);
        raised = 0;
        owed = omega (arith, w.owed, z.counts, q.counts, gm);
        keeps = λ us d. z.keeps us (q.keeps us (w.keeps us d));
        lifts = λ κ fx. omega (arith, one_gone i (lift κ));
        bound = held_bound (worth t e fs) (worth t e w.free) (worth (suc t) e (g ∷ xs)) (worth (suc t) e z.free) w.credit p.weight
            (substitute r (plan r) p).weight m g.weight w.bound v z.worthy sent_substitute sent_mark gw gm;
      }

  -- the row sent is free
  free_sent : In (goes r) r.rows → In (goes r) w.free → StepMade r es fs
  free_sent i fp =
      let q = pull (goes r) w.free fp in
      elim (latest (first_end r (plan r)) (held w.rest)) [
        | inl n ↦ free_alone i q.0 q.1 n
        | inr x ↦ free_beside i q.0 q.1 x.0 x.1 x.2 x.3
      ]

  -- AN ORDINARY STEP
  pub ordinary_step : StepMade r es fs
  ordinary_step =
      let p = goes r in
      elim (plan_member r p sent_in) [
        | inl a ↦ elim (split_either r w.free (held w.rest) w.split p a) [ inl b ↦ free_sent a b | inr b ↦ held_sent a b ]
        | inr a ↦ blank_sent (omega (arith, blank_weight p a.0)) (blank_ticket p a.0)
      ]
