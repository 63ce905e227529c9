-- The invariant of the analysis, and that taking and sending keep it in an unsealed round.
-- A rival books a slot for each frame that it chooses. Its stash holds such a frame while the plan has it, and is owed a number after
-- that; what this loses it is paid at once. The potential is what the other waiting rows, the free ones, are worth. Each step that sends a
-- row of weight p, raises weights by m and pays c keeps c + φ m at most φ p and 1 / φ of what the potential gains, with neighbours in
-- Fibonacci's sequence for φ. In the end stash and potential are empty, so the rival was paid for all its frames.
use Rattle.std.specs.Prelude.{◌≡◌, ◌≢◌, Bool, true, false, cond, List, [], ◌∷◌, ℕ, zero, suc, ◌+◌, ◌*◌, ◌-◌, ◌≤◌, ◌<◌, leb, eqb}
use Rattle.std.proofs.Math.Path.{refl}
use Rattle.std.proofs.Common.{ap, inl, inr, eq-eqb, ne_eqb}
use native.Mathlib.Omega.{arith}
use Rattle.rules.specs.Limits.{most_weight}
use Rattle.rules.specs.Rows.{Round, Row, round, row, Frame, Setup}
use Rattle.rules.specs.Steps.{goes, opened, sent, still_due, taken, taken_row}
use Rattle.rules.specs.Calls.{silence, frame, kept_blank, out_of}
use Rattle.rules.specs.Demands.{member}
use Rattle.rules.specs.Hindsight.{counts_for, noted}
use Rattle.theory.specs.Tests.{either}
use Rattle.theory.specs.Sum.{sum, sum_append, sum_le}
use Rattle.theory.specs.Full.{Fine, Rising}
use Rattle.theory.specs.Calls.{Takes, sent_rows, taken_fine, taken_stays}
use Rattle.theory.specs.Totals.{sum_to_le, sum_to_zero}
use Rattle.theory.specs.Back.{rising_le}
use Rattle.theory.specs.Marks.{box_empty}
use Rattle.hindsight.specs.Worth.{rank, rank_le, worth, worth_more}
use Rattle.hindsight.specs.Fibonacci.{fib_52, fib_53, fib_54}
use Rattle.hindsight.specs.Stash.{StashEntry, Good, Idle, claims, good_stays, held, hold, idle, owe}
use Rattle.hindsight.specs.Settling.{State, settle}
use Rattle.hindsight.specs.Step.{Fixed, from_on, lift, still_sum}
use Rattle.hindsight.specs.LeapStep.{step_made}
use Rattle.hindsight.specs.Booking.{book}

-- what a waiting row counts for in S once it goes out, with f the first weights by ticket
unfoldable pub counted : (ℕ → ℕ) → Row → ℕ
counted f x = counts_for f (out_of x)

-- ticket and tail decide it
pub counted_fixed : (f : ℕ → ℕ) → Fixed (counted f)
unfolding counted out_of
counted_fixed f x y a b = rw (a, b) refl

-- HOW IT STANDS in an unsealed round: the rival has booked the slots us for frames of weight o in all, and s has been sent
pub record Account (r : Round) (f : ℕ → ℕ) (us : List ℕ) (s o : ℕ) : Type 0 where
  pub unsealed : r.tail.sealed ≢ 1
  pub stash : List StashEntry
  pub free : List Row
  pub state : State r stash free
  pub idles : Idle us r.slot stash
  -- weights sent, weights raised by leaps, and what the rival was paid
  pub went : ℕ
  pub raised : ℕ
  pub credit : ℕ
  pub potential : fib_53 * credit + fib_54 * raised ≤ fib_52 * worth r.slot (suc r.last) free + fib_54 * went
  pub budget : went + sum (lift (counted f)) r.rows ≤ s + raised
  pub covers : o ≤ credit + claims stash

-- a frame just taken counts for its weight
pub new_lift : (f : ℕ → ℕ) (k : ℕ) (n : Frame) → 1 ≤ k → lift (counted (noted k n.weight f)) (taken_row k n) ≡ 0
unfolding counted out_of counts_for noted row
new_lift f k n h = rw (ne_eqb k 0 (λ z. omega (arith, z)), eq-eqb k k refl) (omega arith)

-- one of another ticket for as much as before
pub old_lift : (f : ℕ → ℕ) (k w : ℕ) (x : Row) → x.ticket < k → lift (counted (noted k w f)) x ≡ lift (counted f) x
unfolding counted out_of counts_for noted
old_lift f k w x h = by_kind (eqb x.ticket 0) (eqb x.tail.kind 0)
  where
    by_kind : (a b : Bool) →
        x.weight - counts_for (noted k w f) (cond a silence (cond b (frame x.ticket) (kept_blank x.ticket)))
        ≡ x.weight - counts_for f (cond a silence (cond b (frame x.ticket) (kept_blank x.ticket)))
    by_kind true b = refl
    by_kind false true = rw (ne_eqb x.ticket k (λ z. omega (arith, z))) refl
    by_kind false false = refl

-- so do all that waited
pub old_lifts : (f : ℕ → ℕ) (w a k : ℕ) (xs : List Row) → Rising a k xs → sum (lift (counted (noted k w f))) xs ≡ sum (lift (counted f)) xs
old_lifts f w a k [] s = refl
old_lifts f w a k (x ∷ xs) s =
    omega (arith, old_lift f k w x (rising_le (suc x.ticket) k xs s.1), old_lifts f w (suc x.ticket) k xs s.1)

-- A FRAME IS TAKEN
module _ (r : Round) (f : Fine r) (g : ℕ → ℕ) (us : List ℕ) (s o : ℕ) (n : Frame) (k : Takes r n) (y : Account r g us s o) where
  -- the budget stays
  taken_budget : y.went + sum (lift (counted (noted r.next n.weight g))) (taken r n).rows ≤ s + y.raised
  unfolding taken round
  taken_budget =
      omega (
        arith,
        y.budget,
        sum_append (lift (counted (noted r.next n.weight g))) r.rows (taken_row r.next n ∷ []),
        old_lifts g n.weight 1 r.next r.rows f.rising,
        new_lift g r.next n (rising_le 1 r.next r.rows f.rising),
      )

  -- the rival leaves it
  pub take_left : Account (taken r n) (noted r.next n.weight g) us s o
  unfolding taken round
  take_left =
      let x = taken_row r.next n in
      let z = settle (taken r n) (taken_fine r f n k) y.stash (x ∷ y.free)
      (good_stays r (taken r n) refl r.slot r.slot y.stash (omega arith) (λ v i j. (taken_stays v r f n k).2 i j) y.state.good)
      (λ μ. omega (arith, y.state.split.whole μ, sum_append μ r.rows (x ∷ []))) in
      record {
        unsealed = y.unsealed;
        stash = z.stash;
        free = z.free;
        state = z.state;
        idles = z.keeps us y.idles;
        went = y.went;
        raised = y.raised;
        credit = y.credit;
        potential = omega (arith, y.potential, worth_more r.slot (suc r.last) y.free z.free f.time (λ μ. omega (arith, z.more μ)));
        budget = taken_budget;
        covers = omega (arith, y.covers, z.counts);
      }

  -- the rival books slot v for it
  pub take_booked : (v : ℕ) → r.slot ≤ v → v ≤ n.due → member v us ≡ false → Account (taken r n) (noted r.next n.weight g) (v ∷ us) s (o + n.weight)
  unfolding taken round row
  take_booked v a b e =
      let x = taken_row r.next n in
      let q = book r x us v r.slot y.stash a b k.by e y.idles y.state.good in
      let z = settle (taken r n) (taken_fine r f n k) q.stash y.free
      (good_stays r (taken r n) refl r.slot r.slot q.stash (omega arith) (λ u i j. (taken_stays u r f n k).2 i j) q.good)
      (λ μ. omega (arith, y.state.split.whole μ, q.sums μ, sum_append μ r.rows (x ∷ []))) in
      record {
        unsealed = y.unsealed;
        stash = z.stash;
        free = z.free;
        state = z.state;
        idles = z.keeps (v ∷ us) q.idles;
        went = y.went;
        raised = y.raised;
        credit = y.credit;
        potential = omega (arith, y.potential, worth_more r.slot (suc r.last) y.free z.free f.time (λ μ. omega (arith, z.more μ)));
        budget = taken_budget;
        covers = omega (arith, y.covers, z.counts, q.counts);
      }

-- rows that leave take their measure along
pub still_less : (μ : Row → ℕ) (t : ℕ) (xs : List Row) → sum μ (still_due t xs) ≤ sum μ xs
still_less μ t xs = omega (arith, still_sum μ t xs, sum_le (from_on t μ) μ (λ x. less x) xs)
  where
    less : (x : Row) → from_on t μ x ≤ μ x
    less x = elim (either (leb t x.due)) [ inl e ↦ rw e (omega arith) | inr e ↦ rw e (omega arith) ]

-- A SLOT IS SENT
pub send_on : (r : Round) (f : Fine r) → r.slot ≤ r.last → (g : ℕ → ℕ) (us : List ℕ) (s o : ℕ) → Account r g us s o →
    Account (sent r) g us (s + counted g (goes r)) o
unfolding sent round
send_on r f t g us s o y =
    let u = step_made r f y.unsealed t y.stash y.free y.state in
    record {
      unsealed = y.unsealed;
      stash = u.stash;
      free = u.free;
      state = u.state;
      idles = u.keeps us y.idles;
      went = y.went + (goes r).weight;
      raised = y.raised + u.raised;
      credit = y.credit + u.credit;
      potential = omega (arith, y.potential, u.bound);
      budget = omega (
        arith,
        y.budget,
        u.lifts (counted g) (counted_fixed g),
        still_less (lift (counted g)) (suc r.slot) (sent_rows r),
      );
      covers = omega (arith, y.covers, u.owed);
    }

-- past the last slot rows are worth nothing
pub no_worth : (e : ℕ) (xs : List Row) → worth e e xs ≡ 0
unfolding worth
no_worth e xs =
    omega (
      arith,
      sum_to_le most_weight (λ w. rank w e e xs) (λ w. 0) (λ w a b. omega (arith, rank_le w e e xs e (omega arith) (omega arith), box_empty w e e (omega arith) xs)),
      sum_to_zero most_weight,
    )

-- THE END: what the rival booked against what was sent
pub at_end : (r : Round) → Fine r → r.last < r.slot → (g : ℕ → ℕ) (us : List ℕ) (s o : ℕ) → Account r g us s o → fib_53 * o ≤ fib_54 * s
at_end r f h g us s o y =
    let e : r.slot ≡ suc r.last = omega (arith, f.time) in
    let z = no_worth (suc r.last) y.free in
    let q : worth r.slot (suc r.last) y.free ≡ worth (suc r.last) (suc r.last) y.free = ap (λ (t : ℕ). worth t (suc r.last) y.free) e in
    omega (arith, y.potential, y.budget, y.covers, nothing r.slot y.stash y.state.good h)
  where
    nothing : (t : ℕ) (es : List StashEntry) → Good r t es → r.last < t → claims es ≡ 0
    nothing t [] g l = refl
    nothing t (idle ∷ es) g l = absurd (omega (arith, g.0))
    nothing t (owe m ∷ es) g l = absurd (omega (arith, g.0))
    nothing t (hold x m ∷ es) g l = absurd (omega (arith, g.0))

-- an empty stash, of n slots
abbrev pub all_idle : ℕ → List StashEntry
all_idle zero = []
all_idle (suc n) = idle ∷ all_idle n

-- it holds nothing
pub all_idle_holds : (n : ℕ) → held (all_idle n) ≡ []
all_idle_holds zero = refl
all_idle_holds (suc n) = all_idle_holds n

-- it is good
pub all_idle_good : (r : Round) (n s : ℕ) → s + n ≡ suc r.last → Good r s (all_idle n)
all_idle_good r zero s e = omega arith
all_idle_good r (suc n) s e = (omega arith, all_idle_good r n (suc s) (omega arith))

-- and idle
pub all_idle_idle : (n s : ℕ) → Idle [] s (all_idle n)
all_idle_idle zero s = tt
all_idle_idle (suc n) s = (λ b. refl, all_idle_idle n (suc s))

-- THE START: a round just opened
pub opened_account : (f : ℕ → ℕ) (u : Setup) (k : ℕ) → Account (opened u k) f [] 0 0
unfolding opened round
opened_account f u k =
    record {
      unsealed = λ e. omega (arith, e);
      stash = all_idle (suc u.last);
      free = [];
      state = record {
        good = all_idle_good (opened u k) (suc u.last) 0 (omega arith);
        split = record {
          whole = λ μ. omega (arith, ap (sum μ) (all_idle_holds (suc u.last)));
          inside = λ μ. omega (arith, ap (sum μ) (all_idle_holds (suc u.last)));
        };
      };
      idles = all_idle_idle (suc u.last) 0;
      went = 0;
      raised = 0;
      credit = 0;
      potential = omega arith;
      budget = omega arith;
      covers = omega arith;
    }
