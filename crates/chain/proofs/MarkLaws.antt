-- Marks: the least from the first segment on, and that these are the plan's.
use mathlib.Core.Path.{◌≡◌, sym, ap}
use mathlib.Core.List.{List}
use Prim.Native.Nat.{ℕ, zero, suc, ◌+◌, ◌-◌, ◌≤◌, ◌<◌, min}
use native.Mathlib.Omega.{arith}
use borrow.Author.Tests.{eq-eqb, ne_eqb}
use lib.ListN.{length, get_or}
use Rattle.rules.specs.Rows.{Round}
use Rattle.rules.specs.Plan.{mark}
use Rattle.theory.specs.Full.{Fine}
use Rattle.picture.proofs.LeapMarks.{mark_first, mark_next}
use Rattle.chain.specs.Chain.{Pieces, start_of, Lowered, Marked}

-- A PASS with segment k next
pub record Lowering (n to : ℕ) (ls us : List ℕ) (k : ℕ) : Type 0 where
  pub size : length us ≡ length ls
  pub by : to ≤ k
  pub under : k < n
  pub rest : (j : ℕ) → j < k → get_or us j 0 ≡ get_or ls j 0
  pub first : get_or us (n - 1) 0 ≡ get_or ls (n - 1) 0
  pub next : (j : ℕ) → k ≤ j → suc j < n → get_or us j 0 ≡ min (get_or us (suc j) 0) (get_or ls j 0)

-- THE FIRST SLOT of the first segment, and of a later one
pub start_first : (t n : ℕ) (es : List ℕ) (k : ℕ) → suc k ≡ n → start_of t n es k ≡ t
start_first t n es k e = rw (eq-eqb (suc k) n e)

pub start_later : (t n : ℕ) (es : List ℕ) (k : ℕ) → suc k < n → start_of t n es k ≡ suc (get_or es (suc k) 0)
start_later t n es k h = rw (ne_eqb (suc k) n (λ e. omega (arith, e, h)))

-- each segment ends before the one behind it, so numbers are small
pub number_fits : (r : Round) (n : ℕ) (es ts ls : List ℕ) → Pieces r n es ts ls → (k : ℕ) → k < n → get_or es k 0 + k ≤ get_or es 0 0
number_fits r n es ts ls p zero h = omega arith
number_fits r n es ts ls p (suc k) h =
    let q = (p.piece k (omega arith)).spans in
    omega (arith, number_fits r n es ts ls p k (omega arith), q.by, start_later r.slot n es k h)

-- THE LEAST SO FAR ARE THE MARKS
module _ (r : Round) (f : Fine r) (n to : ℕ) (es ts ls us : List ℕ) (p : Pieces r n es ts ls) (l : Lowered n to ls us) where
  mark_from : (j k : ℕ) → to ≤ k → k < n → n ≡ suc (k + j) → get_or us k 0 ≡ mark r (get_or es k 0)
  mark_from zero k h i e =
      let q = p.piece k i in
      let s : suc k ≡ n = omega arith in
      let d : n - 1 ≡ k = omega arith in
      omega (
        arith,
        ap (λ (x : ℕ). get_or us x 0) d,
        ap (λ (x : ℕ). get_or ls x 0) d,
        l.first,
        q.weight,
        mark_first r f (start_of r.slot n es k) (get_or es k 0) q.spans q.low q.least (start_first r.slot n es k s),
      )
  mark_from (suc j) k h i e =
      let q = p.piece k i in
      let s : suc k < n = omega arith in
      let q2 = p.piece (suc k) s in
      omega (
        arith,
        l.next k h s,
        mark_from j (suc k) (omega arith) s (omega arith),
        q.weight,
        mark_next r f (start_of r.slot n es k) (get_or es k 0) q.spans q.low q.least (start_of r.slot n es (suc k)) (get_or es (suc k) 0)
            q2.spans
            (sym (start_later r.slot n es k s)),
      )

  -- each is some row's weight
  some_from : (j k : ℕ) → to ≤ k → k < n → n ≡ suc (k + j) → 1 ≤ get_or us k 0
  some_from zero k h i e =
      let d : n - 1 ≡ k = omega arith in
      omega (arith, ap (λ (x : ℕ). get_or us x 0) d, ap (λ (x : ℕ). get_or ls x 0) d, l.first, (p.piece k i).some)
  some_from (suc j) k h i e =
      let s : suc k < n = omega arith in omega (arith, l.next k h s, some_from j (suc k) (omega arith) s (omega arith), (p.piece k i).some)

  pub mark_some : (k : ℕ) → to ≤ k → k < n → 1 ≤ get_or us k 0
  mark_some k h i = some_from (n - suc k) k h i (omega (arith, i))

  pub marked : Marked r n to es us
  marked =
      record {
        long = omega (arith, l.size, p.lows);
        mark = λ k h i. mark_from (n - suc k) k h i (omega (arith, i));
      }

-- THE SEGMENT OF A SLOT, walked to
pub record Walking (es : List ℕ) (own d k : ℕ) : Type 0 where
  pub by : k ≤ own
  pub behind : k < own → get_or es (suc k) 0 < d
