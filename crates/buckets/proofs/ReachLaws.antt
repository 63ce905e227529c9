-- What the counts say of the round.
use mathlib.Core.Path.{◌≡◌, sym, subst}
use mathlib.Core.Logic.{◌⊎◌, inl, inr}
use mathlib.Core.List.{List}
use Prim.Native.Nat.{ℕ, zero, suc, ◌+◌, ◌-◌, ◌/◌, ◌≤◌}
use native.Mathlib.Omega.{arith}
use lib.ListN.{length, get_or}
use Rattle.rules.specs.Rows.{Round}
use Rattle.rules.specs.Table.{round_in}
use Rattle.theory.specs.Tests.{leb?}
use Rattle.theory.specs.Sum.{sum}
use Rattle.theory.specs.Count.{in_bucket, counts_next, counts_none, counts_all, Sweep, sweep_near, sweep_none}
use Rattle.round.specs.Rows.{Ready, top_of}
use Rattle.round.specs.Buckets.{Counted}
use Rattle.round.proofs.ReadLaws.{known}
use Rattle.sorts.specs.declared.Round.{Round as Head}
use Rattle.buckets.specs.Reach.{before, head_top, upto, Multiples, ReachSays, Reaches}
use Rattle.buckets.specs.declared.Reach.{Reach}

-- sums of counts are counts below a bucket
pub count_rows : (r : Round) (cs : List ℕ) → Counted r cs → (v : ℕ) → v ≤ top_of r → get_or cs v 0 / 2048 ≡ sum (in_bucket r.slot (top_of r) v) r.rows
count_rows r cs c v h = omega (arith, c.count v h)

pub upto_is : (r : Round) (cs : List ℕ) → Counted r cs → (s : ℕ) → s ≤ suc (top_of r) → upto s cs ≡ before r r.rows s
upto_is r cs c zero h = sym (counts_none r.slot (top_of r) r.rows)
upto_is r cs c (suc s) h =
    omega (arith, upto_is r cs c s (omega arith), count_rows r cs c s (omega arith), counts_next r.slot (top_of r) s r.rows)

pub top_is : (t : List ℕ) (h : Head) → Ready t h → head_top h ≡ top_of (round_in t)
top_is t h k = let n = known t h k in omega (arith, n.used, n.slot, n.last)

-- THE COUNTS of a table's rows
pub multiples : (t : List ℕ) (h : Head) (cs : List ℕ) → Ready t h → Counted (round_in t) cs → Multiples cs (head_top h)
multiples t h cs k c =
    let r = round_in t in
    let n = known t h k in
    subst (λ (v : ℕ). Multiples cs v) (sym (top_is t h k)) (record {
      enough = c.enough;
      small = omega (arith, n.small);
      count = λ v l. omega (arith, c.count v l);
      few = omega (arith, upto_is r cs c (suc (top_of r)) (omega arith), counts_all r.slot (top_of r) r.rows, n.small);
    })

-- two counts that agree sweep alike
pub sweep_same : (F G : ℕ → ℕ) (m q z : ℕ) → ((s : ℕ) → s ≤ m → F s ≡ G s) → Sweep F m 0 q z → Sweep G m 0 q z
sweep_same F G m q z h w =
    record {
      low = w.low;
      high = w.high;
      level = omega (arith, w.level, w.high, h z w.high, h 0 (omega arith));
      full = λ v a b. omega (arith, w.full v a b, h v (omega (arith, b, w.high)), h z w.high);
      free = λ u a b. omega (arith, w.free u a b, h (suc u) b, h z w.high);
    }

-- WHAT IT SAYS of the round
pub enough : (r : Round) → r.slot ≤ r.last → (top_of r ≡ length r.rows) ⊎ (r.slot + top_of r ≡ r.last)
enough r o = elim (leb? (length r.rows) (r.last - r.slot)) [ inl a ↦ inl (omega (arith, a.1)) | inr a ↦ inr (omega (arith, a.1)) ]

pub reaches : (t : List ℕ) (h : Head) (cs : List ℕ) (x : Reach) → Ready t h → Counted (round_in t) cs → ReachSays cs (head_top h) x → Reaches (round_in t) x
reaches t h cs x k c s =
    let r = round_in t in
    let n = known t h k in
    let d = top_is t h k in
    let w = sweep_same (λ v. upto v cs) (before r r.rows) (suc (top_of r)) x.over x.free (upto_is r cs c) (rw d at s).sweep in
    let o = enough r n.time in
    let m : r.slot + top_of r ≤ r.last = omega (arith, n.time) in
    record {
      sweep = w;
      near = sweep_near r n.fine (top_of r) x.over x.free m o w;
      fits = sweep_none r n.fine (top_of r) x.over x.free m o w;
    }
