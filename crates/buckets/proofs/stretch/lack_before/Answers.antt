-- `buckets::stretch::lack_before` meets its contract: the loop adds up the first counts.
use native.Mathlib.Omega.{arith}
use Rattle.buckets.proofs.StretchLaws.{sum_here, sum_more, sum_end}
use Rattle.buckets.proofs.stretch.lack_before.Goals as goal

pub overflow_add-sum : goal.overflow_add-sum
overflow_add-sum c = omega (arith, sum_here _ _ _ c.requires c.loop-count-test.true)

pub loop-count-preserved : goal.loop-count-preserved
loop-count-preserved c = sum_more _ _ _ c.requires c.loop-count-test.true _ c.loop-count.invariant

pub overflow_sub-result : goal.overflow_sub-result
overflow_sub-result c =
    let e = sum_end _ _ c.loop-count.count-index c.requires (omega arith) (omega (arith, c.loop-count-test.false)) in
    omega (arith, c.loop-count.invariant, e.0, e.1)

pub returns : goal.returns
returns c =
    let e = sum_end _ _ c.loop-count.count-index c.requires (omega arith) (omega (arith, c.loop-count-test.false)) in
    omega (arith, c.loop-count.invariant, e.0, e.1)
