-- `marks::total::sum_all` meets its contract. The invariant: the sum is the weight of the rows passed.
use Prim.Native.Nat.{◌<◌}
use native.Mathlib.Omega.{arith}
use lib.ListN.{length}
use Rattle.rules.specs.Table.{round_in}
use Rattle.round.proofs.ReadLaws.{known}
use Rattle.marks.proofs.TotalLaws.{sum_step, sum_end}
use Rattle.marks.proofs.total.sum_all.Goals as goal

pub overflow_add-sum : goal.overflow_add-sum
overflow_add-sum c =
    let k = known _ _ c.args.sound.now.ready in
    omega (arith, c.loop-i.invariant.most, c.weight_at.ensures.most, c.from-sum.ensures, k.used, k.small)

pub loop-i-preserved : goal.loop-i-preserved
loop-i-preserved c =
    let row : c.loop-i.i < length (round_in c.args.sound.now.table.now).rows = omega (arith, (known _ _ c.args.sound.now.ready).used, c.loop-i-test.true) in
    sum_step _ _ _ _ row (rw c.from-sum.ensures c.weight_at.ensures) c.loop-i.invariant

pub returns : goal.returns
returns c = sum_end (round_in c.args.sound.now.table.now) _ _ (omega (arith, (known _ _ c.args.sound.now.ready).used)) c.loop-i.invariant
