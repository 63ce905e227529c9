-- `far::count_in` meets its contract. The invariant: the rows passed are counted.
use Prim.Native.Nat.{◌<◌}
use native.Mathlib.Omega.{arith}
use lib.ListN.{length}
use Rattle.rules.specs.Table.{round_in}
use Rattle.round.proofs.ReadLaws.{known}
use Rattle.far.proofs.FarLaws.{count_step, count_end}
use Rattle.far.proofs.count_in.Goals as goal

pub overflow_add-counts : goal.overflow_add-counts
overflow_add-counts c =
    let n = known _ _ c.args.sound.now.ready in omega (arith, c.loop-row.invariant.few c.bucket_in-b.result, n.used, n.small)

pub loop-row-preserved : goal.loop-row-preserved
loop-row-preserved c =
    let row : c.loop-row.row < length (round_in c.args.sound.now.table.now).rows = omega (arith, (known _ _ c.args.sound.now.ready).used) in
    count_step _ _ _ _ _ _ _ row c.requires.1 c.due_at.ensures c.bucket_in-b.ensures.0 c.loop-row.invariant

pub returns : goal.returns
returns c =
    count_end (round_in c.args.sound.now.table.now) _ _ _ _ (omega (arith, (known _ _ c.args.sound.now.ready).used)) c.requires.1
    c.loop-row.invariant
