-- `every::least_by` meets its contract. The invariant: the least weight of the rows passed.
use mathlib.Core.Path.{◌∙◌}
use Prim.Native.Nat.{◌<◌}
use native.Mathlib.Omega.{arith}
use lib.ListN.{length}
use borrow.Author.Tests.{le-leb, lt-leb}
use Rattle.rules.specs.Table.{round_in}
use Rattle.round.proofs.ReadLaws.{known}
use Rattle.every.proofs.EveryLaws.{least_start, least_step, least_end}
use Rattle.every.proofs.least_by.Goals as goal
use Rattle.every.proofs.least_by.Goals.{then-due_at-by, else-due_at-by}

pub loop-row-init : goal.loop-row-init
loop-row-init c = least_start _ _

pub loop-row-preserved : goal.loop-row-preserved
loop-row-preserved c =
    let row : c.loop-row.row < length (round_in c.args.sound.now.table.now).rows = omega (arith, (known _ _ c.args.sound.now.ready).used) in
    least_step _ _ _ _ _ _ _ row c.due_at.ensures c.weight_at-weight.ensures (elim c.if-due_at-by.branch [
      | then-due_at-by w ↦ rw (le-leb _ _ w.if-due_at-by.true) (w.low-is ∙ w.min-low.ensures)
      | else-due_at-by w ↦ rw (lt-leb _ _ w.if-due_at-by.false) w.low-is
    ]) c.loop-row.invariant

pub returns : goal.returns
returns c =
    least_end (round_in c.args.sound.now.table.now) _ _ _ (omega (arith, (known _ _ c.args.sound.now.ready).used)) c.loop-row.invariant
