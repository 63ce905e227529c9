-- `passes::look::look` meets its contract: the loop is `Looks`.
use native.Mathlib.Omega.{arith}
use Rattle.round.proofs.ReadLaws.{known}
use Rattle.passes.proofs.BestLaws.{look_start, look_notes}
use Rattle.passes.proofs.look.look.Goals as goal

pub loop-row-init : goal.loop-row-init
loop-row-init c = look_start _ _ _ _ (omega (arith, (known _ _ c.args.sound.now.ready).used))

pub loop-row-preserved-then-due-own : goal.loop-row-preserved-then-due-own
loop-row-preserved-then-due-own c =
    look_notes _ _ _ _ _ (omega arith) _ c.loop-row.invariant _ c.due_at-due.ensures c.requires
    (omega (arith, (known _ _ c.args.sound.now.ready).used)) _ _ c.weight_at-weight.ensures c.rank_at-rank.ensures c.if-due-own.true _ c.note-found.ensures
