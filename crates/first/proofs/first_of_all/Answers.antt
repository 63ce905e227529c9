-- `first::first_of_all` meets its contract: the loop is `Leads`.
use native.Mathlib.Omega.{arith}
use Rattle.round.proofs.ReadLaws.{known}
use Rattle.first.proofs.AllLaws.{first_alone, lead_start, lead_passes, lead_sees, lead_end}
use Rattle.first.proofs.first_of_all.Goals as goal
use Rattle.first.proofs.first_of_all.Goals.{then-due-first, else-due-first}

pub returns-then-used-eq1 : goal.returns-then-used-eq1
returns-then-used-eq1 c = first_alone _ (omega (arith, (known _ _ c.args.sound.now.ready).used, c.if-used-eq1.true))

pub loop-row-init : goal.loop-row-init
loop-row-init c = lead_start _ _ _ c.due_at-start.ensures c.key_at.ensures

pub loop-row-preserved : goal.loop-row-preserved
loop-row-preserved c =
    let n = known _ _ c.args.sound.now.ready in
    elim c.if-due-first.branch [
      | then-due-first w ↦
          rw w.first-is (lead_sees _ n.fine n.small n.cap _ (omega (arith, n.used)) _ c.loop-row.invariant _ c.due_at-due.ensures _
          w.key_at-key.ensures (omega arith) _ w.see-first.ensures)
      | else-due-first w ↦
          rw w.first-is (lead_passes _ n.fine n.small n.cap _ (omega (arith, n.used)) _ c.loop-row.invariant _ c.due_at-due.ensures
          (omega arith))
    ]

pub returns : goal.returns
returns c =
    let n = known _ _ c.args.sound.now.ready in
    lead_end _ n.fine n.small n.cap _ _ _ (omega arith) c.loop-row-test.false n.used c.loop-row.invariant _ c.row_of.ensures
