-- `every::lightest_by` meets its contract. The invariant: the greatest key of the rows passed.
use mathlib.Core.Path.{◌∙◌}
use native.Mathlib.Omega.{arith}
use borrow.Author.Rules.{rules}
use borrow.Author.Tests.{le-leb, lt-leb}
use Rattle.rules.specs.Table.{round_in}
use Rattle.round.proofs.ReadLaws.{known}
use Rattle.every.proofs.EveryLaws.{lightest_step, lightest_end}
use Rattle.every.proofs.lightest_by.Goals as goal
use Rattle.every.proofs.lightest_by.Goals.{then-due-by, else-due-by}

pub key_of-key-requires : goal.key_of-key-requires
key_of-key-requires c =
    let n = known _ _ c.args.sound.now.ready in
    (c.weight_at.ensures.most, c.due_at-due.ensures.small, omega (arith, c.class_at-class.ensures.most), omega (arith, n.used, n.small))

pub loop-row-preserved : goal.loop-row-preserved
loop-row-preserved c =
    lightest_step _ _ _ _ _ _ _ c.key_of-key.result _ c.due_at-due.ensures c.weight_at.ensures c.class_at-class.ensures (search rules)
    (elim c.if-due-by.branch [
      | then-due-by w ↦ rw (le-leb _ _ w.if-due-by.true) (w.low-is ∙ w.max-low.ensures)
      | else-due-by w ↦ rw (lt-leb _ _ w.if-due-by.false) w.low-is
    ]) c.loop-row.invariant

pub returns : goal.returns
returns c =
    lightest_end (round_in c.args.sound.now.table.now) _ _ _ (omega (arith, (known _ _ c.args.sound.now.ready).used)) c.loop-row.invariant
