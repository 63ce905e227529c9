-- `every::lightest_by` meets its contract. The invariant: the greatest key of the rows passed.
use Rattle.rules.specs.Table.{round_in}
use Rattle.every.proofs.EveryLaws.{LightestSoFar}
use Rattle.every.proofs.lightest_by.Given as goal

abbrev pub invariant-loop-row : goal.invariant-loop-row
invariant-loop-row l = LightestSoFar (round_in l.sound.table.now) l.by l.row l.low
