-- `every::least_by` meets its contract. The invariant: the least weight of the rows passed.
use Rattle.rules.specs.Table.{round_in}
use Rattle.every.proofs.EveryLaws.{LeastSoFar}
use Rattle.every.proofs.least_by.Given as goal

abbrev pub invariant-loop-row : goal.invariant-loop-row
invariant-loop-row l = LeastSoFar (round_in l.sound.table.now) l.by l.row l.low
