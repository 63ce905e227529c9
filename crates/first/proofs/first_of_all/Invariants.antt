-- `first::first_of_all` meets its contract: the loop is `Leads`.
use Rattle.rules.specs.Table.{round_in}
use Rattle.first.specs.First.{Leads}
use Rattle.first.proofs.first_of_all.Given as goal

abbrev pub invariant-loop-row : goal.invariant-loop-row
invariant-loop-row l = Leads (round_in l.sound.table.now) l.row l.first
