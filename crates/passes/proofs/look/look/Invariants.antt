-- `passes::look::look` meets its contract: the loop is `Looks`.
use Rattle.rules.specs.Table.{round_in}
use Rattle.passes.specs.Look.{Looks}
use Rattle.passes.proofs.look.look.Given as goal

abbrev pub invariant-loop-row : goal.invariant-loop-row
invariant-loop-row l = Looks (round_in l.sound.table.now) l.row l.end l.own l.found
