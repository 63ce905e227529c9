-- `passes::look::heaviest` meets its contract: the loop is `Heaviest`.
use Rattle.rules.specs.Table.{round_in}
use Rattle.passes.specs.Best.{Heaviest}
use Rattle.passes.proofs.look.heaviest.Given as goal

abbrev pub invariant-loop-row : goal.invariant-loop-row
invariant-loop-row l = Heaviest (round_in l.sound.table.now) l.row l.sound.round.last.0 l.best
