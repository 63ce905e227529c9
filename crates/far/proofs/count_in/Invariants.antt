-- `far::count_in` meets its contract. The invariant: the rows passed are counted.
use lib.ListN.{length}
use Rattle.rules.specs.Table.{round_in}
use Rattle.far.proofs.FarLaws.{Counting}
use Rattle.far.proofs.count_in.Given as goal

abbrev pub invariant-loop-row : goal.invariant-loop-row
invariant-loop-row l = Counting (round_in l.sound.table.now) l.window (length l.initial.counts) l.row l.counts
