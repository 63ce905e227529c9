-- `marks::total::sum_all` meets its contract. The invariant: the sum is the weight of the rows passed.
use Rattle.rules.specs.Table.{round_in}
use Rattle.marks.proofs.TotalLaws.{Summing}
use Rattle.marks.proofs.total.sum_all.Given as goal

abbrev pub invariant-loop-i : goal.invariant-loop-i
invariant-loop-i l = Summing (round_in l.sound.table.now) l.i l.sum
