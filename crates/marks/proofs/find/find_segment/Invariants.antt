-- `marks::find::find_segment` meets its contract: the loop is `Passing`, for every round that the arrays are given for.
use lib.ListN.{length}
use Rattle.marks.proofs.FindLaws.{Pass, Begun}
use Rattle.marks.proofs.find.find_segment.Given as goal

abbrev pub invariant-loop-key : goal.invariant-loop-key
invariant-loop-key l = Pass l.keys l.flags (length l.keys) l.slot l.asked l.first l.edge l.low l.key-index × Begun l.keys l.flags (length l.keys) l.slot l.asked l.first
