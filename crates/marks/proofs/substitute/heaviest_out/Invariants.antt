-- `marks::substitute::heaviest_out` meets its contract: the loop is `Backing`, for every round that the arrays are given for.
use lib.ListN.{length}
use Rattle.marks.proofs.NearLaws.{Back}
use Rattle.marks.proofs.substitute.heaviest_out.Given as goal

abbrev pub invariant-loop-p : goal.invariant-loop-p
invariant-loop-p l = Back l.keys l.flags (length l.keys) l.from l.out l.p
