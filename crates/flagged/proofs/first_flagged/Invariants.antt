-- `flagged::first_flagged` meets its contract: the loop is `Looking`.
use Prim.Native.Nat.{◌-◌}
use lib.ListN.{length}
use Rattle.flagged.proofs.PlannedLaws.{Looking}
use Rattle.flagged.proofs.first_flagged.Given as goal

abbrev pub invariant-loop-i : goal.invariant-loop-i
invariant-loop-i l = Looking l.keys l.flags l.i

abbrev pub decreases-loop-i : goal.decreases-loop-i
decreases-loop-i l = length l.keys - l.i
