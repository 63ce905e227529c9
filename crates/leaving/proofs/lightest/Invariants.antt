-- `lightest`: no place before crowds, and the loop has the greatest key so far.
use Prim.Native.Nat.{◌+◌, ◌-◌}
use lib.ListN.{length}
use Rattle.leaving.specs.Sweep.{Greatest}
use Rattle.leaving.proofs.GoingLaws.{Looking}
use Rattle.leaving.proofs.lightest.Given as goal

abbrev pub invariant-loop-at : goal.invariant-loop-at
invariant-loop-at l = Looking l.keys l.slot l.at × Greatest l.keys (l.at + 1) l.top

abbrev pub decreases-loop-at : goal.decreases-loop-at
decreases-loop-at l = length l.keys - l.at
