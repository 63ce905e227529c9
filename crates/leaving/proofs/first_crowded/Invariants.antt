-- `first_crowded`: no place before it crowds.
use Prim.Native.Nat.{◌-◌}
use lib.ListN.{length}
use Rattle.leaving.proofs.GoingLaws.{Looking}
use Rattle.leaving.proofs.first_crowded.Given as goal

abbrev pub invariant-loop-place : goal.invariant-loop-place
invariant-loop-place l = Looking l.keys l.slot l.place

abbrev pub decreases-loop-place : goal.decreases-loop-place
decreases-loop-place l = length l.keys - l.place
