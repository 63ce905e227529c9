-- `marks::mark::lightest_by_end` meets its contract: both loops are `Passing`, up to the slot asked about from the edge on, then from that slot on.
use Prim.Native.Nat.{◌+◌, ◌-◌, ◌≤◌}
use lib.ListN.{length}
use Rattle.marks.proofs.FindLaws.{Pass}
use Rattle.marks.proofs.mark.lightest_by_end.Given as goal

abbrev pub invariant-loop-edge : goal.invariant-loop-edge
invariant-loop-edge l = (l.p ≤ length l.keys) × Pass l.keys l.flags (length l.keys) l.slot l.asked l.edge l.edge l.low l.p

abbrev pub decreases-loop-edge : goal.decreases-loop-edge
decreases-loop-edge l = length l.keys - l.p

abbrev pub invariant-loop-key : goal.invariant-loop-key
invariant-loop-key l = Pass l.keys l.flags (length l.keys) l.slot l.asked l.asked l.edge l.low (l.p + l.key-index)
