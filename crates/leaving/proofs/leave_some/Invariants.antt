-- `leave_some`: both loops are in the midst of the sweep, with the keys of the rows kept in the heap.
use mathlib.Core.Path.{◌≡◌}
use Prim.Native.Nat.{◌+◌, ◌-◌, ◌<◌}
use lib.ListN.{length}
use Rattle.leaving.proofs.LeaveLaws.{Sweeping}
use Rattle.leaving.proofs.leave_some.Given as goal

abbrev pub invariant-loop-size : goal.invariant-loop-size
invariant-loop-size l = Sweeping l.keys l.flags l.heap l.slot l.reach.free l.reach.over l.place l.size (l.reach.over - l.counter) l.light × (0 < l.reach.over - l.counter) × (length l.heap ≡ length l.initial.heap)

abbrev pub decreases-loop-size : goal.decreases-loop-size
decreases-loop-size l = l.reach.free + l.reach.over - l.place

abbrev pub invariant-loop : goal.invariant-loop
invariant-loop l = Sweeping l.keys l.flags l.heap l.slot l.reach.free l.reach.over l.place l.size (l.reach.over - l.counter) l.light × (length l.flags ≡ length l.initial.flags) × (length l.heap ≡ length l.initial.heap)
