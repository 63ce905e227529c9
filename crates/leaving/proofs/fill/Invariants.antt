-- `fill`: the loop has the first keys in the heap.
use Rattle.leaving.proofs.GoingLaws.{Filling}
use Rattle.leaving.proofs.fill.Given as goal

abbrev pub invariant-loop-place : goal.invariant-loop-place
invariant-loop-place l = Filling l.keys l.initial.heap l.heap l.first l.place
