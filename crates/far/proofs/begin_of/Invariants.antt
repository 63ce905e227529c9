-- `far::begin_of` meets its contract: rows wait for bucket s, first behind mid, then up to it.
use Prim.Native.Nat.{◌≤◌}
use Rattle.far.proofs.BeginLaws.{Waiting, Seeking}
use Rattle.far.proofs.begin_of.Given as goal

abbrev pub invariant-loop-s : goal.invariant-loop-s
invariant-loop-s l = (l.mid ≤ l.s) × Waiting l.counts l.mid l.top l.s l.waiting

abbrev pub invariant-loop-waiting : goal.invariant-loop-waiting
invariant-loop-waiting l = Seeking l.counts l.mid l.top l.begin l.waiting

abbrev pub decreases-loop-waiting : goal.decreases-loop-waiting
decreases-loop-waiting l = l.begin
