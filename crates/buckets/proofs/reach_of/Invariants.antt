-- `buckets::reach_of` meets its contract: the loops are `Levels`.
use Prim.Native.Nat.{◌+◌, ◌*◌, ◌/◌}
use Rattle.buckets.specs.Reach.{Levels}
use Rattle.buckets.proofs.reach_of.Given as goal

abbrev pub invariant-loop-four : goal.invariant-loop-four
invariant-loop-four l = Levels l.counts l.top (4 * l.four-index) l.sum l.most

abbrev pub invariant-loop-count : goal.invariant-loop-count
invariant-loop-count l = Levels l.counts l.top ((l.top + 1) / 4 * 4 + l.count-index) l.sum l.most
