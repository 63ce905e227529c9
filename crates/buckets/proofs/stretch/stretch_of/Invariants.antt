-- `buckets::stretch::stretch_of` meets its contract: the loop is `On`.
use Prim.Native.Nat.{◌-◌}
use Rattle.buckets.proofs.StretchLaws.{On}
use Rattle.buckets.proofs.stretch.stretch_of.Given as goal

abbrev pub invariant-loop-lack : goal.invariant-loop-lack
invariant-loop-lack l = On l.counts l.free l.bucket l.lack l.last

abbrev pub decreases-loop-lack : goal.decreases-loop-lack
decreases-loop-lack l = l.free - l.last
