-- `buckets::stretch::lack_before` meets its contract: the loop adds up the first counts.
use mathlib.Core.Path.{◌≡◌}
use Rattle.buckets.specs.Stretch.{upto}
use Rattle.buckets.proofs.stretch.lack_before.Given as goal

abbrev pub invariant-loop-count : goal.invariant-loop-count
invariant-loop-count l = l.sum ≡ upto l.count-index l.counts
