-- `buckets::stretch::first_of` meets its contract: the loop is `Back`.
use Rattle.buckets.proofs.StretchLaws.{Back}
use Rattle.buckets.proofs.stretch.first_of.Given as goal

abbrev pub invariant-loop-before : goal.invariant-loop-before
invariant-loop-before l = Back l.counts l.bucket l.before l.first

abbrev pub decreases-loop-before : goal.decreases-loop-before
decreases-loop-before l = l.first
