-- `chain::segment_by` meets its contract.
use Rattle.chain.proofs.MarkLaws.{Walking}
use Rattle.chain.proofs.segment_by.Given as goal

abbrev pub invariant-loop-k : goal.invariant-loop-k
invariant-loop-k l = Walking l.ends l.own l.slot.0 l.k

abbrev pub decreases-loop-k : goal.decreases-loop-k
decreases-loop-k l = l.k
