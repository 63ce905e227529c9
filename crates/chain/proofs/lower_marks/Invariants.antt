-- `chain::lower_marks` meets its contract.
use Rattle.chain.proofs.MarkLaws.{Lowering}
use Rattle.chain.proofs.lower_marks.Given as goal

abbrev pub invariant-loop-k : goal.invariant-loop-k
invariant-loop-k l = Lowering l.count l.to l.initial.lows l.lows l.k
