-- `chain::shift_chain` meets its contract.
use Rattle.rules.specs.Table.{round_in}
use Rattle.chain.proofs.ShiftLaws.{Linking}
use Rattle.chain.proofs.shift_chain.Given as goal

abbrev pub invariant-loop-k : goal.invariant-loop-k
invariant-loop-k l = Linking (round_in l.initial.table) l.segments.ends.now l.to l.own l.k l.waiting l.table
