-- `closing::next_due` meets its contract.
use Rattle.closing.specs.Close.{NoneDue}
use Rattle.closing.proofs.next_due.Given as goal

abbrev pub invariant-loop-i : goal.invariant-loop-i
invariant-loop-i l = NoneDue l.slot.0 l.from l.to l.table l.i
