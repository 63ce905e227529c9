-- `digits::put_number` meets its contract: the digits from i on stand, and the rest is for those before.
use Rattle.digits.proofs.Spelling.{NumberPut}
use Rattle.digits.proofs.put_number.Given as goal

abbrev pub invariant-loop-i : goal.invariant-loop-i
invariant-loop-i l = NumberPut l.value l.initial.part l.part l.rest l.i
