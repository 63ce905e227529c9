-- `digits::number` meets its contract: the digits before b's place are in the sum.
use Rattle.digits.proofs.Spelling.{NumberRead}
use Rattle.digits.proofs.number.Given as goal

abbrev pub invariant-loop-b : goal.invariant-loop-b
invariant-loop-b l = NumberRead l.digits l.sum l.b-index
