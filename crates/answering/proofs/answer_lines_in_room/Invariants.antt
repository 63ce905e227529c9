-- `answering::answer_lines_in_room` meets its contract: the lines so far are answered; what is left of the input falls.
use mathlib.Core.Path.{◌≡◌}
use Prim.Native.Nat.{◌-◌}
use lib.ListN.{length}
use Rattle.answering.proofs.Answered.{Answering}
use Rattle.answering.proofs.answer_lines_in_room.Given as goal

abbrev pub invariant-loop-end : goal.invariant-loop-end
invariant-loop-end l = Answering l.input l.initial.table l.table l.initial.out l.out l.read l.wrote × (length l.table ≡ length l.initial.table)

abbrev pub decreases-loop-end : goal.decreases-loop-end
decreases-loop-end l = length l.input - l.read
