-- `closing::close_rows` meets its contract.
use Prim.Native.Nat.{◌-◌}
use Rattle.closing.proofs.CloseLaws.{Runs}
use Rattle.closing.proofs.close_rows.Given as goal

abbrev pub invariant-loop-i : goal.invariant-loop-i
invariant-loop-i l = Runs l.initial.table l.gone l.i l.kept l.left l.table

abbrev pub decreases-loop-i : goal.decreases-loop-i
decreases-loop-i l = l.used - l.i
