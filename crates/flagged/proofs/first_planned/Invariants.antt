-- `flagged::first_planned` meets its contract: the loop is `Choosing`.
use Prim.Native.Nat.{◌+◌}
use lib.ListN.{length}
use Rattle.flagged.proofs.PlannedLaws.{Choosing}
use Rattle.flagged.proofs.first_planned.Given as goal

abbrev pub invariant-loop-key : goal.invariant-loop-key
invariant-loop-key l = Choosing l.keys l.flags (length l.keys) l.due (l.place + 1 + l.key-index) l.first
