-- `zeros::zeros_from` meets its contract. The invariant: the bytes from the start are zero where those from here on are, and whole rows follow.
use mathlib.Core.Path.{◌≡◌}
use Prim.Native.Nat.{◌-◌, ◌%◌, ◌≤◌}
use lib.ListN.{length, drop}
use Rattle.theory.specs.Judge.{zeros}
use Rattle.zeros.proofs.zeros_from.Given as goal

abbrev pub invariant-loop-at : goal.invariant-loop-at
invariant-loop-at l = (l.at ≤ length l.table) × ((length l.table - l.at) % 24 ≡ 0) × (zeros (drop l.from l.table) ≡ zeros (drop l.at l.table))

abbrev pub decreases-loop-at : goal.decreases-loop-at
decreases-loop-at l = length l.table - l.at

abbrev pub invariant-loop-at-2 : goal.invariant-loop-at-2
invariant-loop-at-2 l = (l.at ≤ length l.table) × ((length l.table - l.at) % 24 ≡ 0) × (zeros (drop l.from l.table) ≡ zeros (drop l.at l.table))

abbrev pub decreases-loop-at-2 : goal.decreases-loop-at-2
decreases-loop-at-2 l = length l.table - l.at
