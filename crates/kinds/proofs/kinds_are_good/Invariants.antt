-- `kinds::kinds_are_good` meets its contract. The invariant: what is said of all kinds is said of those left.
use mathlib.Core.Path.{◌≡◌}
use Rattle.kinds.specs.Kinds.{kinds_good}
use Rattle.kinds.proofs.kinds_are_good.Given as goal

abbrev pub invariant-loop-i : goal.invariant-loop-i
invariant-loop-i l = kinds_good l.table l.used ≡ kinds_good l.table l.i
