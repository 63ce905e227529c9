-- `zeros::four_are_zero` meets its contract. The invariant: the rows looked at are zero.
use mathlib.Core.Bool.{true}
use mathlib.Core.Path.{◌≡◌}
use Prim.Native.Nat.{◌*◌}
use Rattle.zeros.specs.Zeros.{zero_part}
use Rattle.zeros.proofs.four_are_zero.Given as goal

abbrev pub invariant-loop-row : goal.invariant-loop-row
invariant-loop-row l = zero_part l.at (24 * l.row) l.table ≡ true
