-- Places for counts on the stack: more than the table has room for rows, all 0.
use mathlib.Core.Path.{refl}
use mathlib.Core.List.{List}
use Prim.Native.Nat.{ℕ, ◌≤◌}
use native.Mathlib.Omega.{arith}
use lib.ListN.{length, replicate, length-replicate}
use Rattle.rules.specs.Table.{rows_of}
use Rattle.theory.specs.Clauses.{length_long}
use Rattle.round.specs.Judge.{ScanAsks}

pub few_places : (t : List ℕ) → length t ≤ 784 → ScanAsks t (replicate 34 0)
unfolding rows_of
few_places t h g = record { enough = omega (arith, h, length-replicate {A = ℕ} 34 0); none = refl }

pub many_places : (t : List ℕ) → ScanAsks t (replicate 1026 0)
many_places t g = record { enough = omega (arith, (length_long t g).2, length-replicate {A = ℕ} 1026 0); none = refl }
