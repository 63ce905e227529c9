-- A kind that is not 0, as the code tests it.
use mathlib.Core.Path.{◌≡◌}
use mathlib.Core.Logic.{inl, inr}
use mathlib.Core.Bool.{◌&&◌, ◌||◌}
use Prim.Native.Nat.{ℕ}
use native.Mathlib.Omega.{arith}
use lib.Dec.{leb, eqb}
use borrow.Author.Tests.{lt-leb}
use Rattle.rules.specs.Limits.{most_class}
use Rattle.theory.specs.Tests.{eqb?}

pub kept_test : (k c : ℕ) → (k ≡ 0 → ⊥) → eqb k 1 && eqb c most_class ≡ leb k 1 && (eqb k 0 || eqb c most_class)
kept_test k c n =
    elim (eqb? k 1) [
      | inl e ↦ rw e.1
      | inr e ↦ rw (e.0, lt-leb k 1 (omega (arith, n, e.1)))
    ]
