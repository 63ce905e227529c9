-- Flags on the stack: a front part of an array of ones.
use mathlib.Core.Path.{◌≡◌, refl, sym, ap, ◌∙◌}
use mathlib.Core.List.{List, ◌∷◌}
use Prim.Native.Nat.{ℕ, zero, suc, ◌≤◌}
use native.Mathlib.Omega.{arith}
use lib.ListN.{length, take, replicate, length-replicate}

pub ones_front : (m n : ℕ) → m ≤ n → take m (replicate {A = ℕ} n 1) ≡ replicate m 1
ones_front zero n h = refl
ones_front (suc m) zero h = absurd (omega arith)
ones_front (suc m) (suc n) h = ap (λ (l : List ℕ). 1 ∷ l) (ones_front m n (omega arith))

pub ones_long : (m n : ℕ) → m ≤ n → m ≡ length (take m (replicate {A = ℕ} n 1))
ones_long m n h = sym (ap length (ones_front m n h) ∙ length-replicate {A = ℕ} m 1)
