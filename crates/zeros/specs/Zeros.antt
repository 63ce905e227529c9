-- Bytes that are zero, from a place on.
use Rattle.std.specs.Prelude.{Bool, List, ℕ, take, drop}
use Rattle.theory.specs.Judge.{zeros}

-- so many of them
unfoldable pub zero_part : (at n : ℕ) → List ℕ → Bool
zero_part a n bs = zeros (take n (drop a bs))
