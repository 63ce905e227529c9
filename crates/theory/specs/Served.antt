-- AFTER ONE READ what is held is an unended line begun, no longer than a command's line: served_unended, served_short.
use Rattle.std.specs.Prelude.{◌≡◌, Bool, true, false, ◌||◌, List, [], ◌∷◌, ◌++◌, ℕ, ◌≤◌, ltb, length}
use Rattle.std.proofs.Common.{true≢false, arith, ltb-false}
use Rattle.rules.specs.Reads.{complete_from, begun_from, stops, longest_line, overlong, served}
use Rattle.theory.specs.Tests.{both_ways}
use Rattle.theory.specs.Complete.{Unended, begun_unended}

pub served_unended : (t h x : List ℕ) → Unended (served t h x).held
unfolding served
served_unended t h [] = tt
served_unended t h (b ∷ bs) =
    let input = h ++ (b ∷ bs) in
    both_ways Unended (stops (complete_from [] input) || overlong (begun_from [] input)) [] (begun_from [] input)
    (λ _. tt) (λ _. begun_unended [] input tt)

pub served_short : (t h x : List ℕ) → length (served t h x).held ≤ longest_line
unfolding served overlong
served_short t h [] = omega arith
served_short t h (b ∷ bs) =
    let input = h ++ (b ∷ bs) in
    let rest = begun_from [] input in
    let stop = stops (complete_from [] input) in
    both_ways (λ (z : List ℕ). length z ≤ longest_line) (stop || ltb longest_line (length rest)) [] rest
    (λ _. omega arith) (λ e. ltb-false longest_line (length rest) (second stop (ltb longest_line (length rest)) e))
  where
    second : (a b : Bool) → (a || b) ≡ false → b ≡ false
    second true b e = absurd (true≢false e)
    second false b e = e
