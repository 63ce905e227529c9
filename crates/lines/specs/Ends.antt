-- Where a line of an input ends.
use Rattle.std.specs.Prelude.{◌≡◌, Option, Some, None, List, ℕ, ◌≤◌, ◌<◌, length, get_or}
use Rattle.rules.specs.Lines.{line_end}

-- no 0A from a place up to another
abbrev pub NoEnd : List ℕ → (from end : ℕ) → Type 0
NoEnd input from end = (k : ℕ) → from ≤ k → k < end → get_or input k 0 ≡ line_end → ⊥

pub record FirstEnd (input : List ℕ) (from at : ℕ) : Type 0 where
  pub after : from ≤ at
  pub within : at < length input
  pub ends : get_or input at 0 ≡ line_end
  pub first : NoEnd input from at

abbrev pub LineEnds : List ℕ → (from : ℕ) → Option ℕ → Type 0
LineEnds input from (Some i) = FirstEnd input from i
LineEnds input from None = NoEnd input from (length input)
