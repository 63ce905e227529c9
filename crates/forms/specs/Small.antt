-- What a form's widths keep.
use Rattle.std.specs.Prelude.{List, ℕ, ◌≤◌, length, get_or}

-- the most numbers that a line has
abbrev pub most_numbers : ℕ
most_numbers = 3

-- no more numbers than there is room for, none of more digits than a number has
pub record Small (widths : List ℕ) : Type 0 where
  pub few : length widths ≤ most_numbers
  pub narrow : (i : ℕ) → get_or widths i 0 ≤ 8
