-- What bytes spell, and digits put into a buffer.
use Rattle.std.specs.Prelude.{cond, Option, Some, None, List, ◌++◌, ℕ, ◌+◌, length, take, drop}
use Rattle.rules.specs.Lines.{is_digit, digit_value, number_from, all_digits}

-- a digit's value, and none of any other byte
unfoldable pub value_of : (b : ℕ) → Option ℕ
value_of b = cond (is_digit b) (Some (digit_value b)) None

-- the number of digits, and none where a byte is no digit
unfoldable pub spelt : List ℕ → Option ℕ
spelt ds = cond (all_digits ds) (Some (number_from 0 ds)) None

-- a buffer with bytes put at a place
abbrev pub put : (at : ℕ) (bytes before : List ℕ) → List ℕ
put a xs z = take a z ++ xs ++ drop (a + length xs) z
