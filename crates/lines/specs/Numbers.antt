-- The numbers read by a form.
use Rattle.std.specs.Prelude.{◌≡◌, true, false, Bool, Option, Some, None, List, ℕ, get_or, take, drop}
use Rattle.rules.specs.Limits.{short_digits}
use Rattle.rules.specs.Lines.{all_digits, count_digits, numbers_at}

-- whether all bytes of the numbers are digits
abbrev pub clean : (widths line : List ℕ) → Bool
clean ns line = all_digits (take (count_digits ns) (drop short_digits line))

-- NUMBERS READ, each behind the one before: none where a byte is no digit, else the values, 0 past them
abbrev pub Collects : (widths line : List ℕ) → Option (List ℕ) → Type 0
Collects ns line None = clean ns line ≡ false
Collects ns line (Some vs) = (clean ns line ≡ true) × ((i : ℕ) → get_or vs i 0 ≡ get_or (numbers_at short_digits ns line) i 0)
