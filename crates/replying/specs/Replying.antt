-- What the reply writers answer and leave in the lent buffer.
use Rattle.std.specs.Prelude.{◌≡◌, List, [], ◌∷◌, ◌++◌, ℕ, length, drop}
use Rattle.rules.specs.Calls.{Out, silence, frame, kept_blank}
use Rattle.rules.specs.Limits.{short_digits, wide_digits}
use Rattle.rules.specs.Lines.{digits, line_end}

-- a reply's line at the buffer's start, and its length answered
pub record Replies (line before after : List ℕ) (r : ℕ) : Type 0 where
  pub long : r ≡ length line
  pub left : after ≡ line ++ drop (length line) before

-- the line of a reply without values by its number: 0 for an opening's, 3 for a sealing's
unfoldable pub bare_text : (number : ℕ) → List ℕ
bare_text n = digits short_digits n ++ (line_end ∷ [])

-- the line of a step by numbers: what went out (0 silence, 1 a frame, 2 a kept blank), 0 ordinary or 1 a leap, and the ticket
unfoldable pub step_text : (out leap ticket : ℕ) → List ℕ
step_text o l k = digits short_digits 2 ++ digits short_digits o ++ digits short_digits l ++ digits wide_digits k ++ (line_end ∷ [])

-- what went out, as a reply line says it: 00 silence, 01 a frame, 02 a kept blank; and its ticket, zeros for silence
abbrev pub out_number : Out → ℕ
out_number silence = 0
out_number (frame k) = 1
out_number (kept_blank k) = 2

abbrev pub out_ticket : Out → ℕ
out_ticket silence = 0
out_ticket (frame k) = k
out_ticket (kept_blank k) = k
