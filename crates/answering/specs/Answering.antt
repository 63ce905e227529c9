-- What the complete lines of a buffer are answered with.
use Rattle.std.specs.Prelude.{◌≡◌, false, cond, List, [], ◌∷◌, ◌++◌, ℕ, ◌+◌, ◌*◌, ◌≤◌, eqb, length, drop}
use Rattle.rules.specs.Calls.{run}
use Rattle.rules.specs.Lines.{read_refusal, reply_ratio, printed_from}
use Rattle.rules.specs.Reads.{complete_from, begun_from, calls_of, stops}
use Rattle.answering.specs.declared.Progress.{Progress}

-- an input's complete lines
abbrev pub lines : List ℕ → List (List ℕ)
lines input = complete_from [] input

-- how many bytes are read: those of all lines, or of those up to the first that gets refusal 1, and with it
unfoldable pub bytes_read : List (List ℕ) → ℕ
bytes_read [] = 0
bytes_read (x ∷ xs) = length x + cond (eqb (read_refusal x) 0) (bytes_read xs) 0

-- bytes at a buffer's front; the rest of it as it was
abbrev pub at_front : (bytes buffer : List ℕ) → List ℕ
at_front xs z = xs ++ drop (length xs) z

-- the lines' replies stand at the output's front, their calls are made on the table; if no line stopped it, the line begun is not read
pub record Answers (input t out t' out' : List ℕ) (r : Progress) : Type 0 where
  pub stopped : r.stopped ≡ stops (lines input)
  pub wrote : r.wrote ≡ length (printed_from (lines input) t)
  pub said : out' ≡ at_front (printed_from (lines input) t) out
  pub moved : t' ≡ run (calls_of (lines input)) t
  pub read : r.read ≡ bytes_read (lines input)
  pub within : r.read ≤ length input
  pub small : r.wrote ≤ reply_ratio * r.read
  pub rest : r.stopped ≡ false → drop r.read input ≡ begun_from [] input
