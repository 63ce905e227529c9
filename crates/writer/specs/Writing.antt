-- What the line writer answers and leaves in the lent buffer.
use Rattle.std.specs.Prelude.{◌≡◌, Result, Ok, Err, List, ℕ, length}
use Rattle.rules.specs.Calls.{Reply, refused, amount}
use Rattle.rules.specs.Lines.{Command, write_answer, write_left}
use Rattle.refusals.specs.declared.Refusal.{Refusal}
use Rattle.refusals.specs.Refusals.{refusal_number}

-- the length, or the refusal's number alone
abbrev pub of_written : Result ℕ Refusal → Reply
of_written (Ok n) = amount n
of_written (Err e) = refused (refusal_number e)

-- the line writer, on a buffer before and after
pub record Writes (c : Command) (payload before after : List ℕ) (r : Result ℕ Refusal) : Type 0 where
  pub reply : of_written r ≡ write_answer c payload (length before)
  pub left : after ≡ write_left c payload before
