-- One turn of `printed` on a table and a lent buffer.
use Rattle.std.specs.Prelude.{◌≡◌, List, ℕ}
use Rattle.rules.specs.Calls.{answer, left}
use Rattle.rules.specs.Lines.{Command, call_of, reply_text}
use Rattle.replying.specs.Replying.{Replies}

-- the reply's line at the buffer's start with its length answered, and every byte of the table, are the rules'
pub record Turns (c : Command) (t z before after : List ℕ) (r : ℕ) : Type 0 where
  pub said : Replies (reply_text (answer (call_of c) t)) before after r
  pub moved : z ≡ left (call_of c) t
