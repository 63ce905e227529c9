-- What one read leaves and writes, on lent buffers.
use Rattle.std.specs.Prelude.{◌≡◌, cond, List, [], ◌++◌, ℕ, ◌+◌, eqb, length, take, drop, Option, is_none, unwrap_or}
use Rattle.rules.specs.Calls.{refused}
use Rattle.rules.specs.Lines.{reply_text}
use Rattle.rules.specs.Reads.{Between, served, written}
use Rattle.replying.specs.Replying.{Replies}
use Rattle.answering.specs.Answering.{at_front}
use Rattle.serving.specs.declared.Served.{Served}

-- what is there after a read, and what is written for it: the bytes got stand in the input behind those held
abbrev pub after_read : (held got : ℕ) (input table : List ℕ) → Between
after_read held got input t = served t (take held input) (take got (drop held input))

abbrev pub to_write : (held got : ℕ) (input table : List ℕ) → List ℕ
to_write held got input t = written t (take held input) (take got (drop held input))

-- how many bytes are held: none where nothing more is to be read
abbrev pub held_in : Option ℕ → ℕ
held_in h = unwrap_or h 0

-- ONE READ on three buffers: what is answered, and every byte of each
pub record Serves (held got : ℕ) (input t out input' t' out' : List ℕ) (r : Served) : Type 0 where
  pub wrote : r.wrote ≡ length (to_write held got input t)
  pub said : out' ≡ at_front (to_write held got input t) out
  pub moved : t' ≡ (after_read held got input t).table
  pub holds : held_in r.held ≡ length (after_read held got input t).held
  pub kept : input' ≡ at_front (after_read held got input t).held input
  pub over : is_none r.held ≡ (after_read held got input t).over

-- the end of the input, where some bytes are held
abbrev pub Ending : (held : ℕ) (out out' : List ℕ) → ℕ → Type 0
Ending held out out' r = Replies (cond (eqb held 0) [] (reply_text (refused 1))) out out' r

-- refusal 1 behind the bytes written
pub record RefusedBehind (wrote : ℕ) (out out' : List ℕ) (r : ℕ) : Type 0 where
  pub long : r ≡ wrote + length (reply_text (refused 1))
  pub left : out' ≡ take wrote out ++ at_front (reply_text (refused 1)) (drop wrote out)
