-- What is asked once of all used rows.
use Rattle.std.specs.Prelude.{◌≡◌, Bool, true, ◌&&◌, List, ℕ, zero, suc, ◌%◌, ltb, take, drop}
use Rattle.rules.specs.Limits.{row_size}
use Rattle.rules.specs.Conditions.{row_at}
use Rattle.seen.specs.declared.Seen.{Seen}
use Rattle.seen.specs.Fair.{fair}
use Rattle.row.specs.Judge.{kind_good}

-- the kinds of so many rows, the first ones; they are good where what the rows have shown says that all are frames
unfoldable pub kinds_good : List ℕ → (rows : ℕ) → Bool
kinds_good t zero = true
kinds_good t (suc i) = kinds_good t i && kind_good (take row_size (drop (row_at i) t))

abbrev pub FramesSeen : List ℕ → (rows : ℕ) → Seen → Type 0
FramesSeen t i s = s.plain % 256 ≡ 0 → kinds_good t i ≡ true

-- all but the kinds, then the kinds
abbrev pub passing : List ℕ → (rows next : ℕ) → Seen → Bool
passing t u n s = ltb s.ticket.0 n && (fair s && kinds_good t u)
