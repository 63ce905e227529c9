-- Stationround read by read: what it writes for each read of its input, and what it holds between two.
use Rattle.std.specs.Prelude.{Bool, true, false, ◌&&◌, ◌||◌, not, cond, List, [], ◌∷◌, ◌++◌, ℕ, suc, ◌+◌, ◌≤◌, ltb, eqb, length}
use Rattle.rules.specs.Limits.{most_payload}
use Rattle.rules.specs.Calls.{Call, refused, run}
use Rattle.rules.specs.Lines.{call_of, line_end, Reading, command, broken, reading_refusal, read, class_payload_at, reply_text, printed_from}

-- an input's COMPLETE LINES, each with its 0A; and the LINE BEGUN behind the last 0A
unfoldable pub complete_from : (begun : List ℕ) → List ℕ → List (List ℕ)
complete_from xs [] = []
complete_from xs (b ∷ bs) =
    cond (eqb b line_end) ((xs ++ (b ∷ [])) ∷ complete_from [] bs) (complete_from (xs ++ (b ∷ [])) bs)

unfoldable pub begun_from : (begun : List ℕ) → List ℕ → List ℕ
begun_from xs [] = xs
begun_from xs (b ∷ bs) = cond (eqb b line_end) (begun_from [] bs) (begun_from (xs ++ (b ∷ [])) bs)

-- the calls that lines ask for, none from refusal 1 on; whether a line gets it
unfoldable pub asked : Reading → List Call → List Call
asked (command c) cs = call_of c ∷ cs
asked broken cs = []

unfoldable pub calls_of : (lines : List (List ℕ)) → List Call
calls_of [] = []
calls_of (x ∷ xs) = asked (read x) (calls_of xs)

unfoldable pub stops : (lines : List (List ℕ)) → Bool
stops [] = false
stops (x ∷ xs) = not (eqb (reading_refusal (read x)) 0) || stops xs

-- no command's line is longer than 04 with a whole payload and its 0A: a longer line begun is refused before it ends
abbrev pub longest_line : ℕ
longest_line = suc (class_payload_at + most_payload)

unfoldable pub overlong : (begun : List ℕ) → Bool
overlong xs = ltb longest_line (length xs)

-- BETWEEN TWO READS: the table, the line begun, and whether refusal 1 or the end of the input came, so that nothing more is read
pub record Between : Type 0 where
  pub table : List ℕ
  pub held : List ℕ
  pub over : Bool

-- ONE READ behind the bytes held; a read of no bytes is the end of the input, where a line begun is refused
unfoldable pub served : (table held bytes : List ℕ) → Between
served t h [] = record { table = t; held = []; over = true }
served t h (b ∷ bs) =
    let input = h ++ (b ∷ bs) in
    let lines = complete_from [] input in
    let rest = begun_from [] input in
    let end = stops lines || overlong rest in
    record { table = run (calls_of lines) t; held = cond end [] rest; over = end }

-- and what is written for it
unfoldable pub written : (table held bytes : List ℕ) → List ℕ
written t h [] = cond (eqb (length h) 0) [] (reply_text (refused (reading_refusal broken)))
written t h (b ∷ bs) =
    let input = h ++ (b ∷ bs) in
    let lines = complete_from [] input in
    printed_from lines t
    ++ cond (not (stops lines) && overlong (begun_from [] input)) (reply_text (refused (reading_refusal broken))) []

-- ONE READ AFTER ANOTHER: what is written for all of them, and what is there after them
unfoldable pub written_for : (table held : List ℕ) → (reads : List (List ℕ)) → List ℕ
written_for t h [] = []
written_for t h (x ∷ xs) =
    let s = served t h x in written t h x ++ cond s.over [] (written_for s.table s.held xs)

unfoldable pub between_after : (table held : List ℕ) → (reads : List (List ℕ)) → Between
between_after t h [] = record { table = t; held = h; over = false }
between_after t h (x ∷ xs) = let s = served t h x in cond s.over s (between_after s.table s.held xs)

-- an input cut into reads: each has a byte, and joined they are the input
abbrev pub SomeBytes : (reads : List (List ℕ)) → Type 0
SomeBytes [] = Unit {0}
SomeBytes (x ∷ xs) = (1 ≤ length x) × SomeBytes xs

unfoldable pub joined : (reads : List (List ℕ)) → List ℕ
joined [] = []
joined (x ∷ xs) = x ++ joined xs
