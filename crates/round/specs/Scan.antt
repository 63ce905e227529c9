-- What is said of all used rows.
use Rattle.std.specs.Prelude.{◌≡◌, Bool, true, List, ℕ, ◌≤◌, length, drop}
use Rattle.rules.specs.Limits.{head_size, most_rows, most_last}
use Rattle.rules.specs.Table.{rows_of, round_in}
use Rattle.rules.specs.Conditions.{row_at}
use Rattle.theory.specs.Judge.{rows_judged}
use Rattle.sorts.specs.declared.Round.{Round as Head}
use Rattle.head.specs.Head.{HeadOf}
use Rattle.round.specs.Buckets.{Counted}

-- A HEAD that is sound, with its rows within the table
pub record RowsLent (t : List ℕ) (h : Head) : Type 0 where
  pub head : HeadOf t h
  pub few : h.used ≤ most_rows
  pub room : h.used ≤ rows_of t
  pub within : row_at h.used ≤ length t
  pub last : h.last.0 ≤ most_last
  pub next : 1 ≤ h.next.0

abbrev pub all_judged : List ℕ → Head → Bool
all_judged t h = rows_judged h.used h.slot.0 h.last.0 h.next.0 0 (drop head_size t)

-- judged, and counted where all are sound and a slot is left
pub record RowsSay (t : List ℕ) (h : Head) (cs : List ℕ) (sound : Bool) : Type 0 where
  pub judged : sound ≡ all_judged t h
  pub counted : sound ≡ true → h.slot.0 ≤ h.last.0 → Counted (round_in t) cs
