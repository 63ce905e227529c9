-- What goes out, what it leaves in the table, and what is said of it.
use Rattle.std.specs.Prelude.{◌≡◌, Bool, true, false, not, List, ℕ, ◌≤◌, ◌<◌}
use Rattle.rules.specs.Limits.{most_weight}
use Rattle.rules.specs.Rows.{Row}
use Rattle.rules.specs.Steps.{kept_at, changed}
use Rattle.rules.specs.Table.{round_in}
use Rattle.rules.specs.Calls.{out_of, sending, ordinary, silence, step, answer, left, acting}
use Rattle.theory.specs.Whole.{Sends}
use Rattle.sorts.specs.declared.Round.{Round as Head}
use Rattle.round.specs.Rows.{Ready, at}
use Rattle.closing.specs.Close.{gone_ticket, closed_up}
use Rattle.replies.specs.declared.Out.{Out}
use Rattle.replies.specs.declared.Step.{Step}
use Rattle.replies.specs.declared.Step.TheVariants.{Ordinary, Leap}
use Rattle.replies.specs.Replies.{of_out, of_step}

-- what goes out of a row
pub record OutOf (p : Row) (o : Out) : Type 0 where
  pub is : of_out o ≡ out_of p

-- SILENCE: the slot moves on, no ticket goes, and none is told
pub record Silent (t u : List ℕ) (s : Step) : Type 0 where
  pub leaves : u ≡ closed_up 0 t
  pub answers : of_step s ≡ ordinary silence

-- GONE: row j leaves the table t, and no other row changes; o is what went out
pub record Gone (t u : List ℕ) (j : ℕ) (o : Out) : Type 0 where
  pub leaves : u ≡ closed_up (gone_ticket t j) t
  pub out : OutOf (at (round_in t) j) o

-- the step in which it goes: a leap where the row leaps, else an ordinary one
abbrev pub leap_or_ordinary : (leaps : Bool) → Out → Step
leap_or_ordinary true o = Leap o
leap_or_ordinary false o = Ordinary o

-- SENT: u is what sending leaves of the table t, and s what it answers
pub record SentSays (t u : List ℕ) (s : Step) : Type 0 where
  pub leaves : u ≡ left (acting sending) t
  pub answers : answer (acting sending) t ≡ step (of_step s)

-- A ROW THAT LEAVES ALONE: it goes, and no other row changes
pub record LeavesAlone (t : List ℕ) (h : Head) (leaps : Bool) (j : ℕ) : Type 0 where
  pub ready : Ready t h
  pub below : j < h.used
  pub sends : Sends (round_in t) (at (round_in t) j) (not leaps) (at (round_in t) j).ticket (round_in t).rows

-- A BLANK KEPT in the row that goes, due in a later slot
pub record KeepsBlank (t : List ℕ) (h : Head) (j first mark : ℕ) : Type 0 where
  pub ready : Ready t h
  pub below : j < h.used
  pub later : (round_in t).slot < first
  pub by : first ≤ (round_in t).last
  pub some : 1 ≤ mark
  pub most : mark ≤ most_weight
  pub sends : Sends (round_in t) (at (round_in t) j) false 0
      (changed (at (round_in t) j).ticket (kept_at first mark (at (round_in t) j)) (round_in t).rows)
