-- The row of a ticket, and what stands in for a row.
use Rattle.std.specs.Prelude.{◌≡◌, List, ℕ, ◌≤◌, ◌<◌, length, get_or, Option, Some, None, Result, Ok, Err}
use Rattle.std.proofs.Math.Option.{some}
use Rattle.rules.specs.Rows.{Round}
use Rattle.rules.specs.Calls.{Reply, ticket, blank_due}
use Rattle.rules.specs.Looking.{stand_in}
use Rattle.refusals.specs.declared.Refusal.{Refusal}
use Rattle.refusals.specs.declared.Refusal.TheVariants.{NotInPlan}
use Rattle.round.specs.Rows.{at}
use Rattle.sub.specs.declared.Sub.{Sub}
use Rattle.sub.specs.declared.Sub.TheVariants.{Row, Blank}
use Rattle.marks.specs.Near.{SubstitutesSay}

-- rows before low have an earlier ticket, and those from high on have not
pub record Parts (r : Round) (ticket low high : ℕ) : Type 0 where
  pub order : low ≤ high
  pub by : high ≤ length r.rows
  pub before : (i : ℕ) → i < low → (at r i).ticket < ticket
  pub behind : (i : ℕ) → high ≤ i → i < length r.rows → ticket ≤ (at r i).ticket

abbrev pub Finds : Round → (ticket : ℕ) → Option ℕ → Type 0
Finds r k (Some i) = (i < length r.rows) × ((at r i).ticket ≡ k)
Finds r k None = (i : ℕ) → i < length r.rows → (at r i).ticket ≡ k → ⊥

abbrev pub StoodIn : Round → (row : ℕ) → Reply → Type 0
StoodIn r i a = a ≡ stand_in r (some (at r i))

-- A SUBSTITUTE named: a row by its ticket, the blank by its slot
abbrev pub There : Round → Sub → Type 0
There r (Row j) = j < length r.rows
There r (Blank s) = Unit {0}

abbrev pub Named : Round → Sub → Reply → Type 0
Named r (Row j) a = a ≡ ticket (at r j).ticket
Named r (Blank s) a = a ≡ blank_due s.0

-- WHAT A PLAN SAYS of a row by its flag: who stands in for each of the plan's rows due then, or that the row is not in the plan
abbrev pub Flagged : (ks fs : List ℕ) (slot due row : ℕ) → Result Sub Refusal → Type 0
Flagged ks fs t d i (Ok s) = (get_or fs i 0 ≡ 1) × SubstitutesSay ks fs (length ks) t d s
Flagged ks fs t d i (Err e) = (get_or fs i 0 ≡ 1 → ⊥) × (e ≡ NotInPlan)
