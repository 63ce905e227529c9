-- The head as a value.
use Rattle.std.specs.Prelude.{◌≡◌, List, ℕ}
use Rattle.rules.specs.Table.{rows_of}
use Rattle.rules.specs.Conditions.{slot_in, last_in, next_in, used_in, sealed_in}
use Rattle.sorts.specs.declared.Round.{Round}

-- the six numbers are those that a table's bytes hold
pub record HeadOf (t : List ℕ) (h : Round) : Type 0 where
  pub slot : h.slot.0 ≡ slot_in t
  pub last : h.last.0 ≡ last_in t
  pub next : h.next.0 ≡ next_in t
  pub used : h.used ≡ used_in t
  pub room : h.room ≡ rows_of t
  pub sealed : h.sealed ≡ sealed_in t
