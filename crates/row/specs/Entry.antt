-- A row's numbers by its bytes alone.
use Rattle.std.specs.Prelude.{◌≡◌, ℕ, List}
use Rattle.rules.specs.Conditions.{ticket_in, due_in, weight_in}
use Rattle.row.specs.declared.entry.Numbers.{Numbers}

pub record EntryIn (t : List ℕ) (i : ℕ) (n : Numbers) : Type 0 where
  pub ticket : n.ticket.0 ≡ ticket_in t i
  pub due : n.due.0 ≡ due_in t i
  pub weight : n.weight.0 ≡ weight_in t i
