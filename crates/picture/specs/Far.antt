-- The pick from segments up to where rows fill every slot, and from the heaviest row due later: far rows have no substitute. Assumes nothing.
use Rattle.std.specs.Prelude.{List, ℕ, ◌≤◌}
use Rattle.rules.specs.Rows.{Row, In}

abbrev pub Far : List Row → (z : ℕ) → Row → Type 0
Far rs z x = In x rs × (z ≤ x.due)
