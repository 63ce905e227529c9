-- What the substitute of a row is.
use Rattle.std.specs.Prelude.{◌≡◌, ℕ, ◌<◌, length}
use Rattle.rules.specs.Rows.{Round, blank}
use Rattle.rules.specs.Plan.{plan, substitute}
use Rattle.round.specs.Rows.{at}
use Rattle.sub.specs.declared.Sub.{Sub}
use Rattle.sub.specs.declared.Sub.TheVariants.{Row, Blank}

-- THE SUBSTITUTE of row i
abbrev pub Substitutes : Round → (row : ℕ) → Sub → Type 0
Substitutes r i (Row j) = (j < length r.rows) × (substitute r (plan r) (at r i) ≡ at r j)
Substitutes r i (Blank s) = substitute r (plan r) (at r i) ≡ blank s.0
