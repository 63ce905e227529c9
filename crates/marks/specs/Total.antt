-- What rows left out weigh.
use Rattle.std.specs.Prelude.{◌≡◌, ℕ, ◌+◌}
use Rattle.rules.specs.Rows.{Round}
use Rattle.rules.specs.Plan.{total, total_weight}

-- with the plan's rows they weigh what all rows do
pub record Lost (r : Round) (lost : ℕ) : Type 0 where
  pub is : lost + total r ≡ total_weight r.rows
