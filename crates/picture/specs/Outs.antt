-- How a pass from the last segment back keeps the heaviest row left out: one segment's rows at a time. Assumes nothing.
use Rattle.std.specs.Prelude.{◌≡◌, false, List, ℕ, ◌≤◌}
use Rattle.rules.specs.Rows.{Row, Round, In}
use Rattle.rules.specs.Plan.{in_plan}

-- rows left out, due in some slots
abbrev pub LeftWithin : Round → List Row → (b e : ℕ) → Row → Type 0
LeftWithin r rs b e x = In x r.rows × (in_plan x rs ≡ false) × (b ≤ x.due) × (x.due ≤ e)
