-- Segments by the plan's rows alone, as code has them: up to where rows fill every slot, each field is a row's. Assumes nothing.
use Rattle.std.specs.Prelude.{◌≡◌, ◌⊎◌, false, List, ℕ, ◌≤◌}
use Rattle.rules.specs.Rows.{Row, Round, blank, In}
use Rattle.rules.specs.Plan.{in_plan}
use Rattle.theory.specs.Segments as counted
use Rattle.picture.specs.Picture.{Heaviest}

-- rows left out, due from a slot on
abbrev pub LeftRow : Round → List Row → (b : ℕ) → Row → Type 0
LeftRow r rs b x = In x r.rows × (in_plan x rs ≡ false) × (b ≤ x.due)

-- what a segment's `out` is: the heaviest row left out, or the blank of its first slot where there is none
abbrev pub Out : Round → List Row → (b : ℕ) → Row → Type 0
Out r rs b x = Heaviest (LeftRow r rs b) x ⊎ ((x ≡ blank b) × ((y : Row) → LeftRow r rs b y → ⊥))
