-- A segment's members by its rows alone: its blanks are due in its first slot, and it has one where fewer rows are due in it than it has slots. Assumes nothing.
use Rattle.std.specs.Prelude.{◌≡◌, ◌⊎◌, List, ℕ, suc, ◌+◌, ◌-◌, ◌≤◌, ◌<◌}
use Rattle.rules.specs.Rows.{Row, blank}
use Rattle.theory.specs.Feas.{num}
use Rattle.picture.specs.Picture.{Heaviest, Lightest, Within}

-- as many rows of the plan due in some slots as slots, and fewer
abbrev pub Filled : List Row → (b e : ℕ) → Type 0
Filled rs b e = num 0 b rs + (suc e - b) ≤ num 0 (suc e) rs

abbrev pub Open : List Row → (b e : ℕ) → Type 0
Open rs b e = num 0 (suc e) rs < num 0 b rs + (suc e - b)

-- a segment's heaviest, its own lightest
abbrev pub Top : List Row → (b e : ℕ) → Row → Type 0
Top rs b e x = Heaviest (Within rs b e) x ⊎ ((x ≡ blank b) × ((y : Row) → Within rs b e y → ⊥))

abbrev pub Own : List Row → (b e : ℕ) → Row → Type 0
Own rs b e x = (Filled rs b e × Lightest (Within rs b e) x) ⊎ (Open rs b e × (x ≡ blank b))
