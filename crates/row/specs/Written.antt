-- The table with a row's numbers written in place.
use Rattle.std.specs.Prelude.{ℕ, ◌+◌, List, [], ◌∷◌, ◌++◌}
use Rattle.std.proofs.lemmas.List.Edits.{sets}
use Rattle.rules.specs.Limits.{due_at, weight_at, slot_bytes, wide_bytes, most_class}
use Rattle.rules.specs.Conditions.{row_at}
use Rattle.rules.specs.Table.{low}

abbrev pub with_shift : List ℕ → (row due weight : ℕ) → List ℕ
with_shift t i d w = sets t (row_at i + due_at) (low slot_bytes d ++ low wide_bytes w)

abbrev pub with_weight : List ℕ → (row weight : ℕ) → List ℕ
with_weight t i w = sets t (row_at i + weight_at) (low wide_bytes w)

-- a kept blank: its kind is 1 and its class 3
abbrev pub with_kept : List ℕ → (row due weight : ℕ) → List ℕ
with_kept t i d w = sets t (row_at i + due_at) ((low slot_bytes d ++ low wide_bytes w) ++ (1 ∷ most_class ∷ []))
