-- One row more seen.
use Rattle.std.specs.Prelude.{◌≡◌, ℕ, ◌+◌, ◌-◌, ◌%◌, ◌<◌, ◌≤◌, Bool, ◌&&◌, ◌||◌, List, drop, ◌==◌, nat_le}
use Rattle.rules.specs.Limits.{most_weight, most_class, ticket_at, due_at, weight_at, kind_at, class_at, row_zeros_at, slot_bytes, wide_bytes, kind_bytes, class_bytes}
use Rattle.rules.specs.Table.{field}
use Rattle.theory.specs.Judge.{zeros}
use Rattle.seen.specs.declared.Seen.{Seen}
use Rattle.seen.specs.Fair.{fair}

-- a difference in 32 bits
pub record Differs (a b r : ℕ) : Type 0 where
  pub up : b ≤ a → r ≡ a - b
  pub down : a < b → r + b ≡ 4294967296 + a

-- a row's kind, and the class that goes with it
unfoldable pub kind_good : (row : List ℕ) → Bool
kind_good xs = nat_le (field kind_at kind_bytes xs) 1 && (field kind_at kind_bytes xs == 0 || field class_at class_bytes xs == most_class)

-- ONE ROW MORE: its ticket, its due slot, whether weight, class and zeros keep it fair, and that all so far are frames only if it is one
pub record Sees (slot : ℕ) (before : Seen) (row : List ℕ) (s : Seen) : Type 0 where
  pub ticket : s.ticket.0 ≡ field ticket_at wide_bytes row
  pub due : Differs (field due_at slot_bytes row) slot s.ahead
  pub rest : fair s ≡ fair before && ((nat_le 1 (field weight_at wide_bytes row) && nat_le (field weight_at wide_bytes row) most_weight)
      && (nat_le (field class_at class_bytes row) most_class && zeros (drop row_zeros_at row)))
  pub frames : s.plain % 256 ≡ 0 → (before.plain % 256 ≡ 0) × (field kind_at kind_bytes row ≡ 0)
