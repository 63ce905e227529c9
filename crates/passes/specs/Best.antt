-- The heaviest of some rows, and the least weight.
use Rattle.std.specs.Prelude.{◌≡◌, ◌⊎◌, ℕ, ◌≤◌, ◌<◌, length}
use Rattle.rules.specs.Limits.{most_weight}
use Rattle.rules.specs.Rows.{Round}
use Rattle.round.specs.Rows.{at}
use Rattle.keys.specs.Key.{slot_of, rank_at}
use Rattle.passes.specs.declared.best.Best.{Best}

-- a row's rank, as it is read: due slot, then class
pub record RankAt (r : Round) (i x : ℕ) : Type 0 where
  pub is : x ≡ rank_at r i
  pub due : slot_of x ≡ (at r i).due
  pub by : (at r i).due ≤ r.last
  pub class : (at r i).tail.class ≤ 3

-- a row before the best one in the table is no lighter, or it is
abbrev pub Over : (weight rank : ℕ) → Best → Type 0
Over w y b = (b.weight < w) ⊎ ((w ≡ b.weight) × (y ≤ b.rank))

abbrev pub Under : (weight rank : ℕ) → Best → Type 0
Under w y b = (w < b.weight) ⊎ ((w ≡ b.weight) × (b.rank < y))

abbrev pub best_of : (weight rank row : ℕ) → Best
best_of w y i = record { weight = w; rank = y; row = i }

abbrev pub Sees : Best → (weight rank row : ℕ) → Best → Type 0
Sees b w y i x = (Under w y b × (x ≡ b)) ⊎ (Over w y b × (x ≡ best_of w y i))

-- row j doesn't go before the best one
abbrev pub Behind : Round → (row : ℕ) → Best → Type 0
Behind r j b =
    ((at r j).weight < b.weight) ⊎ (((at r j).weight ≡ b.weight) × ((b.rank < rank_at r j) ⊎ ((rank_at r j ≡ b.rank) × (b.row ≤ j))))

-- one of the rows from n on, due by slot e
pub record IsRow (r : Round) (n e : ℕ) (b : Best) : Type 0 where
  pub from : n ≤ b.row
  pub below : b.row < length r.rows
  pub weight : b.weight ≡ (at r b.row).weight
  pub rank : b.rank ≡ rank_at r b.row
  pub due : slot_of b.rank ≡ (at r b.row).due
  pub by : (at r b.row).due ≤ e

-- THE HEAVIEST of the rows from n on that are due by slot e
pub record Heaviest (r : Round) (n e : ℕ) (b : Best) : Type 0 where
  pub small : b.weight ≤ most_weight
  pub most : (j : ℕ) → n ≤ j → j < length r.rows → (at r j).due ≤ e → Behind r j b
  pub some : 1 ≤ b.weight → IsRow r n e b

-- THE LEAST WEIGHT of the rows from n on that are due by slot e
pub record Weighs (r : Round) (n e m : ℕ) : Type 0 where
  pub row : ℕ
  pub from : n ≤ row
  pub below : row < length r.rows
  pub by : (at r row).due ≤ e
  pub is : (at r row).weight ≡ m

pub record Least (r : Round) (n e m : ℕ) : Type 0 where
  pub small : m ≤ most_weight
  pub least : (j : ℕ) → n ≤ j → j < length r.rows → (at r j).due ≤ e → m ≤ (at r j).weight
  pub some : m < most_weight → Weighs r n e m
