-- One number for a row: greater for the lighter one; of equal weights for the later due slot, then for the larger class, then for the later row. So no key is
-- greater than a heavier row's, and that of a blank, which weighs nothing, is greater than any row's.
use Rattle.std.specs.Prelude.{◌≡◌, ℕ, ◌+◌, ◌*◌, ◌-◌, ◌/◌, ◌%◌, ◌≤◌}
use Rattle.rules.specs.Rows.{Round}
use Rattle.round.specs.Rows.{at}

-- Due slot and class as one number, by which rows of one weight go
abbrev pub rank : (due class : ℕ) → ℕ
rank d c = d * 4 + c

abbrev pub slot_of : (rank : ℕ) → ℕ
slot_of x = x / 4

-- Weight, due slot, class, and the row.
unfoldable pub key : (weight due class row : ℕ) → ℕ
key w d c i = (16777217 - w) * 16777216 + d * 4096 + c * 1024 + i

-- the same by the rank
unfoldable pub ranked : (weight rank row : ℕ) → ℕ
ranked w x i = (16777217 - w) * 16777216 + x * 1024 + i

-- what the weight that a key tells lacks to a number one above the heaviest; and that weight, 0 of a blank
abbrev pub lack_of : (key : ℕ) → ℕ
lack_of k = k / 16777216

abbrev pub weight_of : (key : ℕ) → ℕ
weight_of k = 16777217 - lack_of k

-- the due slot that it tells
abbrev pub due_of : (key : ℕ) → ℕ
due_of k = k / 4096 % 4096

-- the row that it tells, and so does a key of canonical order
abbrev pub row_of : (key : ℕ) → ℕ
row_of k = k % 1024

-- no row
abbrev pub blank_key : ℕ
blank_key = 281474993487872

abbrev pub rank_at : Round → (row : ℕ) → ℕ
rank_at r i = rank (at r i).due (at r i).tail.class

abbrev pub key_at : Round → (row : ℕ) → ℕ
key_at r i = key (at r i).weight (at r i).due (at r i).tail.class i

-- MANY ROWS: what they lack together, at most; and what they weigh then
abbrev pub MayLack : (many lacks : ℕ) → Type 0
MayLack n l = (n ≤ 1024) × (l ≤ n * 16777217)

abbrev pub Lacks : (many lacks weight : ℕ) → Type 0
Lacks n l w = w + l ≡ n * 16777217
