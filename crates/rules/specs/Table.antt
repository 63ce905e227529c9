-- Rounds as tables of bytes, low byte first, with refusals 2 and 3.
use Rattle.std.specs.Prelude.{Bool, true, false, ◌&&◌, ◌||◌, not, cond, List, [], ◌∷◌, ◌++◌, ℕ, zero, suc, ◌+◌, ◌*◌, ◌-◌, ◌/◌, ◌%◌, ltb, leb, eqb, length, take, drop, replicate}
use Rattle.rules.specs.Limits.{head_size, row_size, most_rows, most_last, most_weight, ticket_limit, most_class, slot_bytes, wide_bytes, kind_bytes, class_bytes, flag_bytes}
use Rattle.rules.specs.Limits.{head_widths, slot_at, last_at, next_at, used_at, sealed_at, head_zeros_at, row_widths, ticket_at, due_at, weight_at, kind_at, class_at, row_zeros_at}
use Rattle.rules.specs.Rows.{Tail, Row, HeadTail, Round, row, round}

-- a number as bytes, and back
unfoldable pub low : (n v : ℕ) → List ℕ
low zero v = []
low (suc k) v = (v % 256) ∷ low k (v / 256)

unfoldable pub value : List ℕ → ℕ
value [] = 0
value (b ∷ bs) = b + 256 * value bs

unfoldable pub field : (at n : ℕ) → List ℕ → ℕ
field a n bs = value (take n (drop a bs))

-- NUMBERS SIDE BY SIDE, by the widths of a layout
unfoldable pub put : (widths values : List ℕ) → List ℕ
put [] vs = []
put (n ∷ ns) [] = []
put (n ∷ ns) (v ∷ vs) = low n v ++ put ns vs

-- A ROW's numbers and bytes
abbrev pub tail_values : Tail → List ℕ
tail_values m = m.kind ∷ m.class ∷ []

abbrev pub row_values : Row → List ℕ
row_values x = x.ticket ∷ x.due ∷ x.weight ∷ tail_values x.tail

unfoldable pub row_bytes : Row → List ℕ
row_bytes x = put row_widths (row_values x) ++ replicate (row_size - row_zeros_at) 0

unfoldable pub rows_bytes : List Row → List ℕ
rows_bytes [] = []
rows_bytes (x ∷ xs) = row_bytes x ++ rows_bytes xs

-- THE TABLE of a round: its head, used rows, zeros behind
abbrev pub head_tail_values : HeadTail → List ℕ
head_tail_values m = m.sealed ∷ []

abbrev pub head_values : (slot last next used : ℕ) → HeadTail → List ℕ
head_values t l n u m = t ∷ l ∷ n ∷ u ∷ head_tail_values m

unfoldable pub head_bytes : (slot last next used : ℕ) → HeadTail → List ℕ
head_bytes t l n u m = put head_widths (head_values t l n u m) ++ replicate (head_size - head_zeros_at) 0

unfoldable pub table : Round → List ℕ
table r =
    head_bytes r.slot r.last r.next (length r.rows) r.tail
    ++ (rows_bytes r.rows ++ replicate (row_size * (r.room - length r.rows)) 0)

-- the row that bytes begin with
abbrev pub tail_in : List ℕ → Tail
tail_in bs = record { kind = field kind_at kind_bytes bs; class = field class_at class_bytes bs }

abbrev pub front_row : List ℕ → Row
front_row bs = row (field ticket_at wide_bytes bs) (field due_at slot_bytes bs) (field weight_at wide_bytes bs) (tail_in bs)

-- THE ROUND that a table holds
unfoldable pub rows_in : (left : ℕ) → List ℕ → List Row
rows_in zero bs = []
rows_in (suc k) bs = front_row bs ∷ rows_in k (drop row_size bs)

unfoldable pub rows_of : List ℕ → ℕ
rows_of bs = (length bs - head_size) / row_size

abbrev pub head_tail_in : List ℕ → HeadTail
head_tail_in bs = record { sealed = field sealed_at flag_bytes bs }

unfoldable pub round_in : List ℕ → Round
round_in bs =
    round (field slot_at slot_bytes bs) (field last_at slot_bytes bs) (field next_at wide_bytes bs) (rows_of bs)
    (rows_in (field used_at slot_bytes bs) (drop head_size bs)) (head_tail_in bs)

-- 2: the length is that of a head and 1 to 1,024 rows
unfoldable pub length_good : (long : ℕ) → Bool
length_good l =
    leb (head_size + row_size) l && (eqb ((l - head_size) % row_size) 0 && leb ((l - head_size) / row_size) most_rows)

-- 3: SOUND: the round's numbers are within bounds, and the bytes are just its table's
unfoldable pub every : List Bool → Bool
every [] = true
every (b ∷ bs) = b && every bs

-- a row's bounds, beside the slot, the last, the next ticket and the ticket of the row before
abbrev pub tail_tests : Tail → List Bool
tail_tests m = leb m.kind 1 ∷ leb m.class most_class ∷ (eqb m.kind 0 || eqb m.class most_class) ∷ []

abbrev pub row_tests : (slot last next before : ℕ) → Row → List Bool
row_tests s l n b x =
    ltb b x.ticket ∷ ltb x.ticket n ∷ leb s x.due ∷ leb x.due l ∷ leb 1 x.weight ∷ leb x.weight most_weight ∷ tail_tests x.tail

unfoldable pub rows_good : Round → (before : ℕ) → List Row → Bool
rows_good r b [] = true
rows_good r b (x ∷ xs) = every (row_tests r.slot r.last r.next b x) && rows_good r x.ticket xs

-- a head's, with the rows in use and the room for them
abbrev pub head_tail_tests : HeadTail → List Bool
head_tail_tests m = leb m.sealed 1 ∷ []

abbrev pub head_tests : (slot last next used room : ℕ) → HeadTail → List Bool
head_tests s l n u k m = leb l most_last ∷ leb s (suc l) ∷ leb 1 n ∷ leb n ticket_limit ∷ leb u k ∷ head_tail_tests m

unfoldable pub round_good : Round → Bool
round_good r = every (head_tests r.slot r.last r.next (length r.rows) r.room r.tail) && rows_good r 0 r.rows

unfoldable pub same : (a b : List ℕ) → Bool
same [] [] = true
same [] (y ∷ ys) = false
same (x ∷ xs) [] = false
same (x ∷ xs) (y ∷ ys) = eqb x y && same xs ys

unfoldable pub table_refusal : List ℕ → ℕ
table_refusal bs =
    cond (not (length_good (length bs))) 2 (cond (round_good (round_in bs) && same (table (round_in bs)) bs) 0 3)
