-- Sizes, byte places and limits of document 01, each named once.
use Rattle.std.specs.Prelude.{List, [], ◌∷◌, ℕ, ◌+◌}

-- the table: a head, then rows
abbrev pub head_size : ℕ
head_size = 16

abbrev pub row_size : ℕ
row_size = 24

abbrev pub most_rows : ℕ
most_rows = 1024

-- limits of a round; a ticket is below ticket_limit
abbrev pub most_last : ℕ
most_last = 4095

abbrev pub most_weight : ℕ
most_weight = 16777216

abbrev pub ticket_limit : ℕ
ticket_limit = 16777216

-- classes are 0 (price) to 3 (picture) (L2)
abbrev pub most_class : ℕ
most_class = 3

-- widths in bytes: a slot or a count of rows; a ticket or a weight; a kind; a class; yes or no
abbrev pub slot_bytes : ℕ
slot_bytes = 2

abbrev pub wide_bytes : ℕ
wide_bytes = 4

abbrev pub kind_bytes : ℕ
kind_bytes = 1

abbrev pub class_bytes : ℕ
class_bytes = 1

abbrev pub flag_bytes : ℕ
flag_bytes = 1

-- A LAYOUT: the widths of numbers that stand side by side; its bytes in all
abbrev pub size : (widths : List ℕ) → ℕ
size [] = 0
size (n ∷ ns) = n + size ns

-- the head: current slot, last slot, next ticket, rows in use, its tail, which is whether it is sealed; where each begins, and its zeros
abbrev pub head_tail_widths : List ℕ
head_tail_widths = flag_bytes ∷ []

abbrev pub head_widths : List ℕ
head_widths = slot_bytes ∷ slot_bytes ∷ wide_bytes ∷ slot_bytes ∷ head_tail_widths

abbrev pub slot_at : ℕ
slot_at = 0

abbrev pub last_at : ℕ
last_at = 2

abbrev pub next_at : ℕ
next_at = 4

abbrev pub used_at : ℕ
used_at = 8

abbrev pub sealed_at : ℕ
sealed_at = 10

abbrev pub head_zeros_at : ℕ
head_zeros_at = size head_widths

-- a row: ticket, due slot, weight, its tail, which is kind and class; where each begins, and its zeros
abbrev pub tail_widths : List ℕ
tail_widths = kind_bytes ∷ class_bytes ∷ []

abbrev pub row_widths : List ℕ
row_widths = wide_bytes ∷ slot_bytes ∷ wide_bytes ∷ tail_widths

abbrev pub ticket_at : ℕ
ticket_at = 0

abbrev pub due_at : ℕ
due_at = 4

abbrev pub weight_at : ℕ
weight_at = 6

abbrev pub kind_at : ℕ
kind_at = 10

abbrev pub class_at : ℕ
class_at = 11

abbrev pub row_zeros_at : ℕ
row_zeros_at = size row_widths

-- text lines: digits of a line's or a refusal's number or of a class, of a slot, of a weight or ticket, and the most payload digits
abbrev pub short_digits : ℕ
short_digits = 2

abbrev pub slot_digits : ℕ
slot_digits = 4

abbrev pub wide_digits : ℕ
wide_digits = 8

abbrev pub most_payload : ℕ
most_payload = 48
