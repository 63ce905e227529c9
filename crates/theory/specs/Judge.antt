-- Soundness byte by byte, in the order in which a judge reads a table: head_judged, row_judged, rows_judged, judged.
use Rattle.std.specs.Prelude.{Bool, true, ◌&&◌, List, [], ◌∷◌, ℕ, zero, suc, ◌+◌, ◌*◌, ◌-◌, eqb, take, drop}
use Rattle.rules.specs.Limits.{head_size, row_size, head_zeros_at, ticket_at, row_zeros_at, wide_bytes}
use Rattle.rules.specs.Table.{field, every, front_row, head_tail_in, row_tests, head_tests, rows_of}
use Rattle.rules.specs.Conditions.{slot_in, last_in, next_in, used_in}

unfoldable pub zeros : List ℕ → Bool
zeros [] = true
zeros (b ∷ bs) = eqb b 0 && zeros bs

-- a row's own bytes, with the slot, the last, the next ticket and the ticket of the row before beside them
unfoldable pub row_judged : (slot last next before : ℕ) → (row : List ℕ) → Bool
row_judged s l n b xs = every (row_tests s l n b (front_row xs)) && zeros (drop row_zeros_at xs)

unfoldable pub rows_judged : (left : ℕ) → (slot last next before : ℕ) → List ℕ → Bool
rows_judged zero s l n b bs = true
rows_judged (suc k) s l n b bs =
    row_judged s l n b (take row_size bs) && rows_judged k s l n (field ticket_at wide_bytes bs) (drop row_size bs)

unfoldable pub head_judged : List ℕ → Bool
head_judged t =
    every (head_tests (slot_in t) (last_in t) (next_in t) (used_in t) (rows_of t) (head_tail_in t))
    && zeros (take (head_size - head_zeros_at) (drop head_zeros_at t))

unfoldable pub judged : List ℕ → Bool
judged t =
    head_judged t
    && (rows_judged (used_in t) (slot_in t) (last_in t) (next_in t) 0 (drop head_size t) && zeros (drop (head_size + row_size * used_in t) t))
