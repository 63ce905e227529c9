-- THE LAYOUT, byte for byte: a table with a value above 255 in every field wider than a byte but the rows in use; those in a head; words of eight bytes.
use mathlib.Core.Path.{◌≡◌, refl}
use mathlib.Core.List.{List, [], ◌∷◌, ◌++◌, map}
use Prim.Native.Nat.{ℕ, ◌*◌, ◌-◌}
use lib.ListN.{take, replicate}
use Rattle.rules.specs.Rows.{Round, row, round, frame_tail, blank_tail, sealed_tail}
use Rattle.rules.specs.Steps.{taken, sealed}
use Rattle.rules.specs.Table.{low, value, field, put, row_bytes, rows_bytes, head_bytes, table, rows_in, rows_of, round_in, length_good, every, rows_good, round_good, same, table_refusal}
use Rattle.rules.specs.Calls.{first, act, deed, round_refusal, leaves, table_first, refusal, left}
use Rattle.rules.specs.Conditions.{class_in}
use Rattle.rules.proofs.Played.{takes_of, seals, plain, waits}

-- slot 0102, last slot 0304, next ticket 00060608, sealed, one frame of class 2 and one kept blank in so many rows (hexadecimal)
abbrev pub vector_round : (rows : ℕ) → Round
vector_round n = round 258 772 394760 n (row 66051 515 16777216 (frame_tail 2) ∷ row 394759 772 197121 blank_tail ∷ []) sealed_tail

-- its bytes, with the rows behind, whatever the head's byte 10 is, the frame's byte 11, the kept blank's, and the frame's bytes 12 and 23
abbrev pub vector_rows : (behind sealed class kept_class twelve last : ℕ) → List ℕ
vector_rows n b c k z e =
    -- current slot, last slot, next ticket, rows in use, sealed, zeros
    2 ∷ 1 ∷ 4 ∷ 3 ∷ 8 ∷ 6 ∷ 6 ∷ 0 ∷ 2 ∷ 0 ∷ b ∷ 0 ∷ 0 ∷ 0 ∷ 0 ∷ 0 ∷
    -- ticket, due slot, weight, kind, class, zeros
    3 ∷ 2 ∷ 1 ∷ 0 ∷ 3 ∷ 2 ∷ 0 ∷ 0 ∷ 0 ∷ 1 ∷ 0 ∷ c ∷ z ∷ 0 ∷ 0 ∷ 0 ∷ 0 ∷ 0 ∷ 0 ∷ 0 ∷ 0 ∷ 0 ∷ 0 ∷ e ∷
    7 ∷ 6 ∷ 6 ∷ 0 ∷ 4 ∷ 3 ∷ 1 ∷ 2 ∷ 3 ∷ 0 ∷ 1 ∷ k ∷ 0 ∷ 0 ∷ 0 ∷ 0 ∷ 0 ∷ 0 ∷ 0 ∷ 0 ∷ 0 ∷ 0 ∷ 0 ∷ 0 ∷
    replicate (24 * n) 0

-- in four rows
abbrev pub vector_bytes : (sealed class kept_class twelve last : ℕ) → List ℕ
vector_bytes b c k z e = vector_rows 2 b c k z e

abbrev pub vector_with : (sealed : ℕ) → List ℕ
vector_with b = vector_bytes b 2 3 0 0

pub vector_written : table (vector_round 4) ≡ vector_with 1
unfolding row round low put row_bytes rows_bytes head_bytes table
vector_written = refl

-- and in 259, more than a byte counts: sealed, so read and written
abbrev pub vector_long : (sealed : ℕ) → List ℕ
vector_long b = vector_rows 257 b 2 3 0 0

pub vector_long_sealed : left seals (vector_long 0) ≡ vector_long 1
unfolding row round low value field put row_bytes rows_bytes head_bytes table rows_in rows_of round_in length_good every rows_good round_good same
    table_refusal first sealed act deed round_refusal leaves table_first refusal left
vector_long_sealed = refl

-- SEALING sets byte 10 and no other, and a sealed table stays as it is
pub vector_sealed : map (left seals) (vector_with 0 ∷ vector_with 1 ∷ []) ≡ vector_with 1 ∷ vector_with 1 ∷ []
unfolding row round low value field put row_bytes rows_bytes head_bytes table rows_in rows_of round_in length_good every rows_good round_good same
    table_refusal first sealed act deed round_refusal leaves table_first refusal left
vector_sealed = refl

-- 0 and 1 in byte 10 are sound, and nothing else is
pub vector_sound : map table_refusal (map vector_with (0 ∷ 1 ∷ 2 ∷ 3 ∷ 128 ∷ 255 ∷ [])) ≡ 0 ∷ 0 ∷ 3 ∷ 3 ∷ 3 ∷ 3 ∷ []
unfolding row round low value field put row_bytes rows_bytes head_bytes table rows_in rows_of round_in length_good every rows_good round_good same
    table_refusal
vector_sound = refl

-- A CLASS: byte 11 of a frame's row is 0 to 3, of a kept blank's 3 alone; the bytes behind are zeros
pub vector_classes : map (λ (c : ℕ). table_refusal (vector_bytes 0 c 3 0 0)) (0 ∷ 1 ∷ 2 ∷ 3 ∷ 4 ∷ 5 ∷ 128 ∷ 255 ∷ []) ≡ 0 ∷ 0 ∷ 0 ∷ 0 ∷ 3 ∷ 3 ∷ 3 ∷ 3 ∷ []
unfolding row round low value field put row_bytes rows_bytes head_bytes table rows_in rows_of round_in length_good every rows_good round_good same
    table_refusal
vector_classes = refl

pub vector_kept_classes : map (λ (k : ℕ). table_refusal (vector_bytes 0 2 k 0 0)) (0 ∷ 1 ∷ 2 ∷ 3 ∷ 4 ∷ 7 ∷ 255 ∷ []) ≡ 3 ∷ 3 ∷ 3 ∷ 0 ∷ 3 ∷ 3 ∷ 3 ∷ []
unfolding row round low value field put row_bytes rows_bytes head_bytes table rows_in rows_of round_in length_good every rows_good round_good same
    table_refusal
vector_kept_classes = refl

pub vector_zeros :
    map table_refusal (vector_bytes 0 2 3 1 0 ∷ vector_bytes 0 0 3 2 0 ∷ vector_bytes 0 2 3 255 0 ∷ vector_bytes 0 2 3 0 1 ∷ []) ≡ 3 ∷ 3 ∷ 3 ∷ 3 ∷ []
unfolding row round low value field put row_bytes rows_bytes head_bytes table rows_in rows_of round_in length_good every rows_good round_good same
    table_refusal
vector_zeros = refl

-- as the conditions read it, whatever stands behind
pub vector_class_in : map (class_in (vector_bytes 0 2 3 7 0)) (0 ∷ 1 ∷ 2 ∷ []) ≡ 2 ∷ 3 ∷ 0 ∷ []
unfolding value field
vector_class_in = refl

-- A TAKING writes the class into byte 11 of the first unused row: one frame and two rows, before and after
abbrev pub one_row : List ℕ
one_row =
    2 ∷ 1 ∷ 4 ∷ 3 ∷ 8 ∷ 6 ∷ 6 ∷ 0 ∷ 1 ∷ 0 ∷ 0 ∷ 0 ∷ 0 ∷ 0 ∷ 0 ∷ 0 ∷
    3 ∷ 2 ∷ 1 ∷ 0 ∷ 3 ∷ 2 ∷ 0 ∷ 0 ∷ 0 ∷ 1 ∷ 0 ∷ 2 ∷ 0 ∷ 0 ∷ 0 ∷ 0 ∷ 0 ∷ 0 ∷ 0 ∷ 0 ∷ 0 ∷ 0 ∷ 0 ∷ 0 ∷
    replicate 24 0

abbrev pub two_rows : (class : ℕ) → List ℕ
two_rows c =
    2 ∷ 1 ∷ 4 ∷ 3 ∷ 9 ∷ 6 ∷ 6 ∷ 0 ∷ 2 ∷ 0 ∷ 0 ∷ 0 ∷ 0 ∷ 0 ∷ 0 ∷ 0 ∷
    3 ∷ 2 ∷ 1 ∷ 0 ∷ 3 ∷ 2 ∷ 0 ∷ 0 ∷ 0 ∷ 1 ∷ 0 ∷ 2 ∷ 0 ∷ 0 ∷ 0 ∷ 0 ∷ 0 ∷ 0 ∷ 0 ∷ 0 ∷ 0 ∷ 0 ∷ 0 ∷ 0 ∷
    8 ∷ 6 ∷ 6 ∷ 0 ∷ 4 ∷ 3 ∷ 1 ∷ 2 ∷ 3 ∷ 0 ∷ 0 ∷ c ∷ 0 ∷ 0 ∷ 0 ∷ 0 ∷ 0 ∷ 0 ∷ 0 ∷ 0 ∷ 0 ∷ 0 ∷ 0 ∷ 0 ∷
    []

pub vector_taken :
    map (λ (c : ℕ). left (takes_of c 772 197121) one_row) (0 ∷ 1 ∷ 2 ∷ 3 ∷ 4 ∷ 255 ∷ 256 ∷ [])
    ≡ two_rows 0 ∷ two_rows 1 ∷ two_rows 2 ∷ two_rows 3 ∷ one_row ∷ one_row ∷ one_row ∷ []
unfolding row round low value field put row_bytes rows_bytes head_bytes table rows_in rows_of round_in length_good every rows_good round_good same
    table_refusal first taken act deed round_refusal leaves table_first refusal left
vector_taken = refl

-- and the head alone with 0102 rows in use, unsealed
pub vector_head : take 16 (table (plain 258 772 394760 259 (replicate 258 (waits 1 515 1)))) ≡ 2 ∷ 1 ∷ 4 ∷ 3 ∷ 8 ∷ 6 ∷ 6 ∷ 0 ∷ 2 ∷ 1 ∷ replicate 6 0
unfolding row round low put row_bytes rows_bytes head_bytes table
vector_head = refl

-- WORDS of eight bytes: each byte alone, all of them, none
abbrev pub byte_alone : ℕ → List ℕ
byte_alone i = replicate i 0 ++ (1 ∷ replicate (7 - i) 0)

pub vector_words :
    map (λ (i : ℕ). value (byte_alone i)) (0 ∷ 1 ∷ 2 ∷ 3 ∷ 4 ∷ 5 ∷ 6 ∷ 7 ∷ [])
    ≡ 1 ∷ 256 ∷ 65536 ∷ 16777216 ∷ 4294967296 ∷ 1099511627776 ∷ 281474976710656 ∷ 72057594037927936 ∷ []
unfolding value
vector_words = refl

pub vector_word : (value (replicate 8 255) ≡ 18446744073709551615) × (value (replicate 8 0) ≡ 0)
unfolding value
vector_word = (refl, refl)
