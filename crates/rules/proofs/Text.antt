-- What stationround prints, by hand: document 01's sample, its lines that are refused, and further inputs, on a table of two rows that is zero at first.
use mathlib.Core.Path.{◌≡◌, refl}
use mathlib.Core.List.{List, [], ◌∷◌, map}
use Prim.Native.Nat.{ℕ, ◌+◌, ◌*◌}
use lib.ListN.{replicate}
use Rattle.rules.specs.Limits.{head_size, row_size}
use Rattle.rules.specs.Rows.{row, blank, round, slots_left, heavier, canonical, into, sorted}
use Rattle.rules.specs.Plan.{due_by, fits_from, feasible, kept, blanks_from, plan, total_weight, tight, tight_from, tight_after, segment_from, segment_start, first_end, least_weight, mark_in, same_row, in_plan, lightest_by, heaviest_outside, substitute, beats_golden, golden_more, sends_before, best_from, best, first_from, canonical_first}
use Rattle.rules.specs.Steps.{opened, taken, sealed, changed, without, heaviest_between, shifted, replaced, leapt, turn_of, still_due, is_ordinary, sent}
use Rattle.rules.specs.Table.{low, value, field, put, row_bytes, rows_bytes, head_bytes, table, rows_in, rows_of, round_in, length_good, every, rows_good, round_good, same, table_refusal}
use Rattle.rules.specs.Calls.{first, act, question, deed, round_refusal, out_of, says, leaves, table_first, refusal, answer, left}
use Rattle.rules.specs.Lines.{digit, is_digit, digit_value, digits, number_from, all_digits, count_digits, number_at, numbers_at, forms, found, front_size, payload_fits, has_length, call_of, body, command_of, read_digits, read, out_digits, reply_digits, reply_text, lines_from, turn, printed_from}

abbrev pub zeroed : List ℕ
zeroed = replicate (head_size + row_size * 2) 0

-- the sample, line by line, in bytes
abbrev pub sample : List ℕ
sample =
    48 ∷ 48 ∷ 48 ∷ 48 ∷ 48 ∷ 49 ∷ 10 ∷
    48 ∷ 49 ∷ 48 ∷ 48 ∷ 48 ∷ 48 ∷ 48 ∷ 48 ∷ 48 ∷ 48 ∷ 48 ∷ 48 ∷ 48 ∷ 52 ∷ 10 ∷
    48 ∷ 49 ∷ 48 ∷ 48 ∷ 48 ∷ 49 ∷ 48 ∷ 48 ∷ 48 ∷ 48 ∷ 48 ∷ 48 ∷ 48 ∷ 66 ∷ 10 ∷
    48 ∷ 50 ∷ 10 ∷
    48 ∷ 50 ∷ 10 ∷
    []

abbrev pub sample_printed : List ℕ
sample_printed =
    48 ∷ 48 ∷ 10 ∷
    48 ∷ 49 ∷ 48 ∷ 48 ∷ 48 ∷ 48 ∷ 48 ∷ 48 ∷ 48 ∷ 49 ∷ 10 ∷
    48 ∷ 49 ∷ 48 ∷ 48 ∷ 48 ∷ 48 ∷ 48 ∷ 48 ∷ 48 ∷ 50 ∷ 10 ∷
    48 ∷ 50 ∷ 48 ∷ 49 ∷ 48 ∷ 49 ∷ 48 ∷ 48 ∷ 48 ∷ 48 ∷ 48 ∷ 48 ∷ 48 ∷ 50 ∷ 10 ∷
    48 ∷ 50 ∷ 48 ∷ 50 ∷ 48 ∷ 48 ∷ 48 ∷ 48 ∷ 48 ∷ 48 ∷ 48 ∷ 48 ∷ 48 ∷ 50 ∷ 10 ∷
    []

-- 000000, 02, 02 prints FF05 last; a 02 first prints FF03; 4095 opens and 4096 gets 4; a line without its end prints FF01
abbrev pub over : List ℕ
over =
    48 ∷ 48 ∷ 48 ∷ 48 ∷ 48 ∷ 48 ∷ 10 ∷
    48 ∷ 50 ∷ 10 ∷
    48 ∷ 50 ∷ 10 ∷
    []

abbrev pub over_printed : List ℕ
over_printed =
    48 ∷ 48 ∷ 10 ∷
    48 ∷ 50 ∷ 48 ∷ 48 ∷ 48 ∷ 48 ∷ 48 ∷ 48 ∷ 48 ∷ 48 ∷ 48 ∷ 48 ∷ 48 ∷ 48 ∷ 10 ∷
    70 ∷ 70 ∷ 48 ∷ 53 ∷ 10 ∷
    []

abbrev pub early : List ℕ
early =
    48 ∷ 50 ∷ 10 ∷
    48 ∷ 48 ∷ 48 ∷ 70 ∷ 70 ∷ 70 ∷ 10 ∷
    48 ∷ 48 ∷ 49 ∷ 48 ∷ 48 ∷ 48 ∷ 10 ∷
    48 ∷ 50 ∷
    []

abbrev pub early_printed : List ℕ
early_printed =
    70 ∷ 70 ∷ 48 ∷ 51 ∷ 10 ∷
    48 ∷ 48 ∷ 10 ∷
    70 ∷ 70 ∷ 48 ∷ 52 ∷ 10 ∷
    70 ∷ 70 ∷ 48 ∷ 49 ∷ 10 ∷
    []

-- P1: a frame goes out in an ordinary step
abbrev pub first_goes : List ℕ
first_goes =
    48 ∷ 48 ∷ 48 ∷ 48 ∷ 48 ∷ 49 ∷ 10 ∷
    48 ∷ 49 ∷ 48 ∷ 48 ∷ 48 ∷ 48 ∷ 48 ∷ 48 ∷ 48 ∷ 48 ∷ 48 ∷ 48 ∷ 48 ∷ 52 ∷ 10 ∷
    48 ∷ 49 ∷ 48 ∷ 48 ∷ 48 ∷ 49 ∷ 48 ∷ 48 ∷ 48 ∷ 48 ∷ 48 ∷ 48 ∷ 48 ∷ 65 ∷ 10 ∷
    48 ∷ 50 ∷ 10 ∷
    []

abbrev pub first_goes_printed : List ℕ
first_goes_printed =
    48 ∷ 48 ∷ 10 ∷
    48 ∷ 49 ∷ 48 ∷ 48 ∷ 48 ∷ 48 ∷ 48 ∷ 48 ∷ 48 ∷ 49 ∷ 10 ∷
    48 ∷ 49 ∷ 48 ∷ 48 ∷ 48 ∷ 48 ∷ 48 ∷ 48 ∷ 48 ∷ 50 ∷ 10 ∷
    48 ∷ 50 ∷ 48 ∷ 49 ∷ 48 ∷ 48 ∷ 48 ∷ 48 ∷ 48 ∷ 48 ∷ 48 ∷ 48 ∷ 48 ∷ 49 ∷ 10 ∷
    []

-- nothing follows refusal 1, though a good line stands behind the broken one; an empty line; a 0D before the 0A; no input
abbrev pub good_behind : List ℕ
good_behind =
    48 ∷ 50 ∷ 10 ∷
    48 ∷ 71 ∷ 10 ∷
    48 ∷ 48 ∷ 48 ∷ 48 ∷ 48 ∷ 49 ∷ 10 ∷
    []

abbrev pub good_behind_printed : List ℕ
good_behind_printed =
    70 ∷ 70 ∷ 48 ∷ 51 ∷ 10 ∷
    70 ∷ 70 ∷ 48 ∷ 49 ∷ 10 ∷
    []

abbrev pub empty_line : List ℕ
empty_line =
    10 ∷
    48 ∷ 50 ∷ 10 ∷
    []

abbrev pub return_line : List ℕ
return_line =
    48 ∷ 48 ∷ 48 ∷ 48 ∷ 48 ∷ 49 ∷ 13 ∷ 10 ∷
    48 ∷ 50 ∷ 10 ∷
    []

abbrev pub one_refused : List ℕ
one_refused =
    70 ∷ 70 ∷ 48 ∷ 49 ∷ 10 ∷
    []

-- L1: 03 seals and prints 03, twice; a taking prints FF0D, also with every row in use; the sample then goes in canonical order; 03 prints FF03 and FF05
abbrev pub closing : List ℕ
closing =
    48 ∷ 51 ∷ 10 ∷
    48 ∷ 48 ∷ 48 ∷ 48 ∷ 48 ∷ 49 ∷ 10 ∷
    48 ∷ 49 ∷ 48 ∷ 48 ∷ 48 ∷ 48 ∷ 48 ∷ 48 ∷ 48 ∷ 48 ∷ 48 ∷ 48 ∷ 48 ∷ 52 ∷ 10 ∷
    48 ∷ 49 ∷ 48 ∷ 48 ∷ 48 ∷ 49 ∷ 48 ∷ 48 ∷ 48 ∷ 48 ∷ 48 ∷ 48 ∷ 48 ∷ 66 ∷ 65 ∷ 66 ∷ 10 ∷
    48 ∷ 51 ∷ 10 ∷
    48 ∷ 51 ∷ 10 ∷
    48 ∷ 49 ∷ 48 ∷ 48 ∷ 48 ∷ 48 ∷ 48 ∷ 48 ∷ 48 ∷ 48 ∷ 48 ∷ 48 ∷ 48 ∷ 49 ∷ 10 ∷
    48 ∷ 50 ∷ 10 ∷
    48 ∷ 50 ∷ 10 ∷
    48 ∷ 51 ∷ 10 ∷
    []

abbrev pub closing_printed : List ℕ
closing_printed =
    70 ∷ 70 ∷ 48 ∷ 51 ∷ 10 ∷
    48 ∷ 48 ∷ 10 ∷
    48 ∷ 49 ∷ 48 ∷ 48 ∷ 48 ∷ 48 ∷ 48 ∷ 48 ∷ 48 ∷ 49 ∷ 10 ∷
    48 ∷ 49 ∷ 48 ∷ 48 ∷ 48 ∷ 48 ∷ 48 ∷ 48 ∷ 48 ∷ 50 ∷ 10 ∷
    48 ∷ 51 ∷ 10 ∷
    48 ∷ 51 ∷ 10 ∷
    70 ∷ 70 ∷ 48 ∷ 68 ∷ 10 ∷
    48 ∷ 50 ∷ 48 ∷ 49 ∷ 48 ∷ 48 ∷ 48 ∷ 48 ∷ 48 ∷ 48 ∷ 48 ∷ 48 ∷ 48 ∷ 49 ∷ 10 ∷
    48 ∷ 50 ∷ 48 ∷ 49 ∷ 48 ∷ 48 ∷ 48 ∷ 48 ∷ 48 ∷ 48 ∷ 48 ∷ 48 ∷ 48 ∷ 50 ∷ 10 ∷
    70 ∷ 70 ∷ 48 ∷ 53 ∷ 10 ∷
    []

-- a sealed round sends silence first; opened anew it takes and leaps; line 05 is none
abbrev pub sealed_anew : List ℕ
sealed_anew =
    48 ∷ 48 ∷ 48 ∷ 48 ∷ 48 ∷ 49 ∷ 10 ∷
    48 ∷ 49 ∷ 48 ∷ 48 ∷ 48 ∷ 49 ∷ 48 ∷ 48 ∷ 48 ∷ 48 ∷ 48 ∷ 48 ∷ 48 ∷ 53 ∷ 10 ∷
    48 ∷ 51 ∷ 10 ∷
    48 ∷ 50 ∷ 10 ∷
    48 ∷ 48 ∷ 48 ∷ 48 ∷ 48 ∷ 49 ∷ 10 ∷
    48 ∷ 49 ∷ 48 ∷ 48 ∷ 48 ∷ 48 ∷ 48 ∷ 48 ∷ 48 ∷ 48 ∷ 48 ∷ 48 ∷ 48 ∷ 52 ∷ 10 ∷
    48 ∷ 49 ∷ 48 ∷ 48 ∷ 48 ∷ 49 ∷ 48 ∷ 48 ∷ 48 ∷ 48 ∷ 48 ∷ 48 ∷ 48 ∷ 66 ∷ 10 ∷
    48 ∷ 50 ∷ 10 ∷
    []

abbrev pub sealed_anew_printed : List ℕ
sealed_anew_printed =
    48 ∷ 48 ∷ 10 ∷
    48 ∷ 49 ∷ 48 ∷ 48 ∷ 48 ∷ 48 ∷ 48 ∷ 48 ∷ 48 ∷ 49 ∷ 10 ∷
    48 ∷ 51 ∷ 10 ∷
    48 ∷ 50 ∷ 48 ∷ 48 ∷ 48 ∷ 48 ∷ 48 ∷ 48 ∷ 48 ∷ 48 ∷ 48 ∷ 48 ∷ 48 ∷ 48 ∷ 10 ∷
    48 ∷ 48 ∷ 10 ∷
    48 ∷ 49 ∷ 48 ∷ 48 ∷ 48 ∷ 48 ∷ 48 ∷ 48 ∷ 48 ∷ 49 ∷ 10 ∷
    48 ∷ 49 ∷ 48 ∷ 48 ∷ 48 ∷ 48 ∷ 48 ∷ 48 ∷ 48 ∷ 50 ∷ 10 ∷
    48 ∷ 50 ∷ 48 ∷ 49 ∷ 48 ∷ 49 ∷ 48 ∷ 48 ∷ 48 ∷ 48 ∷ 48 ∷ 48 ∷ 48 ∷ 50 ∷ 10 ∷
    []

abbrev pub unnumbered : List ℕ
unnumbered =
    48 ∷ 48 ∷ 48 ∷ 48 ∷ 48 ∷ 49 ∷ 10 ∷
    48 ∷ 53 ∷ 10 ∷
    []

abbrev pub unnumbered_printed : List ℕ
unnumbered_printed =
    48 ∷ 48 ∷ 10 ∷
    70 ∷ 70 ∷ 48 ∷ 49 ∷ 10 ∷
    []

-- L2: 04 prints what 01 does, and its payload is passed over; 01 means class 0, so it goes before class 1 with the smaller ticket, and not before class 00
abbrev pub by_class : List ℕ
by_class =
    48 ∷ 48 ∷ 48 ∷ 48 ∷ 48 ∷ 48 ∷ 10 ∷
    48 ∷ 52 ∷ 48 ∷ 48 ∷ 48 ∷ 48 ∷ 48 ∷ 48 ∷ 48 ∷ 48 ∷ 48 ∷ 48 ∷ 48 ∷ 53 ∷ 48 ∷ 49 ∷ 65 ∷ 66 ∷ 10 ∷
    48 ∷ 49 ∷ 48 ∷ 48 ∷ 48 ∷ 48 ∷ 48 ∷ 48 ∷ 48 ∷ 48 ∷ 48 ∷ 48 ∷ 48 ∷ 53 ∷ 10 ∷
    48 ∷ 50 ∷ 10 ∷
    48 ∷ 48 ∷ 48 ∷ 48 ∷ 48 ∷ 48 ∷ 10 ∷
    48 ∷ 49 ∷ 48 ∷ 48 ∷ 48 ∷ 48 ∷ 48 ∷ 48 ∷ 48 ∷ 48 ∷ 48 ∷ 48 ∷ 48 ∷ 53 ∷ 10 ∷
    48 ∷ 52 ∷ 48 ∷ 48 ∷ 48 ∷ 48 ∷ 48 ∷ 48 ∷ 48 ∷ 48 ∷ 48 ∷ 48 ∷ 48 ∷ 53 ∷ 48 ∷ 48 ∷ 10 ∷
    48 ∷ 50 ∷ 10 ∷
    []

abbrev pub by_class_printed : List ℕ
by_class_printed =
    48 ∷ 48 ∷ 10 ∷
    48 ∷ 49 ∷ 48 ∷ 48 ∷ 48 ∷ 48 ∷ 48 ∷ 48 ∷ 48 ∷ 49 ∷ 10 ∷
    48 ∷ 49 ∷ 48 ∷ 48 ∷ 48 ∷ 48 ∷ 48 ∷ 48 ∷ 48 ∷ 50 ∷ 10 ∷
    48 ∷ 50 ∷ 48 ∷ 49 ∷ 48 ∷ 48 ∷ 48 ∷ 48 ∷ 48 ∷ 48 ∷ 48 ∷ 48 ∷ 48 ∷ 50 ∷ 10 ∷
    48 ∷ 48 ∷ 10 ∷
    48 ∷ 49 ∷ 48 ∷ 48 ∷ 48 ∷ 48 ∷ 48 ∷ 48 ∷ 48 ∷ 49 ∷ 10 ∷
    48 ∷ 49 ∷ 48 ∷ 48 ∷ 48 ∷ 48 ∷ 48 ∷ 48 ∷ 48 ∷ 50 ∷ 10 ∷
    48 ∷ 50 ∷ 48 ∷ 49 ∷ 48 ∷ 48 ∷ 48 ∷ 48 ∷ 48 ∷ 48 ∷ 48 ∷ 48 ∷ 48 ∷ 49 ∷ 10 ∷
    []

-- class 02 goes before class 03 of the smaller ticket; sealed, 04 prints FF0D; both rows in use, FF09
abbrev pub by_classes : List ℕ
by_classes =
    48 ∷ 48 ∷ 48 ∷ 48 ∷ 48 ∷ 49 ∷ 10 ∷
    48 ∷ 52 ∷ 48 ∷ 48 ∷ 48 ∷ 49 ∷ 48 ∷ 48 ∷ 48 ∷ 48 ∷ 48 ∷ 48 ∷ 48 ∷ 53 ∷ 48 ∷ 51 ∷ 10 ∷
    48 ∷ 52 ∷ 48 ∷ 48 ∷ 48 ∷ 49 ∷ 48 ∷ 48 ∷ 48 ∷ 48 ∷ 48 ∷ 48 ∷ 48 ∷ 53 ∷ 48 ∷ 50 ∷ 10 ∷
    48 ∷ 52 ∷ 48 ∷ 48 ∷ 48 ∷ 49 ∷ 48 ∷ 48 ∷ 48 ∷ 48 ∷ 48 ∷ 48 ∷ 48 ∷ 53 ∷ 48 ∷ 49 ∷ 10 ∷
    48 ∷ 51 ∷ 10 ∷
    48 ∷ 52 ∷ 48 ∷ 48 ∷ 48 ∷ 49 ∷ 48 ∷ 48 ∷ 48 ∷ 48 ∷ 48 ∷ 48 ∷ 48 ∷ 53 ∷ 48 ∷ 52 ∷ 10 ∷
    48 ∷ 50 ∷ 10 ∷
    48 ∷ 50 ∷ 10 ∷
    []

abbrev pub by_classes_printed : List ℕ
by_classes_printed =
    48 ∷ 48 ∷ 10 ∷
    48 ∷ 49 ∷ 48 ∷ 48 ∷ 48 ∷ 48 ∷ 48 ∷ 48 ∷ 48 ∷ 49 ∷ 10 ∷
    48 ∷ 49 ∷ 48 ∷ 48 ∷ 48 ∷ 48 ∷ 48 ∷ 48 ∷ 48 ∷ 50 ∷ 10 ∷
    70 ∷ 70 ∷ 48 ∷ 57 ∷ 10 ∷
    48 ∷ 51 ∷ 10 ∷
    70 ∷ 70 ∷ 48 ∷ 68 ∷ 10 ∷
    48 ∷ 50 ∷ 48 ∷ 49 ∷ 48 ∷ 48 ∷ 48 ∷ 48 ∷ 48 ∷ 48 ∷ 48 ∷ 48 ∷ 48 ∷ 50 ∷ 10 ∷
    48 ∷ 50 ∷ 48 ∷ 49 ∷ 48 ∷ 48 ∷ 48 ∷ 48 ∷ 48 ∷ 48 ∷ 48 ∷ 48 ∷ 48 ∷ 49 ∷ 10 ∷
    []

-- classes above 3 print FF0E, behind FF06 and FF07, and FF05 past the last slot; 03 is taken; without its class digits 04 prints FF01
abbrev pub no_class : List ℕ
no_class =
    48 ∷ 52 ∷ 48 ∷ 48 ∷ 48 ∷ 48 ∷ 48 ∷ 48 ∷ 48 ∷ 48 ∷ 48 ∷ 48 ∷ 48 ∷ 53 ∷ 48 ∷ 52 ∷ 10 ∷
    48 ∷ 48 ∷ 48 ∷ 48 ∷ 48 ∷ 48 ∷ 10 ∷
    48 ∷ 52 ∷ 48 ∷ 48 ∷ 48 ∷ 48 ∷ 48 ∷ 48 ∷ 48 ∷ 48 ∷ 48 ∷ 48 ∷ 48 ∷ 53 ∷ 48 ∷ 52 ∷ 10 ∷
    48 ∷ 52 ∷ 48 ∷ 48 ∷ 48 ∷ 48 ∷ 48 ∷ 48 ∷ 48 ∷ 48 ∷ 48 ∷ 48 ∷ 48 ∷ 53 ∷ 70 ∷ 70 ∷ 10 ∷
    48 ∷ 52 ∷ 48 ∷ 48 ∷ 48 ∷ 48 ∷ 48 ∷ 48 ∷ 48 ∷ 48 ∷ 48 ∷ 48 ∷ 48 ∷ 48 ∷ 48 ∷ 52 ∷ 10 ∷
    48 ∷ 52 ∷ 48 ∷ 48 ∷ 48 ∷ 49 ∷ 48 ∷ 48 ∷ 48 ∷ 48 ∷ 48 ∷ 48 ∷ 48 ∷ 53 ∷ 48 ∷ 52 ∷ 10 ∷
    48 ∷ 52 ∷ 48 ∷ 48 ∷ 48 ∷ 48 ∷ 48 ∷ 48 ∷ 48 ∷ 48 ∷ 48 ∷ 48 ∷ 48 ∷ 53 ∷ 48 ∷ 51 ∷ 10 ∷
    48 ∷ 50 ∷ 10 ∷
    48 ∷ 52 ∷ 48 ∷ 48 ∷ 48 ∷ 48 ∷ 48 ∷ 48 ∷ 48 ∷ 48 ∷ 48 ∷ 48 ∷ 48 ∷ 53 ∷ 48 ∷ 52 ∷ 10 ∷
    48 ∷ 52 ∷ 48 ∷ 48 ∷ 48 ∷ 48 ∷ 48 ∷ 48 ∷ 48 ∷ 48 ∷ 48 ∷ 48 ∷ 48 ∷ 53 ∷ 10 ∷
    []

abbrev pub no_class_printed : List ℕ
no_class_printed =
    70 ∷ 70 ∷ 48 ∷ 51 ∷ 10 ∷
    48 ∷ 48 ∷ 10 ∷
    70 ∷ 70 ∷ 48 ∷ 69 ∷ 10 ∷
    70 ∷ 70 ∷ 48 ∷ 69 ∷ 10 ∷
    70 ∷ 70 ∷ 48 ∷ 54 ∷ 10 ∷
    70 ∷ 70 ∷ 48 ∷ 55 ∷ 10 ∷
    48 ∷ 49 ∷ 48 ∷ 48 ∷ 48 ∷ 48 ∷ 48 ∷ 48 ∷ 48 ∷ 49 ∷ 10 ∷
    48 ∷ 50 ∷ 48 ∷ 49 ∷ 48 ∷ 48 ∷ 48 ∷ 48 ∷ 48 ∷ 48 ∷ 48 ∷ 48 ∷ 48 ∷ 49 ∷ 10 ∷
    70 ∷ 70 ∷ 48 ∷ 53 ∷ 10 ∷
    70 ∷ 70 ∷ 48 ∷ 49 ∷ 10 ∷
    []

-- half a payload byte behind the class prints FF01, and nothing follows
abbrev pub odd_class : List ℕ
odd_class =
    48 ∷ 48 ∷ 48 ∷ 48 ∷ 48 ∷ 48 ∷ 10 ∷
    48 ∷ 52 ∷ 48 ∷ 48 ∷ 48 ∷ 48 ∷ 48 ∷ 48 ∷ 48 ∷ 48 ∷ 48 ∷ 48 ∷ 48 ∷ 53 ∷ 48 ∷ 51 ∷ 65 ∷ 10 ∷
    48 ∷ 50 ∷ 10 ∷
    []

abbrev pub odd_class_printed : List ℕ
odd_class_printed =
    48 ∷ 48 ∷ 10 ∷
    70 ∷ 70 ∷ 48 ∷ 49 ∷ 10 ∷
    []

abbrev pub shown : List ℕ → List ℕ
shown input = printed_from (lines_from [] input) zeroed

-- THE FACT: each prints as written
abbrev pub inputs : List (List ℕ)
inputs =
    sample ∷ over ∷ early ∷ first_goes ∷ good_behind ∷ empty_line ∷ return_line ∷ [] ∷ closing ∷ sealed_anew ∷ unnumbered
    ∷ by_class ∷ by_classes ∷ no_class ∷ odd_class ∷ []

abbrev pub outputs : List (List ℕ)
outputs =
    sample_printed ∷ over_printed ∷ early_printed ∷ first_goes_printed ∷ good_behind_printed ∷ one_refused ∷ one_refused ∷ [] ∷ closing_printed
    ∷ sealed_anew_printed ∷ unnumbered_printed ∷ by_class_printed ∷ by_classes_printed ∷ no_class_printed ∷ odd_class_printed ∷ []

pub lines_by_hand : map shown inputs ≡ outputs
unfolding row blank round slots_left heavier canonical into sorted due_by fits_from feasible kept blanks_from plan total_weight tight tight_from
    tight_after segment_from segment_start first_end least_weight mark_in same_row in_plan lightest_by heaviest_outside substitute beats_golden
    golden_more sends_before best_from best first_from canonical_first opened taken sealed changed without heaviest_between shifted replaced leapt
    turn_of still_due is_ordinary sent low value field put row_bytes rows_bytes head_bytes table rows_in rows_of round_in length_good every rows_good
    round_good same table_refusal first act question deed round_refusal out_of says leaves table_first refusal answer left digit is_digit digit_value
    digits number_from all_digits call_of body count_digits number_at numbers_at forms found front_size payload_fits has_length command_of read_digits
    read out_digits reply_digits reply_text lines_from turn printed_from
lines_by_hand = refl
