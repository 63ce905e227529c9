-- Inputs cut into reads, by hand: what is written for each read, and what is there afterwards, on a table of two rows that is zero at first.
use mathlib.Core.Path.{◌≡◌, refl}
use mathlib.Core.Bool.{Bool, true, false, cond}
use mathlib.Core.List.{List, [], ◌∷◌, ◌++◌}
use Prim.Native.Nat.{ℕ}
use native.Mathlib.Omega.{arith}
use lib.ListN.{replicate}
use Rattle.rules.specs.Rows.{Row, row, blank, round, slots_left, heavier, canonical, into, sorted, frame_tail}
use Rattle.rules.specs.Plan.{due_by, fits_from, feasible, kept, blanks_from, plan, total_weight, tight, tight_from, tight_after, segment_from, segment_start, first_end, least_weight, mark_in, same_row, in_plan, lightest_by, heaviest_outside, substitute, beats_golden, golden_more, sends_before, best_from, best, first_from, canonical_first}
use Rattle.rules.specs.Steps.{opened, taken, sealed, changed, without, heaviest_between, shifted, replaced, leapt, turn_of, still_due, is_ordinary, sent}
use Rattle.rules.specs.Table.{low, value, field, put, row_bytes, rows_bytes, head_bytes, table, rows_in, rows_of, round_in, length_good, every, rows_good, round_good, same, table_refusal}
use Rattle.rules.specs.Calls.{first, act, question, deed, round_refusal, out_of, says, leaves, table_first, refusal, answer, left, run}
use Rattle.rules.specs.Lines.{digit, is_digit, digit_value, digits, number_from, all_digits, count_digits, number_at, numbers_at, forms, found, front_size, payload_fits, has_length, call_of, body, command_of, read_digits, read, out_digits, reply_digits, reply_text, turn, printed_from}
use Rattle.rules.specs.Reads.{complete_from, begun_from, asked, calls_of, stops, overlong, served, written, between_after, SomeBytes}
use Rattle.rules.proofs.Text.{zeroed}
use Rattle.rules.proofs.LineVectors.{sixteen}

-- READS BY HAND: the bytes written for each that is made, then the line held, whether it is over, and the waiting rows
pub record ReadsByHand : Type 0 where
  pub reads : List (List ℕ)
  pub writes : List (List ℕ)
  pub held : List ℕ
  pub over : Bool
  pub rows : List Row

-- the same by the definitions
abbrev pub each_written : (table held : List ℕ) → (reads : List (List ℕ)) → List (List ℕ)
each_written t h [] = []
each_written t h (x ∷ xs) =
    let s = served t h x in written t h x ∷ cond s.over [] (each_written s.table s.held xs)

abbrev pub made : List ReadsByHand → List ReadsByHand
made [] = []
made (x ∷ xs) =
    let s = between_after zeroed [] x.reads in
    record {
      reads = x.reads;
      writes = each_written zeroed [] x.reads;
      held = s.held;
      over = s.over;
      rows = (round_in s.table).rows;
    }
    ∷ made xs

-- the most payload digits
abbrev pub whole_payload : List ℕ
whole_payload = sixteen ++ sixteen ++ sixteen

abbrev pub reads : List ReadsByHand
reads =
    -- document 01's sample in four reads, cut inside its lines; a read of no bytes is the end
    record {
      reads =
          (48 ∷ 48 ∷ 48 ∷ 48 ∷ 48 ∷ []) ∷
          (49 ∷ 10 ∷ 48 ∷ 49 ∷ 48 ∷ 48 ∷ 48 ∷ 48 ∷ 48 ∷ 48 ∷ 48 ∷ 48 ∷ 48 ∷ []) ∷
          (48 ∷ 48 ∷ 52 ∷ 10 ∷ 48 ∷ 49 ∷ 48 ∷ 48 ∷ 48 ∷ 49 ∷ 48 ∷ 48 ∷ 48 ∷ 48 ∷ 48 ∷ 48 ∷ 48 ∷ 66 ∷ 10 ∷ 48 ∷ 50 ∷ []) ∷
          (10 ∷ 48 ∷ 50 ∷ 10 ∷ []) ∷
          [] ∷
          [];
      writes =
          [] ∷
          (48 ∷ 48 ∷ 10 ∷ []) ∷
          (48 ∷ 49 ∷ 48 ∷ 48 ∷ 48 ∷ 48 ∷ 48 ∷ 48 ∷ 48 ∷ 49 ∷ 10 ∷ 48 ∷ 49 ∷ 48 ∷ 48 ∷ 48 ∷ 48 ∷ 48 ∷ 48 ∷ 48 ∷ 50 ∷ 10 ∷ []) ∷
          (48 ∷ 50 ∷ 48 ∷ 49 ∷ 48 ∷ 49 ∷ 48 ∷ 48 ∷ 48 ∷ 48 ∷ 48 ∷ 48 ∷ 48 ∷ 50 ∷ 10 ∷ 48 ∷ 50 ∷ 48 ∷ 50 ∷ 48 ∷ 48 ∷ 48 ∷ 48 ∷ 48 ∷ 48 ∷ 48 ∷ 48 ∷ 48 ∷ 50 ∷ 10 ∷ []) ∷
          [] ∷
          [];
      held = [];
      over = true;
      rows = [];
    } ∷
    -- before the end a line begun is held, and the table is that of the lines so far
    record {
      reads =
          (48 ∷ 48 ∷ 48 ∷ 48 ∷ 48 ∷ []) ∷
          (49 ∷ 10 ∷ 48 ∷ 49 ∷ 48 ∷ 48 ∷ 48 ∷ 48 ∷ 48 ∷ 48 ∷ 48 ∷ 48 ∷ 48 ∷ []) ∷
          (48 ∷ 48 ∷ 52 ∷ 10 ∷ 48 ∷ 49 ∷ 48 ∷ 48 ∷ 48 ∷ 49 ∷ 48 ∷ 48 ∷ 48 ∷ 48 ∷ 48 ∷ 48 ∷ 48 ∷ 66 ∷ 10 ∷ 48 ∷ 50 ∷ []) ∷
          [];
      writes =
          [] ∷
          (48 ∷ 48 ∷ 10 ∷ []) ∷
          (48 ∷ 49 ∷ 48 ∷ 48 ∷ 48 ∷ 48 ∷ 48 ∷ 48 ∷ 48 ∷ 49 ∷ 10 ∷ 48 ∷ 49 ∷ 48 ∷ 48 ∷ 48 ∷ 48 ∷ 48 ∷ 48 ∷ 48 ∷ 50 ∷ 10 ∷ []) ∷
          [];
      held = 48 ∷ 50 ∷ [];
      over = false;
      rows = row 1 0 4 (frame_tail 0) ∷ row 2 1 11 (frame_tail 0) ∷ [];
    } ∷
    -- one byte at a time
    record {
      reads =
          (48 ∷ []) ∷
          (50 ∷ []) ∷
          (10 ∷ []) ∷
          (48 ∷ []) ∷
          (50 ∷ []) ∷
          (10 ∷ []) ∷
          [] ∷
          [];
      writes =
          [] ∷
          [] ∷
          (70 ∷ 70 ∷ 48 ∷ 51 ∷ 10 ∷ []) ∷
          [] ∷
          [] ∷
          (70 ∷ 70 ∷ 48 ∷ 51 ∷ 10 ∷ []) ∷
          [] ∷
          [];
      held = [];
      over = true;
      rows = [];
    } ∷
    -- an unended line, of one byte too, is refused at the end
    record {
      reads =
          (48 ∷ 50 ∷ 10 ∷ 48 ∷ []) ∷
          [] ∷
          [];
      writes =
          (70 ∷ 70 ∷ 48 ∷ 51 ∷ 10 ∷ []) ∷
          (70 ∷ 70 ∷ 48 ∷ 49 ∷ 10 ∷ []) ∷
          [];
      held = [];
      over = true;
      rows = [];
    } ∷
    -- nothing is read after refusal 1
    record {
      reads =
          (48 ∷ 50 ∷ 10 ∷ 48 ∷ 71 ∷ 10 ∷ 48 ∷ 48 ∷ 48 ∷ 48 ∷ 48 ∷ 49 ∷ 10 ∷ []) ∷
          (48 ∷ 50 ∷ 10 ∷ []) ∷
          [] ∷
          [];
      writes =
          (70 ∷ 70 ∷ 48 ∷ 51 ∷ 10 ∷ 70 ∷ 70 ∷ 48 ∷ 49 ∷ 10 ∷ []) ∷
          [];
      held = [];
      over = true;
      rows = [];
    } ∷
    -- 65 bytes without a 0A are held, and the 0A makes a line of them; 66 are refused before it
    record {
      reads =
          (replicate 65 48) ∷
          (10 ∷ []) ∷
          [];
      writes =
          [] ∷
          (70 ∷ 70 ∷ 48 ∷ 49 ∷ 10 ∷ []) ∷
          [];
      held = [];
      over = true;
      rows = [];
    } ∷
    record {
      reads =
          (replicate 65 48) ∷
          [];
      writes =
          [] ∷
          [];
      held = replicate 65 48;
      over = false;
      rows = [];
    } ∷
    record {
      reads =
          (48 ∷ 48 ∷ 48 ∷ 48 ∷ 48 ∷ 49 ∷ 10 ∷ replicate 40 48) ∷
          (replicate 26 48) ∷
          (10 ∷ []) ∷
          [];
      writes =
          (48 ∷ 48 ∷ 10 ∷ []) ∷
          (70 ∷ 70 ∷ 48 ∷ 49 ∷ 10 ∷ []) ∷
          [];
      held = [];
      over = true;
      rows = [];
    } ∷
    -- a sealing cut into two reads, a taking after it that gets 13, a second sealing, and silence
    record {
      reads =
          (48 ∷ 48 ∷ 48 ∷ 48 ∷ 48 ∷ 49 ∷ 10 ∷ 48 ∷ []) ∷
          (51 ∷ 10 ∷ 48 ∷ 49 ∷ 48 ∷ 48 ∷ 48 ∷ 48 ∷ 48 ∷ 48 ∷ 48 ∷ 48 ∷ 48 ∷ 48 ∷ []) ∷
          (48 ∷ 52 ∷ 10 ∷ 48 ∷ []) ∷
          (51 ∷ 10 ∷ 48 ∷ 50 ∷ 10 ∷ []) ∷
          [] ∷
          [];
      writes =
          (48 ∷ 48 ∷ 10 ∷ []) ∷
          (48 ∷ 51 ∷ 10 ∷ []) ∷
          (70 ∷ 70 ∷ 48 ∷ 68 ∷ 10 ∷ []) ∷
          (48 ∷ 51 ∷ 10 ∷ 48 ∷ 50 ∷ 48 ∷ 48 ∷ 48 ∷ 48 ∷ 48 ∷ 48 ∷ 48 ∷ 48 ∷ 48 ∷ 48 ∷ 48 ∷ 48 ∷ 10 ∷ []) ∷
          [] ∷
          [];
      held = [];
      over = true;
      rows = [];
    } ∷
    -- takings with classes, cut before the class, between its digits and behind it; the rows have their classes
    record {
      reads =
          (48 ∷ 48 ∷ 48 ∷ 48 ∷ 48 ∷ 49 ∷ 10 ∷ 48 ∷ 52 ∷ 48 ∷ 48 ∷ 48 ∷ 48 ∷ 48 ∷ 48 ∷ 48 ∷ 48 ∷ 48 ∷ 48 ∷ 48 ∷ 53 ∷ []) ∷
          (48 ∷ 50 ∷ 10 ∷ 48 ∷ 52 ∷ 48 ∷ 48 ∷ 48 ∷ 49 ∷ 48 ∷ 48 ∷ 48 ∷ 48 ∷ 48 ∷ 48 ∷ 48 ∷ 66 ∷ 48 ∷ []) ∷
          (49 ∷ 65 ∷ 66 ∷ 67 ∷ 68 ∷ 10 ∷ []) ∷
          (48 ∷ 52 ∷ 48 ∷ 48 ∷ 48 ∷ 48 ∷ 48 ∷ 48 ∷ 48 ∷ 48 ∷ 48 ∷ 48 ∷ 48 ∷ 53 ∷ 48 ∷ 52 ∷ 10 ∷ 48 ∷ 52 ∷ []) ∷
          [];
      writes =
          (48 ∷ 48 ∷ 10 ∷ []) ∷
          (48 ∷ 49 ∷ 48 ∷ 48 ∷ 48 ∷ 48 ∷ 48 ∷ 48 ∷ 48 ∷ 49 ∷ 10 ∷ []) ∷
          (48 ∷ 49 ∷ 48 ∷ 48 ∷ 48 ∷ 48 ∷ 48 ∷ 48 ∷ 48 ∷ 50 ∷ 10 ∷ []) ∷
          (70 ∷ 70 ∷ 48 ∷ 69 ∷ 10 ∷ []) ∷
          [];
      held = 48 ∷ 52 ∷ [];
      over = false;
      rows = row 1 0 5 (frame_tail 2) ∷ row 2 1 11 (frame_tail 1) ∷ [];
    } ∷
    -- line 04 with a whole payload: its 64 digits are held, and the 0A makes a taking of them
    record {
      reads =
          (48 ∷ 48 ∷ 48 ∷ 48 ∷ 48 ∷ 49 ∷ 10 ∷ []) ∷
          (48 ∷ 52 ∷ 48 ∷ 48 ∷ 48 ∷ 48 ∷ 48 ∷ 48 ∷ 48 ∷ 48 ∷ 48 ∷ 48 ∷ 48 ∷ 53 ∷ 48 ∷ 51 ∷ whole_payload) ∷
          (10 ∷ []) ∷
          [];
      writes =
          (48 ∷ 48 ∷ 10 ∷ []) ∷
          [] ∷
          (48 ∷ 49 ∷ 48 ∷ 48 ∷ 48 ∷ 48 ∷ 48 ∷ 48 ∷ 48 ∷ 49 ∷ 10 ∷ []) ∷
          [];
      held = [];
      over = false;
      rows = row 1 0 5 (frame_tail 3) ∷ [];
    } ∷
    -- line 01 with a whole payload and two digits more is broken once its 0A is there
    record {
      reads =
          (48 ∷ 48 ∷ 48 ∷ 48 ∷ 48 ∷ 49 ∷ 10 ∷ []) ∷
          (48 ∷ 49 ∷ 48 ∷ 48 ∷ 48 ∷ 48 ∷ 48 ∷ 48 ∷ 48 ∷ 48 ∷ 48 ∷ 48 ∷ 48 ∷ 53 ∷ 48 ∷ 51 ∷ whole_payload) ∷
          (10 ∷ []) ∷
          [];
      writes =
          (48 ∷ 48 ∷ 10 ∷ []) ∷
          [] ∷
          (70 ∷ 70 ∷ 48 ∷ 49 ∷ 10 ∷ []) ∷
          [];
      held = [];
      over = true;
      rows = [];
    } ∷
    -- empty input
    record {
      reads =
          [] ∷
          [];
      writes =
          [] ∷
          [];
      held = [];
      over = true;
      rows = [];
    } ∷
    []

-- THE FACT: each is as written
pub reads_by_hand : made reads ≡ reads
unfolding row blank round slots_left heavier canonical into sorted due_by fits_from feasible kept blanks_from plan total_weight tight tight_from
    tight_after segment_from segment_start first_end least_weight mark_in same_row in_plan lightest_by heaviest_outside substitute beats_golden
    golden_more sends_before best_from best first_from canonical_first opened taken sealed changed without heaviest_between shifted replaced leapt
    turn_of still_due is_ordinary sent low value field put row_bytes rows_bytes head_bytes table rows_in rows_of round_in length_good every rows_good
    round_good same table_refusal first act question deed round_refusal out_of says leaves table_first refusal answer left digit is_digit digit_value
    digits number_from all_digits call_of body count_digits number_at numbers_at forms found front_size payload_fits has_length command_of read_digits
    read out_digits reply_digits reply_text turn printed_from run complete_from begun_from asked calls_of stops overlong served written between_after
reads_by_hand = refl

-- a read may have one byte
pub one_by_one : SomeBytes ((48 ∷ []) ∷ (10 ∷ []) ∷ [])
one_by_one = (omega arith, (omega arith, tt))
