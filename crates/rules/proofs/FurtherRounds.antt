-- Further rounds by hand, in the form of Rounds.antt, for what P1 to P10 leave open: each keeps a wrong definition out.
-- Their values are from a model written from document 01 alone; those of the substitutes asked, of frames beside kept blanks of equal weight,
-- and what a sealed table refuses, are worked out by hand.
use mathlib.Core.Path.{◌≡◌, refl}
use mathlib.Core.Bool.{true}
use mathlib.Core.List.{List, [], ◌∷◌}
use lib.ListN.{replicate}
use Rattle.rules.specs.Rows.{Row, row, blank, round, slots_left, heavier, canonical, into, sorted, rows_only}
use Rattle.rules.specs.Plan.{due_by, fits_from, feasible, kept, blanks_from, plan, total_weight, total, tight, tight_from, tight_after, segment_from, segment_start, first_end, least_weight, mark_in, mark, same_row, in_plan, lightest_by, heaviest_outside, substitute, beats_golden, golden_more, sends_before, best_from, best, first_from, canonical_first, listed}
use Rattle.rules.specs.Steps.{opened, taken, sealed, changed, without, heaviest_between, shifted, replaced, leapt, turn_of, still_due, is_ordinary, sent}
use Rattle.rules.specs.Table.{low, value, field, put, row_bytes, rows_bytes, head_bytes, table, rows_in, rows_of, round_in, length_good, every, rows_good, round_good, same, table_refusal}
use Rattle.rules.specs.Calls.{frame, kept_blank, ordinary, leap, refused, done, ticket, step, amount, blank_due, number_of, first, act, question, deed, round_refusal, out_of, says, leaves, table_first, refusal, answer, left}
use Rattle.rules.specs.Looking.{with_ticket, stand_in, substitute_answer, list_refusal, list_answer, list_left, shows}
use Rattle.rules.proofs.Played.{opens, takes, sends, seals, marks, totals, plain, plain_sealed, waits, waits_of, keeps, old, turn, listing, substituting, lists, refuses, Hand, found, played}

-- what waits in P4 before its sending
abbrev pub p4_rows : List Row
p4_rows = waits 1 0 4 ∷ waits 2 1 10 ∷ waits 3 2 5 ∷ waits 4 2 3 ∷ []

-- THE TABLE
abbrev pub further_rounds : List Hand
further_rounds =
    -- shifts begin at the end of p's segment, not at its due slot: none here, though a member is due later in the segment
    record {
      start = found 4;
      turns =
          turn (opens 4) done [] (0 ∷ 0 ∷ 0 ∷ 0 ∷ 0 ∷ []) ∷
          turn (takes 3 1) (ticket 1) (waits 1 3 1 ∷ []) (0 ∷ 0 ∷ 0 ∷ 0 ∷ 0 ∷ []) ∷
          turn (takes 2 3) (ticket 2) (waits 1 3 1 ∷ waits 2 2 3 ∷ []) (0 ∷ 0 ∷ 0 ∷ 0 ∷ 0 ∷ []) ∷
          turn (takes 3 3) (ticket 3) (waits 1 3 1 ∷ waits 2 2 3 ∷ waits 3 3 3 ∷ []) (0 ∷ 0 ∷ 0 ∷ 0 ∷ 0 ∷ []) ∷
          listing (2 ∷ 3 ∷ 1 ∷ []) (blank_due 1 ∷ blank_due 1 ∷ blank_due 1 ∷ []) ∷
          turn sends (step (leap (frame 2))) (waits 1 3 1 ∷ waits 3 3 3 ∷ []) (0 ∷ 0 ∷ 0 ∷ 0 ∷ []) ∷
          [];
    } ∷
    -- a kept blank goes out before its due slot, a frame of its class waiting, and leaves its row
    record {
      start = table (plain 0 1 3 3 (keeps 1 1 5 ∷ waits_of 3 2 1 5 ∷ []));
      turns =
          listing (1 ∷ 2 ∷ []) (ticket 2 ∷ ticket 2 ∷ []) ∷
          turn sends (step (ordinary (kept_blank 1))) (waits_of 3 2 1 5 ∷ []) (5 ∷ []) ∷
          [];
    } ∷
    -- three shifts, each raised to the mark of its new slot, a kept blank among them
    record {
      start = table (plain 0 4 7 7 (waits 1 0 5 ∷ waits 2 1 20 ∷ waits 3 2 4 ∷ keeps 4 3 3 ∷ waits 5 4 2 ∷ waits 6 4 1 ∷ []));
      turns =
          listing (1 ∷ 2 ∷ 3 ∷ 4 ∷ 5 ∷ []) (ticket 1 ∷ ticket 6 ∷ ticket 6 ∷ ticket 6 ∷ ticket 6 ∷ []) ∷
          turn sends (step (leap (frame 2))) (waits 3 1 5 ∷ keeps 4 2 4 ∷ waits 5 3 3 ∷ waits 6 4 2 ∷ []) (5 ∷ 4 ∷ 3 ∷ 2 ∷ []) ∷
          [];
    } ∷
    -- a kept blank waits and counts in the total, until a heavier frame takes its place
    record {
      start = found 4;
      turns =
          turn (opens 1) done [] (0 ∷ 0 ∷ []) ∷
          turn (takes 0 4) (ticket 1) (waits 1 0 4 ∷ []) (4 ∷ 0 ∷ []) ∷
          turn (takes 1 11) (ticket 2) (waits 1 0 4 ∷ waits 2 1 11 ∷ []) (4 ∷ 4 ∷ []) ∷
          turn sends (step (leap (frame 2))) (keeps 2 1 4 ∷ []) (4 ∷ []) ∷
          turn totals (amount 4) (keeps 2 1 4 ∷ []) (4 ∷ []) ∷
          turn (takes 1 3) (ticket 3) (keeps 2 1 4 ∷ waits 3 1 3 ∷ []) (4 ∷ []) ∷
          turn totals (amount 4) (keeps 2 1 4 ∷ waits 3 1 3 ∷ []) (4 ∷ []) ∷
          turn (takes 1 6) (ticket 4) (keeps 2 1 4 ∷ waits 3 1 3 ∷ waits 4 1 6 ∷ []) (6 ∷ []) ∷
          turn totals (amount 6) (keeps 2 1 4 ∷ waits 3 1 3 ∷ waits 4 1 6 ∷ []) (6 ∷ []) ∷
          listing (4 ∷ []) (ticket 4 ∷ []) ∷
          turn sends (step (ordinary (frame 4))) [] [] ∷
          [];
    } ∷
    -- r is due in a tight slot: shifts end there, so there are none; a mark of 1 keeps the blank
    record {
      start = found 4;
      turns =
          turn (opens 2) done [] (0 ∷ 0 ∷ 0 ∷ []) ∷
          turn (takes 0 1) (ticket 1) (waits 1 0 1 ∷ []) (1 ∷ 0 ∷ 0 ∷ []) ∷
          turn (takes 2 2) (ticket 2) (waits 1 0 1 ∷ waits 2 2 2 ∷ []) (1 ∷ 0 ∷ 0 ∷ []) ∷
          turn (takes 1 5) (ticket 3) (waits 1 0 1 ∷ waits 2 2 2 ∷ waits 3 1 5 ∷ []) (1 ∷ 1 ∷ 1 ∷ []) ∷
          listing (1 ∷ 3 ∷ 2 ∷ []) (ticket 1 ∷ blank_due 1 ∷ blank_due 2 ∷ []) ∷
          turn sends (step (leap (frame 3))) (waits 2 2 2 ∷ keeps 3 1 1 ∷ []) (1 ∷ 1 ∷ []) ∷
          turn sends (step (ordinary (kept_blank 3))) (waits 2 2 2 ∷ []) (2 ∷ []) ∷
          [];
    } ∷
    -- marks asked, each slot its own, with 7 before the current slot and after the last, and 5 past it
    record {
      start = table (plain 0 2 5 5 p4_rows);
      turns =
          turn (marks 0) (amount 4) p4_rows (4 ∷ 4 ∷ 4 ∷ []) ∷
          turn (marks 1) (amount 4) p4_rows (4 ∷ 4 ∷ 4 ∷ []) ∷
          turn (marks 2) (amount 4) p4_rows (4 ∷ 4 ∷ 4 ∷ []) ∷
          turn (marks 3) (refused 7) p4_rows (4 ∷ 4 ∷ 4 ∷ []) ∷
          turn sends (step (leap (frame 2))) (waits 3 1 5 ∷ waits 4 2 4 ∷ []) (5 ∷ 4 ∷ []) ∷
          turn (marks 0) (refused 7) (waits 3 1 5 ∷ waits 4 2 4 ∷ []) (5 ∷ 4 ∷ []) ∷
          turn (marks 1) (amount 5) (waits 3 1 5 ∷ waits 4 2 4 ∷ []) (5 ∷ 4 ∷ []) ∷
          turn (marks 2) (amount 4) (waits 3 1 5 ∷ waits 4 2 4 ∷ []) (5 ∷ 4 ∷ []) ∷
          turn (marks 3) (refused 7) (waits 3 1 5 ∷ waits 4 2 4 ∷ []) (5 ∷ 4 ∷ []) ∷
          turn sends (step (ordinary (frame 3))) (waits 4 2 4 ∷ []) (4 ∷ []) ∷
          turn (marks 2) (amount 4) (waits 4 2 4 ∷ []) (4 ∷ []) ∷
          turn sends (step (ordinary (frame 4))) [] [] ∷
          turn (marks 2) (refused 5) [] [] ∷
          turn (marks 3) (refused 5) [] [] ∷
          lists 1 (refused 5) (old 0 ∷ []) ∷
          [];
    } ∷
    -- frames and a kept blank of equal weight: the frames, whose class is smaller, though one has the larger ticket
    record {
      start = table (plain 0 1 4 4 (waits 1 1 5 ∷ keeps 2 1 5 ∷ waits 3 1 5 ∷ []));
      turns =
          listing (1 ∷ 3 ∷ []) (ticket 3 ∷ ticket 3 ∷ []) ∷
          turn totals (amount 10) (waits 1 1 5 ∷ keeps 2 1 5 ∷ waits 3 1 5 ∷ []) (5 ∷ 5 ∷ []) ∷
          turn sends (step (ordinary (frame 1))) (keeps 2 1 5 ∷ waits 3 1 5 ∷ []) (5 ∷ []) ∷
          turn sends (step (ordinary (frame 3))) [] [] ∷
          [];
    } ∷
    -- the frame before two kept blanks, of which the smaller ticket stays in the plan
    record {
      start = table (plain 0 1 4 4 (keeps 1 1 5 ∷ waits 2 1 5 ∷ keeps 3 1 5 ∷ []));
      turns =
          listing (2 ∷ 1 ∷ []) (ticket 1 ∷ ticket 1 ∷ []) ∷
          turn totals (amount 10) (keeps 1 1 5 ∷ waits 2 1 5 ∷ keeps 3 1 5 ∷ []) (5 ∷ 5 ∷ []) ∷
          turn sends (step (ordinary (frame 2))) (keeps 1 1 5 ∷ keeps 3 1 5 ∷ []) (5 ∷ []) ∷
          turn sends (step (ordinary (kept_blank 1))) [] [] ∷
          [];
    } ∷
    -- of equal class too: the smaller ticket, here the frame's
    record {
      start = table (plain 0 1 4 4 (waits_of 3 1 1 5 ∷ keeps 2 1 5 ∷ waits_of 3 3 1 5 ∷ []));
      turns =
          listing (1 ∷ 2 ∷ []) (ticket 2 ∷ ticket 2 ∷ []) ∷
          turn totals (amount 10) (waits_of 3 1 1 5 ∷ keeps 2 1 5 ∷ waits_of 3 3 1 5 ∷ []) (5 ∷ 5 ∷ []) ∷
          turn sends (step (ordinary (frame 1))) (keeps 2 1 5 ∷ waits_of 3 3 1 5 ∷ []) (5 ∷ []) ∷
          turn sends (step (ordinary (kept_blank 2))) [] [] ∷
          [];
    } ∷
    -- and here the kept blank's
    record {
      start = table (plain 0 1 4 4 (keeps 1 1 5 ∷ waits_of 3 2 1 5 ∷ keeps 3 1 5 ∷ []));
      turns =
          listing (1 ∷ 2 ∷ []) (ticket 2 ∷ ticket 2 ∷ []) ∷
          turn totals (amount 10) (keeps 1 1 5 ∷ waits_of 3 2 1 5 ∷ keeps 3 1 5 ∷ []) (5 ∷ 5 ∷ []) ∷
          turn sends (step (ordinary (kept_blank 1))) (waits_of 3 2 1 5 ∷ keeps 3 1 5 ∷ []) (5 ∷ []) ∷
          turn sends (step (ordinary (frame 2))) [] [] ∷
          [];
    } ∷
    -- a kept blank is the lightest of the first segment, and so the substitute there
    record {
      start = table (plain 0 3 5 5 (waits 1 1 9 ∷ keeps 2 1 3 ∷ waits 3 3 8 ∷ waits 4 3 7 ∷ []));
      turns =
          listing (1 ∷ 2 ∷ 3 ∷ 4 ∷ []) (ticket 2 ∷ ticket 2 ∷ blank_due 2 ∷ blank_due 2 ∷ []) ∷
          turn totals (amount 27) (waits 1 1 9 ∷ keeps 2 1 3 ∷ waits 3 3 8 ∷ waits 4 3 7 ∷ []) (3 ∷ 3 ∷ 3 ∷ 3 ∷ []) ∷
          turn sends (step (ordinary (frame 1))) (keeps 2 1 3 ∷ waits 3 3 8 ∷ waits 4 3 7 ∷ []) (3 ∷ 3 ∷ 3 ∷ []) ∷
          turn sends (step (leap (frame 3))) (keeps 3 2 3 ∷ waits 4 3 7 ∷ []) (3 ∷ 3 ∷ []) ∷
          [];
    } ∷
    -- substitutes that tie in weight and due slot: the smaller ticket
    record {
      start = found 7;
      turns =
          turn (opens 3) done [] (0 ∷ 0 ∷ 0 ∷ 0 ∷ []) ∷
          turn (takes 0 9) (ticket 1) (waits 1 0 9 ∷ []) (9 ∷ 0 ∷ 0 ∷ 0 ∷ []) ∷
          turn (takes 3 4) (ticket 2) (waits 1 0 9 ∷ waits 2 3 4 ∷ []) (9 ∷ 0 ∷ 0 ∷ 0 ∷ []) ∷
          turn (takes 3 4) (ticket 3) (waits 1 0 9 ∷ waits 2 3 4 ∷ waits 3 3 4 ∷ []) (9 ∷ 0 ∷ 0 ∷ 0 ∷ []) ∷
          turn (takes 3 9) (ticket 4) (waits 1 0 9 ∷ waits 2 3 4 ∷ waits 3 3 4 ∷ waits 4 3 9 ∷ []) (9 ∷ 4 ∷ 4 ∷ 4 ∷ []) ∷
          turn (takes 2 9) (ticket 5) (waits 1 0 9 ∷ waits 2 3 4 ∷ waits 3 3 4 ∷ waits 4 3 9 ∷ waits 5 2 9 ∷ []) (9 ∷ 4 ∷ 4 ∷ 4 ∷ []) ∷
          turn (takes 1 9) (ticket 6) (waits 1 0 9 ∷ waits 2 3 4 ∷ waits 3 3 4 ∷ waits 4 3 9 ∷ waits 5 2 9 ∷ waits 6 1 9 ∷ []) (9 ∷ 9 ∷ 9 ∷ 9 ∷ []) ∷
          listing (1 ∷ 6 ∷ 5 ∷ 4 ∷ []) (ticket 1 ∷ ticket 2 ∷ ticket 2 ∷ ticket 2 ∷ []) ∷
          turn sends (step (ordinary (frame 1))) (waits 2 3 4 ∷ waits 3 3 4 ∷ waits 4 3 9 ∷ waits 5 2 9 ∷ waits 6 1 9 ∷ []) (9 ∷ 9 ∷ 9 ∷ []) ∷
          [];
    } ∷
    -- a refused opening inside a list leaves the round
    record {
      start = found 3;
      turns =
          turn (opens 1) done [] (0 ∷ 0 ∷ []) ∷
          turn (takes 0 4) (ticket 1) (waits 1 0 4 ∷ []) (4 ∷ 0 ∷ []) ∷
          turn (takes 1 11) (ticket 2) (waits 1 0 4 ∷ waits 2 1 11 ∷ []) (4 ∷ 4 ∷ []) ∷
          turn (opens 4096) (refused 4) (waits 1 0 4 ∷ waits 2 1 11 ∷ []) (4 ∷ 4 ∷ []) ∷
          turn totals (amount 15) (waits 1 0 4 ∷ waits 2 1 11 ∷ []) (4 ∷ 4 ∷ []) ∷
          turn sends (step (leap (frame 2))) (keeps 2 1 4 ∷ []) (4 ∷ []) ∷
          turn (opens 4096) (refused 4) (keeps 2 1 4 ∷ []) (4 ∷ []) ∷
          turn sends (step (ordinary (kept_blank 2))) [] [] ∷
          [];
    } ∷
    -- the plan listed with room to spare, with just enough and with one too few; entries past the count stay
    record {
      start = found 5;
      turns =
          turn (opens 2) done [] (0 ∷ 0 ∷ 0 ∷ []) ∷
          lists 2 (amount 0) (old 1 ∷ old 0 ∷ []) ∷
          turn (takes 2 5) (ticket 1) (waits 1 2 5 ∷ []) (0 ∷ 0 ∷ 0 ∷ []) ∷
          turn (takes 1 10) (ticket 2) (waits 1 2 5 ∷ waits 2 1 10 ∷ []) (0 ∷ 0 ∷ 0 ∷ []) ∷
          turn (takes 2 3) (ticket 3) (waits 1 2 5 ∷ waits 2 1 10 ∷ waits 3 2 3 ∷ []) (3 ∷ 3 ∷ 3 ∷ []) ∷
          turn (takes 0 4) (ticket 4) (waits 1 2 5 ∷ waits 2 1 10 ∷ waits 3 2 3 ∷ waits 4 0 4 ∷ []) (4 ∷ 4 ∷ 4 ∷ []) ∷
          lists 5 (amount 3) (waits 4 0 4 ∷ waits 2 1 10 ∷ waits 1 2 5 ∷ old 1 ∷ old 0 ∷ []) ∷
          lists 3 (amount 3) (waits 4 0 4 ∷ waits 2 1 10 ∷ waits 1 2 5 ∷ []) ∷
          lists 2 (refused 12) (old 1 ∷ old 0 ∷ []) ∷
          [];
    } ∷
    -- a kept blank is listed, a row outside the plan is not
    record {
      start = table (plain 0 2 5 5 (waits 1 0 4 ∷ waits 2 1 20 ∷ keeps 3 2 9 ∷ waits 4 2 2 ∷ []));
      turns =
          lists 4 (amount 3) (waits 1 0 4 ∷ waits 2 1 20 ∷ keeps 3 2 9 ∷ old 0 ∷ []) ∷
          lists 2 (refused 12) (old 1 ∷ old 0 ∷ []) ∷
          [];
    } ∷
    -- substitutes asked: 11 outside the plan; 10 of a ticket in no row: 0, the next one, one gone, one sent
    record {
      start = table (plain 0 2 5 5 p4_rows);
      turns =
          substituting 1 (ticket 1) ∷
          substituting 2 (ticket 4) ∷
          substituting 3 (ticket 4) ∷
          substituting 4 (refused 11) ∷
          substituting 0 (refused 10) ∷
          substituting 5 (refused 10) ∷
          turn sends (step (leap (frame 2))) (waits 3 1 5 ∷ waits 4 2 4 ∷ []) (5 ∷ 4 ∷ []) ∷
          substituting 1 (refused 10) ∷
          substituting 2 (refused 10) ∷
          substituting 3 (ticket 3) ∷
          substituting 4 (blank_due 2) ∷
          [];
    } ∷
    -- the last ticket is given, and then 8
    record {
      start = table (plain 0 0 16777215 2 []);
      turns =
          turn (takes 0 5) (ticket 16777215) (waits 16777215 0 5 ∷ []) (5 ∷ []) ∷
          turn (takes 0 5) (refused 8) (waits 16777215 0 5 ∷ []) (5 ∷ []) ∷
          [];
    } ∷
    -- a next ticket past that is unsound: every call gets 3, the listing too
    record {
      start = table (plain 0 0 16777217 1 []);
      turns =
          turn (takes 0 5) (refused 3) [] (0 ∷ []) ∷
          turn sends (refused 3) [] (0 ∷ []) ∷
          turn (marks 0) (refused 3) [] (0 ∷ []) ∷
          turn totals (refused 3) [] (0 ∷ []) ∷
          lists 1 (refused 3) (old 0 ∷ []) ∷
          [];
    } ∷
    -- each number by its condition, in its order, and every byte as it was: 2, 3, 5, 6, 7, 8 and 9, and 4; 13 below
    record { start = replicate 41 7; turns = refuses (opens 4096) 2 true ∷ refuses (takes 9 0) 2 true ∷ refuses sends 2 true ∷ refuses seals 2 true ∷ [] } ∷
    record { start = replicate 41 7; turns = refuses (marks 9) 2 true ∷ refuses totals 2 true ∷ substituting 9 (refused 2) ∷ lists 0 (refused 2) [] ∷ [] } ∷
    record { start = found 1; turns = refuses (opens 4096) 4 true ∷ refuses (takes 9 0) 3 true ∷ refuses sends 3 true ∷ refuses seals 3 true ∷ [] } ∷
    record { start = found 1; turns = refuses (marks 9) 3 true ∷ refuses totals 3 true ∷ substituting 9 (refused 3) ∷ [] } ∷
    record { start = table (plain 3 2 9 1 []); turns = refuses (takes 9 0) 5 true ∷ refuses sends 5 true ∷ refuses seals 5 true ∷ [] } ∷
    record { start = table (plain 3 2 9 1 []); turns = refuses (marks 9) 5 true ∷ refuses totals 5 true ∷ substituting 9 (refused 5) ∷ [] } ∷
    record {
      start = table (plain 1 2 16777216 1 (waits 1 2 5 ∷ []));
      turns =
          refuses (takes 0 0) 6 true ∷
          refuses (takes 3 16777217) 6 true ∷
          refuses (takes 0 1) 7 true ∷
          refuses (takes 3 16777216) 7 true ∷
          refuses (marks 0) 7 true ∷
          refuses (marks 3) 7 true ∷
          refuses (takes 1 1) 8 true ∷
          refuses (opens 4096) 4 true ∷
          [];
    } ∷
    record { start = table (plain 1 2 16777215 1 (waits 1 2 5 ∷ [])); turns = refuses (takes 1 1) 9 true ∷ [] } ∷
    -- sealed: 2 and 5 come before 13, and 13 before 6, 7, 8 and 9, each alone and together; only a taking gets it
    record { start = replicate 41 1; turns = refuses (takes 9 0) 2 true ∷ [] } ∷
    record {
      start = table (plain_sealed 3 2 9 1 []);
      turns =
          refuses (takes 9 0) 5 true ∷
          refuses (takes 2 1) 5 true ∷
          refuses sends 5 true ∷
          refuses seals 5 true ∷
          [];
    } ∷
    record {
      start = table (plain_sealed 1 2 16777216 1 (waits 1 2 5 ∷ []));
      turns =
          refuses (takes 0 0) 13 true ∷
          refuses (takes 3 16777217) 13 true ∷
          refuses (takes 1 1) 13 true ∷
          refuses (marks 0) 7 true ∷
          refuses (marks 3) 7 true ∷
          refuses (opens 4096) 4 true ∷
          [];
    } ∷
    record { start = table (plain_sealed 1 2 16777216 2 (waits 1 2 5 ∷ [])); turns = refuses (takes 1 1) 13 true ∷ [] } ∷
    record { start = table (plain_sealed 1 2 16777215 1 (waits 1 2 5 ∷ [])); turns = refuses (takes 1 1) 13 true ∷ [] } ∷
    record {
      start = table (plain_sealed 1 2 2 2 (waits 1 2 5 ∷ []));
      turns =
          refuses (takes 1 0) 13 true ∷
          refuses (takes 1 16777217) 13 true ∷
          refuses (takes 0 1) 13 true ∷
          refuses (takes 3 1) 13 true ∷
          refuses (takes 1 1) 13 true ∷
          substituting 9 (refused 10) ∷
          lists 0 (refused 12) [] ∷
          [];
    } ∷
    []

-- THE FACT: played by the definitions, each is as written
pub further_rounds_by_hand : played further_rounds ≡ further_rounds
unfolding row blank round slots_left heavier canonical into sorted rows_only due_by fits_from feasible kept blanks_from plan total_weight total tight
    tight_from tight_after segment_from segment_start first_end least_weight mark_in mark same_row in_plan lightest_by heaviest_outside substitute
    beats_golden golden_more sends_before best_from best first_from canonical_first listed opened taken sealed changed without heaviest_between
    shifted replaced leapt turn_of still_due is_ordinary sent low value field put row_bytes rows_bytes head_bytes table rows_in rows_of round_in
    length_good every rows_good round_good same table_refusal first act question deed round_refusal out_of says leaves table_first refusal answer left
    with_ticket stand_in substitute_answer list_refusal list_answer list_left shows number_of
further_rounds_by_hand = refl
