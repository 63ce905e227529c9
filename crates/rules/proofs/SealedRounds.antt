-- Rounds by hand for L1, closing the list: what a sealed round sends, what it refuses, and what ends the seal. Each is worked out from the papers.
use mathlib.Core.Path.{◌≡◌, refl}
use mathlib.Core.Bool.{true, false}
use mathlib.Core.List.{List, [], ◌∷◌, ◌++◌}
use native.Mathlib.Omega.{arith}
use lib.ListN.{replicate}
use Rattle.rules.specs.Rows.{until, row, blank, round, slots_left, heavier, canonical, into, sorted, rows_only}
use Rattle.rules.specs.Plan.{due_by, fits_from, feasible, kept, blanks_from, plan, total_weight, total, tight, tight_from, tight_after, segment_from, segment_start, first_end, least_weight, mark_in, mark, same_row, in_plan, lightest_by, heaviest_outside, substitute, beats_golden, golden_more, sends_before, best_from, best, first_from, canonical_first, listed}
use Rattle.rules.specs.Steps.{opened, taken, sealed, changed, without, heaviest_between, shifted, replaced, leapt, turn_of, still_due, is_ordinary, sent}
use Rattle.rules.specs.Table.{low, value, field, put, row_bytes, rows_bytes, head_bytes, table, rows_in, rows_of, round_in, length_good, every, rows_good, round_good, same, table_refusal}
use Rattle.rules.specs.Calls.{Call, silence, frame, kept_blank, ordinary, leap, refused, done, closed, ticket, step, amount, blank_due, number_of, first, act, question, deed, round_refusal, out_of, says, leaves, table_first, refusal, answer, left, run, next_round, after, at}
use Rattle.rules.specs.Looking.{with_ticket, stand_in, substitute_answer, list_refusal, list_answer, list_left, shows}
use Rattle.rules.specs.Demands.{NoOpening}
use Rattle.rules.specs.Sealed.{WentOut, SealedBy}
use Rattle.rules.proofs.Played.{opens, takes, sends, seals, marks, totals, plain, plain_sealed, waits, waits_of, keeps, old, turn, listing, substituting, lists, refuses, head, Hand, found, played}

-- THE TABLE
abbrev pub sealed_rounds : List Hand
sealed_rounds =
    -- P2 sealed: the plan goes in canonical order where PlanM would leap; a taking gets 13, and 5 past the last slot, where sealing gets it too
    record {
      start = found 3;
      turns =
          turn (opens 1) done [] (0 ∷ 0 ∷ []) ∷
          turn (takes 0 4) (ticket 1) (waits 1 0 4 ∷ []) (4 ∷ 0 ∷ []) ∷
          turn (takes 1 11) (ticket 2) (waits 1 0 4 ∷ waits 2 1 11 ∷ []) (4 ∷ 4 ∷ []) ∷
          head 0 1 3 0 ∷
          turn seals closed (waits 1 0 4 ∷ waits 2 1 11 ∷ []) (4 ∷ 4 ∷ []) ∷
          head 0 1 3 1 ∷
          turn (takes 1 3) (refused 13) (waits 1 0 4 ∷ waits 2 1 11 ∷ []) (4 ∷ 4 ∷ []) ∷
          turn totals (amount 15) (waits 1 0 4 ∷ waits 2 1 11 ∷ []) (4 ∷ 4 ∷ []) ∷
          listing (1 ∷ 2 ∷ []) (ticket 1 ∷ blank_due 1 ∷ []) ∷
          turn sends (step (ordinary (frame 1))) (waits 2 1 11 ∷ []) (11 ∷ []) ∷
          turn sends (step (ordinary (frame 2))) [] [] ∷
          head 2 1 3 1 ∷
          turn sends (refused 5) [] [] ∷
          turn seals (refused 5) [] [] ∷
          turn (takes 1 3) (refused 5) [] [] ∷
          [];
    } ∷
    -- a blank is the canonical first, so silence goes first; sealing twice is sealing once
    record {
      start = found 3;
      turns =
          turn (opens 2) done [] (0 ∷ 0 ∷ 0 ∷ []) ∷
          turn (takes 1 5) (ticket 1) (waits 1 1 5 ∷ []) (0 ∷ 0 ∷ 0 ∷ []) ∷
          turn (takes 2 7) (ticket 2) (waits 1 1 5 ∷ waits 2 2 7 ∷ []) (0 ∷ 0 ∷ 0 ∷ []) ∷
          turn seals closed (waits 1 1 5 ∷ waits 2 2 7 ∷ []) (0 ∷ 0 ∷ 0 ∷ []) ∷
          turn seals closed (waits 1 1 5 ∷ waits 2 2 7 ∷ []) (0 ∷ 0 ∷ 0 ∷ []) ∷
          head 0 2 3 1 ∷
          turn (takes 0 9) (refused 13) (waits 1 1 5 ∷ waits 2 2 7 ∷ []) (0 ∷ 0 ∷ 0 ∷ []) ∷
          listing (1 ∷ 2 ∷ []) (blank_due 1 ∷ blank_due 2 ∷ []) ∷
          turn sends (step (ordinary silence)) (waits 1 1 5 ∷ waits 2 2 7 ∷ []) (5 ∷ 5 ∷ []) ∷
          turn sends (step (ordinary (frame 1))) (waits 2 2 7 ∷ []) (7 ∷ []) ∷
          turn sends (step (ordinary (frame 2))) [] [] ∷
          head 3 2 3 1 ∷
          [];
    } ∷
    -- silence between two frames: each goes in its due slot, though PlanM would leap in slot 1
    record {
      start = found 3;
      turns =
          turn (opens 2) done [] (0 ∷ 0 ∷ 0 ∷ []) ∷
          turn (takes 2 7) (ticket 1) (waits 1 2 7 ∷ []) (0 ∷ 0 ∷ 0 ∷ []) ∷
          turn (takes 0 5) (ticket 2) (waits 1 2 7 ∷ waits 2 0 5 ∷ []) (5 ∷ 0 ∷ 0 ∷ []) ∷
          turn seals closed (waits 1 2 7 ∷ waits 2 0 5 ∷ []) (5 ∷ 0 ∷ 0 ∷ []) ∷
          turn sends (step (ordinary (frame 2))) (waits 1 2 7 ∷ []) (0 ∷ 0 ∷ []) ∷
          turn sends (step (ordinary silence)) (waits 1 2 7 ∷ []) (7 ∷ []) ∷
          turn sends (step (ordinary (frame 1))) [] [] ∷
          [];
    } ∷
    -- sealed after a leap, with a kept blank waiting; a refused opening leaves the seal, an accepted one ends it, and PlanM leaps again
    record {
      start = found 5;
      turns =
          turn (opens 3) done [] (0 ∷ 0 ∷ 0 ∷ 0 ∷ []) ∷
          turn (takes 3 20) (ticket 1) (waits 1 3 20 ∷ []) (0 ∷ 0 ∷ 0 ∷ 0 ∷ []) ∷
          turn (takes 0 5) (ticket 2) (waits 1 3 20 ∷ waits 2 0 5 ∷ []) (5 ∷ 0 ∷ 0 ∷ 0 ∷ []) ∷
          turn (takes 2 5) (ticket 3) (waits 1 3 20 ∷ waits 2 0 5 ∷ waits 3 2 5 ∷ []) (5 ∷ 0 ∷ 0 ∷ 0 ∷ []) ∷
          turn (takes 3 9) (ticket 4) (waits 1 3 20 ∷ waits 2 0 5 ∷ waits 3 2 5 ∷ waits 4 3 9 ∷ []) (5 ∷ 5 ∷ 5 ∷ 5 ∷ []) ∷
          turn sends (step (leap (frame 1))) (keeps 1 1 5 ∷ waits 3 2 5 ∷ waits 4 3 9 ∷ []) (5 ∷ 5 ∷ 5 ∷ []) ∷
          turn seals closed (keeps 1 1 5 ∷ waits 3 2 5 ∷ waits 4 3 9 ∷ []) (5 ∷ 5 ∷ 5 ∷ []) ∷
          head 1 3 5 1 ∷
          listing (1 ∷ 3 ∷ 4 ∷ []) (ticket 1 ∷ blank_due 2 ∷ blank_due 3 ∷ []) ∷
          turn sends (step (ordinary (kept_blank 1))) (waits 3 2 5 ∷ waits 4 3 9 ∷ []) (5 ∷ 5 ∷ []) ∷
          turn sends (step (ordinary (frame 3))) (waits 4 3 9 ∷ []) (9 ∷ []) ∷
          turn (opens 4096) (refused 4) (waits 4 3 9 ∷ []) (9 ∷ []) ∷
          turn (takes 3 1) (refused 13) (waits 4 3 9 ∷ []) (9 ∷ []) ∷
          head 3 3 5 1 ∷
          turn (opens 1) done [] (0 ∷ 0 ∷ []) ∷
          head 0 1 1 0 ∷
          turn (takes 0 1) (ticket 1) (waits 1 0 1 ∷ []) (1 ∷ 0 ∷ []) ∷
          turn (takes 1 11) (ticket 2) (waits 1 0 1 ∷ waits 2 1 11 ∷ []) (1 ∷ 1 ∷ []) ∷
          turn sends (step (leap (frame 2))) (keeps 2 1 1 ∷ []) (1 ∷ []) ∷
          [];
    } ∷
    -- rows outside the plan stay behind, one of them due before all that go; 13 where 6 and 7 would hold, and 5 before it
    record {
      start = found 5;
      turns =
          turn (opens 1) done [] (0 ∷ 0 ∷ []) ∷
          turn (takes 0 4) (ticket 1) (waits 1 0 4 ∷ []) (4 ∷ 0 ∷ []) ∷
          turn (takes 1 6) (ticket 2) (waits 1 0 4 ∷ waits 2 1 6 ∷ []) (4 ∷ 4 ∷ []) ∷
          turn (takes 1 5) (ticket 3) (waits 1 0 4 ∷ waits 2 1 6 ∷ waits 3 1 5 ∷ []) (5 ∷ 5 ∷ []) ∷
          turn (takes 1 3) (ticket 4) (waits 1 0 4 ∷ waits 2 1 6 ∷ waits 3 1 5 ∷ waits 4 1 3 ∷ []) (5 ∷ 5 ∷ []) ∷
          turn seals closed (waits 1 0 4 ∷ waits 2 1 6 ∷ waits 3 1 5 ∷ waits 4 1 3 ∷ []) (5 ∷ 5 ∷ []) ∷
          turn (takes 9 0) (refused 13) (waits 1 0 4 ∷ waits 2 1 6 ∷ waits 3 1 5 ∷ waits 4 1 3 ∷ []) (5 ∷ 5 ∷ []) ∷
          turn totals (amount 11) (waits 1 0 4 ∷ waits 2 1 6 ∷ waits 3 1 5 ∷ waits 4 1 3 ∷ []) (5 ∷ 5 ∷ []) ∷
          listing (2 ∷ 3 ∷ []) (ticket 3 ∷ ticket 3 ∷ []) ∷
          substituting 1 (refused 11) ∷
          turn sends (step (ordinary (frame 2))) (waits 3 1 5 ∷ waits 4 1 3 ∷ []) (5 ∷ []) ∷
          turn sends (step (ordinary (frame 3))) [] [] ∷
          turn (takes 0 0) (refused 5) [] [] ∷
          [];
    } ∷
    -- the seal outlasts a sending: in slot 1 PlanM would leap, and a taking still gets 13; marks rise and never fall
    record {
      start = found 4;
      turns =
          turn (opens 2) done [] (0 ∷ 0 ∷ 0 ∷ []) ∷
          turn (takes 0 4) (ticket 1) (waits 1 0 4 ∷ []) (4 ∷ 0 ∷ 0 ∷ []) ∷
          turn (takes 1 4) (ticket 2) (waits 1 0 4 ∷ waits 2 1 4 ∷ []) (4 ∷ 4 ∷ 0 ∷ []) ∷
          turn (takes 2 20) (ticket 3) (waits 1 0 4 ∷ waits 2 1 4 ∷ waits 3 2 20 ∷ []) (4 ∷ 4 ∷ 4 ∷ []) ∷
          turn seals closed (waits 1 0 4 ∷ waits 2 1 4 ∷ waits 3 2 20 ∷ []) (4 ∷ 4 ∷ 4 ∷ []) ∷
          turn sends (step (ordinary (frame 1))) (waits 2 1 4 ∷ waits 3 2 20 ∷ []) (4 ∷ 4 ∷ []) ∷
          head 1 2 4 1 ∷
          turn (takes 2 9) (refused 13) (waits 2 1 4 ∷ waits 3 2 20 ∷ []) (4 ∷ 4 ∷ []) ∷
          turn (marks 2) (amount 4) (waits 2 1 4 ∷ waits 3 2 20 ∷ []) (4 ∷ 4 ∷ []) ∷
          turn sends (step (ordinary (frame 2))) (waits 3 2 20 ∷ []) (20 ∷ []) ∷
          turn sends (step (ordinary (frame 3))) [] [] ∷
          [];
    } ∷
    -- in one segment the earlier due goes first, where PlanM would send the heaviest; then the heavier of those due alike
    record {
      start = found 4;
      turns =
          turn (opens 2) done [] (0 ∷ 0 ∷ 0 ∷ []) ∷
          turn (takes 2 4) (ticket 1) (waits 1 2 4 ∷ []) (0 ∷ 0 ∷ 0 ∷ []) ∷
          turn (takes 1 3) (ticket 2) (waits 1 2 4 ∷ waits 2 1 3 ∷ []) (0 ∷ 0 ∷ 0 ∷ []) ∷
          turn (takes 2 9) (ticket 3) (waits 1 2 4 ∷ waits 2 1 3 ∷ waits 3 2 9 ∷ []) (3 ∷ 3 ∷ 3 ∷ []) ∷
          turn seals closed (waits 1 2 4 ∷ waits 2 1 3 ∷ waits 3 2 9 ∷ []) (3 ∷ 3 ∷ 3 ∷ []) ∷
          listing (2 ∷ 3 ∷ 1 ∷ []) (ticket 2 ∷ ticket 2 ∷ ticket 2 ∷ []) ∷
          lists 4 (amount 3) (waits 2 1 3 ∷ waits 3 2 9 ∷ waits 1 2 4 ∷ old 0 ∷ []) ∷
          turn sends (step (ordinary (frame 2))) (waits 1 2 4 ∷ waits 3 2 9 ∷ []) (4 ∷ 4 ∷ []) ∷
          turn sends (step (ordinary (frame 3))) (waits 1 2 4 ∷ []) (4 ∷ []) ∷
          turn sends (step (ordinary (frame 1))) [] [] ∷
          [];
    } ∷
    -- due alike: the heavier first, and of equal weight the smaller ticket
    record {
      start = found 4;
      turns =
          turn (opens 2) done [] (0 ∷ 0 ∷ 0 ∷ []) ∷
          turn (takes 2 5) (ticket 1) (waits 1 2 5 ∷ []) (0 ∷ 0 ∷ 0 ∷ []) ∷
          turn (takes 2 7) (ticket 2) (waits 1 2 5 ∷ waits 2 2 7 ∷ []) (0 ∷ 0 ∷ 0 ∷ []) ∷
          turn (takes 2 5) (ticket 3) (waits 1 2 5 ∷ waits 2 2 7 ∷ waits 3 2 5 ∷ []) (5 ∷ 5 ∷ 5 ∷ []) ∷
          turn seals closed (waits 1 2 5 ∷ waits 2 2 7 ∷ waits 3 2 5 ∷ []) (5 ∷ 5 ∷ 5 ∷ []) ∷
          listing (2 ∷ 1 ∷ 3 ∷ []) (ticket 3 ∷ ticket 3 ∷ ticket 3 ∷ []) ∷
          turn sends (step (ordinary (frame 2))) (waits 1 2 5 ∷ waits 3 2 5 ∷ []) (5 ∷ 5 ∷ []) ∷
          turn sends (step (ordinary (frame 1))) (waits 3 2 5 ∷ []) (5 ∷ []) ∷
          turn sends (step (ordinary (frame 3))) [] [] ∷
          [];
    } ∷
    -- a kept blank has its turn like a frame: first by its due slot, or last, where PlanM would leap in both; behind frames of a smaller class,
    -- and by its ticket among frames of class 3
    record {
      start = table (plain_sealed 0 1 3 3 (keeps 1 0 4 ∷ waits 2 1 11 ∷ []));
      turns =
          listing (1 ∷ 2 ∷ []) (ticket 1 ∷ blank_due 1 ∷ []) ∷
          turn sends (step (ordinary (kept_blank 1))) (waits 2 1 11 ∷ []) (11 ∷ []) ∷
          turn sends (step (ordinary (frame 2))) [] [] ∷
          [];
    } ∷
    record {
      start = table (plain_sealed 0 1 3 3 (waits 1 0 4 ∷ keeps 2 1 11 ∷ []));
      turns =
          listing (1 ∷ 2 ∷ []) (ticket 1 ∷ blank_due 1 ∷ []) ∷
          turn sends (step (ordinary (frame 1))) (keeps 2 1 11 ∷ []) (11 ∷ []) ∷
          turn sends (step (ordinary (kept_blank 2))) [] [] ∷
          [];
    } ∷
    record {
      start = table (plain_sealed 0 1 4 4 (keeps 1 1 5 ∷ waits 2 1 5 ∷ keeps 3 1 5 ∷ []));
      turns =
          turn totals (amount 10) (keeps 1 1 5 ∷ waits 2 1 5 ∷ keeps 3 1 5 ∷ []) (5 ∷ 5 ∷ []) ∷
          turn sends (step (ordinary (frame 2))) (keeps 1 1 5 ∷ keeps 3 1 5 ∷ []) (5 ∷ []) ∷
          turn sends (step (ordinary (kept_blank 1))) [] [] ∷
          [];
    } ∷
    record {
      start = table (plain_sealed 0 1 4 4 (waits 1 1 5 ∷ keeps 2 1 5 ∷ waits 3 1 5 ∷ []));
      turns =
          turn totals (amount 10) (waits 1 1 5 ∷ keeps 2 1 5 ∷ waits 3 1 5 ∷ []) (5 ∷ 5 ∷ []) ∷
          turn sends (step (ordinary (frame 1))) (keeps 2 1 5 ∷ waits 3 1 5 ∷ []) (5 ∷ []) ∷
          turn sends (step (ordinary (frame 3))) [] [] ∷
          [];
    } ∷
    record {
      start = table (plain_sealed 0 1 4 4 (keeps 1 1 5 ∷ waits_of 3 2 1 5 ∷ keeps 3 1 5 ∷ []));
      turns =
          turn totals (amount 10) (keeps 1 1 5 ∷ waits_of 3 2 1 5 ∷ keeps 3 1 5 ∷ []) (5 ∷ 5 ∷ []) ∷
          turn sends (step (ordinary (kept_blank 1))) (waits_of 3 2 1 5 ∷ keeps 3 1 5 ∷ []) (5 ∷ []) ∷
          turn sends (step (ordinary (frame 2))) [] [] ∷
          [];
    } ∷
    record {
      start = table (plain_sealed 0 1 4 4 (waits_of 3 1 1 5 ∷ keeps 2 1 5 ∷ waits_of 3 3 1 5 ∷ []));
      turns =
          turn totals (amount 10) (waits_of 3 1 1 5 ∷ keeps 2 1 5 ∷ waits_of 3 3 1 5 ∷ []) (5 ∷ 5 ∷ []) ∷
          turn sends (step (ordinary (frame 1))) (keeps 2 1 5 ∷ waits_of 3 3 1 5 ∷ []) (5 ∷ []) ∷
          turn sends (step (ordinary (kept_blank 2))) [] [] ∷
          [];
    } ∷
    -- a round without a row is sealed, in its last slot once more, and gets 5 past it
    record {
      start = found 1;
      turns =
          turn (opens 1) done [] (0 ∷ 0 ∷ []) ∷
          turn seals closed [] (0 ∷ 0 ∷ []) ∷
          turn (takes 0 1) (refused 13) [] (0 ∷ 0 ∷ []) ∷
          turn sends (step (ordinary silence)) [] (0 ∷ []) ∷
          turn seals closed [] (0 ∷ []) ∷
          turn (takes 1 1) (refused 13) [] (0 ∷ []) ∷
          turn sends (step (ordinary silence)) [] [] ∷
          turn seals (refused 5) [] [] ∷
          head 2 1 1 1 ∷
          [];
    } ∷
    -- a refused sealing seals nothing: of an unsealed round past its last slot the head stays
    record {
      start = found 1;
      turns =
          turn (opens 0) done [] (0 ∷ []) ∷
          turn sends (step (ordinary silence)) [] [] ∷
          turn seals (refused 5) [] [] ∷
          head 1 0 1 0 ∷
          [];
    } ∷
    -- sealing is accepted, so its number is 0; it writes a byte of an unsealed table, and none of a sealed one
    record { start = table (plain 0 1 2 2 (waits 1 1 5 ∷ [])); turns = refuses seals 0 false ∷ [] } ∷
    record { start = table (plain_sealed 0 1 2 2 (waits 1 1 5 ∷ [])); turns = refuses seals 0 true ∷ [] } ∷
    -- a 2 in byte 10 is unsound: every call gets 3, the listing too, and opening clears it
    record {
      start = table (round 0 1 2 2 (waits 1 1 5 ∷ []) (record { sealed = 2 }));
      turns =
          head 0 1 2 2 ∷
          refuses (takes 0 5) 3 true ∷
          refuses sends 3 true ∷
          refuses seals 3 true ∷
          refuses (marks 0) 3 true ∷
          refuses totals 3 true ∷
          substituting 1 (refused 3) ∷
          lists 1 (refused 3) (old 0 ∷ []) ∷
          turn (opens 1) done [] (0 ∷ 0 ∷ []) ∷
          head 0 1 1 0 ∷
          turn (takes 0 5) (ticket 1) (waits 1 0 5 ∷ []) (5 ∷ 0 ∷ []) ∷
          [];
    } ∷
    -- byte 10 is the seal, and byte 11 behind it and the last of the head are zeros still
    record {
      start = 0 ∷ 0 ∷ 1 ∷ 0 ∷ 1 ∷ 0 ∷ 0 ∷ 0 ∷ 0 ∷ 0 ∷ 1 ∷ 0 ∷ 0 ∷ 0 ∷ 0 ∷ 0 ∷ replicate 48 0;
      turns = head 0 1 1 1 ∷ refuses (takes 0 5) 13 true ∷ turn sends (step (ordinary silence)) [] (0 ∷ []) ∷ [];
    } ∷
    record {
      start = 0 ∷ 0 ∷ 1 ∷ 0 ∷ 1 ∷ 0 ∷ 0 ∷ 0 ∷ 0 ∷ 0 ∷ 1 ∷ 1 ∷ 0 ∷ 0 ∷ 0 ∷ 0 ∷ replicate 48 0;
      turns = refuses (takes 0 5) 3 true ∷ refuses sends 3 true ∷ refuses seals 3 true ∷ [];
    } ∷
    record {
      start = 0 ∷ 0 ∷ 1 ∷ 0 ∷ 1 ∷ 0 ∷ 0 ∷ 0 ∷ 0 ∷ 0 ∷ 1 ∷ 0 ∷ 0 ∷ 0 ∷ 0 ∷ 1 ∷ replicate 48 0;
      turns = refuses (takes 0 5) 3 true ∷ refuses sends 3 true ∷ refuses seals 3 true ∷ [];
    } ∷
    []

-- THE FACT: played by the definitions, each is as written
pub sealed_rounds_by_hand : played sealed_rounds ≡ sealed_rounds
unfolding row blank round slots_left heavier canonical into sorted rows_only due_by fits_from feasible kept blanks_from plan total_weight total tight
    tight_from tight_after segment_from segment_start first_end least_weight mark_in mark same_row in_plan lightest_by heaviest_outside substitute
    beats_golden golden_more sends_before best_from best first_from canonical_first listed opened taken sealed changed without heaviest_between
    shifted replaced leapt turn_of still_due is_ordinary sent low value field put row_bytes rows_bytes head_bytes table rows_in rows_of round_in
    length_good every rows_good round_good same table_refusal first act question deed round_refusal out_of says leaves table_first refusal answer left
    with_ticket stand_in substitute_answer list_refusal list_answer list_left shows number_of
sealed_rounds_by_hand = refl

-- THE PROMISE (Sealed.antt), of P2: its sealing is one that the promise is about, and ticket 2 has gone out by its due slot, slot 1
abbrev pub p2_before : List Call
p2_before = takes 0 4 ∷ takes 1 11 ∷ []

abbrev pub p2_behind : List Call
p2_behind = sends ∷ sends ∷ []

pub p2_sealed_by : SealedBy 3 (until 1) (found 3) (takes 0 4 ∷ takes 1 11 ∷ seals ∷ sends ∷ sends ∷ takes 1 3 ∷ []) p2_before p2_behind
unfolding row blank round slots_left heavier canonical into sorted due_by fits_from feasible kept blanks_from plan tight tight_from tight_after
    segment_from segment_start first_end least_weight mark_in same_row in_plan lightest_by heaviest_outside substitute beats_golden golden_more
    sends_before best_from best first_from canonical_first opened taken sealed changed without heaviest_between shifted replaced leapt turn_of
    still_due is_ordinary sent low value field put row_bytes rows_bytes head_bytes table rows_in rows_of round_in length_good every rows_good
    round_good same table_refusal first act deed round_refusal out_of says leaves table_first refusal answer left run NoOpening
p2_sealed_by = record { behind = takes 1 3 ∷ []; among = refl; accepted = refl; unopened = tt }

pub p2_went_out : WentOut 3 (until 1) (found 3) (p2_before ++ (seals ∷ [])) p2_behind (waits 2 1 11)
unfolding row blank round slots_left heavier canonical into sorted due_by fits_from feasible kept blanks_from plan tight tight_from tight_after
    segment_from segment_start first_end least_weight mark_in same_row in_plan lightest_by heaviest_outside substitute beats_golden golden_more
    sends_before best_from best first_from canonical_first opened taken sealed changed without heaviest_between shifted replaced leapt turn_of
    still_due is_ordinary sent low value field put row_bytes rows_bytes head_bytes table rows_in rows_of round_in length_good every rows_good
    round_good same table_refusal first act deed round_refusal out_of says leaves table_first refusal answer left run next_round after at
p2_went_out =
    record {
      before = sends ∷ [];
      behind = [];
      among = refl;
      its_turn = refl;
      in_time = omega arith;
      sends = refl;
      frame_named = λ e. refl;
      blank_named = λ e. absurd (omega (arith, e));
    }
