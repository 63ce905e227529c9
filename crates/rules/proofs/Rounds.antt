-- Document 01's rounds by hand, P1 to P10, and some further rounds as one table, and the one fact that the definitions play each as written;
-- then further rounds on the model, without bytes: Shapes.antt says that a call on a table is the model's on the round in it.
use mathlib.Core.Path.{◌≡◌, refl}
use mathlib.Core.List.{List, [], ◌∷◌}
use Rattle.rules.specs.Rows.{row, blank, round, slots_left, heavier, canonical, into, sorted, rows_only}
use Rattle.rules.specs.Plan.{due_by, fits_from, feasible, kept, blanks_from, plan, total_weight, total, tight, tight_from, tight_after, segment_from, segment_start, first_end, least_weight, mark_in, mark, same_row, in_plan, lightest_by, heaviest_outside, substitute, beats_golden, golden_more, sends_before, best_from, best, first_from, canonical_first, listed}
use Rattle.rules.specs.Steps.{opened, taken, sealed, changed, without, heaviest_between, shifted, replaced, leapt, turn_of, still_due, is_ordinary, sent}
use Rattle.rules.specs.Table.{low, value, field, put, row_bytes, rows_bytes, head_bytes, table, rows_in, rows_of, round_in, length_good, every, rows_good, round_good, same, table_refusal}
use Rattle.rules.specs.Calls.{silence, frame, kept_blank, ordinary, leap, refused, done, ticket, step, amount, blank_due, first, act, question, deed, round_refusal, out_of, says, leaves, table_first, refusal, answer, left, next_round}
use Rattle.rules.specs.Looking.{with_ticket, stand_in, substitute_answer}
use Rattle.rules.proofs.Played.{opens, takes, sends, totals, plain, waits, keeps, turn, listing, Hand, found, played, spent, ModelHand, modelled}

-- THE TABLE
abbrev pub rounds : List Hand
rounds =
    -- P1: ticket 1 goes, ordinary
    record {
      start = found 3;
      turns =
          turn (opens 1) done [] (0 ∷ 0 ∷ []) ∷
          turn (takes 0 4) (ticket 1) (waits 1 0 4 ∷ []) (4 ∷ 0 ∷ []) ∷
          turn (takes 1 10) (ticket 2) (waits 1 0 4 ∷ waits 2 1 10 ∷ []) (4 ∷ 4 ∷ []) ∷
          turn totals (amount 14) (waits 1 0 4 ∷ waits 2 1 10 ∷ []) (4 ∷ 4 ∷ []) ∷
          listing (1 ∷ 2 ∷ []) (ticket 1 ∷ blank_due 1 ∷ []) ∷
          turn sends (step (ordinary (frame 1))) (waits 2 1 10 ∷ []) (10 ∷ []) ∷
          [];
    } ∷
    -- P2: ticket 2 leaps and leaves a kept blank
    record {
      start = found 3;
      turns =
          turn (opens 1) done [] (0 ∷ 0 ∷ []) ∷
          turn (takes 0 4) (ticket 1) (waits 1 0 4 ∷ []) (4 ∷ 0 ∷ []) ∷
          turn (takes 1 11) (ticket 2) (waits 1 0 4 ∷ waits 2 1 11 ∷ []) (4 ∷ 4 ∷ []) ∷
          turn totals (amount 15) (waits 1 0 4 ∷ waits 2 1 11 ∷ []) (4 ∷ 4 ∷ []) ∷
          listing (1 ∷ 2 ∷ []) (ticket 1 ∷ blank_due 1 ∷ []) ∷
          turn sends (step (leap (frame 2))) (keeps 2 1 4 ∷ []) (4 ∷ []) ∷
          [];
    } ∷
    -- P3: marks 1, 0, 0, 0, 0; ticket 2 leaps; nothing waits after
    record {
      start = found 3;
      turns =
          turn (opens 4) done [] (0 ∷ 0 ∷ 0 ∷ 0 ∷ 0 ∷ []) ∷
          turn (takes 0 1) (ticket 1) (waits 1 0 1 ∷ []) (1 ∷ 0 ∷ 0 ∷ 0 ∷ 0 ∷ []) ∷
          turn (takes 4 9) (ticket 2) (waits 1 0 1 ∷ waits 2 4 9 ∷ []) (1 ∷ 0 ∷ 0 ∷ 0 ∷ 0 ∷ []) ∷
          turn totals (amount 10) (waits 1 0 1 ∷ waits 2 4 9 ∷ []) (1 ∷ 0 ∷ 0 ∷ 0 ∷ 0 ∷ []) ∷
          listing (1 ∷ 2 ∷ []) (ticket 1 ∷ blank_due 4 ∷ []) ∷
          turn sends (step (leap (frame 2))) [] (0 ∷ 0 ∷ 0 ∷ 0 ∷ []) ∷
          [];
    } ∷
    -- P4: ticket 2 leaps; the mark of slot 1 rises from 4 to 5, slot 2 keeps 4
    record {
      start = found 5;
      turns =
          turn (opens 2) done [] (0 ∷ 0 ∷ 0 ∷ []) ∷
          turn (takes 0 4) (ticket 1) (waits 1 0 4 ∷ []) (4 ∷ 0 ∷ 0 ∷ []) ∷
          turn (takes 1 10) (ticket 2) (waits 1 0 4 ∷ waits 2 1 10 ∷ []) (4 ∷ 4 ∷ 0 ∷ []) ∷
          turn (takes 2 5) (ticket 3) (waits 1 0 4 ∷ waits 2 1 10 ∷ waits 3 2 5 ∷ []) (4 ∷ 4 ∷ 4 ∷ []) ∷
          turn (takes 2 3) (ticket 4) (waits 1 0 4 ∷ waits 2 1 10 ∷ waits 3 2 5 ∷ waits 4 2 3 ∷ []) (4 ∷ 4 ∷ 4 ∷ []) ∷
          turn totals (amount 19) (waits 1 0 4 ∷ waits 2 1 10 ∷ waits 3 2 5 ∷ waits 4 2 3 ∷ []) (4 ∷ 4 ∷ 4 ∷ []) ∷
          listing (1 ∷ 2 ∷ 3 ∷ []) (ticket 1 ∷ ticket 4 ∷ ticket 4 ∷ []) ∷
          turn sends (step (leap (frame 2))) (waits 3 1 5 ∷ waits 4 2 4 ∷ []) (5 ∷ 4 ∷ []) ∷
          [];
    } ∷
    -- P5: of equals the canonical first
    record {
      start = found 3;
      turns =
          turn (opens 1) done [] (0 ∷ 0 ∷ []) ∷
          turn (takes 1 5) (ticket 1) (waits 1 1 5 ∷ []) (0 ∷ 0 ∷ []) ∷
          turn (takes 1 5) (ticket 2) (waits 1 1 5 ∷ waits 2 1 5 ∷ []) (5 ∷ 5 ∷ []) ∷
          turn totals (amount 10) (waits 1 1 5 ∷ waits 2 1 5 ∷ []) (5 ∷ 5 ∷ []) ∷
          listing (1 ∷ 2 ∷ []) (ticket 2 ∷ ticket 2 ∷ []) ∷
          turn sends (step (ordinary (frame 1))) (waits 2 1 5 ∷ []) (5 ∷ []) ∷
          [];
    } ∷
    -- P6: the plan stays
    record {
      start = found 3;
      turns =
          turn (opens 0) done [] (0 ∷ []) ∷
          turn (takes 0 5) (ticket 1) (waits 1 0 5 ∷ []) (5 ∷ []) ∷
          turn totals (amount 5) (waits 1 0 5 ∷ []) (5 ∷ []) ∷
          turn (takes 0 5) (ticket 2) (waits 1 0 5 ∷ waits 2 0 5 ∷ []) (5 ∷ []) ∷
          turn totals (amount 5) (waits 1 0 5 ∷ waits 2 0 5 ∷ []) (5 ∷ []) ∷
          listing (1 ∷ []) (ticket 1 ∷ []) ∷
          turn sends (step (ordinary (frame 1))) [] [] ∷
          turn sends (refused 5) [] [] ∷
          [];
    } ∷
    -- P7: the total rises by 1
    record {
      start = found 3;
      turns =
          turn (opens 0) done [] (0 ∷ []) ∷
          turn (takes 0 5) (ticket 1) (waits 1 0 5 ∷ []) (5 ∷ []) ∷
          turn totals (amount 5) (waits 1 0 5 ∷ []) (5 ∷ []) ∷
          turn (takes 0 6) (ticket 2) (waits 1 0 5 ∷ waits 2 0 6 ∷ []) (6 ∷ []) ∷
          turn totals (amount 6) (waits 1 0 5 ∷ waits 2 0 6 ∷ []) (6 ∷ []) ∷
          listing (2 ∷ []) (ticket 2 ∷ []) ∷
          turn sends (step (ordinary (frame 2))) [] [] ∷
          [];
    } ∷
    -- P8: just above the golden ratio
    record {
      start = found 3;
      turns =
          turn (opens 1) done [] (0 ∷ 0 ∷ []) ∷
          turn (takes 0 2178309) (ticket 1) (waits 1 0 2178309 ∷ []) (2178309 ∷ 0 ∷ []) ∷
          turn (takes 1 5702887) (ticket 2) (waits 1 0 2178309 ∷ waits 2 1 5702887 ∷ []) (2178309 ∷ 2178309 ∷ []) ∷
          turn totals (amount 7881196) (waits 1 0 2178309 ∷ waits 2 1 5702887 ∷ []) (2178309 ∷ 2178309 ∷ []) ∷
          listing (1 ∷ 2 ∷ []) (ticket 1 ∷ blank_due 1 ∷ []) ∷
          turn sends (step (leap (frame 2))) (keeps 2 1 2178309 ∷ []) (2178309 ∷ []) ∷
          [];
    } ∷
    -- P9: just below it
    record {
      start = found 3;
      turns =
          turn (opens 1) done [] (0 ∷ 0 ∷ []) ∷
          turn (takes 0 3524578) (ticket 1) (waits 1 0 3524578 ∷ []) (3524578 ∷ 0 ∷ []) ∷
          turn (takes 1 9227465) (ticket 2) (waits 1 0 3524578 ∷ waits 2 1 9227465 ∷ []) (3524578 ∷ 3524578 ∷ []) ∷
          turn totals (amount 12752043) (waits 1 0 3524578 ∷ waits 2 1 9227465 ∷ []) (3524578 ∷ 3524578 ∷ []) ∷
          listing (1 ∷ 2 ∷ []) (ticket 1 ∷ blank_due 1 ∷ []) ∷
          turn sends (step (ordinary (frame 1))) (waits 2 1 9227465 ∷ []) (9227465 ∷ []) ∷
          [];
    } ∷
    -- P10: a round just opened sends silence, ordinary (OpenedSilent says it of every round)
    record {
      start = found 1;
      turns =
          turn (opens 3) done [] (0 ∷ 0 ∷ 0 ∷ 0 ∷ []) ∷
          turn totals (amount 0) [] (0 ∷ 0 ∷ 0 ∷ 0 ∷ []) ∷
          listing [] [] ∷
          turn sends (step (ordinary silence)) [] (0 ∷ 0 ∷ 0 ∷ []) ∷
          [];
    } ∷
    -- document 01's sample
    record {
      start = found 3;
      turns =
          turn (opens 1) done [] (0 ∷ 0 ∷ []) ∷
          turn (takes 0 4) (ticket 1) (waits 1 0 4 ∷ []) (4 ∷ 0 ∷ []) ∷
          turn (takes 1 11) (ticket 2) (waits 1 0 4 ∷ waits 2 1 11 ∷ []) (4 ∷ 4 ∷ []) ∷
          listing (1 ∷ 2 ∷ []) (ticket 1 ∷ blank_due 1 ∷ []) ∷
          turn sends (step (leap (frame 2))) (keeps 2 1 4 ∷ []) (4 ∷ []) ∷
          turn sends (step (ordinary (kept_blank 2))) [] [] ∷
          [];
    } ∷
    -- limits of a weight
    record {
      start = found 2;
      turns =
          turn (opens 0) done [] (0 ∷ []) ∷
          turn (takes 0 16777216) (ticket 1) (waits 1 0 16777216 ∷ []) (16777216 ∷ []) ∷
          turn (takes 0 16777217) (refused 6) (waits 1 0 16777216 ∷ []) (16777216 ∷ []) ∷
          turn (takes 0 0) (refused 6) (waits 1 0 16777216 ∷ []) (16777216 ∷ []) ∷
          turn (takes 1 1) (refused 7) (waits 1 0 16777216 ∷ []) (16777216 ∷ []) ∷
          turn totals (amount 16777216) (waits 1 0 16777216 ∷ []) (16777216 ∷ []) ∷
          listing (1 ∷ []) (ticket 1 ∷ []) ∷
          [];
    } ∷
    -- every substitute is of the right segment
    record {
      start = found 8;
      turns =
          turn (opens 4) done [] (0 ∷ 0 ∷ 0 ∷ 0 ∷ 0 ∷ []) ∷
          turn (takes 4 2) (ticket 1) (waits 1 4 2 ∷ []) (0 ∷ 0 ∷ 0 ∷ 0 ∷ 0 ∷ []) ∷
          turn (takes 1 1) (ticket 2) (waits 1 4 2 ∷ waits 2 1 1 ∷ []) (0 ∷ 0 ∷ 0 ∷ 0 ∷ 0 ∷ []) ∷
          turn (takes 4 20) (ticket 3) (waits 1 4 2 ∷ waits 2 1 1 ∷ waits 3 4 20 ∷ []) (0 ∷ 0 ∷ 0 ∷ 0 ∷ 0 ∷ []) ∷
          turn (takes 3 9) (ticket 4) (waits 1 4 2 ∷ waits 2 1 1 ∷ waits 3 4 20 ∷ waits 4 3 9 ∷ []) (0 ∷ 0 ∷ 0 ∷ 0 ∷ 0 ∷ []) ∷
          turn (takes 0 9) (ticket 5) (waits 1 4 2 ∷ waits 2 1 1 ∷ waits 3 4 20 ∷ waits 4 3 9 ∷ waits 5 0 9 ∷ []) (9 ∷ 1 ∷ 1 ∷ 1 ∷ 1 ∷ []) ∷
          turn (takes 2 2) (ticket 6) (waits 1 4 2 ∷ waits 2 1 1 ∷ waits 3 4 20 ∷ waits 4 3 9 ∷ waits 5 0 9 ∷ waits 6 2 2 ∷ []) (9 ∷ 2 ∷ 2 ∷ 2 ∷ 2 ∷ []) ∷
          turn (takes 1 2) (ticket 7) (waits 1 4 2 ∷ waits 2 1 1 ∷ waits 3 4 20 ∷ waits 4 3 9 ∷ waits 5 0 9 ∷ waits 6 2 2 ∷ waits 7 1 2 ∷ []) (9 ∷ 2
          ∷ 2 ∷ 2 ∷ 2 ∷ []) ∷
          turn (takes 3 4) (ticket 8) (waits 1 4 2 ∷ waits 2 1 1 ∷ waits 3 4 20 ∷ waits 4 3 9 ∷ waits 5 0 9 ∷ waits 6 2 2 ∷ waits 7 1 2 ∷ waits 8 3 4
          ∷ []) (9 ∷ 2 ∷ 2 ∷ 2 ∷ 2 ∷ []) ∷
          listing (5 ∷ 7 ∷ 4 ∷ 8 ∷ 3 ∷ []) (ticket 5 ∷ ticket 6 ∷ ticket 6 ∷ ticket 6 ∷ ticket 1 ∷ []) ∷
          turn sends (step (ordinary (frame 5))) (waits 1 4 2 ∷ waits 2 1 1 ∷ waits 3 4 20 ∷ waits 4 3 9 ∷ waits 6 2 2 ∷ waits 7 1 2 ∷ waits 8 3 4
          ∷ []) (2 ∷ 2 ∷ 2 ∷ 2 ∷ []) ∷
          [];
    } ∷
    -- of equal heaviest the earlier due is shifted
    record {
      start = found 8;
      turns =
          turn (opens 4) done [] (0 ∷ 0 ∷ 0 ∷ 0 ∷ 0 ∷ []) ∷
          turn (takes 0 3) (ticket 1) (waits 1 0 3 ∷ []) (3 ∷ 0 ∷ 0 ∷ 0 ∷ 0 ∷ []) ∷
          turn (takes 4 20) (ticket 2) (waits 1 0 3 ∷ waits 2 4 20 ∷ []) (3 ∷ 0 ∷ 0 ∷ 0 ∷ 0 ∷ []) ∷
          turn (takes 1 4) (ticket 3) (waits 1 0 3 ∷ waits 2 4 20 ∷ waits 3 1 4 ∷ []) (3 ∷ 3 ∷ 0 ∷ 0 ∷ 0 ∷ []) ∷
          turn (takes 1 4) (ticket 4) (waits 1 0 3 ∷ waits 2 4 20 ∷ waits 3 1 4 ∷ waits 4 1 4 ∷ []) (4 ∷ 4 ∷ 0 ∷ 0 ∷ 0 ∷ []) ∷
          turn (takes 4 2) (ticket 5) (waits 1 0 3 ∷ waits 2 4 20 ∷ waits 3 1 4 ∷ waits 4 1 4 ∷ waits 5 4 2 ∷ []) (4 ∷ 4 ∷ 0 ∷ 0 ∷ 0 ∷ []) ∷
          turn (takes 4 3) (ticket 6) (waits 1 0 3 ∷ waits 2 4 20 ∷ waits 3 1 4 ∷ waits 4 1 4 ∷ waits 5 4 2 ∷ waits 6 4 3 ∷ []) (4 ∷ 4 ∷ 2 ∷ 2 ∷ 2 ∷ []) ∷
          turn (takes 4 20) (ticket 7) (waits 1 0 3 ∷ waits 2 4 20 ∷ waits 3 1 4 ∷ waits 4 1 4 ∷ waits 5 4 2 ∷ waits 6 4 3 ∷ waits 7 4 20 ∷ []) (4
          ∷ 4 ∷ 3 ∷ 3 ∷ 3 ∷ []) ∷
          turn (takes 2 20) (ticket 8) (waits 1 0 3 ∷ waits 2 4 20 ∷ waits 3 1 4 ∷ waits 4 1 4 ∷ waits 5 4 2 ∷ waits 6 4 3 ∷ waits 7 4 20
          ∷ waits 8 2 20 ∷ []) (4 ∷ 4 ∷ 4 ∷ 4 ∷ 4 ∷ []) ∷
          listing (3 ∷ 4 ∷ 8 ∷ 2 ∷ 7 ∷ []) (ticket 4 ∷ ticket 4 ∷ ticket 6 ∷ ticket 6 ∷ ticket 6 ∷ []) ∷
          turn sends (step (leap (frame 8))) (waits 2 2 20 ∷ waits 3 1 4 ∷ waits 4 1 4 ∷ waits 5 4 2 ∷ waits 6 4 4 ∷ waits 7 4 20 ∷ []) (4 ∷ 4 ∷ 4 ∷ 4 ∷ []) ∷
          [];
    } ∷
    -- a kept blank among the rows of a table that no calls make
    record {
      start = table (plain 0 2 5 5 (waits 1 0 4 ∷ waits 2 1 20 ∷ keeps 3 2 9 ∷ waits 4 2 2 ∷ []));
      turns =
          listing (1 ∷ 2 ∷ 3 ∷ []) (ticket 1 ∷ ticket 4 ∷ ticket 4 ∷ []) ∷
          turn sends (step (leap (frame 2))) (keeps 3 1 9 ∷ waits 4 2 4 ∷ []) (9 ∷ 4 ∷ []) ∷
          [];
    } ∷
    -- a kept blank leaps
    record {
      start = table (plain 0 1 3 3 (waits 1 0 4 ∷ keeps 2 1 11 ∷ []));
      turns =
          listing (1 ∷ 2 ∷ []) (ticket 1 ∷ blank_due 1 ∷ []) ∷
          turn sends (step (leap (kept_blank 2))) (keeps 2 1 4 ∷ []) (4 ∷ []) ∷
          [];
    } ∷
    []

-- THE FACT: played by the definitions, each is as written
pub rounds_by_hand : played rounds ≡ rounds
unfolding row blank round slots_left heavier canonical into sorted rows_only due_by fits_from feasible kept blanks_from plan total_weight total tight
    tight_from tight_after segment_from segment_start first_end least_weight mark_in mark same_row in_plan lightest_by heaviest_outside substitute
    beats_golden golden_more sends_before best_from best first_from canonical_first listed opened taken sealed changed without heaviest_between
    shifted replaced leapt turn_of still_due is_ordinary sent low value field put row_bytes rows_bytes head_bytes table rows_in rows_of round_in
    length_good every rows_good round_good same table_refusal first act question deed round_refusal out_of says leaves table_first refusal answer left
    with_ticket stand_in substitute_answer
rounds_by_hand = refl

-- FURTHER ROUNDS on the model, which knows no bytes, played in the same way
abbrev pub model_rounds : List ModelHand
model_rounds =
    -- send, take, send: a kept blank goes out
    record {
      start = spent 5;
      turns =
          turn (opens 3) done [] (0 ∷ 0 ∷ 0 ∷ 0 ∷ []) ∷
          turn (takes 3 20) (ticket 1) (waits 1 3 20 ∷ []) (0 ∷ 0 ∷ 0 ∷ 0 ∷ []) ∷
          turn (takes 0 5) (ticket 2) (waits 1 3 20 ∷ waits 2 0 5 ∷ []) (5 ∷ 0 ∷ 0 ∷ 0 ∷ []) ∷
          turn (takes 2 5) (ticket 3) (waits 1 3 20 ∷ waits 2 0 5 ∷ waits 3 2 5 ∷ []) (5 ∷ 0 ∷ 0 ∷ 0 ∷ []) ∷
          turn (takes 3 9) (ticket 4) (waits 1 3 20 ∷ waits 2 0 5 ∷ waits 3 2 5 ∷ waits 4 3 9 ∷ []) (5 ∷ 5 ∷ 5 ∷ 5 ∷ []) ∷
          listing (2 ∷ 3 ∷ 1 ∷ 4 ∷ []) (ticket 2 ∷ blank_due 1 ∷ blank_due 1 ∷ blank_due 1 ∷ []) ∷
          turn sends (step (leap (frame 1))) (keeps 1 1 5 ∷ waits 3 2 5 ∷ waits 4 3 9 ∷ []) (5 ∷ 5 ∷ 5 ∷ []) ∷
          turn (takes 2 1) (ticket 5) (keeps 1 1 5 ∷ waits 3 2 5 ∷ waits 4 3 9 ∷ waits 5 2 1 ∷ []) (5 ∷ 5 ∷ 5 ∷ []) ∷
          turn sends (step (ordinary (kept_blank 1))) (waits 3 2 5 ∷ waits 4 3 9 ∷ waits 5 2 1 ∷ []) (5 ∷ 5 ∷ []) ∷
          [];
    } ∷
    -- two shifts and a raised substitute
    record {
      start = spent 7;
      turns =
          turn (opens 4) done [] (0 ∷ 0 ∷ 0 ∷ 0 ∷ 0 ∷ []) ∷
          turn (takes 0 3) (ticket 1) (waits 1 0 3 ∷ []) (3 ∷ 0 ∷ 0 ∷ 0 ∷ 0 ∷ []) ∷
          turn (takes 4 3) (ticket 2) (waits 1 0 3 ∷ waits 2 4 3 ∷ []) (3 ∷ 0 ∷ 0 ∷ 0 ∷ 0 ∷ []) ∷
          turn (takes 2 2) (ticket 3) (waits 1 0 3 ∷ waits 2 4 3 ∷ waits 3 2 2 ∷ []) (3 ∷ 0 ∷ 0 ∷ 0 ∷ 0 ∷ []) ∷
          turn (takes 3 5) (ticket 4) (waits 1 0 3 ∷ waits 2 4 3 ∷ waits 3 2 2 ∷ waits 4 3 5 ∷ []) (3 ∷ 0 ∷ 0 ∷ 0 ∷ 0 ∷ []) ∷
          turn (takes 1 9) (ticket 5) (waits 1 0 3 ∷ waits 2 4 3 ∷ waits 3 2 2 ∷ waits 4 3 5 ∷ waits 5 1 9 ∷ []) (3 ∷ 3 ∷ 2 ∷ 2 ∷ 2 ∷ []) ∷
          turn (takes 4 5) (ticket 6) (waits 1 0 3 ∷ waits 2 4 3 ∷ waits 3 2 2 ∷ waits 4 3 5 ∷ waits 5 1 9 ∷ waits 6 4 5 ∷ []) (3 ∷ 3 ∷ 3 ∷ 3 ∷ 3 ∷ []) ∷
          listing (1 ∷ 5 ∷ 4 ∷ 6 ∷ 2 ∷ []) (ticket 1 ∷ ticket 3 ∷ ticket 3 ∷ ticket 3 ∷ ticket 3 ∷ []) ∷
          turn sends (step (leap (frame 5))) (waits 2 4 3 ∷ waits 3 2 3 ∷ waits 4 1 5 ∷ waits 6 4 5 ∷ []) (5 ∷ 3 ∷ 3 ∷ 3 ∷ []) ∷
          [];
    } ∷
    -- one segment: every substitute is its lightest
    record {
      start = spent 5;
      turns =
          turn (opens 3) done [] (0 ∷ 0 ∷ 0 ∷ 0 ∷ []) ∷
          turn (takes 3 9) (ticket 1) (waits 1 3 9 ∷ []) (0 ∷ 0 ∷ 0 ∷ 0 ∷ []) ∷
          turn (takes 3 9) (ticket 2) (waits 1 3 9 ∷ waits 2 3 9 ∷ []) (0 ∷ 0 ∷ 0 ∷ 0 ∷ []) ∷
          turn (takes 3 9) (ticket 3) (waits 1 3 9 ∷ waits 2 3 9 ∷ waits 3 3 9 ∷ []) (0 ∷ 0 ∷ 0 ∷ 0 ∷ []) ∷
          turn (takes 2 9) (ticket 4) (waits 1 3 9 ∷ waits 2 3 9 ∷ waits 3 3 9 ∷ waits 4 2 9 ∷ []) (9 ∷ 9 ∷ 9 ∷ 9 ∷ []) ∷
          listing (4 ∷ 1 ∷ 2 ∷ 3 ∷ []) (ticket 3 ∷ ticket 3 ∷ ticket 3 ∷ ticket 3 ∷ []) ∷
          turn sends (step (ordinary (frame 4))) (waits 1 3 9 ∷ waits 2 3 9 ∷ waits 3 3 9 ∷ []) (9 ∷ 9 ∷ 9 ∷ []) ∷
          [];
    } ∷
    -- a shift below a mark
    record {
      start = spent 8;
      turns =
          turn (opens 4) done [] (0 ∷ 0 ∷ 0 ∷ 0 ∷ 0 ∷ []) ∷
          turn (takes 3 2) (ticket 1) (waits 1 3 2 ∷ []) (0 ∷ 0 ∷ 0 ∷ 0 ∷ 0 ∷ []) ∷
          turn (takes 2 2) (ticket 2) (waits 1 3 2 ∷ waits 2 2 2 ∷ []) (0 ∷ 0 ∷ 0 ∷ 0 ∷ 0 ∷ []) ∷
          turn (takes 0 4) (ticket 3) (waits 1 3 2 ∷ waits 2 2 2 ∷ waits 3 0 4 ∷ []) (4 ∷ 0 ∷ 0 ∷ 0 ∷ 0 ∷ []) ∷
          turn (takes 1 20) (ticket 4) (waits 1 3 2 ∷ waits 2 2 2 ∷ waits 3 0 4 ∷ waits 4 1 20 ∷ []) (4 ∷ 4 ∷ 2 ∷ 2 ∷ 0 ∷ []) ∷
          turn (takes 3 1) (ticket 5) (waits 1 3 2 ∷ waits 2 2 2 ∷ waits 3 0 4 ∷ waits 4 1 20 ∷ waits 5 3 1 ∷ []) (4 ∷ 4 ∷ 2 ∷ 2 ∷ 0 ∷ []) ∷
          turn (takes 0 5) (ticket 6) (waits 1 3 2 ∷ waits 2 2 2 ∷ waits 3 0 4 ∷ waits 4 1 20 ∷ waits 5 3 1 ∷ waits 6 0 5 ∷ []) (5 ∷ 5 ∷ 2 ∷ 2 ∷ 0 ∷ []) ∷
          turn (takes 0 1) (ticket 7) (waits 1 3 2 ∷ waits 2 2 2 ∷ waits 3 0 4 ∷ waits 4 1 20 ∷ waits 5 3 1 ∷ waits 6 0 5 ∷ waits 7 0 1 ∷ []) (5 ∷ 5
          ∷ 2 ∷ 2 ∷ 0 ∷ []) ∷
          listing (6 ∷ 4 ∷ 2 ∷ 1 ∷ []) (ticket 6 ∷ ticket 5 ∷ ticket 5 ∷ ticket 5 ∷ []) ∷
          turn sends (step (leap (frame 4))) (waits 1 2 2 ∷ waits 2 1 5 ∷ waits 5 3 2 ∷ []) (5 ∷ 2 ∷ 2 ∷ 0 ∷ []) ∷
          [];
    } ∷
    -- send, take, send: two leaps
    record {
      start = spent 8;
      turns =
          turn (opens 3) done [] (0 ∷ 0 ∷ 0 ∷ 0 ∷ []) ∷
          turn (takes 2 3) (ticket 1) (waits 1 2 3 ∷ []) (0 ∷ 0 ∷ 0 ∷ 0 ∷ []) ∷
          turn (takes 1 3) (ticket 2) (waits 1 2 3 ∷ waits 2 1 3 ∷ []) (0 ∷ 0 ∷ 0 ∷ 0 ∷ []) ∷
          turn (takes 3 20) (ticket 3) (waits 1 2 3 ∷ waits 2 1 3 ∷ waits 3 3 20 ∷ []) (0 ∷ 0 ∷ 0 ∷ 0 ∷ []) ∷
          turn (takes 2 5) (ticket 4) (waits 1 2 3 ∷ waits 2 1 3 ∷ waits 3 3 20 ∷ waits 4 2 5 ∷ []) (3 ∷ 3 ∷ 3 ∷ 3 ∷ []) ∷
          turn (takes 2 2) (ticket 5) (waits 1 2 3 ∷ waits 2 1 3 ∷ waits 3 3 20 ∷ waits 4 2 5 ∷ waits 5 2 2 ∷ []) (3 ∷ 3 ∷ 3 ∷ 3 ∷ []) ∷
          listing (2 ∷ 4 ∷ 1 ∷ 3 ∷ []) (ticket 1 ∷ ticket 1 ∷ ticket 1 ∷ blank_due 3 ∷ []) ∷
          turn sends (step (leap (frame 3))) (waits 1 2 3 ∷ waits 2 1 3 ∷ keeps 3 3 3 ∷ waits 4 2 5 ∷ waits 5 2 2 ∷ []) (3 ∷ 3 ∷ 3 ∷ []) ∷
          turn (takes 2 3) (ticket 6) (waits 1 2 3 ∷ waits 2 1 3 ∷ keeps 3 3 3 ∷ waits 4 2 5 ∷ waits 5 2 2 ∷ waits 6 2 3 ∷ []) (3 ∷ 3 ∷ 3 ∷ []) ∷
          turn (takes 3 20) (ticket 7) (waits 1 2 3 ∷ waits 2 1 3 ∷ keeps 3 3 3 ∷ waits 4 2 5 ∷ waits 5 2 2 ∷ waits 6 2 3 ∷ waits 7 3 20 ∷ []) (3 ∷ 3
          ∷ 3 ∷ []) ∷
          turn sends (step (leap (frame 7))) (waits 1 2 3 ∷ keeps 3 3 3 ∷ waits 4 2 5 ∷ waits 5 2 2 ∷ waits 6 2 3 ∷ []) (5 ∷ 3 ∷ []) ∷
          [];
    } ∷
    -- a shifted row keeps its own larger weight
    record {
      start = spent 7;
      turns =
          turn (opens 3) done [] (0 ∷ 0 ∷ 0 ∷ 0 ∷ []) ∷
          turn (takes 1 20) (ticket 1) (waits 1 1 20 ∷ []) (0 ∷ 0 ∷ 0 ∷ 0 ∷ []) ∷
          turn (takes 2 5) (ticket 2) (waits 1 1 20 ∷ waits 2 2 5 ∷ []) (0 ∷ 0 ∷ 0 ∷ 0 ∷ []) ∷
          turn (takes 3 3) (ticket 3) (waits 1 1 20 ∷ waits 2 2 5 ∷ waits 3 3 3 ∷ []) (0 ∷ 0 ∷ 0 ∷ 0 ∷ []) ∷
          turn (takes 0 9) (ticket 4) (waits 1 1 20 ∷ waits 2 2 5 ∷ waits 3 3 3 ∷ waits 4 0 9 ∷ []) (9 ∷ 9 ∷ 5 ∷ 3 ∷ []) ∷
          turn (takes 3 20) (ticket 5) (waits 1 1 20 ∷ waits 2 2 5 ∷ waits 3 3 3 ∷ waits 4 0 9 ∷ waits 5 3 20 ∷ []) (9 ∷ 9 ∷ 5 ∷ 5 ∷ []) ∷
          turn (takes 2 1) (ticket 6) (waits 1 1 20 ∷ waits 2 2 5 ∷ waits 3 3 3 ∷ waits 4 0 9 ∷ waits 5 3 20 ∷ waits 6 2 1 ∷ []) (9 ∷ 9 ∷ 5 ∷ 5 ∷ []) ∷
          listing (4 ∷ 1 ∷ 2 ∷ 5 ∷ []) (ticket 4 ∷ ticket 3 ∷ ticket 3 ∷ ticket 3 ∷ []) ∷
          turn sends (step (leap (frame 1))) (waits 2 2 5 ∷ waits 3 3 5 ∷ waits 5 1 20 ∷ waits 6 2 1 ∷ []) (20 ∷ 5 ∷ 5 ∷ []) ∷
          [];
    } ∷
    -- marks before the slot: a fresh one after the first shift would be 3
    record {
      start = spent 6;
      turns =
          turn (opens 3) done [] (0 ∷ 0 ∷ 0 ∷ 0 ∷ []) ∷
          turn (takes 2 20) (ticket 1) (waits 1 2 20 ∷ []) (0 ∷ 0 ∷ 0 ∷ 0 ∷ []) ∷
          turn (takes 1 20) (ticket 2) (waits 1 2 20 ∷ waits 2 1 20 ∷ []) (0 ∷ 0 ∷ 0 ∷ 0 ∷ []) ∷
          turn (takes 3 3) (ticket 3) (waits 1 2 20 ∷ waits 2 1 20 ∷ waits 3 3 3 ∷ []) (0 ∷ 0 ∷ 0 ∷ 0 ∷ []) ∷
          turn (takes 3 3) (ticket 4) (waits 1 2 20 ∷ waits 2 1 20 ∷ waits 3 3 3 ∷ waits 4 3 3 ∷ []) (3 ∷ 3 ∷ 3 ∷ 3 ∷ []) ∷
          turn (takes 0 4) (ticket 5) (waits 1 2 20 ∷ waits 2 1 20 ∷ waits 3 3 3 ∷ waits 4 3 3 ∷ waits 5 0 4 ∷ []) (4 ∷ 4 ∷ 4 ∷ 3 ∷ []) ∷
          listing (5 ∷ 2 ∷ 1 ∷ 3 ∷ []) (ticket 5 ∷ ticket 4 ∷ ticket 4 ∷ ticket 4 ∷ []) ∷
          turn sends (step (leap (frame 2))) (waits 1 1 20 ∷ waits 3 2 4 ∷ waits 4 3 3 ∷ []) (20 ∷ 4 ∷ 3 ∷ []) ∷
          [];
    } ∷
    -- and for the substitute it would be 1
    record {
      start = spent 5;
      turns =
          turn (opens 2) done [] (0 ∷ 0 ∷ 0 ∷ []) ∷
          turn (takes 1 20) (ticket 1) (waits 1 1 20 ∷ []) (0 ∷ 0 ∷ 0 ∷ []) ∷
          turn (takes 2 1) (ticket 2) (waits 1 1 20 ∷ waits 2 2 1 ∷ []) (0 ∷ 0 ∷ 0 ∷ []) ∷
          turn (takes 2 4) (ticket 3) (waits 1 1 20 ∷ waits 2 2 1 ∷ waits 3 2 4 ∷ []) (1 ∷ 1 ∷ 1 ∷ []) ∷
          turn (takes 0 3) (ticket 4) (waits 1 1 20 ∷ waits 2 2 1 ∷ waits 3 2 4 ∷ waits 4 0 3 ∷ []) (3 ∷ 3 ∷ 3 ∷ []) ∷
          listing (4 ∷ 1 ∷ 3 ∷ []) (ticket 4 ∷ ticket 2 ∷ ticket 2 ∷ []) ∷
          turn sends (step (leap (frame 1))) (waits 2 2 3 ∷ waits 3 1 4 ∷ []) (4 ∷ 3 ∷ []) ∷
          [];
    } ∷
    -- a blank in the first segment
    record {
      start = spent 4;
      turns =
          turn (opens 3) done [] (0 ∷ 0 ∷ 0 ∷ 0 ∷ []) ∷
          turn (takes 1 11) (ticket 1) (waits 1 1 11 ∷ []) (0 ∷ 0 ∷ 0 ∷ 0 ∷ []) ∷
          turn (takes 3 20) (ticket 2) (waits 1 1 11 ∷ waits 2 3 20 ∷ []) (0 ∷ 0 ∷ 0 ∷ 0 ∷ []) ∷
          turn (takes 1 2) (ticket 3) (waits 1 1 11 ∷ waits 2 3 20 ∷ waits 3 1 2 ∷ []) (2 ∷ 2 ∷ 0 ∷ 0 ∷ []) ∷
          listing (1 ∷ 3 ∷ 2 ∷ []) (ticket 3 ∷ ticket 3 ∷ blank_due 3 ∷ []) ∷
          turn sends (step (leap (frame 2))) (waits 1 1 11 ∷ waits 3 1 2 ∷ []) (11 ∷ 0 ∷ 0 ∷ []) ∷
          [];
    } ∷
    -- an idle slot leaps
    record {
      start = spent 3;
      turns =
          turn (opens 3) done [] (0 ∷ 0 ∷ 0 ∷ 0 ∷ []) ∷
          turn (takes 3 9) (ticket 1) (waits 1 3 9 ∷ []) (0 ∷ 0 ∷ 0 ∷ 0 ∷ []) ∷
          turn (takes 3 5) (ticket 2) (waits 1 3 9 ∷ waits 2 3 5 ∷ []) (0 ∷ 0 ∷ 0 ∷ 0 ∷ []) ∷
          listing (1 ∷ 2 ∷ []) (blank_due 2 ∷ blank_due 2 ∷ []) ∷
          turn sends (step (leap (frame 1))) (waits 2 3 5 ∷ []) (0 ∷ 0 ∷ 0 ∷ []) ∷
          [];
    } ∷
    []

pub model_rounds_by_hand : modelled model_rounds ≡ model_rounds
unfolding row blank round slots_left heavier canonical into sorted rows_only due_by fits_from feasible kept blanks_from plan total_weight total tight
    tight_from tight_after segment_from segment_start first_end least_weight mark_in mark same_row in_plan lightest_by heaviest_outside substitute
    beats_golden golden_more sends_before best_from best first_from canonical_first listed opened taken sealed changed without heaviest_between
    shifted replaced leapt turn_of still_due is_ordinary sent act question deed round_refusal out_of says leaves with_ticket stand_in next_round
model_rounds_by_hand = refl
