-- Rounds by hand for L2, prices before pictures: the class in every place where the order decides, refusal 14, and the class's byte.
-- Each is worked out from the papers.
use mathlib.Core.Path.{◌≡◌, refl}
use mathlib.Core.Bool.{Bool, true, false}
use mathlib.Core.List.{List, [], ◌∷◌, map}
use Prim.Native.Nat.{ℕ}
use lib.ListN.{replicate}
use Rattle.rules.specs.Rows.{Row, Round, row, blank, round, slots_left, heavier, canonical, old_heavier, into, sorted, rows_only}
use Rattle.rules.specs.Plan.{due_by, fits_from, feasible, kept, blanks_from, plan_by, plan, total_weight, total, tight, tight_from, tight_after, segment_from, segment_start, first_end, least_weight, mark_in, mark, same_row, in_plan, lightest_by, heaviest_outside, substitute, beats_golden, golden_more, sends_before, best_from, best, first_from, canonical_first, listed}
use Rattle.rules.specs.Steps.{opened, taken, sealed, changed, without, heaviest_between, shifted, replaced, leapt, turn_of, still_due, is_ordinary, sent}
use Rattle.rules.specs.Table.{low, value, field, put, row_bytes, rows_bytes, head_bytes, table, rows_in, rows_of, round_in, length_good, every, rows_good, round_good, same, table_refusal}
use Rattle.rules.specs.Calls.{frame, kept_blank, ordinary, leap, refused, done, closed, ticket, step, amount, blank_due, number_of, first, act, question, deed, round_refusal, out_of, says, leaves, table_first, refusal, answer, left}
use Rattle.rules.specs.Looking.{with_ticket, stand_in, substitute_answer, list_refusal, list_answer, list_left, shows}
use Rattle.rules.specs.Classes.{old_total, old_mark}
use Rattle.rules.proofs.Played.{opens, takes, takes_of, sends, seals, marks, totals, plain, plain_sealed, waits, waits_of, keeps, old, turn, listing, substituting, lists, refuses, head, Hand, found, tickets_of, played}

-- a kept blank of any class; only a damaged table has one of another class than 3
abbrev pub keeps_of : (class ticket due weight : ℕ) → Row
keeps_of c k d w = row k d w (record { kind = 1; class = c })

-- four frames alike but for their classes; and what waits before a leap with a shift
abbrev pub four_classes : List Row
four_classes = waits_of 2 1 2 5 ∷ waits_of 1 2 2 5 ∷ waits_of 0 3 2 5 ∷ waits_of 3 4 2 5 ∷ []

abbrev pub to_shift : List Row
to_shift = waits_of 3 1 0 5 ∷ waits_of 3 2 1 20 ∷ waits_of 3 3 3 4 ∷ waits_of 1 4 3 4 ∷ waits_of 2 5 3 2 ∷ []

-- THE TABLE
abbrev pub class_rounds : List Hand
class_rounds =
    -- of equal weight and due slot the smaller class is in the plan, whatever its ticket
    record {
      start = found 5;
      turns =
          turn (opens 0) done [] (0 ∷ []) ∷
          turn (takes_of 3 0 5) (ticket 1) (waits_of 3 1 0 5 ∷ []) (5 ∷ []) ∷
          turn (takes_of 1 0 5) (ticket 2) (waits_of 3 1 0 5 ∷ waits_of 1 2 0 5 ∷ []) (5 ∷ []) ∷
          listing (2 ∷ []) (ticket 2 ∷ []) ∷
          turn (takes_of 2 0 5) (ticket 3) (waits_of 3 1 0 5 ∷ waits_of 1 2 0 5 ∷ waits_of 2 3 0 5 ∷ []) (5 ∷ []) ∷
          listing (2 ∷ []) (ticket 2 ∷ []) ∷
          turn (takes 0 5) (ticket 4) (waits_of 3 1 0 5 ∷ waits_of 1 2 0 5 ∷ waits_of 2 3 0 5 ∷ waits 4 0 5 ∷ []) (5 ∷ []) ∷
          listing (4 ∷ []) (ticket 4 ∷ []) ∷
          substituting 2 (refused 11) ∷
          turn totals (amount 5) (waits_of 3 1 0 5 ∷ waits_of 1 2 0 5 ∷ waits_of 2 3 0 5 ∷ waits 4 0 5 ∷ []) (5 ∷ []) ∷
          turn sends (step (ordinary (frame 4))) [] [] ∷
          [];
    } ∷
    -- and of equal class the smaller ticket
    record {
      start = table (plain 0 0 4 4 (waits_of 2 1 0 5 ∷ waits_of 1 2 0 5 ∷ waits_of 1 3 0 5 ∷ []));
      turns = listing (2 ∷ []) (ticket 2 ∷ []) ∷ turn sends (step (ordinary (frame 2))) [] [] ∷ [];
    } ∷
    -- class before ticket in the canonical order, the listing, the first segment's substitute, and the pick among equals
    record {
      start = found 5;
      turns =
          turn (opens 2) done [] (0 ∷ 0 ∷ 0 ∷ []) ∷
          turn (takes_of 2 2 5) (ticket 1) (waits_of 2 1 2 5 ∷ []) (0 ∷ 0 ∷ 0 ∷ []) ∷
          turn (takes_of 1 2 5) (ticket 2) (waits_of 2 1 2 5 ∷ waits_of 1 2 2 5 ∷ []) (0 ∷ 0 ∷ 0 ∷ []) ∷
          listing (2 ∷ 1 ∷ []) (blank_due 1 ∷ blank_due 1 ∷ []) ∷
          turn (takes_of 0 2 5) (ticket 3) (waits_of 2 1 2 5 ∷ waits_of 1 2 2 5 ∷ waits_of 0 3 2 5 ∷ []) (5 ∷ 5 ∷ 5 ∷ []) ∷
          turn (takes_of 3 2 5) (ticket 4) four_classes (5 ∷ 5 ∷ 5 ∷ []) ∷
          turn totals (amount 15) four_classes (5 ∷ 5 ∷ 5 ∷ []) ∷
          listing (3 ∷ 2 ∷ 1 ∷ []) (ticket 1 ∷ ticket 1 ∷ ticket 1 ∷ []) ∷
          lists 4 (amount 3) (waits 3 2 5 ∷ waits_of 1 2 2 5 ∷ waits_of 2 1 2 5 ∷ old 0 ∷ []) ∷
          substituting 4 (refused 11) ∷
          turn sends (step (ordinary (frame 3))) (waits_of 2 1 2 5 ∷ waits_of 1 2 2 5 ∷ waits_of 3 4 2 5 ∷ []) (5 ∷ 5 ∷ []) ∷
          turn sends (step (ordinary (frame 2))) (waits_of 2 1 2 5 ∷ waits_of 3 4 2 5 ∷ []) (5 ∷ []) ∷
          turn sends (step (ordinary (frame 1))) [] [] ∷
          [];
    } ∷
    -- sealed: of those due alike and equally heavy the smaller class goes first, where PlanM would leap
    record {
      start = table (plain 0 2 4 4 (waits_of 2 1 1 4 ∷ waits_of 1 2 1 4 ∷ waits_of 3 3 2 20 ∷ []));
      turns =
          listing (2 ∷ 1 ∷ 3 ∷ []) (ticket 1 ∷ ticket 1 ∷ blank_due 2 ∷ []) ∷
          turn seals closed (waits_of 2 1 1 4 ∷ waits_of 1 2 1 4 ∷ waits_of 3 3 2 20 ∷ []) (4 ∷ 4 ∷ 4 ∷ []) ∷
          turn sends (step (ordinary (frame 2))) (waits_of 2 1 1 4 ∷ waits_of 3 3 2 20 ∷ []) (4 ∷ 4 ∷ []) ∷
          turn sends (step (ordinary (frame 1))) (waits_of 3 3 2 20 ∷ []) (20 ∷ []) ∷
          turn sends (step (ordinary (frame 3))) [] [] ∷
          [];
    } ∷
    -- the substitute outside the plan is the one of smaller class; raised in a leap it keeps its class
    record {
      start = table (plain 0 1 5 5 (waits_of 3 1 0 4 ∷ waits_of 3 2 1 3 ∷ waits_of 1 3 1 3 ∷ waits_of 2 4 1 9 ∷ []));
      turns =
          listing (1 ∷ 4 ∷ []) (ticket 1 ∷ ticket 3 ∷ []) ∷
          turn totals (amount 13) (waits_of 3 1 0 4 ∷ waits_of 3 2 1 3 ∷ waits_of 1 3 1 3 ∷ waits_of 2 4 1 9 ∷ []) (4 ∷ 4 ∷ []) ∷
          turn sends (step (leap (frame 4))) (waits_of 3 2 1 3 ∷ waits_of 1 3 1 4 ∷ []) (4 ∷ []) ∷
          turn sends (step (ordinary (frame 3))) [] [] ∷
          [];
    } ∷
    -- the smaller class is shifted; it and the raised substitute keep their classes
    record {
      start = table (plain 0 3 6 6 to_shift);
      turns =
          listing (1 ∷ 2 ∷ 4 ∷ 3 ∷ []) (ticket 1 ∷ ticket 5 ∷ ticket 5 ∷ ticket 5 ∷ []) ∷
          turn totals (amount 33) to_shift (5 ∷ 5 ∷ 4 ∷ 4 ∷ []) ∷
          turn sends (step (leap (frame 2))) (waits_of 3 3 3 4 ∷ waits_of 1 4 1 5 ∷ waits_of 2 5 3 4 ∷ []) (5 ∷ 4 ∷ 4 ∷ []) ∷
          listing (4 ∷ 5 ∷ 3 ∷ []) (ticket 4 ∷ blank_due 2 ∷ blank_due 2 ∷ []) ∷
          [];
    } ∷
    -- P2 with classes: the kept blank has class 3, not that of the frame whose row it has; a frame of class 3 is behind it, one of class 2 before it
    record {
      start = found 4;
      turns =
          turn (opens 1) done [] (0 ∷ 0 ∷ []) ∷
          turn (takes_of 1 0 4) (ticket 1) (waits_of 1 1 0 4 ∷ []) (4 ∷ 0 ∷ []) ∷
          turn (takes_of 2 1 11) (ticket 2) (waits_of 1 1 0 4 ∷ waits_of 2 2 1 11 ∷ []) (4 ∷ 4 ∷ []) ∷
          turn sends (step (leap (frame 2))) (keeps 2 1 4 ∷ []) (4 ∷ []) ∷
          turn (takes_of 3 1 4) (ticket 3) (keeps 2 1 4 ∷ waits_of 3 3 1 4 ∷ []) (4 ∷ []) ∷
          listing (2 ∷ []) (ticket 2 ∷ []) ∷
          turn (takes_of 2 1 4) (ticket 4) (keeps 2 1 4 ∷ waits_of 3 3 1 4 ∷ waits_of 2 4 1 4 ∷ []) (4 ∷ []) ∷
          listing (4 ∷ []) (ticket 4 ∷ []) ∷
          turn totals (amount 4) (keeps 2 1 4 ∷ waits_of 3 3 1 4 ∷ waits_of 2 4 1 4 ∷ []) (4 ∷ []) ∷
          turn sends (step (ordinary (frame 4))) [] [] ∷
          [];
    } ∷
    -- the due slot before the class: in the plan is the earlier due of class 3, not the second of class 0
    record {
      start = table (plain 0 1 4 4 (waits_of 3 1 0 5 ∷ waits 2 1 5 ∷ waits 3 1 5 ∷ []));
      turns =
          listing (1 ∷ 2 ∷ []) (ticket 1 ∷ ticket 3 ∷ []) ∷
          turn sends (step (ordinary (frame 1))) (waits 2 1 5 ∷ waits 3 1 5 ∷ []) (5 ∷ []) ∷
          [];
    } ∷
    -- so too a kept blank that is due before frames of class 0
    record {
      start = table (plain 0 1 4 4 (waits 1 1 5 ∷ keeps 2 0 5 ∷ waits 3 1 5 ∷ []));
      turns =
          listing (2 ∷ 1 ∷ []) (ticket 2 ∷ ticket 3 ∷ []) ∷
          turn sends (step (ordinary (kept_blank 2))) (waits 1 1 5 ∷ waits 3 1 5 ∷ []) (5 ∷ []) ∷
          [];
    } ∷
    -- the weight before the class, in the plan and in the canonical order
    record {
      start = table (plain 0 0 3 3 (waits 1 0 5 ∷ waits_of 3 2 0 6 ∷ []));
      turns = listing (2 ∷ []) (ticket 2 ∷ []) ∷ turn sends (step (ordinary (frame 2))) [] [] ∷ [];
    } ∷
    record {
      start = table (plain 0 1 3 3 (waits 1 1 5 ∷ waits_of 3 2 1 6 ∷ []));
      turns =
          listing (2 ∷ 1 ∷ []) (ticket 1 ∷ ticket 1 ∷ []) ∷
          turn sends (step (ordinary (frame 2))) (waits 1 1 5 ∷ []) (5 ∷ []) ∷
          [];
    } ∷
    -- 14 is for a class above 3, after 2, 3, 5, 13, 6 and 7 and before 8 and 9, and leaves every byte
    record { start = replicate 41 7; turns = refuses (takes_of 4 9 0) 2 true ∷ [] } ∷
    record { start = found 1; turns = refuses (takes_of 4 9 0) 3 true ∷ [] } ∷
    record { start = table (plain 3 2 9 1 []); turns = refuses (takes_of 4 9 0) 5 true ∷ refuses (takes_of 4 2 1) 5 true ∷ [] } ∷
    record { start = table (plain_sealed 3 2 9 1 []); turns = refuses (takes_of 4 2 1) 5 true ∷ [] } ∷
    record { start = table (plain_sealed 1 2 2 2 (waits 1 2 5 ∷ [])); turns = refuses (takes_of 4 2 1) 13 true ∷ refuses (takes_of 3 2 1) 13 true ∷ [] } ∷
    record {
      start = table (plain 1 2 16777216 1 (waits 1 2 5 ∷ []));
      turns =
          refuses (takes_of 4 0 0) 6 true ∷
          refuses (takes_of 4 1 0) 6 true ∷
          refuses (takes_of 4 1 16777217) 6 true ∷
          refuses (takes_of 4 0 1) 7 true ∷
          refuses (takes_of 4 3 1) 7 true ∷
          refuses (takes_of 4 1 1) 14 true ∷
          refuses (takes_of 255 2 1) 14 true ∷
          refuses (takes_of 3 1 1) 8 true ∷
          [];
    } ∷
    record { start = table (plain 1 2 16777215 1 (waits 1 2 5 ∷ [])); turns = refuses (takes_of 4 1 1) 14 true ∷ refuses (takes_of 3 1 1) 9 true ∷ [] } ∷
    record { start = table (plain 1 2 16777216 2 (waits 1 2 5 ∷ [])); turns = refuses (takes_of 4 1 1) 14 true ∷ refuses (takes_of 3 1 1) 8 true ∷ [] } ∷
    -- every class above 3, also one that a byte cannot hold; 3 and below are taken
    record {
      start = table (plain 1 2 2 4 (waits 1 2 5 ∷ []));
      turns =
          refuses (takes_of 4 1 1) 14 true ∷
          refuses (takes_of 5 1 1) 14 true ∷
          refuses (takes_of 255 1 1) 14 true ∷
          refuses (takes_of 256 1 1) 14 true ∷
          refuses (takes_of 259 1 1) 14 true ∷
          refuses (takes_of 4294967295 1 1) 14 true ∷
          turn (takes_of 4 1 1) (refused 14) (waits 1 2 5 ∷ []) (0 ∷ 0 ∷ []) ∷
          head 1 2 2 0 ∷
          turn (takes_of 3 2 1) (ticket 2) (waits 1 2 5 ∷ waits_of 3 2 2 1 ∷ []) (1 ∷ 1 ∷ []) ∷
          turn (takes_of 2 2 1) (ticket 3) (waits 1 2 5 ∷ waits_of 3 2 2 1 ∷ waits_of 2 3 2 1 ∷ []) (1 ∷ 1 ∷ []) ∷
          listing (1 ∷ 3 ∷ []) (ticket 3 ∷ ticket 3 ∷ []) ∷
          [];
    } ∷
    -- a frame's class above 3 is unsound: every call gets 3, the listing too; opening clears it, and class 3 is taken
    record {
      start = table (plain 0 1 2 2 (waits_of 4 1 1 5 ∷ []));
      turns =
          refuses (takes 0 5) 3 true ∷
          refuses (takes_of 4 0 5) 3 true ∷
          refuses sends 3 true ∷
          refuses seals 3 true ∷
          refuses (marks 0) 3 true ∷
          refuses totals 3 true ∷
          substituting 1 (refused 3) ∷
          lists 1 (refused 3) (old 0 ∷ []) ∷
          turn (opens 1) done [] (0 ∷ 0 ∷ []) ∷
          turn (takes_of 3 0 5) (ticket 1) (waits_of 3 1 0 5 ∷ []) (5 ∷ 0 ∷ []) ∷
          [];
    } ∷
    record { start = table (plain 0 1 2 2 (waits_of 255 1 1 5 ∷ [])); turns = refuses (takes 0 5) 3 true ∷ refuses sends 3 true ∷ [] } ∷
    record { start = table (plain 0 1 2 2 (waits_of 3 1 1 5 ∷ [])); turns = turn totals (amount 5) (waits_of 3 1 1 5 ∷ []) (0 ∷ 0 ∷ []) ∷ [] } ∷
    -- a kept blank of another class than 3 is unsound, and opening clears it too
    record {
      start = table (plain 0 1 2 2 (keeps_of 0 1 1 5 ∷ []));
      turns =
          refuses (takes 0 5) 3 true ∷
          refuses sends 3 true ∷
          refuses totals 3 true ∷
          lists 1 (refused 3) (old 0 ∷ []) ∷
          turn (opens 0) done [] (0 ∷ []) ∷
          turn (takes_of 2 0 5) (ticket 1) (waits_of 2 1 0 5 ∷ []) (5 ∷ []) ∷
          [];
    } ∷
    record { start = table (plain 0 1 2 2 (keeps_of 2 1 1 5 ∷ [])); turns = refuses totals 3 true ∷ [] } ∷
    record { start = table (plain 0 1 2 2 (keeps_of 4 1 1 5 ∷ [])); turns = refuses totals 3 true ∷ [] } ∷
    record { start = table (plain 0 1 2 2 (keeps_of 3 1 1 5 ∷ [])); turns = turn totals (amount 5) (keeps 1 1 5 ∷ []) (0 ∷ 0 ∷ []) ∷ [] } ∷
    -- the second row is judged like the first
    record { start = table (plain 0 1 3 3 (waits 1 1 5 ∷ waits_of 4 2 1 5 ∷ [])); turns = refuses totals 3 true ∷ [] } ∷
    record { start = table (plain 0 1 3 3 (waits 1 1 5 ∷ keeps_of 1 2 1 5 ∷ [])); turns = refuses totals 3 true ∷ [] } ∷
    []

-- THE FACT: played by the definitions, each is as written
pub class_rounds_by_hand : played class_rounds ≡ class_rounds
unfolding row blank round slots_left heavier canonical into sorted rows_only due_by fits_from feasible kept blanks_from plan total_weight total tight
    tight_from tight_after segment_from segment_start first_end least_weight mark_in mark same_row in_plan lightest_by heaviest_outside substitute
    beats_golden golden_more sends_before best_from best first_from canonical_first listed opened taken sealed changed without heaviest_between
    shifted replaced leapt turn_of still_due is_ordinary sent low value field put row_bytes rows_bytes head_bytes table rows_in rows_of round_in
    length_good every rows_good round_good same table_refusal first act question deed round_refusal out_of says leaves table_first refusal answer left
    with_ticket stand_in substitute_answer list_refusal list_answer list_left shows number_of
class_rounds_by_hand = refl

-- THE ORDERS of two rows, both ways: heavier, canonical and document 01's own
abbrev pub compared : Row → Row → List Bool
compared a b = heavier a b ∷ heavier b a ∷ canonical a b ∷ canonical b a ∷ old_heavier a b ∷ old_heavier b a ∷ []

abbrev pub orders : List (List Bool)
orders =
    -- one after another by weight, due slot, class and ticket alone, all else equal
    compared (waits_of 1 5 7 9) (waits_of 1 5 7 8) ∷
    compared (waits_of 1 5 6 9) (waits_of 1 5 7 9) ∷
    compared (waits_of 0 5 7 9) (waits_of 1 5 7 9) ∷
    compared (waits_of 1 4 7 9) (waits_of 1 5 7 9) ∷
    -- the weight against due slot, class and ticket; the due slot against class and ticket; the class against the ticket
    compared (waits_of 3 6 8 9) (waits_of 1 5 7 8) ∷
    compared (waits_of 3 6 6 9) (waits_of 1 5 7 9) ∷
    compared (waits_of 1 6 7 9) (waits_of 3 5 7 9) ∷
    -- a kept blank is compared as a frame of class 3, behind one of class 2
    compared (keeps 4 7 9) (waits_of 3 5 7 9) ∷
    compared (waits_of 3 4 7 9) (keeps 5 7 9) ∷
    compared (waits_of 2 5 7 9) (keeps 4 7 9) ∷
    -- a row and a blank, blanks of two slots, and a row with itself
    compared (waits_of 3 5 7 1) (blank 7) ∷
    compared (waits_of 3 5 7 1) (blank 6) ∷
    compared (blank 6) (blank 7) ∷
    compared (waits_of 3 5 7 9) (waits_of 3 5 7 9) ∷
    []

pub orders_by_hand :
    orders
    ≡ (true ∷ false ∷ true ∷ false ∷ true ∷ false ∷ [])
    ∷ (true ∷ false ∷ true ∷ false ∷ true ∷ false ∷ [])
    ∷ (true ∷ false ∷ true ∷ false ∷ false ∷ false ∷ [])
    ∷ (true ∷ false ∷ true ∷ false ∷ true ∷ false ∷ [])
    ∷ (true ∷ false ∷ false ∷ true ∷ true ∷ false ∷ [])
    ∷ (true ∷ false ∷ true ∷ false ∷ true ∷ false ∷ [])
    ∷ (true ∷ false ∷ true ∷ false ∷ false ∷ true ∷ [])
    ∷ (true ∷ false ∷ true ∷ false ∷ true ∷ false ∷ [])
    ∷ (true ∷ false ∷ true ∷ false ∷ true ∷ false ∷ [])
    ∷ (true ∷ false ∷ true ∷ false ∷ false ∷ true ∷ [])
    ∷ (true ∷ false ∷ true ∷ false ∷ true ∷ false ∷ [])
    ∷ (true ∷ false ∷ false ∷ true ∷ true ∷ false ∷ [])
    ∷ (true ∷ false ∷ true ∷ false ∷ true ∷ false ∷ [])
    ∷ (false ∷ false ∷ false ∷ false ∷ false ∷ false ∷ [])
    ∷ []
unfolding row blank heavier canonical old_heavier
orders_by_hand = refl

-- THE OLD ORDER's PLAN: of these rounds it holds other rows than the plan, with the same total and the same marks (Classes.antt)
abbrev pub one_slot : Round
one_slot = plain 0 0 4 4 (waits_of 3 1 0 5 ∷ waits_of 1 2 0 5 ∷ waits_of 0 3 0 4 ∷ [])

abbrev pub three_slots : Round
three_slots =
    plain 0 2 7 7 (waits_of 3 1 1 5 ∷ waits_of 2 2 2 3 ∷ waits_of 2 3 1 5 ∷ waits_of 1 4 1 5 ∷ waits_of 3 5 0 6 ∷ waits 6 2 3 ∷ [])

abbrev pub tickets_by : (before : Row → Row → Bool) → Round → List ℕ
tickets_by f r = tickets_of (sorted canonical (rows_only (plan_by f r)))

abbrev pub old_and_new : Round → List (List ℕ)
old_and_new r =
    tickets_by old_heavier r ∷ tickets_by heavier r
    ∷ (old_total r ∷ total r ∷ [])
    ∷ (old_mark r 0 ∷ old_mark r r.last ∷ [])
    ∷ (mark r 0 ∷ mark r r.last ∷ [])
    ∷ []

pub old_order_by_hand :
    map old_and_new (one_slot ∷ three_slots ∷ [])
    ≡ ((1 ∷ []) ∷ (2 ∷ []) ∷ (5 ∷ 5 ∷ []) ∷ (5 ∷ 5 ∷ []) ∷ (5 ∷ 5 ∷ []) ∷ [])
    ∷ ((5 ∷ 1 ∷ 2 ∷ []) ∷ (5 ∷ 4 ∷ 6 ∷ []) ∷ (14 ∷ 14 ∷ []) ∷ (6 ∷ 3 ∷ []) ∷ (6 ∷ 3 ∷ []) ∷ [])
    ∷ []
unfolding row blank round slots_left heavier canonical old_heavier into sorted rows_only due_by fits_from feasible kept blanks_from plan total_weight total
    tight tight_from tight_after least_weight mark_in mark
old_order_by_hand = refl
