-- Rounds by hand from their opening past their last slot: what calls and replies tell of each, S and B, and whether it was never sealed.
use mathlib.Core.Path.{◌≡◌, refl}
use mathlib.Core.Bool.{Bool, true, false}
use mathlib.Core.List.{List, [], ◌∷◌, map}
use mathlib.Core.Option.{none, some}
use Prim.Native.Nat.{ℕ, ◌+◌, ◌*◌, ◌≤◌}
use native.Mathlib.Omega.{arith}
use Rattle.rules.specs.Rows.{row, blank, round, slots_left, heavier, canonical, into, sorted}
use Rattle.rules.specs.Plan.{due_by, fits_from, feasible, kept, blanks_from, plan, total_weight, total, tight, tight_from, tight_after, segment_from, segment_start, first_end, least_weight, mark_in, mark, same_row, in_plan, lightest_by, heaviest_outside, substitute, beats_golden, golden_more, sends_before, best_from, best, first_from, canonical_first}
use Rattle.rules.specs.Steps.{opened, taken, sealed, changed, without, heaviest_between, shifted, replaced, leapt, turn_of, still_due, is_ordinary, sent}
use Rattle.rules.specs.Table.{low, value, field, put, row_bytes, rows_bytes, head_bytes, table, rows_in, rows_of, round_in, length_good, every, rows_good, round_good, same, table_refusal}
use Rattle.rules.specs.Calls.{Call, silence, frame, kept_blank, ordinary, leap, Reply, refused, done, closed, ticket, step, amount, blank_due, first, act, question, deed, round_refusal, out_of, says, leaves, table_first, refusal, answer, left, run, replies}
use Rattle.rules.specs.Demands.{member}
use Rattle.rules.specs.Conditions.{Past}
use Rattle.rules.specs.Hindsight.{Told, nothing, took, went, shut, took_in, went_out, shut_by, told, story, never_shut, counts_for, noted, earned, sent_in, Offer, Choice, offer, offers, kept_to, gained, top_of, most, could_have}
use Rattle.rules.proofs.Played.{opens, takes, sends, seals, marks, totals, found}

-- A ROUND PLAYED OUT: its last slot and its calls, what is told of each call, then S and B, and whether it was never sealed
pub record PlayedOut : Type 0 where
  pub last : ℕ
  pub calls : List Call
  pub tells : List Told
  pub sent : ℕ
  pub could : ℕ
  pub unsealed : Bool

-- P1: both go, each in its due slot
abbrev pub p1 : PlayedOut
p1 =
    record {
      last = 1;
      calls = takes 0 4 ∷ takes 1 10 ∷ sends ∷ sends ∷ [];
      tells = took 1 0 4 ∷ took 2 1 10 ∷ went (frame 1) ∷ went (frame 2) ∷ [];
      sent = 4 + 10;
      could = 4 + 10;
      unsealed = true;
    }

-- P2: ticket 2 leaps, and the kept blank that it leaves counts nothing; both could have gone
abbrev pub p2 : PlayedOut
p2 =
    record {
      last = 1;
      calls = takes 0 4 ∷ takes 1 11 ∷ sends ∷ sends ∷ [];
      tells = took 1 0 4 ∷ took 2 1 11 ∷ went (frame 2) ∷ went (kept_blank 2) ∷ [];
      sent = 11;
      could = 4 + 11;
      unsealed = true;
    }

-- P2 among refused calls and questions: they tell nothing
abbrev pub p2_among : PlayedOut
p2_among =
    record {
      last = 1;
      calls =
          opens 4096 ∷ takes 0 4 ∷ takes 0 0 ∷ takes 2 9 ∷ marks 1 ∷ takes 1 11 ∷ totals ∷ sends ∷ marks 0 ∷ sends ∷ sends ∷ takes 1 7 ∷ [];
      tells =
          nothing ∷ took 1 0 4 ∷ nothing ∷ nothing ∷ nothing ∷ took 2 1 11 ∷ nothing ∷ went (frame 2) ∷ nothing ∷ went (kept_blank 2) ∷ nothing ∷ nothing ∷ [];
      sent = 11;
      could = 4 + 11;
      unsealed = true;
    }

-- P4: ticket 4 is raised from 3 to 4, and counts for 3
abbrev pub p4 : PlayedOut
p4 =
    record {
      last = 2;
      calls = takes 0 4 ∷ takes 1 10 ∷ takes 2 5 ∷ takes 2 3 ∷ sends ∷ sends ∷ sends ∷ [];
      tells = took 1 0 4 ∷ took 2 1 10 ∷ took 3 2 5 ∷ took 4 2 3 ∷ went (frame 2) ∷ went (frame 3) ∷ went (frame 4) ∷ [];
      sent = 10 + 5 + 3;
      could = 4 + 10 + 5;
      unsealed = true;
    }

-- P1 with a frame taken between the sendings: it goes, and tickets 2 and 3 could have gone
abbrev pub between : PlayedOut
between =
    record {
      last = 1;
      calls = takes 0 4 ∷ takes 1 10 ∷ sends ∷ takes 1 11 ∷ sends ∷ [];
      tells = took 1 0 4 ∷ took 2 1 10 ∷ went (frame 1) ∷ took 3 1 11 ∷ went (frame 3) ∷ [];
      sent = 4 + 11;
      could = 10 + 11;
      unsealed = true;
    }

-- a slot of silence is over as any other: of two frames taken after it one can go
abbrev pub late : PlayedOut
late =
    record {
      last = 1;
      calls = sends ∷ takes 1 5 ∷ takes 1 6 ∷ sends ∷ [];
      tells = went silence ∷ took 1 1 5 ∷ took 2 1 6 ∷ went (frame 2) ∷ [];
      sent = 6;
      could = 6;
      unsealed = true;
    }

-- in each slot a frame due in it and a heavier one due in the next: the first always goes, and the second could have
abbrev pub climbing : PlayedOut
climbing =
    record {
      last = 3;
      calls = takes 0 1 ∷ takes 1 2 ∷ sends ∷ takes 1 2 ∷ takes 2 5 ∷ sends ∷ takes 2 5 ∷ takes 3 13 ∷ sends ∷ takes 3 13 ∷ sends ∷ [];
      tells =
          took 1 0 1 ∷ took 2 1 2 ∷ went (frame 1) ∷ took 3 1 2 ∷ took 4 2 5 ∷ went (frame 2) ∷ took 5 2 5 ∷ took 6 3 13 ∷ went (frame 4) ∷ took 7 3 13 ∷
          went (frame 6) ∷ [];
      sent = 1 + 2 + 5 + 13;
      could = 2 + 5 + 13 + 13;
      unsealed = true;
    }

-- P2 sealed before its first slot: both go, a taking after it is refused, and so is a sealing past the last slot
abbrev pub p2_sealed : PlayedOut
p2_sealed =
    record {
      last = 1;
      calls = takes 0 4 ∷ takes 1 11 ∷ seals ∷ takes 1 9 ∷ sends ∷ sends ∷ seals ∷ [];
      tells = took 1 0 4 ∷ took 2 1 11 ∷ shut ∷ nothing ∷ went (frame 1) ∷ went (frame 2) ∷ nothing ∷ [];
      sent = 4 + 11;
      could = 4 + 11;
      unsealed = false;
    }

-- P2 sealed after its leap: what was lost by it stays lost
abbrev pub p2_sealed_late : PlayedOut
p2_sealed_late =
    record {
      last = 1;
      calls = takes 0 4 ∷ takes 1 11 ∷ sends ∷ seals ∷ sends ∷ [];
      tells = took 1 0 4 ∷ took 2 1 11 ∷ went (frame 2) ∷ shut ∷ went (kept_blank 2) ∷ [];
      sent = 11;
      could = 4 + 11;
      unsealed = false;
    }

-- P2 whose sealing comes too late and is refused by 5: the round was never sealed
abbrev pub p2_unsealed : PlayedOut
p2_unsealed =
    record {
      last = 1;
      calls = takes 0 4 ∷ takes 1 11 ∷ sends ∷ sends ∷ seals ∷ [];
      tells = took 1 0 4 ∷ took 2 1 11 ∷ went (frame 2) ∷ went (kept_blank 2) ∷ nothing ∷ [];
      sent = 11;
      could = 4 + 11;
      unsealed = true;
    }

-- sealed twice: silence first, then both; the frame refused by 13 is no offer
abbrev pub sealed_twice : PlayedOut
sealed_twice =
    record {
      last = 2;
      calls = takes 1 5 ∷ takes 2 7 ∷ seals ∷ seals ∷ takes 0 9 ∷ sends ∷ sends ∷ sends ∷ [];
      tells = took 1 1 5 ∷ took 2 2 7 ∷ shut ∷ shut ∷ nothing ∷ went silence ∷ went (frame 1) ∷ went (frame 2) ∷ [];
      sent = 5 + 7;
      could = 5 + 7;
      unsealed = false;
    }

-- sealed with a frame outside the plan: it stays behind, and nobody could have gained by it
abbrev pub sealed_outside : PlayedOut
sealed_outside =
    record {
      last = 1;
      calls = takes 0 4 ∷ takes 1 6 ∷ takes 1 5 ∷ seals ∷ sends ∷ sends ∷ [];
      tells = took 1 0 4 ∷ took 2 1 6 ∷ took 3 1 5 ∷ shut ∷ went (frame 2) ∷ went (frame 3) ∷ [];
      sent = 6 + 5;
      could = 6 + 5;
      unsealed = false;
    }

-- sealed after a leap: the kept blank has its turn where PlanM would leap again; tickets 1, 2 and 3 could have gone
abbrev pub sealed_between : PlayedOut
sealed_between =
    record {
      last = 2;
      calls = takes 0 4 ∷ takes 1 11 ∷ sends ∷ takes 2 9 ∷ takes 2 3 ∷ seals ∷ marks 2 ∷ sends ∷ sends ∷ [];
      tells = took 1 0 4 ∷ took 2 1 11 ∷ went (frame 2) ∷ took 3 2 9 ∷ took 4 2 3 ∷ shut ∷ nothing ∷ went (kept_blank 2) ∷ went (frame 3) ∷ [];
      sent = 11 + 9;
      could = 4 + 11 + 9;
      unsealed = false;
    }

abbrev pub rounds : List PlayedOut
rounds = p1 ∷ p2 ∷ p2_among ∷ p4 ∷ between ∷ late ∷ climbing ∷ p2_sealed ∷ p2_sealed_late ∷ p2_unsealed ∷ sealed_twice ∷ sealed_outside ∷ sealed_between ∷ []

-- what the bytes' replies tell of a round
abbrev pub told_of : PlayedOut → List Told
told_of x = story x.calls (replies x.calls (left (opens x.last) (found 5)))

-- THE FACTS, of each: what is told
pub told_by_hand : map told_of rounds ≡ map (λ (x : PlayedOut). x.tells) rounds
unfolding row blank round slots_left heavier canonical into sorted due_by fits_from feasible kept blanks_from plan total_weight total tight tight_from
    tight_after segment_from segment_start first_end least_weight mark_in mark same_row in_plan lightest_by heaviest_outside substitute beats_golden
    golden_more sends_before best_from best first_from canonical_first opened taken sealed changed without heaviest_between shifted replaced leapt
    turn_of still_due is_ordinary sent low value field put row_bytes rows_bytes head_bytes table rows_in rows_of round_in length_good every rows_good
    round_good same table_refusal first act question deed round_refusal out_of says leaves table_first refusal answer left replies took_in went_out
    shut_by told story
told_by_hand = refl

-- S
pub sent_by_hand : map (λ (x : PlayedOut). sent_in x.tells) rounds ≡ map (λ (x : PlayedOut). x.sent) rounds
unfolding counts_for noted earned sent_in
sent_by_hand = refl

-- and B
pub could_by_hand : map (λ (x : PlayedOut). could_have x.tells) rounds ≡ map (λ (x : PlayedOut). x.could) rounds
unfolding member offer offers top_of most could_have
could_by_hand = refl

-- and whether the round was never sealed
pub unsealed_by_hand : map (λ (x : PlayedOut). never_shut x.tells) rounds ≡ map (λ (x : PlayedOut). x.unsealed) rounds
unfolding never_shut
unsealed_by_hand = refl

-- a sealing is found wherever it stands: in no story; first; behind each of the others; behind all of them; not there
abbrev pub stories : List (List Told)
stories =
    []
    ∷ (shut ∷ [])
    ∷ (nothing ∷ shut ∷ [])
    ∷ (took 1 0 4 ∷ shut ∷ [])
    ∷ (went (frame 1) ∷ shut ∷ [])
    ∷ (took 1 0 4 ∷ nothing ∷ went silence ∷ shut ∷ went (kept_blank 1) ∷ [])
    ∷ (took 1 0 4 ∷ nothing ∷ went silence ∷ went (kept_blank 1) ∷ [])
    ∷ []

pub never_shut_by_hand : map never_shut stories ≡ true ∷ false ∷ false ∷ false ∷ false ∷ false ∷ true ∷ []
unfolding never_shut
never_shut_by_hand = refl

-- a sealing ends no slot, and gains and loses nothing
pub sealing_ends_no_slot : offers (took 1 0 4 ∷ shut ∷ took 2 1 11 ∷ went (frame 1) ∷ shut ∷ took 3 1 9 ∷ []) 0 ≡ offer 0 0 4 ∷ offer 0 1 11 ∷ offer 1 1 9 ∷ []
unfolding offer offers
sealing_ends_no_slot = refl

pub sealing_gains_nothing : sent_in (took 1 0 4 ∷ shut ∷ went (frame 1) ∷ shut ∷ []) ≡ 4
unfolding counts_for noted earned sent_in
sealing_gains_nothing = refl

-- one reply of each sort, and what each call tells with it: a taking with a ticket, a sending with a step, a sealing with closed, and no other
abbrev pub sorts : List Reply
sorts = refused 7 ∷ done ∷ closed ∷ ticket 2 ∷ step (ordinary (frame 3)) ∷ step (leap (kept_blank 4)) ∷ amount 5 ∷ blank_due 6 ∷ []

abbrev pub none_of : List Told
none_of = nothing ∷ nothing ∷ nothing ∷ nothing ∷ nothing ∷ nothing ∷ nothing ∷ nothing ∷ []

pub took_by_hand : map (told (takes 8 9)) sorts ≡ nothing ∷ nothing ∷ nothing ∷ took 2 8 9 ∷ nothing ∷ nothing ∷ nothing ∷ nothing ∷ []
unfolding took_in told
took_by_hand = refl

pub went_by_hand : map (told sends) sorts ≡ nothing ∷ nothing ∷ nothing ∷ nothing ∷ went (frame 3) ∷ went (kept_blank 4) ∷ nothing ∷ nothing ∷ []
unfolding went_out told
went_by_hand = refl

pub shut_by_hand : map (told seals) sorts ≡ nothing ∷ nothing ∷ shut ∷ nothing ∷ nothing ∷ nothing ∷ nothing ∷ nothing ∷ []
unfolding shut_by told
shut_by_hand = refl

pub nothing_by_hand : map (λ (c : Call). map (told c) sorts) (opens 1 ∷ marks 1 ∷ totals ∷ []) ≡ none_of ∷ none_of ∷ none_of ∷ []
unfolding told
nothing_by_hand = refl

-- the bound leaves no room: in the climbing one, one more would break it
pub no_room : (climbing.could + 1) * (climbing.could + 1) ≤ (climbing.could + 1) * climbing.sent + climbing.sent * climbing.sent → ⊥
no_room h = omega arith

-- the second is past its last slot afterwards
pub p2_past : Past (run p2.calls (left (opens p2.last) (found 3)))
unfolding row blank round slots_left heavier canonical into sorted due_by fits_from feasible kept blanks_from plan total_weight total tight tight_from
    tight_after segment_from segment_start first_end least_weight mark_in mark same_row in_plan lightest_by heaviest_outside substitute beats_golden
    golden_more sends_before best_from best first_from canonical_first opened taken sealed changed without heaviest_between shifted replaced leapt
    turn_of still_due is_ordinary sent low value field put row_bytes rows_bytes head_bytes table rows_in rows_of round_in length_good every rows_good
    round_good same table_refusal first act question deed round_refusal out_of says leaves table_first refusal answer left run
p2_past = omega arith

-- the offers of the fifth: two from slot 0 on, one from slot 1
abbrev pub three : List Offer
three = offer 0 0 4 ∷ offer 0 1 10 ∷ offer 1 1 11 ∷ []

pub offers_by_hand : offers between.tells 0 ≡ three
unfolding offer offers
offers_by_hand = refl

-- choices among them, whether they can be kept: none; 10 and 11; 10 in its due slot; one before its taking, after its due slot, in a slot used twice
abbrev pub choices : List Choice
choices =
    [] ∷ (none ∷ some 0 ∷ some 1 ∷ []) ∷ (none ∷ some 1 ∷ []) ∷ (none ∷ none ∷ some 0 ∷ []) ∷ (some 1 ∷ none ∷ none ∷ []) ∷ (none ∷ some 1 ∷ some 1 ∷ []) ∷ []

pub kept_by_hand : map (λ (cs : Choice). kept_to three cs []) choices ≡ true ∷ true ∷ true ∷ false ∷ false ∷ false ∷ []
unfolding member offer kept_to
kept_by_hand = refl

-- and what each would gain
pub gained_by_hand : map (λ (cs : Choice). gained three cs) choices ≡ 0 ∷ 21 ∷ 10 ∷ 11 ∷ 4 ∷ 21 ∷ []
unfolding offer gained
gained_by_hand = refl

-- every slot used so far counts, not the last one alone: three offers of slots 0 to 2
abbrev pub wide : List Offer
wide = offer 0 2 1 ∷ offer 0 2 2 ∷ offer 0 2 4 ∷ []

abbrev pub slots_of_wide : List Choice
slots_of_wide = (some 1 ∷ some 2 ∷ some 0 ∷ []) ∷ (some 1 ∷ some 2 ∷ some 1 ∷ []) ∷ (some 1 ∷ none ∷ some 1 ∷ []) ∷ []

pub used_by_hand : map (λ (cs : Choice). kept_to wide cs []) slots_of_wide ≡ true ∷ false ∷ false ∷ []
unfolding member offer kept_to
used_by_hand = refl

-- a frame that no taking was answered with counts nothing
pub unknown_by_hand : sent_in (took 1 0 4 ∷ went (frame 2) ∷ went (frame 1) ∷ []) ≡ 4
unfolding counts_for noted earned sent_in
unknown_by_hand = refl
