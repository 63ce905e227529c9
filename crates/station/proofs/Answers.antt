-- What every exported call answers on any table is within the packing's bounds, so it is read back whole.
use mathlib.Core.Path.{refl}
use mathlib.Core.Logic.{inl, inr}
use mathlib.Core.Bool.{Bool, true, false, cond}
use mathlib.Core.List.{List, [], ◌∷◌}
use mathlib.Core.Option.{Option, none, some}
use Prim.Native.Nat.{ℕ, ◌<◌}
use native.Mathlib.Omega.{arith}
use lib.Dec.{eqb}
use Rattle.rules.specs.Rows.{Row, Round, All}
use Rattle.rules.specs.Plan.{plan, substitute, in_plan}
use Rattle.rules.specs.Steps.{goes, is_ordinary}
use Rattle.rules.specs.Table.{round_in, table_refusal}
use Rattle.rules.specs.Calls.{taking, sending, sealing, marking, totalling, Call, opening, acting, asking, first_of, over, act, question, deed, Out, silence, frame, kept_blank, ordinary, leap, refused, ticket, step, blank_due, first, out_of, says, answer}
use Rattle.rules.specs.Looking.{with_ticket, stand_in, substitute_answer}
use Rattle.theory.specs.Tests.{eqb?, both_ways, positive}
use Rattle.theory.specs.All.{all_of_in}
use Rattle.theory.specs.Sane.{Sane, sound}
use Rattle.theory.specs.Stays.{first_none}
use Rattle.packing.specs.Packing.{FitsOut, silence_fits, frame_fits, blank_fits, Fits, ordinary_fits, leap_fits, mark_fits, total_fits, Unpacks, FitsSubstitute, refusal_stands, row_stands, blank_stands}
use Rattle.packing.proofs.Unpack.{unpacks, substitute_unpacks}
use Rattle.station.specs.Exports.{AnswersFit, RepliesBack}
use Rattle.station.proofs.Fitting.{small_first, small_table, small_tests, answers_fit, accepted_act, accepted_question, opening_answers_fit, taking_answers, sealing_answers}
use Rattle.station.proofs.Amounts.{total_most, mark_most}
use Rattle.station.proofs.RowsFit.{FitsRow, goes_fits, substitute_fits}

-- A SENDING
out_fits : (p : Row) → p.ticket < 16777216 → FitsOut (out_of p)
unfolding out_of
out_fits p h =
    both_ways FitsOut (eqb p.ticket 0) silence _ (λ _. silence_fits)
    (λ _. both_ways FitsOut (eqb p.tail.kind 0) (frame p.ticket) (kept_blank p.ticket) (λ _. frame_fits h) (λ _. blank_fits h))

step_fits : (b : Bool) (o : Out) → FitsOut o → Fits (acting sending) (step (cond b (ordinary o) (leap o)))
step_fits true o f = ordinary_fits f
step_fits false o f = leap_fits f

pub sending_answers : AnswersFit (acting sending)
unfolding AnswersFit says deed act
sending_answers t =
    answers_fit (acting sending) t
    (λ e. let s = (accepted_act sending t e).0 in
    step_fits (is_ordinary (round_in t)) _ (out_fits (goes (round_in t)) (goes_fits (round_in t) s).0))

-- A MARK, a total
pub marking_answers : (s : ℕ) → AnswersFit (asking (marking s))
unfolding AnswersFit says deed question
marking_answers s t = answers_fit (asking (marking s)) t (λ _. mark_fits (mark_most (round_in t) s))

pub totalling_answers : AnswersFit (asking totalling)
unfolding AnswersFit says deed question
totalling_answers t =
    answers_fit (asking totalling) t
    (λ e. let s = accepted_question totalling t e in
    total_fits (total_most (round_in t) s.fine (omega (arith, s.size.long, s.size.room))))

-- A SUBSTITUTE
row_fits : (s : Row) → FitsRow s → FitsSubstitute (cond (eqb s.ticket 0) (blank_due s.due) (ticket s.ticket))
row_fits s w = elim (eqb? s.ticket 0) [
  | inl e ↦ rw e.0 (blank_stands w.1)
  | inr e ↦ rw e.0 (row_stands (positive s.ticket e.1) w.0)
]

found_fits : (Q : Option Row → Type 0) (k : ℕ) (xs : List Row) → Q none → All (λ x. Q (some x)) xs → Q (with_ticket k xs)
unfolding with_ticket
found_fits Q k [] n a = n
found_fits Q k (x ∷ xs) n a = both_ways Q (eqb x.ticket k) (some x) (with_ticket k xs) (λ _. a.0) (λ _. found_fits Q k xs n a.1)

stand_in_fits : (r : Round) → Sane r → (k : ℕ) → FitsSubstitute (stand_in r (with_ticket k r.rows))
unfolding stand_in
stand_in_fits r s k =
    found_fits (λ o. FitsSubstitute (stand_in r o)) k r.rows (refusal_stands (omega arith) (omega arith))
    (all_of_in (λ x. FitsSubstitute (stand_in r (some x))) r.rows (λ x i.
    both_ways FitsSubstitute (in_plan x (plan r)) _ (refused 11)
    (λ _. row_fits (substitute r (plan r) x) (substitute_fits r s x i))
    (λ _. refusal_stands (omega arith) (omega arith))))

pub substitute_answers : (k : ℕ) (t : List ℕ) → FitsSubstitute (substitute_answer k t)
unfolding substitute_answer
substitute_answers k t =
    let xs = over (round_in t).slot (round_in t).last ∷ [] in
    let n = first (table_refusal t) (first_of xs) in
    elim (eqb? n 0) [
      | inl e ↦ rw e.0 (stand_in_fits (round_in t) (sound t (first_none (table_refusal t) (first_of xs) e.1).0).sane k)
      | inr e ↦ rw e.0 (refusal_stands {n = n} (positive n e.1) (small_first (table_refusal t) (first_of xs) (small_table t) (small_tests xs refl)))
    ]

-- ALL SEVEN
pub all_answers : (c : Call) → AnswersFit c
all_answers (opening u) = opening_answers_fit u
all_answers (acting (taking f)) = taking_answers f
all_answers (acting sending) = sending_answers
all_answers (acting sealing) = sealing_answers
all_answers (asking (marking s)) = marking_answers s
all_answers (asking totalling) = totalling_answers

pub replies_back : RepliesBack
unfolding RepliesBack AnswersFit Unpacks
replies_back = (λ c t. unpacks c (answer c t) (all_answers c t), λ k t. substitute_unpacks (substitute_answer k t) (substitute_answers k t))
