-- What opening, taking and sealing answer is within the packing's bounds.
use mathlib.Core.Path.{◌≡◌, refl}
use mathlib.Core.Logic.{inl, inr}
use mathlib.Core.Bool.{Bool, true, false, ◌&&◌, not, cond}
use mathlib.Core.List.{List, [], ◌∷◌}
use Prim.Native.Nat.{ℕ, ◌<◌}
use native.Mathlib.Omega.{arith}
use lib.Dec.{eqb, ltb}
use borrow.Author.Tests.{ltb-true}
use lib.ListN.{length}
use Rattle.rules.specs.Rows.{Frame, Setup, Round}
use Rattle.rules.specs.Table.{round_in, round_good, same, table, table_refusal, length_good}
use Rattle.rules.specs.Calls.{Act, taking, sending, sealing, Question, marking, totalling, Call, opening, acting, asking, Test, first_of, open_tests, take_tests, send_tests, seal_tests, mark_tests, total_tests, act, question, deed, first, table_first, round_refusal, refusal, says, answer}
use Rattle.theory.specs.Tests.{eqb?, and_true}
use Rattle.theory.specs.Calls.{takes}
use Rattle.theory.specs.Sane.{Sane, sound}
use Rattle.theory.specs.Stays.{first_none}
use Rattle.packing.specs.Packing.{value_place, Fits, refusal_fits, opening_fits, taking_fits, sealing_fits}
use Rattle.station.specs.Exports.{AnswersFit}

-- EVERY REFUSAL is below 2^8
pub small_or : (b : Bool) (m n : ℕ) → m < value_place → n < value_place → cond b m n < value_place
small_or true m n h k = h
small_or false m n h k = k

pub small_first : (a b : ℕ) → a < value_place → b < value_place → first a b < value_place
unfolding first
small_first a b h k = small_or (eqb a 0) b a k h

pub small_table : (t : List ℕ) → table_refusal t < value_place
unfolding table_refusal
small_table t =
    small_or (not (length_good (length t))) 2 (cond (round_good (round_in t) && same (table (round_in t)) t) 0 3) (omega arith)
    (small_or (round_good (round_in t) && same (table (round_in t)) t) 0 3 (omega arith) (omega arith))

-- the first of some tests, where the number of each is
abbrev pub small_numbers : List Test → Bool
small_numbers [] = true
small_numbers (x ∷ xs) = ltb x.number value_place && small_numbers xs

pub small_tests : (xs : List Test) → small_numbers xs ≡ true → first_of xs < value_place
small_tests [] e = omega arith
small_tests (x ∷ xs) e =
    let h = and_true (ltb x.number value_place) (small_numbers xs) e in
    small_or x.holds x.number (first_of xs) (ltb-true x.number value_place h.0) (small_tests xs h.1)

pub small_round : (c : Call) (r : Round) → round_refusal c r < value_place
unfolding round_refusal deed act question
small_round (opening u) r = small_tests (open_tests u) refl
small_round (acting (taking f)) r = small_tests (take_tests r.slot r.last r.next (length r.rows) r.room r.tail f) refl
small_round (acting sending) r = small_tests (send_tests r.slot r.last) refl
small_round (acting sealing) r = small_tests (seal_tests r.slot r.last) refl
small_round (asking (marking s)) r = small_tests (mark_tests r.slot r.last s) refl
small_round (asking totalling) r = small_tests (total_tests r.slot r.last) refl

pub small_refusal : (c : Call) (t : List ℕ) → refusal c t < value_place
unfolding refusal table_first
small_refusal (opening u) t =
    small_first (cond (length_good (length t)) 0 2) (round_refusal (opening u) (round_in t))
    (small_or (length_good (length t)) 0 2 (omega arith) (omega arith)) (small_round (opening u) (round_in t))
small_refusal (acting a) t = small_first (table_refusal t) (round_refusal (acting a) (round_in t)) (small_table t) (small_round (acting a) (round_in t))
small_refusal (asking q) t = small_first (table_refusal t) (round_refusal (asking q) (round_in t)) (small_table t) (small_round (asking q) (round_in t))

-- a call whose accepted reply fits
pub answers_fit : (c : Call) (t : List ℕ) → (refusal c t ≡ 0 → Fits c (says c (round_in t))) → Fits c (answer c t)
unfolding answer
answers_fit c t k = elim (eqb? (refusal c t) 0) [
  | inl e ↦ rw e.0 (k e.1)
  | inr e ↦ let n = e.1 in rw e.0 (refusal_fits {n = refusal c t} (omega arith) (small_refusal c t))
]

-- an accepted act or question on a table: the table is sound, and its round refuses nothing
pub accepted_act : (a : Act) (t : List ℕ) → refusal (acting a) t ≡ 0 → Sane (round_in t) × (round_refusal (acting a) (round_in t) ≡ 0)
unfolding refusal table_first
accepted_act a t e = let f = first_none (table_refusal t) (round_refusal (acting a) (round_in t)) e in ((sound t f.0).sane, f.1)

pub accepted_question : (q : Question) (t : List ℕ) → refusal (asking q) t ≡ 0 → Sane (round_in t)
unfolding refusal table_first
accepted_question q t e = (sound t (first_none (table_refusal t) (round_refusal (asking q) (round_in t)) e).0).sane

pub opening_answers_fit : (u : Setup) → AnswersFit (opening u)
unfolding AnswersFit says deed
opening_answers_fit u t = answers_fit (opening u) t (λ e. opening_fits)

-- a ticket given is below the limit
pub taking_answers : (f : Frame) → AnswersFit (acting (taking f))
unfolding AnswersFit says deed act
taking_answers f t =
    answers_fit (acting (taking f)) t
    (λ e. let a = accepted_act (taking f) t e in
    let n = (takes (round_in t) f a.1).tickets in taking_fits (omega (arith, a.0.size.next)))

pub sealing_answers : AnswersFit (acting sealing)
unfolding AnswersFit says deed act
sealing_answers t = answers_fit (acting sealing) t (λ e. sealing_fits)
