-- A CALL'S CHECKS IN ORDER, each refusal under its condition and no earlier one: Ground, given, table_given, calls_given.
use Rattle.std.specs.Prelude.{◌≡◌, refl, ◌⊎◌, Bool, true, false, ◌||◌, cond, List, [], ◌∷◌, ℕ, ◌<◌, ltb, leb, eqb, length, drop}
use Rattle.std.proofs.Common.{inl, inr, arith}
use Rattle.rules.specs.Limits.{head_size, most_last, most_weight, ticket_limit, most_class}
use Rattle.rules.specs.Rows.{Setup, round}
use Rattle.rules.specs.Table.{rows_in, rows_of, round_in, length_good, table_refusal}
use Rattle.rules.specs.Calls.{Act, taking, sending, sealing, Question, marking, totalling, Call, opening, acting, asking, Test, ◌⇒◌, first_of, over, is_sealed, not_ahead, act, question, deed, first, round_refusal, table_first, refusal}
use Rattle.rules.specs.Conditions.{Bytes, Past, WeightBad, SlotBad, when, Condition, ◌gives◌, Given, if_sound, act_conditions, question_conditions, conditions, refusal_given, slot_in, last_in, next_in, used_in, sealed_in}
use Rattle.theory.specs.Tests.{either, leb?, ltb?, eqb?}
use Rattle.theory.specs.Clauses.{rows_count, accepted_clauses, refusal_three}
use Rattle.theory.specs.Soundness.{length_not_bad, length_bad, sound_accepted, accepted_sound}

-- A TEST decides its condition
abbrev pub Decides : Bool → Type 0 → Type 0
Decides b H = ((b ≡ true) × H) ⊎ ((b ≡ false) × (H → ⊥))

pub less? : (a b : ℕ) → Decides (ltb a b) (a < b)
less? a b = elim (ltb? a b) [ inl h ↦ inl h | inr h ↦ inr (h.0, λ l. omega (arith, h.1)) ]

pub or? : (b c : Bool) (H K : Type 0) → Decides b H → Decides c K → Decides (b || c) (H ⊎ K)
or? b c H K (inl d) e = inl (rw d.0, inl d.1)
or? b c H K (inr d) (inl e) = inl (rw (d.0, e.0), inr e.1)
or? b c H K (inr d) (inr e) = inr (rw (d.0, e.0), neither)
  where
    neither : H ⊎ K → ⊥
    neither (inl p) = d.1 p
    neither (inr q) = e.1 q

-- A GROUND of refusal: its number, its condition, and the test that decides it where P holds
pub record Ground (P : Type 0) : Type 1 where
  pub number : ℕ
  pub test : Bool
  pub means : Type 0
  pub decides : P → Decides test means

abbrev pub ground : {P : Type 0} (number : ℕ) (test : Bool) (means : Type 0) → (P → Decides test means) → Ground P
ground n b H d = record { number = n; test = b; means = H; decides = d }

abbrev pub tests_of : {P : Type 0} → List (Ground P) → List Test
tests_of [] = []
tests_of (g ∷ gs) = (g.test ⇒ g.number) ∷ tests_of gs

abbrev pub conditions_of : {P : Type 0} → List (Ground P) → List Condition
conditions_of [] = []
conditions_of (g ∷ gs) = (g.means gives g.number) ∷ conditions_of gs

-- the first test that holds gives the number of the first condition that does
pub when_given : (k : ℕ) (b : Bool) (H : Type 0) (later : ℕ → Type 0) (z : ℕ) → Decides b H → later z → when k H later (cond b k z)
when_given k b H later z (inl d) l = inl (d.1, rw d.0)
when_given k b H later z (inr d) l = inr (d.1, rw d.0 l)

pub given : {P : Type 0} (gs : List (Ground P)) → P → Given (conditions_of gs) (first_of (tests_of gs))
given [] p = refl
given (g ∷ gs) p =
    when_given g.number g.test g.means (Given (conditions_of gs)) (first_of (tests_of gs)) (g.decides p) (given gs p)

-- 2 AND 3, before what a round refuses
pub refusal_two : (t : List ℕ) → length_good (length t) ≡ false → table_refusal t ≡ 2
unfolding table_refusal
refusal_two t e = rw e

pub table_given : (t : List ℕ) → Bytes t → (cs : List Condition) (n : ℕ) → (table_refusal t ≡ 0 → Given cs n) →
    Given (if_sound t cs) (first (table_refusal t) n)
unfolding first
table_given t h cs n c =
    elim (either (length_good (length t))) [
      | inr g ↦ inl (length_bad t g, rw (refusal_two t g))
      | inl g ↦ inr (
        length_not_bad t g,
        elim (eqb? (table_refusal t) 0) [
          | inl a ↦ inr (λ u. u (accepted_sound t a.1), rw a.1 (c a.1))
          | inr a ↦ inl (λ s. a.1 (sound_accepted t h g s), rw (refusal_three t g a.1))
        ],
      )
    ]

-- 5 TO 9, 13 AND 14, of the round in a table
pub past? : (t : List ℕ) → Decides (ltb (round_in t).last (round_in t).slot) (Past t)
unfolding round_in round
past? t = less? (last_in t) (slot_in t)

pub weight? : (w : ℕ) → Decides (eqb w 0 || ltb most_weight w) (WeightBad w)
weight? w = or? (eqb w 0) (ltb most_weight w) (w ≡ 0) (most_weight < w) (eqb? w 0) (less? most_weight w)

pub slot? : (s : ℕ) (t : List ℕ) → Decides (ltb s (round_in t).slot || ltb (round_in t).last s) (SlotBad s t)
unfolding round_in round
slot? s t = or? (ltb s (slot_in t)) (ltb (last_in t) s) (s < slot_in t) (last_in t < s) (less? s (slot_in t)) (less? (last_in t) s)

pub last_ticket? : (t : List ℕ) → Decides (eqb (round_in t).next ticket_limit) (next_in t ≡ ticket_limit)
unfolding round_in round
last_ticket? t = eqb? (next_in t) ticket_limit

pub full? : (t : List ℕ) → table_refusal t ≡ 0 → Decides (leb (round_in t).room (length (round_in t).rows)) (used_in t ≡ rows_of t)
unfolding round_in round
full? t e =
    let n = rows_count (used_in t) (drop head_size t) in
    let f = (accepted_clauses t e).fit in
    elim (leb? (rows_of t) (length (rows_in (used_in t) (drop head_size t)))) [
      | inl h ↦ inl (h.0, omega (arith, h.1))
      | inr h ↦ inr (h.0, λ p. omega (arith, h.1))
    ]

pub sealed? : (t : List ℕ) → Decides (eqb (round_in t).tail.sealed 1) (sealed_in t ≡ 1)
unfolding round_in round
sealed? t = eqb? (sealed_in t) 1

-- THE GROUNDS, of the round in an accepted table
abbrev pub GroundOf : List ℕ → Type 1
GroundOf t = Ground (table_refusal t ≡ 0)

abbrev pub past : (t : List ℕ) → GroundOf t
past t = ground 5 (over (round_in t).slot (round_in t).last).holds (Past t) (λ e. past? t)

abbrev pub sealed_off : (t : List ℕ) → GroundOf t
sealed_off t = ground 13 (is_sealed (round_in t).tail).holds (sealed_in t ≡ 1) (λ e. sealed? t)

abbrev pub bad_slot : (s : ℕ) (t : List ℕ) → GroundOf t
bad_slot s t = ground 7 (not_ahead (round_in t).slot (round_in t).last s).holds (SlotBad s t) (λ e. slot? s t)

abbrev pub bad_weight : (w : ℕ) (t : List ℕ) → GroundOf t
bad_weight w t = ground 6 (eqb w 0 || ltb most_weight w) (WeightBad w) (λ e. weight? w)

abbrev pub bad_class : (c : ℕ) (t : List ℕ) → GroundOf t
bad_class c t = ground 14 (ltb most_class c) (most_class < c) (λ e. less? most_class c)

abbrev pub no_ticket : (t : List ℕ) → GroundOf t
no_ticket t = ground 8 (eqb (round_in t).next ticket_limit) (next_in t ≡ ticket_limit) (λ e. last_ticket? t)

abbrev pub no_row_free : (t : List ℕ) → GroundOf t
no_row_free t = ground 9 (leb (round_in t).room (length (round_in t).rows)) (used_in t ≡ rows_of t) (full? t)

-- THE CALLS
pub opening_given : (u : Setup) (t : List ℕ) → refusal_given (opening u) t (refusal (opening u) t)
unfolding refusal_given conditions refusal first table_first round_refusal deed
opening_given u t =
    elim (either (length_good (length t))) [
      | inr g ↦ inl (length_bad t g, rw g)
      | inl g ↦ inr (
        length_not_bad t g,
        rw g (given {P = Unit {0}} (ground 4 (ltb most_last u.last) (most_last < u.last) (λ _. less? most_last u.last) ∷ []) tt),
      )
    ]

pub act_given : (a : Act) (t : List ℕ) → table_refusal t ≡ 0 → Given (act_conditions a t) (first_of (act a (round_in t)).tests)
unfolding act_conditions act
act_given (taking f) t e =
    given (past t ∷ sealed_off t ∷ bad_weight f.weight t ∷ bad_slot f.due t ∷ bad_class f.class t ∷ no_ticket t ∷ no_row_free t ∷ []) e
act_given sending t e = given (past t ∷ []) e
act_given sealing t e = given (past t ∷ []) e

pub question_given : (q : Question) (t : List ℕ) → table_refusal t ≡ 0 →
    Given (question_conditions q t) (first_of (question q (round_in t)).tests)
unfolding question_conditions question
question_given (marking s) t e = given (past t ∷ bad_slot s t ∷ []) e
question_given totalling t e = given (past t ∷ []) e

pub calls_given : (c : Call) (t : List ℕ) → Bytes t → refusal_given c t (refusal c t)
unfolding refusal_given conditions refusal table_first round_refusal deed
calls_given (opening u) t h = opening_given u t
calls_given (acting a) t h = table_given t h (act_conditions a t) (first_of (act a (round_in t)).tests) (act_given a t)
calls_given (asking q) t h = table_given t h (question_conditions q t) (first_of (question q (round_in t)).tests) (question_given q t)
