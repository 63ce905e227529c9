-- EACH NUMBER UNDER ITS CONDITION, in the substitute and in listings too: substitute_is_given, list_is_given, refusals.
use Rattle.std.specs.Prelude.{◌≡◌, refl, Bool, true, false, not, cond, List, [], ◌∷◌, ℕ, zero, suc, ◌+◌, ◌≤◌, ◌<◌, ltb, eqb, length, drop}
use Rattle.std.proofs.Common.{sym, ap, ◌∙◌, inl, inr, true≢false, arith}
use Rattle.std.proofs.Math.Option.{Option, none, some}
use Rattle.rules.specs.Rows.{Row, Round, row, round, In}
use Rattle.rules.specs.Plan.{plan, substitute, in_plan, listed}
use Rattle.rules.specs.Table.{rows_in, round_in, table_refusal}
use Rattle.rules.specs.Calls.{Reply, refused, ticket, amount, blank_due, number_of}
use Rattle.rules.specs.Calls.{Test, ◌⇒◌, first_of, over, first}
use Rattle.rules.specs.Looking.{with_ticket, stand_in, substitute_answer, Shown, list_refusal, list_answer, View, the_plan, shows}
use Rattle.rules.specs.Conditions.{row_at, Bytes, NoRow, NotPlanned, substitute_given, list_given, used_in, Past, ◌gives◌}
use Rattle.rules.specs.Demands.{Refusals}
use Rattle.theory.specs.Tests.{either, eqb?}
use Rattle.theory.specs.Unique.{in_plan_ticket}
use Rattle.theory.specs.Soundness.{row_in, row_there, row_next}
use Rattle.theory.specs.Checks.{Decides, less?, ground, given, past, table_given, calls_given}

-- 10 AND 11: rows by their places in the table
pub row_in_rows : (t : List ℕ) (k i j : ℕ) → i ≤ j → j < i + k → In (row_in t j) (rows_in k (drop (row_at i) t))
unfolding rows_in
row_in_rows t zero i j a b = absurd (omega arith)
row_in_rows t (suc k) i j a b =
    elim (eqb? i j) [
      | inl e ↦ inl (ap (row_in t) (sym e.1) ∙ sym (row_there t i))
      | inr e ↦ let n = e.1 in inr (rw (row_next t i) (row_in_rows t k (suc i) j (omega arith) (omega arith)))
    ]

pub in_rows_at : (t : List ℕ) (k i : ℕ) (x : Row) → In x (rows_in k (drop (row_at i) t)) → (j : ℕ) × (j < i + k) × (x ≡ row_in t j)
unfolding rows_in
in_rows_at t zero i x m = absurd m
in_rows_at t (suc k) i x (inl e) = (i, omega arith, e ∙ row_there t i)
in_rows_at t (suc k) i x (inr m) =
    let q = in_rows_at t k (suc i) x (rw (row_next t i) at m) in (q.0, omega (arith, q.1), q.2)

-- what is found under a ticket
abbrev pub FoundUnder : (ticket : ℕ) → List Row → Option Row → Type 0
FoundUnder k xs none = (x : Row) → In x xs → x.ticket ≡ k → ⊥
FoundUnder k xs (some y) = In y xs × (y.ticket ≡ k)

pub found_later : (k : ℕ) (x : Row) (xs : List Row) (o : Option Row) → (x.ticket ≡ k → ⊥) → FoundUnder k xs o → FoundUnder k (x ∷ xs) o
found_later k x xs none n f =
    λ y m h. elim m [ inl e ↦ n (ap (λ (z : Row). z.ticket) (sym e) ∙ h) | inr l ↦ f y l h ]
found_later k x xs (some y) n f = (inr f.0, f.1)

pub ticket_found : (k : ℕ) (xs : List Row) → FoundUnder k xs (with_ticket k xs)
unfolding with_ticket
ticket_found k [] = λ x m h. m
ticket_found k (x ∷ xs) =
    elim (eqb? x.ticket k) [
      | inl e ↦ rw e.0 (inl refl, e.1)
      | inr e ↦ rw e.0 (found_later k x xs (with_ticket k xs) e.1 (ticket_found k xs))
    ]

abbrev pub missing : Option Row → Bool
missing none = true
missing (some x) = false

abbrev pub unplanned : Round → Option Row → Bool
unplanned r none = true
unplanned r (some x) = not (in_plan x (plan r))

pub missing? : (k : ℕ) (t : List ℕ) (o : Option Row) → FoundUnder k (round_in t).rows o → Decides (missing o) (NoRow k t)
unfolding round_in round row
missing? k t none f = inl (refl, λ i h e. f (row_in t i) (row_in_rows t (used_in t) 0 i (omega arith) (omega arith)) e)
missing? k t (some y) f =
    let q = in_rows_at t (used_in t) 0 y f.0 in
    inr (refl, λ n. n q.0 (omega (arith, q.1)) (ap (λ (z : Row). z.ticket) (sym q.2) ∙ f.1))

pub unplanned? : (k : ℕ) (t : List ℕ) (o : Option Row) → FoundUnder k (round_in t).rows o → Decides (unplanned (round_in t) o) (NotPlanned k t)
unplanned? k t none f = inl (refl, λ x m e. absurd (f x m e))
unplanned? k t (some y) f =
    elim (either (in_plan y (plan (round_in t)))) [
      | inl e ↦ inr (rw e, λ n. true≢false (sym e ∙ n y f.0 f.1))
      | inr e ↦ inl (rw e, λ x m h. in_plan_ticket x y (plan (round_in t)) (h ∙ sym f.1) ∙ e)
    ]

-- THE NUMBER of a reply
pub stand_in_number : (r : Round) (o : Option Row) → number_of (stand_in r o) ≡ cond (missing o) 10 (cond (unplanned r o) 11 0)
unfolding stand_in number_of
stand_in_number r none = refl
stand_in_number r (some x) = let s = substitute r (plan r) x in go (in_plan x (plan r)) (eqb s.ticket 0) s.due s.ticket
  where
    go : (b c : Bool) (d k : ℕ) → number_of (cond b (cond c (blank_due d) (ticket k)) (refused 11)) ≡ cond (not b) 11 0
    go true true d k = refl
    go true false d k = refl
    go false c d k = refl

pub number_first : (n : ℕ) (x : Reply) → number_of (cond (eqb n 0) x (refused n)) ≡ first n (number_of x)
unfolding first number_of
number_first n x = elim (either (eqb n 0)) [ inl e ↦ rw e | inr e ↦ rw e ]

pub first_zero : (n : ℕ) → first n 0 ≡ n
unfolding first
first_zero n = elim (eqb? n 0) [ inl e ↦ rw e.0 (sym e.1) | inr e ↦ rw e.0 ]

-- 5 after 2 and 3, before the rest
pub past_first : (a : ℕ) (r : Round) (xs : List Test) →
    first a (first (first_of (over r.slot r.last ∷ [])) (first_of xs)) ≡ first a (first_of (over r.slot r.last ∷ xs))
unfolding first
past_first a r xs = elim (either (ltb r.last r.slot)) [ inl e ↦ rw e | inr e ↦ rw e ]

pub first_first : (a b z : ℕ) → first (first a b) z ≡ first a (first b z)
unfolding first
first_first a b z = elim (eqb? a 0) [ inl e ↦ rw e.0 | inr e ↦ rw (e.0, e.0) ]

-- THE SUBSTITUTE, AND LISTINGS by view
abbrev pub substitute_tests : Round → Option Row → List Test
substitute_tests r o = (missing o ⇒ 10) ∷ (unplanned r o ⇒ 11) ∷ []

pub substitute_number : (k : ℕ) (t : List ℕ) → number_of (substitute_answer k t) ≡ first (table_refusal t)
    (first_of (over (round_in t).slot (round_in t).last ∷ substitute_tests (round_in t) (with_ticket k (round_in t).rows)))
unfolding substitute_answer
substitute_number k t =
    let r = round_in t in
    let o = with_ticket k r.rows in
    let n = first_of (over r.slot r.last ∷ []) in
    number_first (first (table_refusal t) n) (stand_in r o)
    ∙ first_first (table_refusal t) n (number_of (stand_in r o))
    ∙ ap (λ (m : ℕ). first (table_refusal t) (first n m)) (stand_in_number r o)
    ∙ past_first (table_refusal t) r (substitute_tests r o)

pub substitute_is_given : (k : ℕ) (t : List ℕ) → Bytes t → substitute_given k t (number_of (substitute_answer k t))
unfolding substitute_given
substitute_is_given k t h =
    let r = round_in t in
    let o = with_ticket k r.rows in
    let f = ticket_found k r.rows in
    rw (substitute_number k t)
    (table_given t h ((Past t gives 5) ∷ (NoRow k t gives 10) ∷ (NotPlanned k t gives 11) ∷ []) _
    (given (past t ∷ ground 10 (missing o) (NoRow k t) (λ e. missing? k t o f) ∷ ground 11 (unplanned r o) (NotPlanned k t) (λ e. unplanned? k t o f) ∷ [])))

pub list_number : {A : Type 0} (shown : Round → Shown A) (t : List ℕ) (n : ℕ) → number_of (list_answer shown t n) ≡ list_refusal shown t n
unfolding list_answer number_of
list_number shown t n =
    number_first (list_refusal shown t n) (amount (length (shown (round_in t)).items)) ∙ first_zero (list_refusal shown t n)

pub list_is_given : (v : View) (n : ℕ) (t : List ℕ) → Bytes t → list_given v n t (number_of (list_answer (shows v) t n))
unfolding list_given list_refusal shows
list_is_given the_plan n t h =
    let m = length (listed (round_in t)) in
    let e = list_number (shows the_plan) t n ∙ past_first (table_refusal t) (round_in t) ((ltb n m ⇒ 12) ∷ []) in
    rw e (table_given t h ((Past t gives 5) ∷ ((n < m) gives 12) ∷ []) _ (given (past t ∷ ground 12 (ltb n m) (n < m) (λ e. less? n m) ∷ [])))

pub refusals : Refusals
unfolding Refusals
refusals = (calls_given, substitute_is_given, list_is_given)
