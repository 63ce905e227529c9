-- The plan's listing written out: what it refuses, answers and leaves, its conditions and what is owed of it are these texts, by definition.
use mathlib.Core.Path.{◌≡◌, refl}
use mathlib.Core.Bool.{Bool, true, false, cond}
use mathlib.Core.List.{List, [], ◌∷◌, ◌++◌, map}
use Prim.Native.Nat.{ℕ, ◌≤◌, ◌<◌}
use lib.Dec.{ltb, eqb}
use lib.ListN.{length, take, drop, replicate}
use Rattle.rules.specs.Rows.{Row, Round, row, round, sorted, canonical}
use Rattle.rules.specs.Plan.{planned, listed}
use Rattle.rules.specs.Table.{low, value, field, put, row_bytes, rows_bytes, head_bytes, table, rows_in, rows_of, round_in, length_good, every, rows_good, round_good, same, table_refusal}
use Rattle.rules.specs.Calls.{Reply, refused, amount, number_of, ◌⇒◌, first}
use Rattle.rules.specs.Looking.{Shown, list_refusal, list_answer, list_left, the_plan, shows}
use Rattle.rules.specs.Conditions.{Bytes, LengthBad, Unsound, Past, when, accepted, list_given}
use Rattle.rules.specs.Demands.{Refusals, Refused, ListRefusedUnchanged, PlanListings}

-- REFUSED, ANSWERED, LEFT
abbrev pub plan_refusal : List ℕ → (room : ℕ) → ℕ
plan_refusal t n =
    first (table_refusal t)
    (first (cond (ltb (round_in t).last (round_in t).slot) 5 0) (cond (ltb n (length (listed (round_in t)))) 12 0))

abbrev pub plan_answer : List ℕ → (room : ℕ) → Reply
plan_answer t n = cond (eqb (plan_refusal t n) 0) (amount (length (listed (round_in t)))) (refused (plan_refusal t n))

abbrev pub plan_left : {E : Type 0} → (entry : Row → E) → List ℕ → List E → List E
plan_left entry t es =
    cond (eqb (plan_refusal t (length es)) 0) (map entry (listed (round_in t)) ++ drop (length (listed (round_in t))) es) es

pub refusal_shape : (t : List ℕ) (n : ℕ) → list_refusal (shows the_plan) t n ≡ plan_refusal t n
unfolding list_refusal shows
refusal_shape t n = refl

pub answer_shape : (t : List ℕ) (n : ℕ) → list_answer (shows the_plan) t n ≡ plan_answer t n
unfolding list_refusal list_answer shows
answer_shape t n = refl

pub left_shape : {E : Type 0} (entry : Row → E) (t : List ℕ) (es : List E) → list_left (shows the_plan) entry t es ≡ plan_left entry t es
unfolding list_refusal list_left shows
left_shape entry t es = refl

-- EACH NUMBER under its condition
abbrev pub plan_given : (room : ℕ) → List ℕ → ℕ → Type 0
plan_given n t = when 2 (LengthBad t) (when 3 (Unsound t) (when 5 (Past t) (when 12 (n < length (listed (round_in t))) accepted)))

pub given_shape : (n : ℕ) (t : List ℕ) → list_given the_plan n t ≡ plan_given n t
unfolding list_given
given_shape n t = refl

pub refusals_shape : Refusals → (n : ℕ) (t : List ℕ) → Bytes t → plan_given n t (number_of (plan_answer t n))
unfolding Refusals list_given list_refusal list_answer shows
refusals_shape h = h.2 the_plan

-- OWED of the plan, refused and accepted
pub refused_shape : ListRefusedUnchanged → (E : Type 0) (entry : Row → E) (t : List ℕ) (es : List E) →
    Refused (plan_refusal t (length es)) (plan_answer t (length es)) es (plan_left entry t es)
unfolding ListRefusedUnchanged list_refusal list_answer list_left shows
refused_shape h E = h Row E (shows the_plan)

pub listings_shape : PlanListings ≡ (
    (E : Type 0) (entry : Row → E) (t : List ℕ) (es : List E) → plan_refusal t (length es) ≡ 0 →
    let ps = planned (round_in t) in
    let n = length ps in
    (plan_answer t (length es) ≡ amount n)
    × (n ≤ length es)
    × (take n (plan_left entry t es) ≡ map entry (sorted canonical ps))
    × (drop n (plan_left entry t es) ≡ drop n es)
    )
unfolding PlanListings list_refusal list_answer list_left shows
listings_shape = refl

-- THE ORDER AROUND 12, which the plan does not show: two items with a test before 12 and one after it, on a round just opened
abbrev pub shown_so : (early late : Bool) → Round → Shown ℕ
shown_so a b r = record { early = (a ⇒ 5) ∷ []; items = 7 ∷ 8 ∷ []; late = (b ⇒ 13) ∷ [] }

abbrev pub just_opened : List ℕ
just_opened = 0 ∷ 0 ∷ 3 ∷ 0 ∷ 1 ∷ replicate 35 0

pub numbers_around_12 :
    (list_refusal (shown_so true true) just_opened 1 ∷ list_refusal (shown_so true true) just_opened 2
    ∷ list_refusal (shown_so false true) just_opened 1 ∷ list_refusal (shown_so false true) just_opened 2
    ∷ list_refusal (shown_so false false) just_opened 1 ∷ list_refusal (shown_so false false) just_opened 2 ∷ [])
    ≡ 5 ∷ 5 ∷ 12 ∷ 13 ∷ 12 ∷ 0 ∷ []
unfolding round row low value field put row_bytes rows_bytes head_bytes table rows_in rows_of round_in length_good every rows_good round_good same
    table_refusal first list_refusal
numbers_around_12 = refl

pub entries_around_12 :
    (list_left (shown_so false true) (λ (x : ℕ). x) just_opened (1 ∷ 2 ∷ 3 ∷ [])
    ∷ list_left (shown_so false false) (λ (x : ℕ). x) just_opened (1 ∷ 2 ∷ 3 ∷ []) ∷ [])
    ≡ (1 ∷ 2 ∷ 3 ∷ []) ∷ (7 ∷ 8 ∷ 3 ∷ []) ∷ []
unfolding round row low value field put row_bytes rows_bytes head_bytes table rows_in rows_of round_in length_good every rows_good round_good same
    table_refusal first list_refusal list_left
entries_around_12 = refl
