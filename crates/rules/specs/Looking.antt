-- Calls that only look and are not in the list of demand 3: the substitute of a ticket, and listings of any view.
use Rattle.std.specs.Prelude.{◌≡◌, cond, List, [], ◌∷◌, ◌++◌, map, ℕ, ltb, eqb, length, drop}
use Rattle.std.proofs.Math.Option.{Option, none, some}
use Rattle.rules.specs.Rows.{Row, Round}
use Rattle.rules.specs.Plan.{plan, substitute, in_plan, listed}
use Rattle.rules.specs.Table.{round_in, table_refusal}
use Rattle.rules.specs.Calls.{Reply, refused, ticket, amount, blank_due, Test, ◌⇒◌, first_of, over, first}

-- WHAT A CALL THAT ONLY LOOKS PROMISES: its reply is the one named, and every byte of the table is as it was
abbrev pub Looks : (named reply : Reply) → (entry exit : List ℕ) → Type 0
Looks b a t z = (a ≡ b) × (z ≡ t)

-- THE SUBSTITUTE of a ticket: 2, 3, 5, 10, 11; a ticket, or a blank with its due slot
unfoldable pub with_ticket : (ticket : ℕ) → List Row → Option Row
with_ticket k [] = none
with_ticket k (x ∷ xs) = cond (eqb x.ticket k) (some x) (with_ticket k xs)

unfoldable pub stand_in : Round → Option Row → Reply
stand_in r none = refused 10
stand_in r (some x) =
    let s = substitute r (plan r) x in
    cond (in_plan x (plan r)) (cond (eqb s.ticket 0) (blank_due s.due) (ticket s.ticket)) (refused 11)

unfoldable pub substitute_answer : (ticket : ℕ) → List ℕ → Reply
substitute_answer k t =
    let n = first (table_refusal t) (first_of (over (round_in t).slot (round_in t).last ∷ [])) in
    cond (eqb n 0) (stand_in (round_in t) (with_ticket k (round_in t).rows)) (refused n)

-- WHAT IS SHOWN of a round: the tests before 12, the items in their order, and the tests after 12
pub record Shown (A : Type 0) : Type 0 where
  pub early : List Test
  pub items : List A
  pub late : List Test

-- A LISTING of it into a lent list: 2, 3, the early tests, 12, the late ones; the count, and the list afterwards.
-- For any items, and any form of entry
unfoldable pub list_refusal : {A : Type 0} → (shown : Round → Shown A) → List ℕ → (room : ℕ) → ℕ
list_refusal shown t n =
    let s = shown (round_in t) in
    first (table_refusal t) (first (first_of s.early) (first_of ((ltb n (length s.items) ⇒ 12) ∷ s.late)))

unfoldable pub list_answer : {A : Type 0} → (shown : Round → Shown A) → List ℕ → (room : ℕ) → Reply
list_answer shown t n =
    cond (eqb (list_refusal shown t n) 0) (amount (length (shown (round_in t)).items)) (refused (list_refusal shown t n))

unfoldable pub list_left : {A E : Type 0} → (shown : Round → Shown A) → (entry : A → E) → List ℕ → List E → List E
list_left shown entry t es =
    let xs = (shown (round_in t)).items in
    cond (eqb (list_refusal shown t (length es)) 0) (map entry xs ++ drop (length xs) es) es

-- A VIEW of rows, and what it shows. THE PLAN: 2, 3, 5, 12
pub data View : Type 0 where
  the_plan : View

unfoldable pub shows : View → Round → Shown Row
shows the_plan r = record { early = over r.slot r.last ∷ []; items = listed r; late = [] }
