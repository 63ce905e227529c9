-- THE DEFINITIONS WRITTEN OUT: bytes by layouts, bounds and refusals by lists of tests, conditions by lists, each as one term.
use mathlib.Core.Path.{◌≡◌, refl, sym, ap, ◌∙◌}
use mathlib.Core.Bool.{Bool, true, false, ◌&&◌, ◌||◌, cond}
use mathlib.Core.List.{List, [], ◌∷◌, ◌++◌}
use Prim.Native.Nat.{ℕ, zero, suc, ◌*◌, ◌-◌, ◌%◌, ◌<◌}
use native.Mathlib.Omega.{arith}
use lib.Dec.{ltb, leb, eqb}
use borrow.Author.Tests.{le-ltb, lt-leb}
use lib.ListN.{length, drop, replicate}
use Rattle.rules.specs.Limits.{most_last, most_weight, ticket_limit}
use Rattle.rules.specs.Rows.{Frame, Setup, Row, Round, row, blank, round, heavier, old_heavier}
use Rattle.rules.specs.Plan.{plan, plan_by, total_weight, total, first_end, mark_in, mark, best, canonical_first}
use Rattle.rules.specs.Steps.{opened, taken, sealed, turn_of, goes, sent, is_ordinary}
use Rattle.rules.specs.Table.{low, field, put, row_bytes, rows_bytes, head_bytes, table, rows_in, rows_of, round_in, every, rows_good, round_good}
use Rattle.rules.specs.Calls.{taking, sending, sealing, marking, totalling, Call, opening, acting, asking, act, question, deed, done, closed, ticket, step, amount, ordinary, leap, out_of, round_refusal, says, leaves, refused, refusal, answer, left, next_round}
use Rattle.rules.specs.Classes.{old_total, old_mark}
use Rattle.rules.specs.Conditions.{LengthBad, Unsound, Past, WeightBad, SlotBad, NoRow, NotPlanned, next_in, used_in, sealed_in, when, accepted, act_conditions, question_conditions, conditions, refusal_given, substitute_given}

-- A ROW's bytes, of a kind and a class that fit a byte each
pub row_bytes_are : (x : Row) → x.tail.kind < 256 → x.tail.class < 256 →
    row_bytes x ≡ low 4 x.ticket ++ low 2 x.due ++ low 4 x.weight ++ (x.tail.kind ∷ x.tail.class ∷ []) ++ replicate 12 0
unfolding row_bytes put low
row_bytes_are x h g =
    let e : x.tail.kind % 256 ≡ x.tail.kind = omega arith in
    let d : x.tail.class % 256 ≡ x.tail.class = omega arith in
    ap (λ (b : ℕ). low 4 x.ticket ++ low 2 x.due ++ low 4 x.weight ++ (b ∷ x.tail.class % 256 ∷ []) ++ replicate 12 0) e
    ∙ ap (λ (c : ℕ). low 4 x.ticket ++ low 2 x.due ++ low 4 x.weight ++ (x.tail.kind ∷ c ∷ []) ++ replicate 12 0) d

-- A BLANK without a row: ticket 0, weight 0, class 3
pub blank_is : (s : ℕ) → blank s ≡ row 0 s 0 (record { kind = 0; class = 3 })
unfolding blank row
blank_is s = refl

-- THE TABLE's, of a seal that fits its byte
pub table_is : (r : Round) → r.tail.sealed < 256 → table r ≡
    low 2 r.slot ++ low 2 r.last ++ low 4 r.next ++ low 2 (length r.rows) ++ (r.tail.sealed ∷ []) ++ replicate 5 0
    ++ rows_bytes r.rows ++ replicate (24 * (r.room - length r.rows)) 0
unfolding table head_bytes put low
table_is r h =
    let e : r.tail.sealed % 256 ≡ r.tail.sealed = omega arith in
    ap (λ (b : ℕ). low 2 r.slot ++ low 2 r.last ++ low 4 r.next ++ low 2 (length r.rows) ++ (b ∷ []) ++ replicate 5 0
    ++ rows_bytes r.rows ++ replicate (24 * (r.room - length r.rows)) 0) e

pub rows_in_are : (k : ℕ) (bs : List ℕ) →
    rows_in (suc k) bs
    ≡ row (field 0 4 bs) (field 4 2 bs) (field 6 4 bs) (record { kind = field 10 1 bs; class = field 11 1 bs }) ∷ rows_in k (drop 24 bs)
unfolding rows_in
rows_in_are k bs = refl

pub round_in_is : (bs : List ℕ) →
    round_in bs ≡ round (field 0 2 bs) (field 2 2 bs) (field 4 4 bs) (rows_of bs) (rows_in (field 8 2 bs) (drop 16 bs))
    (record { sealed = field 10 1 bs })
unfolding round_in
round_in_is bs = refl

-- BOUNDS
regrouped : (a b c d e f g h i z : Bool) →
    ((a && (b && (c && (d && (e && (f && (g && (h && (i && true))))))))) && z)
    ≡ (((a && b) && (c && d)) && (((e && f) && ((g && h) && i)) && z))
regrouped false b c d e f g h i z = refl
regrouped true false c d e f g h i z = refl
regrouped true true false d e f g h i z = refl
regrouped true true true false e f g h i z = refl
regrouped true true true true false f g h i z = refl
regrouped true true true true true false g h i z = refl
regrouped true true true true true true false h i z = refl
regrouped true true true true true true true false i z = refl
regrouped true true true true true true true true false z = refl
regrouped true true true true true true true true true z = refl

below_two : (k : ℕ) → leb k 1 ≡ ltb k 2
below_two zero = refl
below_two (suc zero) = refl
below_two (suc (suc k)) = lt-leb (suc (suc k)) 1 (omega arith) ∙ sym (le-ltb (suc (suc k)) 2 (omega arith))

pub rows_good_are : (r : Round) (b : ℕ) (x : Row) (xs : List Row) → rows_good r b (x ∷ xs)
    ≡ (((leb (suc b) x.ticket && ltb x.ticket r.next) && (leb r.slot x.due && leb x.due r.last))
    && (((leb 1 x.weight && leb x.weight 16777216)
    && ((ltb x.tail.kind 2 && leb x.tail.class 3) && (eqb x.tail.kind 0 || eqb x.tail.class 3))) && rows_good r x.ticket xs))
unfolding rows_good every
rows_good_are r b x xs =
    rw (sym (below_two x.tail.kind))
    (regrouped (ltb b x.ticket) (ltb x.ticket r.next) (leb r.slot x.due) (leb x.due r.last) (leb 1 x.weight)
    (leb x.weight 16777216) (leb x.tail.kind 1) (leb x.tail.class 3) (eqb x.tail.kind 0 || eqb x.tail.class 3)
    (rows_good r x.ticket xs))

regrouped_head : (a b c d e f z : Bool) →
    ((a && (b && (c && (d && (e && (f && true)))))) && z) ≡ (((a && b) && (c && d)) && ((e && f) && z))
regrouped_head false b c d e f z = refl
regrouped_head true false c d e f z = refl
regrouped_head true true false d e f z = refl
regrouped_head true true true false e f z = refl
regrouped_head true true true true false f z = refl
regrouped_head true true true true true false z = refl
regrouped_head true true true true true true z = refl

pub round_good_is : (r : Round) → round_good r
    ≡ (((leb r.last 4095 && leb r.slot (suc r.last)) && (leb 1 r.next && leb r.next 16777216))
    && ((leb (length r.rows) r.room && ltb r.tail.sealed 2) && rows_good r 0 r.rows))
unfolding round_good every
round_good_is r =
    rw (sym (below_two r.tail.sealed))
    (regrouped_head (leb r.last 4095) (leb r.slot (suc r.last)) (leb 1 r.next) (leb r.next 16777216) (leb (length r.rows) r.room)
    (leb r.tail.sealed 1) (rows_good r 0 r.rows))

-- THE OLD ORDER's total and marks (Classes.antt) are those of the plan that it makes, whatever the plan is
pub old_total_is : (r : Round) → old_total r ≡ total_weight (plan_by old_heavier r)
old_total_is r = refl

pub old_mark_is : (r : Round) (s : ℕ) → old_mark r s ≡ mark_in r (plan_by old_heavier r) s
old_mark_is r s = refl

pub plan_is : (r : Round) → plan r ≡ plan_by heavier r
unfolding plan
plan_is r = refl

-- REFUSALS in their order, replies and rounds left
pub opening_is : (u : Setup) (r : Round) →
    (round_refusal (opening u) r ≡ cond (ltb most_last u.last) 4 0) × (says (opening u) r ≡ done) × (leaves (opening u) r ≡ opened u r.room)
unfolding round_refusal says leaves deed
opening_is u r = (refl, refl, refl)

pub taking_is : (f : Frame) (r : Round) →
    (round_refusal (acting (taking f)) r ≡ cond (ltb r.last r.slot) 5
    (cond (eqb r.tail.sealed 1) 13
    (cond (eqb f.weight 0 || ltb most_weight f.weight) 6
    (cond (ltb f.due r.slot || ltb r.last f.due) 7
    (cond (ltb 3 f.class) 14
    (cond (eqb r.next ticket_limit) 8 (cond (leb r.room (length r.rows)) 9 0)))))))
    × (says (acting (taking f)) r ≡ ticket r.next)
    × (leaves (acting (taking f)) r ≡ taken r f)
unfolding round_refusal says leaves deed act
taking_is f r = (refl, refl, refl)

pub sending_is : (r : Round) →
    (round_refusal (acting sending) r ≡ cond (ltb r.last r.slot) 5 0)
    × (says (acting sending) r ≡ step (cond (is_ordinary r) (ordinary (out_of (goes r))) (leap (out_of (goes r)))))
    × (leaves (acting sending) r ≡ sent r)
unfolding round_refusal says leaves deed act
sending_is r = (refl, refl, refl)

-- what goes, and whether its step is ordinary
pub goes_is : (r : Round) → goes r ≡ cond (eqb r.tail.sealed 1) (canonical_first r (plan r)) (best r (plan r))
unfolding turn_of
goes_is r = refl

pub ordinary_is : (r : Round) → is_ordinary r ≡ leb (goes r).due (first_end r (plan r))
unfolding is_ordinary
ordinary_is r = refl

-- the round sealed: nothing of it changes but that
pub sealing_is : (r : Round) →
    (round_refusal (acting sealing) r ≡ cond (ltb r.last r.slot) 5 0)
    × (says (acting sealing) r ≡ closed)
    × (leaves (acting sealing) r ≡ round r.slot r.last r.next r.room r.rows (record { sealed = 1 }))
unfolding round_refusal says leaves deed act sealed
sealing_is r = (refl, refl, refl)

pub marking_is : (s : ℕ) (r : Round) →
    (round_refusal (asking (marking s)) r ≡ cond (ltb r.last r.slot) 5 (cond (ltb s r.slot || ltb r.last s) 7 0))
    × (says (asking (marking s)) r ≡ amount (mark r s))
    × (leaves (asking (marking s)) r ≡ r)
unfolding round_refusal says leaves deed question
marking_is s r = (refl, refl, refl)

pub totalling_is : (r : Round) →
    (round_refusal (asking totalling) r ≡ cond (ltb r.last r.slot) 5 0)
    × (says (asking totalling) r ≡ amount (total r))
    × (leaves (asking totalling) r ≡ r)
unfolding round_refusal says leaves deed question
totalling_is r = (refl, refl, refl)

-- ON A TABLE, of whatever bytes: the model's reply and round where nothing is refused, else the number, and the same bytes; and the model by itself
pub answer_is : (c : Call) (t : List ℕ) → answer c t ≡ cond (eqb (refusal c t) 0) (says c (round_in t)) (refused (refusal c t))
unfolding answer
answer_is c t = refl

pub left_is : (c : Call) (t : List ℕ) → left c t ≡ cond (eqb (refusal c t) 0) (table (leaves c (round_in t))) t
unfolding left
left_is c t = refl

pub next_round_is : (c : Call) (r : Round) → next_round c r ≡ cond (eqb (round_refusal c r) 0) (leaves c r) r
unfolding next_round
next_round_is c r = refl

-- CONDITIONS in the same order
abbrev pub if_sound : List ℕ → (later : ℕ → Type 0) → ℕ → Type 0
if_sound t later = when 2 (LengthBad t) (when 3 (Unsound t) (when 5 (Past t) later))

abbrev pub Same : (a b : ℕ → Type 0) → Type 1
Same a b = a ≡ b

pub opening_given : (u : Setup) (t : List ℕ) → Same (refusal_given (opening u) t) (when 2 (LengthBad t) (when 4 (most_last < u.last) accepted))
unfolding refusal_given conditions
opening_given u t = refl

pub taking_given : (f : Frame) (t : List ℕ) → Same (refusal_given (acting (taking f)) t)
    (if_sound t (when 13 (sealed_in t ≡ 1) (when 6 (WeightBad f.weight) (when 7 (SlotBad f.due t) (when 14 (3 < f.class)
    (when 8 (next_in t ≡ ticket_limit) (when 9 (used_in t ≡ rows_of t) accepted)))))))
unfolding refusal_given conditions act_conditions
taking_given f t = refl

pub sending_given : (t : List ℕ) → Same (refusal_given (acting sending) t) (if_sound t accepted)
unfolding refusal_given conditions act_conditions
sending_given t = refl

pub sealing_given : (t : List ℕ) → Same (refusal_given (acting sealing) t) (if_sound t accepted)
unfolding refusal_given conditions act_conditions
sealing_given t = refl

pub marking_given : (s : ℕ) (t : List ℕ) → Same (refusal_given (asking (marking s)) t) (if_sound t (when 7 (SlotBad s t) accepted))
unfolding refusal_given conditions question_conditions
marking_given s t = refl

pub totalling_given : (t : List ℕ) → Same (refusal_given (asking totalling) t) (if_sound t accepted)
unfolding refusal_given conditions question_conditions
totalling_given t = refl

pub substitute_given_is : (k : ℕ) (t : List ℕ) →
    Same (substitute_given k t) (if_sound t (when 10 (NoRow k t) (when 11 (NotPlanned k t) accepted)))
unfolding substitute_given
substitute_given_is k t = refl
