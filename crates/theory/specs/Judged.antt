-- Of a good length, a table is refused by 3 exactly where the judge turns it down: judged_clauses, clauses_judged, judged_refusal.
use Rattle.std.specs.Prelude.{◌≡◌, refl, true, cond, List, ℕ, zero, suc, ◌+◌, ◌≤◌, ◌-◌, length, take, drop}
use Rattle.std.proofs.Common.{sym, ◌∙◌, inl, inr, true≢false, arith, length-take, length-drop, get_or-drop, get_or-take}
use Rattle.rules.specs.Limits.{head_size, row_size, head_zeros_at, ticket_at, due_at, weight_at, kind_at, class_at, row_zeros_at, slot_bytes, wide_bytes, kind_bytes, class_bytes}
use Rattle.rules.specs.Rows.{row}
use Rattle.rules.specs.Table.{field, every, front_row, tail_in, head_tail_in, row_tests, head_tests, rows_of, length_good, table_refusal}
use Rattle.rules.specs.Conditions.{Bytes, row_at, slot_in, last_in, next_in, used_in}
use Rattle.theory.specs.Tests.{either, and_true}
use Rattle.theory.specs.Judge.{zeros, row_judged, rows_judged, head_judged, judged}
use Rattle.theory.specs.Fields.{IsPart, field_take, test_zeros, zeros_test, taken_zeros}
use Rattle.theory.specs.Bounds.{tests_head, head_tested, RowRight, tests_right, right_tests}
use Rattle.theory.specs.Clauses.{RowsRight, Clauses, length_long, clauses_accepted, accepted_length, accepted_clauses, refusal_three}

-- A ROW JUDGED on its own bytes
pub own_row : (bs : List ℕ) → front_row (take row_size bs) ≡ front_row bs
unfolding row
own_row bs i =
    record {
      ticket = own ticket_at wide_bytes (omega arith) i;
      due = own due_at slot_bytes (omega arith) i;
      weight = own weight_at wide_bytes
          (omega arith) i;
      tail = own_tail i;
    }
  where
    own : (a n : ℕ) → a + n ≤ row_size → field a n (take row_size bs) ≡ field a n bs
    own a n h = field_take a n row_size bs h

    own_tail : tail_in (take row_size bs) ≡ tail_in bs
    own_tail i = record { kind = own kind_at kind_bytes (omega arith) i; class = own class_at class_bytes (omega arith) i }

pub own_part : (bs : List ℕ) → IsPart row_zeros_at row_size bs (drop row_zeros_at (take row_size bs))
own_part bs i h = get_or-drop row_zeros_at (take row_size bs) i 0 ∙ get_or-take row_size bs (row_zeros_at + i) 0 h

pub row_true : (s l n b : ℕ) (xs : List ℕ) → row_judged s l n b xs ≡ true → RowRight s l n b (front_row xs) × (zeros (drop row_zeros_at xs) ≡ true)
unfolding row_judged
row_true s l n b xs e =
    let a = and_true (every (row_tests s l n b (front_row xs))) (zeros (drop row_zeros_at xs)) e in (tests_right s l n b (front_row xs) a.0, a.1)

pub row_yes : (s l n b : ℕ) (xs : List ℕ) → RowRight s l n b (front_row xs) → zeros (drop row_zeros_at xs) ≡ true → row_judged s l n b xs ≡ true
unfolding row_judged
row_yes s l n b xs r z = rw (right_tests s l n b (front_row xs) r) z

pub rows_true : (k s l n b : ℕ) (bs : List ℕ) → rows_judged k s l n b bs ≡ true → RowsRight k s l n b bs
unfolding rows_judged
rows_true zero s l n b bs e = tt
rows_true (suc k) s l n b bs e =
    let a = and_true (row_judged s l n b (take row_size bs)) (rows_judged k s l n (field ticket_at wide_bytes bs) (drop row_size bs)) e in
    let r = row_true s l n b (take row_size bs) a.0 in (
      (rw (own_row bs) at r).0,
      test_zeros row_zeros_at row_size bs (drop row_zeros_at (take row_size bs)) (own_part bs) r.1,
      rows_true k s l n (field ticket_at wide_bytes bs) (drop row_size bs) a.1,
    )

pub rows_yes : (k s l n b : ℕ) (bs : List ℕ) → RowsRight k s l n b bs → rows_judged k s l n b bs ≡ true
unfolding rows_judged
rows_yes zero s l n b bs r = refl
rows_yes (suc k) s l n b bs r =
    let z = zeros_test row_zeros_at row_size bs (drop row_zeros_at (take row_size bs)) (own_part bs)
    (omega (arith, length-drop row_zeros_at (take row_size bs), length-take row_size bs)) r.1 in
    rw (row_yes s l n b (take row_size bs) (rw (own_row bs) r.0) z) (rows_yes k s l n (field ticket_at wide_bytes bs) (drop row_size bs) r.2)

-- JUDGED exactly where every clause holds
pub judged_clauses : (t : List ℕ) → judged t ≡ true → Clauses t
unfolding judged head_judged
judged_clauses t e =
    let m = row_at (used_in t) in
    let rows = rows_judged (used_in t) (slot_in t) (last_in t) (next_in t) 0 (drop head_size t) in
    let tests = head_tests (slot_in t) (last_in t) (next_in t) (used_in t) (rows_of t) (head_tail_in t) in
    let a = and_true (head_judged t) _ e in
    let r = and_true rows (zeros (drop m t)) a.1 in
    let h = and_true (every tests) (zeros (take (head_size - head_zeros_at) (drop head_zeros_at t))) a.0 in
    let b = tests_head (slot_in t) (last_in t) (next_in t) (used_in t) (rows_of t) (head_tail_in t) h.0 in
    record {
      fit = b.fit;
      last_most = b.last_most;
      slot_most = b.slot_most;
      next_least = b.next_least;
      next_most = b.next_most;
      tail = b.tail;
      head_zeros = (taken_zeros head_zeros_at (head_size - head_zeros_at) t).0 h.1;
      rows = rows_true (used_in t) (slot_in t) (last_in t) (next_in t) 0 (drop head_size t) r.0;
      rest_zeros = test_zeros m (length t) t (drop m t) (λ i h. get_or-drop m t i 0) r.1;
    }

pub head_yes : (t : List ℕ) → Clauses t → head_judged t ≡ true
unfolding head_judged
head_yes t c =
    rw (head_tested (slot_in t) (last_in t) (next_in t) (used_in t) (rows_of t) (head_tail_in t) (record {
      last_most = c.last_most;
      slot_most = c.slot_most;
      next_least = c.next_least;
      next_most = c.next_most;
      fit = c.fit;
      tail = c.tail;
    }))
    ((taken_zeros head_zeros_at (head_size - head_zeros_at) t).1 c.head_zeros)

pub clauses_judged : (t : List ℕ) → row_at (used_in t) ≤ length t → Clauses t → judged t ≡ true
unfolding judged
clauses_judged t h c =
    let m = row_at (used_in t) in
    rw (head_yes t c, rows_yes (used_in t) (slot_in t) (last_in t) (next_in t) 0 (drop head_size t) c.rows)
    (zeros_test m (length t) t (drop m t) (λ i k. get_or-drop m t i 0) (omega (arith, length-drop m t)) c.rest_zeros)

-- THE LAW
pub judged_accepted : (t : List ℕ) → table_refusal t ≡ 0 → judged t ≡ true
judged_accepted t e =
    let c = accepted_clauses t e in
    clauses_judged t (omega (arith, (length_long t (accepted_length t e)).0, c.fit)) c

pub judged_refusal : (t : List ℕ) → Bytes t → length_good (length t) ≡ true → table_refusal t ≡ cond (judged t) 0 3
judged_refusal t h g =
    elim (either (judged t)) [
      | inl e ↦ clauses_accepted t h g (judged_clauses t e) ∙ rw e
      | inr e ↦ refusal_three t g (λ a. true≢false (sym (judged_accepted t a) ∙ e)) ∙ rw e
    ]
