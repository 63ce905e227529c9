-- On a sound round's table a call refuses, answers and leaves what the model says: sound, next_sane, answer_is, left_is, run_is.
use Rattle.std.specs.Prelude.{◌≡◌, refl, Bool, true, false, ◌&&◌, not, cond, List, [], ◌∷◌, ℕ, suc, ◌+◌, ◌-◌, ◌/◌, ◌%◌, ◌≤◌, ◌<◌, leb, eqb, length}
use Rattle.std.proofs.Common.{ap₂, true≢false, arith, leb-true, eqb-true}
use Rattle.std.proofs.lemmas.Bool.{false≢true}
use Rattle.rules.specs.Limits.{head_size, row_size, most_rows}
use Rattle.rules.specs.Rows.{Row, Round, round, All}
use Rattle.rules.specs.Table.{every, row_tests, head_tests, table, rows_of, round_in, length_good, rows_good, round_good, same, table_refusal}
use Rattle.rules.specs.Calls.{Call, opening, acting, asking, Reply, refused, first, round_refusal, table_first, refusal, says, leaves, answer, left, run, replies, next_round, after}
use Rattle.theory.specs.Tests.{and_true}
use Rattle.theory.specs.Bounds.{tests_head, RowFine, TailFine, tests_right}
use Rattle.theory.specs.Full.{Fine, Rising}
use Rattle.theory.specs.Calls.{no_refusal, next_fine}
use Rattle.theory.specs.Back.{Sized, next_sized, read_back, table_good, length_good_yes}

pub record Sane (r : Round) : Type 0 where
  pub fine : Fine r
  pub size : Sized r
  pub some : 1 ≤ r.room

pub next_sane : (c : Call) (r : Round) → Sane r → Sane (next_round c r)
next_sane c r s =
    let h = next_sized r.room c r (refl, s.size) in
    record { fine = next_fine c r s.fine; size = h.1; some = omega (arith, h.0, s.some) }

pub after_sane : (cs : List Call) (r : Round) → Sane r → Sane (after cs r)
unfolding after
after_sane [] r s = s
after_sane (c ∷ cs) r s = after_sane cs (next_round c r) (next_sane c r s)

-- A SOUND TABLE is that of a sound round
pub same_true : (xs ys : List ℕ) → same xs ys ≡ true → xs ≡ ys
unfolding same
same_true [] [] e = refl
same_true [] (y ∷ ys) e = absurd (false≢true e)
same_true (x ∷ xs) [] e = absurd (false≢true e)
same_true (x ∷ xs) (y ∷ ys) e =
    let a = and_true (eqb x y) (same xs ys) e in ap₂ (λ (z : ℕ) (zs : List ℕ). z ∷ zs) (eqb-true x y a.0) (same_true xs ys a.1)

pub rows_good_true : (r : Round) (b : ℕ) (xs : List Row) → b < r.next → rows_good r b xs ≡ true →
    (All (RowFine r) xs) × (All TailFine xs) × (Rising (suc b) r.next xs)
unfolding rows_good
rows_good_true r b [] h e = (tt, tt, h)
rows_good_true r b (x ∷ xs) h e =
    let a = and_true (every (row_tests r.slot r.last r.next b x)) (rows_good r x.ticket xs) e in
    let k = tests_right r.slot r.last r.next b x a.0 in
    let q = rows_good_true r x.ticket xs k.below a.1 in ((k.bounds, q.0), (k.tail, q.1), (k.from, q.2))

-- a round within bounds is fine, and sized where its room is; its tails are good
pub good_true : (r : Round) → round_good r ≡ true → Fine r × (r.room ≤ most_rows → Sized r) × All TailFine r.rows
unfolding round_good
good_true r e =
    let tests = head_tests r.slot r.last r.next (length r.rows) r.room r.tail in
    let a = and_true (every tests) (rows_good r 0 r.rows) e in
    let h = tests_head r.slot r.last r.next (length r.rows) r.room r.tail a.0 in
    let q = rows_good_true r 0 r.rows h.next_least a.1 in (
      record { time = h.slot_most; fine = q.0; rising = q.2 },
      λ k. record { last = h.last_most; room = k; next = h.next_most; long = h.fit; tails = q.1; tail = h.tail },
      q.1,
    )

pub good_fine : (r : Round) → round_good r ≡ true → Fine r
good_fine r e = (good_true r e).0

pub good_tails : (r : Round) → round_good r ≡ true → All TailFine r.rows
good_tails r e = (good_true r e).2

pub good_sane : (r : Round) → round_good r ≡ true → 1 ≤ r.room → r.room ≤ most_rows → Sane r
good_sane r e h k = record { fine = good_fine r e; size = (good_true r e).1 k; some = h }

pub record StandsFor (t : List ℕ) : Type 0 where
  pub bytes : table (round_in t) ≡ t
  pub sane : Sane (round_in t)

pub sound : (t : List ℕ) → table_refusal t ≡ 0 → StandsFor t
unfolding table_refusal length_good round_in rows_of round
sound t e =
    let a = no_refusal (not (length_good (length t))) 1 _ e in
    let b = and_true (round_good (round_in t)) (same (table (round_in t)) t) (accepted (round_good (round_in t) && same (table (round_in t)) t) a.1) in
    let long = length t - head_size in
    let l : (leb (head_size + row_size) (length t) && (eqb (long % row_size) 0 && leb (long / row_size) most_rows)) ≡ true =
    not_not (length_good (length t)) a.0 in
    let c = and_true (leb (head_size + row_size) (length t)) (eqb (long % row_size) 0 && leb (long / row_size) most_rows) l in
    let d = and_true (eqb (long % row_size) 0) (leb (long / row_size) most_rows) c.1 in
    record {
      bytes = same_true (table (round_in t)) t b.1;
      sane = good_sane (round_in t) b.0 (omega (arith, leb-true (head_size + row_size) (length t) c.0)) (leb-true (long / row_size) most_rows d.1);
    }
  where
    accepted : (c : Bool) → ◌≡◌ {A = ℕ} (cond c 0 3) 0 → c ≡ true
    accepted true q = refl
    accepted false q = absurd (omega (arith, q))

    not_not : (c : Bool) → not c ≡ false → c ≡ true
    not_not true q = refl
    not_not false q = absurd (true≢false q)

-- CALLS on a sound round's table
pub table_accepts : (c : Call) (r : Round) → Sane r → table_first c (table r) ≡ 0
unfolding table_first
table_accepts (opening u) r s = rw (length_good_yes r s.size.long s.some s.size.room)
table_accepts (acting a) r s = table_good r s.fine s.size s.some
table_accepts (asking q) r s = table_good r s.fine s.size s.some

pub refusal_is : (c : Call) (r : Round) → Sane r → refusal c (table r) ≡ round_refusal c r
unfolding refusal first
refusal_is c r s = rw (table_accepts c r s, read_back r s.fine s.size)

pub answer_is : (c : Call) (r : Round) → Sane r → answer c (table r) ≡ cond (eqb (round_refusal c r) 0) (says c r) (refused (round_refusal c r))
unfolding answer
answer_is c r s = rw (refusal_is c r s, read_back r s.fine s.size)

pub left_is : (c : Call) (r : Round) → Sane r → left c (table r) ≡ table (next_round c r)
unfolding left next_round
left_is c r s =
    rw (refusal_is c r s, read_back r s.fine s.size) (table_cond (eqb (round_refusal c r) 0) (leaves c r) r)
  where
    table_cond : (t : Bool) (x y : Round) → cond t (table x) (table y) ≡ table (cond t x y)
    table_cond true x y = refl
    table_cond false x y = refl

pub run_is : (cs : List Call) (r : Round) → Sane r → run cs (table r) ≡ table (after cs r)
unfolding run after
run_is [] r s = refl
run_is (c ∷ cs) r s = rw (left_is c r s) (run_is cs (next_round c r) (next_sane c r s))

-- THE REPLIES to a list of calls by the model, without a table
unfoldable pub model_reply : Call → Round → Reply
model_reply c r = cond (eqb (round_refusal c r) 0) (says c r) (refused (round_refusal c r))

unfoldable pub model_replies : List Call → Round → List Reply
model_replies [] r = []
model_replies (c ∷ cs) r = model_reply c r ∷ model_replies cs (next_round c r)

pub replies_is : (cs : List Call) (r : Round) → Sane r → replies cs (table r) ≡ model_replies cs r
unfolding replies model_replies model_reply
replies_is [] r s = refl
replies_is (c ∷ cs) r s =
    ap₂ (λ (a : Reply) (qs : List Reply). a ∷ qs) (answer_is c r s) (rw (left_is c r s) (replies_is cs (next_round c r) (next_sane c r s)))
