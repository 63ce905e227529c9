-- THE THIRD DEMAND, by the rounds that lists of calls make: opened_sane, at_sane, run_at, point_holds, demand_three.
use Rattle.std.specs.Prelude.{◌≡◌, refl, true, List, [], ◌∷◌, ◌++◌, ℕ, suc, ◌+◌, ◌*◌, ◌-◌, ◌/◌, ◌%◌, ◌≤◌, ◌<◌, eqb, length}
use Rattle.std.proofs.Common.{◌∙◌}
use native.Mathlib.Omega.{arith}
use borrow.Author.Tests.{le-ltb, le-leb, eq-eqb}
use Rattle.rules.specs.Limits.{head_size, row_size, most_rows, most_last}
use Rattle.rules.specs.Rows.{Frame, Setup, Row, Round, slots_left, round, chosen}
use Rattle.rules.specs.Plan.{plan, total, total_weight, mark, planned}
use Rattle.rules.specs.Steps.{opened, taken}
use Rattle.rules.specs.Table.{table, rows_of, round_in, length_good}
use Rattle.rules.specs.Calls.{taking, marking, totalling, Call, opening, acting, asking, act, deed, Reply, done, ticket, amount, first, round_refusal, table_first, refusal, says, leaves, answer, left, run, replies, next_round, after, at}
use Rattle.rules.specs.Demands.{NoOpening, Point, DemandThree}
use Rattle.theory.specs.Sum.{sum_chosen}
use Rattle.theory.specs.All.{all_map}
use Rattle.theory.specs.Bounds.{RowFine}
use Rattle.theory.specs.Full.{Fine, plan_length}
use Rattle.theory.specs.Calls.{takes, marks_ahead, opened_fine, after_stays, after_append}
use Rattle.theory.specs.Totals.{newcomer, best_weight}
use Rattle.theory.specs.Times.{timed_feas, all_of_chosen, slots_of}
use Rattle.theory.specs.Back.{sized_opened, read_back, table_good}
use Rattle.theory.specs.Same.{listed_planned, planned_in_time, listed_in_order, planned_weighs, listed_weighs}
use Rattle.theory.specs.Sane.{Sane, next_sane, after_sane, answer_is, run_is}
use Rattle.theory.specs.Replies.{replies_after, mark_answered, total_answered, taking_answered, asking_leaves, taking_leaves}

-- WHAT HOLDS OF A SOUND ROUND
pub empty : (xs : List Row) → length xs ≡ 0 → xs ≡ []
empty [] e = refl
empty (x ∷ xs) e = absurd (omega arith)

pub plan_over : (r : Round) → Fine r → r.last < r.slot → (plan r ≡ []) × (total r ≡ 0)
unfolding slots_left total total_weight
plan_over r f h = let e = empty (plan r) (omega (arith, (plan_length r f).0)) in (e, rw e)

pub point_holds : (r : Round) → Sane r → Point r (table r)
point_holds r s =
    let f = s.fine in
    record {
      bytes = refl;
      reads = read_back r f s.size;
      sound = table_good r f s.size s.some;
      full = plan_length r f;
      waiting = listed_planned r f;
      goes_out = (slots_of r.slot (planned r) (planned r), planned_in_time r f);
      in_order = listed_in_order r f;
      none_heavier = λ ms ss h. best_weight r f (chosen ms r.rows) (timed_feas r (chosen ms r.rows) ss h) (λ μ. sum_chosen μ ms r.rows)
          (all_of_chosen (λ x. (x.weight ≤ 16777216) × (x.due < suc r.last)) ms r.rows
          (all_map {Q = λ x. (x.weight ≤ 16777216) × (x.due < suc r.last)} (λ x (h : RowFine r x). (h.most, omega (arith, h.due_by))) r.rows f.fine));
      weighs = (planned_weighs r f, listed_weighs r f);
      over = plan_over r f;
      answers = λ c. answer_is c r s;
    }

-- AN ALLOWED OPENING is accepted, and leaves the opened round's table, whatever the table held
pub opened_sane : (u : Setup) (k : ℕ) → u.last ≤ most_last → 1 ≤ k → k ≤ most_rows → Sane (opened u k)
unfolding opened round
opened_sane u k h i j = record { fine = opened_fine u k; size = sized_opened u k h j; some = i }

module _ (t : List ℕ) (k : ℕ) (u : Setup) (long : length t ≡ head_size + row_size * k) (some : 1 ≤ k) (few : k ≤ most_rows)
    (fits : u.last ≤ most_last) where
  pub rows_are : rows_of t ≡ k
  unfolding rows_of
  rows_are = omega arith

  pub length_fits : length_good (length t) ≡ true
  unfolding length_good
  length_fits =
      rw (
        le-leb (head_size + row_size) (length t) (omega arith),
        eq-eqb ((length t - head_size) % row_size) 0 (omega arith),
        le-leb ((length t - head_size) / row_size) most_rows (omega arith),
      )

  pub opening_accepted : refusal (opening u) t ≡ 0
  unfolding refusal first table_first round_refusal deed
  opening_accepted = rw (length_fits, le-ltb most_last u.last fits)

  pub opening_answers : answer (opening u) t ≡ done
  unfolding answer says deed
  opening_answers = rw opening_accepted

  pub opening_leaves : left (opening u) t ≡ table (opened u k)
  unfolding left leaves deed round_in round
  opening_leaves = rw (opening_accepted, rows_are)

  pub at_sane : (cs : List Call) → Sane (at k u cs)
  unfolding at
  at_sane cs = after_sane cs (opened u k) (opened_sane u k fits some few)

  pub run_at : (cs : List Call) → run cs (left (opening u) t) ≡ table (at k u cs)
  unfolding at
  run_at cs = rw opening_leaves (run_is cs (opened u k) (opened_sane u k fits some few))

pub at_append : (k : ℕ) (u : Setup) (xs ys : List Call) → at k u (xs ++ ys) ≡ after ys (at k u xs)
unfolding at
at_append k u xs ys = after_append xs ys (opened u k)

-- the round after one more call
pub at_next : (k : ℕ) (u : Setup) (xs : List Call) (c : Call) → at k u (xs ++ (c ∷ [])) ≡ next_round c (at k u xs)
unfolding after
at_next k u xs c = at_append k u xs (c ∷ [])

pub at_taken : (k : ℕ) (u : Setup) (xs : List Call) (f : Frame) → round_refusal (acting (taking f)) (at k u xs) ≡ 0 →
    at k u (xs ++ (acting (taking f) ∷ [])) ≡ taken (at k u xs) f
unfolding next_round leaves deed act
at_taken k u xs f e = at_next k u xs (acting (taking f)) ∙ rw (eq-eqb (round_refusal (acting (taking f)) (at k u xs)) 0 e)

-- an accepted taking leaves a sound round
pub taken_sane : (r : Round) → Sane r → (f : Frame) → round_refusal (acting (taking f)) r ≡ 0 → Sane (taken r f)
unfolding next_round leaves deed act
taken_sane r s f e =
    let h = next_sane (acting (taking f)) r s in
    let c : eqb (round_refusal (acting (taking f)) r) 0 ≡ true = eq-eqb (round_refusal (acting (taking f)) r) 0 e in rw c at h

pub marks_between : (k : ℕ) (u : Setup) (xs ys : List Call) (s : ℕ) → Sane (at k u xs) → NoOpening ys → (at k u (xs ++ ys)).slot ≤ s →
    s ≤ (at k u (xs ++ ys)).last → mark (at k u xs) s ≤ mark (at k u (xs ++ ys)) s
marks_between k u xs ys s a n h i =
    let e = at_append k u xs ys in
    let b = after_stays s ys (at k u xs) a.fine n in
    rw e (b.2 (rw e at h) (omega (arith, b.0, rw e at i)))

-- TWO MARKS ANSWERED, with no accepted opening between
pub marks_by_replies : (r : Round) → Sane r → (ys zs : List Call) (qs ts : List Reply) (s m n : ℕ) → NoOpening ys → length qs ≡ length ys →
    replies (asking (marking s) ∷ (ys ++ (asking (marking s) ∷ zs))) (table r) ≡ amount m ∷ (qs ++ (amount n ∷ ts)) → m ≤ n
unfolding replies
marks_by_replies r a ys zs qs ts s m n o h e =
    let z = after ys r in
    let b : Sane z = after_sane ys r a in
    let c : replies (ys ++ (asking (marking s) ∷ zs)) (left (asking (marking s)) (table r)) ≡ qs ++ (amount n ∷ ts) = cc in
    let d : replies (asking (marking s) ∷ zs) (run ys (table r)) ≡ amount n ∷ ts =
    replies_after ys (asking (marking s) ∷ zs) (table r) qs (amount n ∷ ts) (rw (asking_leaves r a (marking s)) at c) h in
    let f : answer (asking (marking s)) (table r) ≡ amount m = cc in
    let g : answer (asking (marking s)) (run ys (table r)) ≡ amount n = cc in
    let i = mark_answered r a s m f in
    let j = mark_answered z b s n (rw (run_is ys r a) at g) in
    let p = marks_ahead z s j.0 in
    let v = after_stays s ys r a.fine o in
    omega (arith, i.1, j.1, p.0, p.1, v.0, v.2 p.0 (omega (arith, v.0, p.1)))

-- A NEWCOMER between two totals answered
pub newcomer_by_replies : (r : Round) → Sane r → (ys : List Call) (qs : List Reply) (f : Frame) (k a m b : ℕ) →
    replies (asking totalling ∷ asking (marking f.due) ∷ acting (taking f) ∷ asking totalling ∷ ys) (table r)
    ≡ amount a ∷ amount m ∷ ticket k ∷ amount b ∷ qs →
    b ≡ a + (f.weight - m)
unfolding replies
newcomer_by_replies r s ys qs f k a m b e =
    let mk = asking (marking f.due) in
    let tk = acting (taking f) in
    let to = asking totalling in
    let e₁ : replies (mk ∷ tk ∷ to ∷ ys) (left to (table r)) ≡ amount m ∷ ticket k ∷ amount b ∷ qs = cc in
    let e₂ = (rw (asking_leaves r s totalling) at e₁) in
    let e₃ : replies (tk ∷ to ∷ ys) (left mk (table r)) ≡ ticket k ∷ amount b ∷ qs = cc in
    let e₄ = (rw (asking_leaves r s (marking f.due)) at e₃) in
    let e₅ : replies (to ∷ ys) (left tk (table r)) ≡ amount b ∷ qs = cc in
    let g : answer to (table r) ≡ amount a = cc in
    let h : answer mk (table r) ≡ amount m = cc in
    let i : answer tk (table r) ≡ ticket k = cc in
    let n = taking_answered r s f k i in
    let j : answer to (left tk (table r)) ≡ amount b = cc in
    omega (
      arith,
      total_answered r s a g,
      (mark_answered r s f.due m h).1,
      total_answered (taken r f) (taken_sane r s f n) b (rw (taking_leaves r s f n) at j),
      newcomer r s.fine f (takes r f n),
    )

pub demand_three : DemandThree
unfolding DemandThree
demand_three t k u cs e h i j =
    record {
      opens = opening_answers t k u e h i j;
      points = λ xs ys _. rw (run_at t k u e h i j xs) (point_holds (at k u xs) (at_sane t k u e h i j xs));
      marks = λ xs ys zs s _ n a b. marks_between k u xs ys s (at_sane t k u e h i j xs) n a b;
      newcomers = λ xs ys f _ a. rw (at_taken k u xs f a)
          (newcomer (at k u xs) (at_sane t k u e h i j xs).fine f (takes (at k u xs) f a));
      marks_answered = λ xs ys zs ps qs ts s m n c o a p v.
          marks_by_replies (at k u xs) (at_sane t k u e h i j xs) ys zs qs ts s m n o v
          (after_replies xs (asking (marking s) ∷ (ys ++ (asking (marking s) ∷ zs))) ps (amount m ∷ (qs ++ (amount n ∷ ts))) c a p);
      newcomers_answered = λ xs ys ps qs f k' a m b c z p.
          newcomer_by_replies (at k u xs) (at_sane t k u e h i j xs) ys qs f k' a m b
          (after_replies xs (asking totalling ∷ asking (marking f.due) ∷ acting (taking f) ∷ asking totalling ∷ ys) ps
          (amount a ∷ amount m ∷ ticket k' ∷ amount b ∷ qs) c z p);
    }
  where
    after_replies : (xs ys : List Call) (ps qs : List Reply) → cs ≡ xs ++ ys → replies cs (left (opening u) t) ≡ ps ++ qs → length ps ≡ length xs →
        replies ys (table (at k u xs)) ≡ qs
    after_replies xs ys ps qs c a p = rw (run_at t k u e h i j xs) at (replies_after xs ys (left (opening u) t) ps qs (rw c at a) p)
