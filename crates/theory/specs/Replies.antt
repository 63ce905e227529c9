-- Replies to a list of calls, one by one, and what each says of the round: replies_after, mark_answered, total_answered, taking_answered.
use Rattle.std.proofs.Math.Path.{◌≡◌, refl, ap}
use Rattle.std.proofs.Common.{sym, ◌∙◌, inl, inr, arith, eq-eqb, drop_at}
use Rattle.std.specs.Prelude.{Bool, List, [], ◌∷◌, ◌++◌, ℕ, suc, eqb, length, drop}
use Rattle.std.proofs.Math.Bool.{true, false, cond}
use Rattle.rules.specs.Rows.{Frame, Round}
use Rattle.rules.specs.Plan.{total, mark}
use Rattle.rules.specs.Steps.{taken}
use Rattle.rules.specs.Table.{table}
use Rattle.rules.specs.Calls.{taking, Question, marking, totalling, Call, acting, asking, act, question, deed, Reply, refused, ticket, amount, round_refusal, says, leaves, answer, left, run, replies, next_round}
use Rattle.theory.specs.Tests.{eqb?}
use Rattle.theory.specs.Calls.{question_leaves}
use Rattle.theory.specs.Sane.{Sane, answer_is, left_is}

pub replies_append : (xs ys : List Call) (t : List ℕ) → replies (xs ++ ys) t ≡ replies xs t ++ replies ys (run xs t)
unfolding replies run
replies_append [] ys t = refl
replies_append (c ∷ cs) ys t = ap (λ (z : List Reply). answer c t ∷ z) (replies_append cs ys (left c t))

pub length_replies : (xs : List Call) (t : List ℕ) → length (replies xs t) ≡ length xs
unfolding replies
length_replies [] t = refl
length_replies (c ∷ cs) t = ap suc (length_replies cs (left c t))

-- after as many replies as calls come the replies to the calls that follow
pub replies_after : (xs ys : List Call) (t : List ℕ) (ps qs : List Reply) → replies (xs ++ ys) t ≡ ps ++ qs → length ps ≡ length xs → replies ys (run xs t) ≡ qs
replies_after xs ys t ps qs e h =
    sym (drop_at (replies xs t) (replies ys (run xs t)) (length xs) (length_replies xs t))
    ∙ ap (λ (z : List Reply). drop (length xs) z) (sym (replies_append xs ys t) ∙ e)
    ∙ drop_at ps qs (length xs) h

-- ACCEPTED: a call on a sound round's table whose answer is no refusal
module _ (r : Round) (s : Sane r) where
  pub not_refused : (c : Call) (a : Reply) → answer c (table r) ≡ a → ((n : ℕ) → a ≡ refused n → ⊥) → (round_refusal c r ≡ 0) × (says c r ≡ a)
  not_refused c a e n = elim (eqb? (round_refusal c r) 0) [
    | inl h ↦ (h.1, sym (answer_is c r s ∙ rw h.0) ∙ e)
    | inr h ↦ absurd (n (round_refusal c r) (sym e ∙ answer_is c r s ∙ rw h.0))
  ]

  pub mark_answered : (u m : ℕ) → answer (asking (marking u)) (table r) ≡ amount m → (round_refusal (asking (marking u)) r ≡ 0) × (mark r u ≡ m)
  unfolding says deed question
  mark_answered u m e =
      let a = not_refused (asking (marking u)) (amount m) e (λ n h. let z : ◌≡◌ {A = ℕ} 0 1 = cc in omega arith) in
      let b : amount (mark r u) ≡ amount m = a.1 in (a.0, cc)

  pub total_answered : (m : ℕ) → answer (asking totalling) (table r) ≡ amount m → total r ≡ m
  unfolding says deed question
  total_answered m e =
      let a = not_refused (asking totalling) (amount m) e (λ n h. let z : ◌≡◌ {A = ℕ} 0 1 = cc in omega arith) in
      let b : amount (total r) ≡ amount m = a.1 in cc

  pub taking_answered : (f : Frame) (k : ℕ) → answer (acting (taking f)) (table r) ≡ ticket k → round_refusal (acting (taking f)) r ≡ 0
  taking_answered f k e = (not_refused (acting (taking f)) (ticket k) e (λ n h. let z : ◌≡◌ {A = ℕ} 0 1 = cc in omega arith)).0

  -- a question leaves the table
  pub asking_leaves : (q : Question) → left (asking q) (table r) ≡ table r
  unfolding next_round
  asking_leaves q = left_is (asking q) r s ∙ ap table (rw (question_leaves q r) (same (eqb (round_refusal (asking q) r) 0)))
    where
      same : (t : Bool) → cond t r r ≡ r
      same true = refl
      same false = refl

  pub taking_leaves : (f : Frame) → round_refusal (acting (taking f)) r ≡ 0 → left (acting (taking f)) (table r) ≡ table (taken r f)
  unfolding next_round leaves deed act
  taking_leaves f e = left_is (acting (taking f)) r s ∙ rw (eq-eqb (round_refusal (acting (taking f)) r) 0 e)
