-- Over a list of calls: a claim holds of all that they tell, where each thing told keeps it.
use Rattle.std.specs.Prelude.{◌≡◌, Bool, cond, ℕ, ◌+◌, ◌*◌, ◌≤◌, eqb, length}
use Rattle.std.proofs.Math.Path.{refl}
use Rattle.std.proofs.Common.{ap, ◌∙◌, arith, eqb-true}
use Rattle.std.proofs.Math.Bool.{true, false}
use mathlib.Core.List.{List, [], ◌∷◌}
use Rattle.rules.specs.Limits.{head_size, most_last, most_rows, row_size}
use Rattle.rules.specs.Rows.{Frame, Setup, Round}
use Rattle.rules.specs.Steps.{goes, is_ordinary, opened, sealed, sent, taken}
use Rattle.rules.specs.Calls.{taking, sending, sealing, Call, opening, acting, asking, act, deed, after, leap, leaves, left, next_round, ordinary, out_of, refused, replies, round_refusal, says, step}
use Rattle.rules.specs.Demands.{NoOpening}
use Rattle.rules.specs.Hindsight.{Told, nothing, shut, shut_by, story, told, took, took_in, went, went_out}
use Rattle.theory.specs.Full.{Fine}
use Rattle.theory.specs.Calls.{Takes, opens, question_leaves, sealed_fine, sends, sent_fine, taken_fine, takes}
use Rattle.theory.specs.Sane.{model_replies, model_reply, replies_is}
use Rattle.theory.specs.Third.{opened_sane, opening_leaves}

-- what the calls and the model's replies tell
abbrev pub tale : List Call → Round → List Told
tale cs r = story cs (model_replies cs r)

-- on bytes the replies after an opening are the model's
pub opened_replies : (t : List ℕ) (k : ℕ) (u : Setup) (cs : List Call) → length t ≡ head_size + row_size * k → 1 ≤ k → k ≤ most_rows →
    u.last ≤ most_last → replies cs (left (opening u) t) ≡ model_replies cs (opened u k)
opened_replies t k u cs e i j h = ap (replies cs) (opening_leaves t k u e i j h) ∙ replies_is cs (opened u k) (opened_sane u k h i j)

-- a sending tells what goes, in either kind of step
pub sending_told : (r : Round) → told (acting sending) (says (acting sending) r) ≡ went (out_of (goes r))
unfolding told says deed act went_out
sending_told r = either_step (is_ordinary r)
  where
    either_step : (c : Bool) → went_out (step (cond c (ordinary (out_of (goes r))) (leap (out_of (goes r))))) ≡ went (out_of (goes r))
    either_step true = refl
    either_step false = refl

-- A REFUSED CALL tells nothing
pub refused_untold : (c : Call) (n : ℕ) → told c (refused n) ≡ nothing
unfolding told took_in went_out shut_by
refused_untold (opening u) n = refl
refused_untold (acting (taking f)) n = refl
refused_untold (acting sending) n = refl
refused_untold (acting sealing) n = refl
refused_untold (asking q) n = refl

-- A CLAIM BY WHAT IS TOLD, of a round, the round at the end and what is told between: it holds of all calls where each thing told keeps it
module _
    (P : (r end : Round) → List Told → Type 0)
    (keep-nothing : (r z : Round) (ts : List Told) → P r z ts → P r z (nothing ∷ ts))
    (keep-end : (r : Round) → Fine r → P r r [])
    (keep-took : (r z : Round) → Fine r → (n : Frame) → Takes r n → (ts : List Told) → P (taken r n) z ts →
    P r z (took r.next n.due n.weight ∷ ts))
    (keep-went : (r z : Round) → Fine r → r.slot ≤ r.last → (ts : List Told) → P (sent r) z ts → P r z (went (out_of (goes r)) ∷ ts))
    (keep-shut : (r z : Round) → Fine r → (ts : List Told) → P (sealed r) z ts → P r z (shut ∷ ts)) where
  -- ONE CALL and those after it: accepted, or refused
  pub one_call : (c : Call) (cs : List Call) (r : Round) →
      (round_refusal c r ≡ 0 → P r (after cs (leaves c r)) (told c (says c r) ∷ tale cs (leaves c r))) → P r (after cs r) (tale cs r) →
      P r (after (c ∷ cs) r) (tale (c ∷ cs) r)
  unfolding after next_round story model_replies model_reply
  one_call c cs r g h = by_refusal (eqb (round_refusal c r) 0) (λ e. g (eqb-true (round_refusal c r) 0 e))
    where
      by_refusal : (b : Bool) → (b ≡ true → P r (after cs (leaves c r)) (told c (says c r) ∷ tale cs (leaves c r))) →
          P r (after cs (cond b (leaves c r) r)) (told c (cond b (says c r) (refused (round_refusal c r))) ∷ tale cs (cond b (leaves c r) r))
      by_refusal true i = i refl
      by_refusal false i = rw (refused_untold c (round_refusal c r)) (keep-nothing r (after cs r) (tale cs r) h)

  -- ALL CALLS, with no accepted opening among them
  pub over_calls : (cs : List Call) (r : Round) → Fine r → NoOpening cs → P r (after cs r) (tale cs r)
  unfolding NoOpening after story model_replies leaves deed act told took_in shut_by says
  over_calls [] r f n = keep-end r f
  over_calls (opening u ∷ cs) r f n =
      one_call (opening u) cs r (λ e. let h = opens u r e in absurd (omega (arith, n.0))) (over_calls cs r f n.1)
  over_calls (acting (taking x) ∷ cs) r f n =
      one_call (acting (taking x)) cs r
      (λ e.
      let k = takes r x e in
      keep-took r (after cs (taken r x)) f x k (tale cs (taken r x)) (over_calls cs (taken r x) (taken_fine r f x k) n))
      (over_calls cs r f n)
  over_calls (acting sending ∷ cs) r f n =
      one_call (acting sending) cs r
      (λ e.
      let t = sends r e in
      rw (sending_told r) (keep-went r (after cs (sent r)) f t (tale cs (sent r)) (over_calls cs (sent r) (sent_fine r f t) n)))
      (over_calls cs r f n)
  over_calls (acting sealing ∷ cs) r f n =
      one_call (acting sealing) cs r
      (λ e. keep-shut r (after cs (sealed r)) f (tale cs (sealed r)) (over_calls cs (sealed r) (sealed_fine r f) n))
      (over_calls cs r f n)
  over_calls (asking q ∷ cs) r f n =
      one_call (asking q) cs r (λ e. rw (question_leaves q r) (keep-nothing r (after cs r) (tale cs r) (over_calls cs r f n))) (over_calls cs r f n)
