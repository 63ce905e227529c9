-- Sending on a sound table, what is answered and every byte left: send_accepted, answer_sent, sending_leaves, table_parts.
use Rattle.std.specs.Prelude.{◌≡◌, cond, List, ◌++◌, ℕ, ◌*◌, ◌-◌, ◌≤◌, leb, length, replicate}
use Rattle.std.proofs.Common.{sym, ◌∙◌}
use borrow.Author.Tests.{le-ltb}
use Rattle.rules.specs.Limits.{row_size}
use Rattle.rules.specs.Rows.{Row}
use Rattle.rules.specs.Plan.{plan, first_end}
use Rattle.rules.specs.Steps.{goes, sent, is_ordinary}
use Rattle.rules.specs.Table.{rows_bytes, table, round_in, table_refusal}
use Rattle.rules.specs.Calls.{sending, acting, act, deed, first, table_first, round_refusal, step, ordinary, leap, out_of, says, leaves, refusal, answer, left}
use Rattle.theory.specs.Back.{head_of, table_is}
use Rattle.theory.specs.Sane.{sound}

module _ (t : List ℕ) (s : table_refusal t ≡ 0) (o : (round_in t).slot ≤ (round_in t).last) where
  pub send_accepted : refusal (acting sending) t ≡ 0
  unfolding refusal first table_first round_refusal deed act
  send_accepted = rw (s, le-ltb (round_in t).last (round_in t).slot o)

  -- WHAT IS ANSWERED
  pub answer_sent : (p : Row) → goes (round_in t) ≡ p →
      answer (acting sending) t ≡ step (cond (leb p.due (first_end (round_in t) (plan (round_in t)))) (ordinary (out_of p)) (leap (out_of p)))
  unfolding answer says deed act is_ordinary
  answer_sent p e = rw (send_accepted, e)

  -- WHAT IS LEFT
  pub sending_leaves : left (acting sending) t ≡ table (sent (round_in t))
  unfolding left leaves deed act
  sending_leaves = rw send_accepted

-- the table's own parts
pub table_parts : (t : List ℕ) → table_refusal t ≡ 0 →
    t ≡ head_of (round_in t) ++ (rows_bytes (round_in t).rows ++ replicate (row_size * ((round_in t).room - length (round_in t).rows)) 0)
table_parts t s = sym (sound t s).bytes ∙ table_is (round_in t)
