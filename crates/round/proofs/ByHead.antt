-- Each call's refusals on a sound table, by the head's numbers.
use mathlib.Core.Path.{◌≡◌, ◌∙◌}
use mathlib.Core.List.{List, [], ◌∷◌}
use Prim.Native.Nat.{ℕ}
use lib.ListN.{drop}
use Rattle.rules.specs.Limits.{head_size}
use Rattle.rules.specs.Rows.{Frame, round}
use Rattle.rules.specs.Table.{round_in, table_refusal}
use Rattle.rules.specs.Conditions.{used_in}
use Rattle.rules.specs.Calls.{taking, sending, sealing, marking, totalling, acting, asking, over, act, question, deed, round_refusal, refusal}
use Rattle.theory.specs.Clauses.{rows_count}
use Rattle.theory.specs.Outcomes.{act_judges, question_judges, by_round}
use Rattle.sorts.specs.declared.Round.{Round}
use Rattle.rules.specs.Calls.{first_of, take_tests, send_tests, seal_tests, mark_tests}
use Rattle.sorts.specs.Tail.{tail_of}
use Rattle.head.specs.Head.{HeadOf}

abbrev pub taking_number : Round → Frame → ℕ
taking_number h f = first_of (take_tests h.slot.0 h.last.0 h.next.0 h.used h.room (tail_of h) f)

abbrev pub sending_number : Round → ℕ
sending_number h = first_of (send_tests h.slot.0 h.last.0)

abbrev pub sealing_number : Round → ℕ
sealing_number h = first_of (seal_tests h.slot.0 h.last.0)

abbrev pub marking_number : Round → (slot : ℕ) → ℕ
marking_number h s = first_of (mark_tests h.slot.0 h.last.0 s)

module _ (t : List ℕ) (h : Round) (sound : table_refusal t ≡ 0) (head : HeadOf t h) where
  pub taking_by : (f : Frame) → refusal (acting (taking f)) t ≡ taking_number h f
  unfolding round_refusal deed act round_in round
  taking_by f =
      by_round (acting (taking f)) t (act_judges (taking f)) sound
      ∙ rw (rows_count (used_in t) (drop head_size t), ← head.slot, ← head.last, ← head.next, ← head.used, ← head.room, ← head.sealed)

  pub slot_left_by : first_of (over (round_in t).slot (round_in t).last ∷ []) ≡ sending_number h
  unfolding round_in round
  slot_left_by = rw (← head.slot, ← head.last)

  pub sending_by : refusal (acting sending) t ≡ sending_number h
  unfolding round_refusal deed act
  sending_by = by_round (acting sending) t (act_judges sending) sound ∙ slot_left_by

  pub sealing_by : refusal (acting sealing) t ≡ sealing_number h
  unfolding round_refusal deed act
  sealing_by = by_round (acting sealing) t (act_judges sealing) sound ∙ slot_left_by

  pub totalling_by : refusal (asking totalling) t ≡ sending_number h
  unfolding round_refusal deed question
  totalling_by = by_round (asking totalling) t (question_judges totalling) sound ∙ slot_left_by

  pub marking_by : (s : ℕ) → refusal (asking (marking s)) t ≡ marking_number h s
  unfolding round_refusal deed question round_in round
  marking_by s = by_round (asking (marking s)) t (question_judges (marking s)) sound ∙ rw (← head.slot, ← head.last)
