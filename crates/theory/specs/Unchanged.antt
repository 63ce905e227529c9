-- WHAT IS REFUSED changes nothing, and says its number: refused_unchanged, numbers, list_refused_unchanged.
use Rattle.std.specs.Prelude.{◌≡◌, refl, List, ℕ, length}
use Rattle.std.proofs.Common.{sym, ◌∙◌, inl, inr, ne_eqb}
use Rattle.rules.specs.Rows.{Round}
use Rattle.rules.specs.Table.{round_in}
use Rattle.rules.specs.Calls.{taking, sending, sealing, marking, totalling, Call, opening, acting, asking, act, question, deed, number_of, says, refusal, answer}
use Rattle.rules.specs.Looking.{list_refusal, list_answer, list_left}
use Rattle.rules.specs.Lines.{Command, write_refusal, write_answer, write_left}
use Rattle.rules.specs.Demands.{Refused, RefusedUnchanged, Numbers, ListRefusedUnchanged}
use Rattle.theory.specs.Tests.{eqb?}
use Rattle.theory.specs.Outcomes.{says_refused}

-- the writer
pub write_unchanged : (c : Command) (ps z : List ℕ) →
    Refused (write_refusal c ps (length z)) (write_answer c ps (length z)) z (write_left c ps z)
unfolding write_answer write_left
write_unchanged c ps z h = let f = ne_eqb (write_refusal c ps (length z)) 0 h in (rw f, rw f)

pub refused_unchanged : RefusedUnchanged
unfolding RefusedUnchanged
refused_unchanged = (
  λ c t h. let s = says_refused c t (refusal c t) refl h in (sym s.0, sym s.1),
  write_unchanged,
)

-- a reply's number
pub says_number : (c : Call) (r : Round) → number_of (says c r) ≡ 0
unfolding says deed act question number_of
says_number (opening u) r = refl
says_number (acting (taking f)) r = refl
says_number (acting sending) r = refl
says_number (acting sealing) r = refl
says_number (asking (marking s)) r = refl
says_number (asking totalling) r = refl

pub numbers : Numbers
unfolding Numbers answer number_of
numbers c t = elim (eqb? (refusal c t) 0) [
  | inl e ↦ rw e.0 (says_number c (round_in t) ∙ sym e.1)
  | inr e ↦ rw e.0
]

pub list_refused_unchanged : ListRefusedUnchanged
unfolding ListRefusedUnchanged list_answer list_left
list_refused_unchanged A E shown entry t es h = let f = ne_eqb (list_refusal shown t (length es)) 0 h in (rw f, rw f)
