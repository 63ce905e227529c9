-- `step::send_planned` meets its contract.
use borrow.Author.Rules.{rules}
use native.Mathlib.Omega.{arith}
use mathlib.Core.Bool.{true, false}
use Rattle.went.proofs.SendLaws.{alone_asks}
use Rattle.step.proofs.PlanLaws.{far_fits, lead_small, far_alone, first_alone, blank_leaps, row_leaps}
use Rattle.step.proofs.send_planned.Goals as goal

pub far_score-requires : goal.far_score-requires
far_score-requires c = search (far_fits, rules)

pub send_row-requires : goal.send_row-requires
send_row-requires c = alone_asks (far_alone c.requires.0 c.far_score.ensures (omega arith) c.row_of.ensures) c.requires.1

pub returns-then-lead-far_score : goal.returns-then-lead-far_score
returns-then-lead-far_score c = c.send_row.ensures.sent true (far_alone c.requires.0 c.far_score.ensures (omega arith) c.row_of.ensures)

pub overflow_add-lead : goal.overflow_add-lead
overflow_add-lead c =
    let h = lead_small c.requires.0 in
    search rules

pub send_row-requires-then-lead : goal.send_row-requires-then-lead
send_row-requires-then-lead c = alone_asks (first_alone c.requires.0 c.far_score.ensures (omega arith) (omega arith) c.row_of-then-lead.ensures) c.requires.1

pub returns-then-lead : goal.returns-then-lead
returns-then-lead c = c.send_row-then-lead.ensures.sent false (first_alone c.requires.0 c.far_score.ensures (omega arith) (omega arith) c.row_of-then-lead.ensures)

pub send_blank-requires : goal.send_blank-requires
send_blank-requires c = search (blank_leaps, rules)

pub send_swapped-requires : goal.send_swapped-requires
send_swapped-requires c = search (row_leaps, rules)
