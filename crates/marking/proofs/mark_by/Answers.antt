-- `marking::mark_by` meets its contract.
use Rattle.std.proofs.Common.{◌≡◌, ◌∙◌, Err, rules, arith, sym}
use Rattle.theory.specs.Outcomes.{question_judges, mark_said}
use Rattle.rules.specs.Calls.{marking, asking}
use Rattle.checks.proofs.Refused.{refused_says, unsound_says}
use Rattle.round.proofs.ByHead.{marking_by}
use Rattle.marking.proofs.mark_by.Goals as goal

pub whole_as_slice-scan : goal.whole_as_slice-scan
whole_as_slice-scan g c = omega arith

pub whole_as_slice-mark_ahead : goal.whole_as_slice-mark_ahead
whole_as_slice-mark_ahead g c = omega arith

pub returns-in_err-round : goal.returns-in_err-round
returns-in_err-round g c =
    let q = marking c.args.slot.0 in
    let e : c.from_residual.result ≡ Err c.in_err-round.field-0.0 = search rules in
    rw e (unsound_says (asking q) c.args.table.now _ (question_judges q) c.in_err-round.ensures.0)

pub returns-in_err-may_mark : goal.returns-in_err-may_mark
returns-in_err-may_mark g c =
    let e : c.from_residual-in_err-may_mark.result ≡ Err c.in_err-may_mark.field-0.0 = search rules in
    let k = c.in_ok-round.ensures in
    rw e (refused_says (asking (marking c.args.slot.0)) c.args.table.now _ _
    (marking_by c.args.table.now c.in_ok-round.round k.0 k.1 c.args.slot.0) (omega (arith, c.in_err-may_mark.ensures)))

pub returns : goal.returns
returns g c =
    let t = c.args.table.now in
    let k = c.in_ok-round.ensures in
    mark_said c.args.slot.0 t c.mark_ahead.result.0 k.0
    (marking_by t c.in_ok-round.round k.0 k.1 c.args.slot.0 ∙ sym c.in_ok-may_mark.ensures) (cc c.mark_ahead.ensures)
