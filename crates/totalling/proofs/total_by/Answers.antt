-- `totalling::total_by` meets its contract.
use Rattle.std.proofs.Common.{◌≡◌, ◌∙◌, Err, rules, arith, sym}
use Rattle.theory.specs.Outcomes.{question_judges, total_said}
use Rattle.rules.specs.Calls.{totalling, asking}
use Rattle.checks.proofs.Refused.{refused_says, unsound_says}
use Rattle.round.proofs.ByHead.{totalling_by}
use Rattle.totalling.proofs.total_by.Goals as goal

pub whole_as_slice-scan : goal.whole_as_slice-scan
whole_as_slice-scan g c = omega arith

pub whole_as_slice-total_ahead : goal.whole_as_slice-total_ahead
whole_as_slice-total_ahead g c = omega arith

pub returns-in_err-round : goal.returns-in_err-round
returns-in_err-round g c =
    let e : c.from_residual.result ≡ Err c.in_err-round.field-0.0 = search rules in
    rw e (unsound_says (asking totalling) c.args.table.now _ (question_judges totalling) c.in_err-round.ensures.0)

pub returns-in_err-may_send : goal.returns-in_err-may_send
returns-in_err-may_send g c =
    let e : c.from_residual-in_err-may_send.result ≡ Err c.in_err-may_send.field-0.0 = search rules in
    let k = c.in_ok-round.ensures in
    rw e (refused_says (asking totalling) c.args.table.now _ _ (totalling_by c.args.table.now c.in_ok-round.round k.0 k.1)
    (omega (arith, c.in_err-may_send.ensures)))

pub returns : goal.returns
returns g c =
    let t = c.args.table.now in
    let k = c.in_ok-round.ensures in
    total_said t c.total_ahead.result k.0 (totalling_by t c.in_ok-round.round k.0 k.1 ∙ sym c.in_ok-may_send.ensures) c.total_ahead.ensures
