-- `send_counted` meets its contract: where refused, by what the tests gave.
use mathlib.Core.Path.{◌≡◌}
use native.Mathlib.Omega.{arith}
use Rattle.std.proofs.Common.{rules, Err}
use Rattle.rules.specs.Calls.{sending, acting}
use Rattle.theory.specs.Outcomes.{act_judges}
use Rattle.checks.proofs.Refused.{refused_says, unsound_says}
use Rattle.round.proofs.ByHead.{sending_by}
use Rattle.sending.proofs.send_counted.Goals as goal

pub returns-in_err-round : goal.returns-in_err-round
returns-in_err-round g c =
    let e : c.from_residual.result ≡ Err c.in_err-round.field-0.0 = search rules in
    rw e (unsound_says (acting sending) c.args.table.now _ (act_judges sending) c.in_err-round.ensures.0)

pub returns-in_err-may_send : goal.returns-in_err-may_send
returns-in_err-may_send g c =
    let j = c.in_ok-round.ensures in
    let e : c.from_residual-in_err-may_send.result ≡ Err c.in_err-may_send.field-0.0 = search rules in
    rw e (refused_says (acting sending) c.args.table.now _ _ (sending_by c.args.table.now c.in_ok-round.round j.0 j.1)
    (omega (arith, c.in_err-may_send.ensures)))
