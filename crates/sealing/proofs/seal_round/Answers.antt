-- `seal_round` meets its contract: where refused and once written, by what the tests gave.
use mathlib.Core.Path.{◌≡◌}
use native.Mathlib.Omega.{arith}
use Rattle.std.proofs.Common.{rules, Err}
use Rattle.rules.specs.Calls.{sealing, acting}
use Rattle.theory.specs.Outcomes.{act_judges}
use Rattle.checks.proofs.Refused.{refused_says, unsound_says}
use Rattle.round.proofs.ByHead.{sealing_by}
use Rattle.sealing.proofs.Closed.{byte_there, closed_says}
use Rattle.sealing.proofs.seal_round.Goals as goal

pub returns-in_err-round : goal.returns-in_err-round
returns-in_err-round c =
    let e : c.from_residual.result ≡ Err c.in_err-round.field-0.0 = search rules in
    rw e (unsound_says (acting sealing) c.args.table.now _ (act_judges sealing) c.in_err-round.ensures.0)

pub returns-in_err-may_send : goal.returns-in_err-may_send
returns-in_err-may_send c =
    let j = c.in_ok-round.ensures in
    let e : c.from_residual-in_err-may_send.result ≡ Err c.in_err-may_send.field-0.0 = search rules in
    rw e (refused_says (acting sealing) c.args.table.now _ _ (sealing_by c.args.table.now c.in_ok-round.round j.0 j.1)
    (omega (arith, c.in_err-may_send.ensures)))

pub bounds-table-10 : goal.bounds-table-10
bounds-table-10 c = let j = c.in_ok-round.ensures in search (byte_there c.args.table.now c.in_ok-round.round j.0 j.1, rules)

pub returns : goal.returns
returns c =
    let j = c.in_ok-round.ensures in
    closed_says c.args.table.now c.in_ok-round.round j.0 j.1 _ _ (omega (arith, c.in_ok-may_send.ensures)) (omega arith) (omega arith)
