-- `checks::may_take` meets its contract.
use Rattle.std.proofs.Common.{◌≡◌, Err, rules}
use Rattle.checks.proofs.Accepted.{over_first}
use Rattle.checks.proofs.may_take.Goals as goal

pub returns-in_err-may_send : goal.returns-in_err-may_send
returns-in_err-may_send c =
    let e : c.from_residual.result ≡ Err c.in_err-may_send.field-0.0 = search rules in
    rw e (over_first _ _ _ _ c.in_err-may_send.ensures)
