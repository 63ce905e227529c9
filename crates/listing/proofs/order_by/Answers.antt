-- `listing::order_by`: 2 or 3, 5, then 12, then the rows.
use Rattle.std.proofs.Common.{◌≡◌, Err, sym, rules, arith}
use Rattle.refusals.proofs.Numbers.{refusal_counts}
use Rattle.checks.proofs.Accepted.{send_accepted}
use Rattle.listing.proofs.Listings.{ready, table_says, over_says, short_says, accepted_says}
use Rattle.listing.proofs.order_by.Goals as goal

pub whole_as_slice-scan : goal.whole_as_slice-scan
whole_as_slice-scan g c = omega arith

pub whole_as_slice-rows_of : goal.whole_as_slice-rows_of
whole_as_slice-rows_of g c = omega arith

pub returns-in_err-round : goal.returns-in_err-round
returns-in_err-round g c =
    let e : c.from_residual.result ≡ Err c.in_err-round.field-0.0 = search rules in rw e (table_says _ _ _ _ c.in_err-round.ensures)

pub returns-in_err-may_send : goal.returns-in_err-may_send
returns-in_err-may_send g c =
    let e : c.from_residual-in_err-may_send.result ≡ Err c.in_err-may_send.field-0.0 = search rules in
    let k = c.in_ok-round.ensures in
    rw e (over_says _ _ _ _ _ k.0 k.1 c.in_err-may_send.ensures (λ z. omega (arith, z, refusal_counts c.in_err-may_send.field-0.0)))

pub returns-then-room-order : goal.returns-then-room-order
returns-then-room-order g c =
    let k = c.in_ok-round.ensures in
    let f = ready c.args.table.now c.in_ok-round.round k.0 k.1 (send_accepted _ _ (sym c.in_ok-may_send.ensures)) in
    short_says _ _ _ _ _ f c.rows_of-order.ensures (search rules)

pub returns : goal.returns
returns g c =
    let k = c.in_ok-round.ensures in
    let f = ready c.args.table.now c.in_ok-round.round k.0 k.1 (send_accepted _ _ (sym c.in_ok-may_send.ensures)) in
    let l = accepted_says _ _ _ c.args.room _ f c.rows_of-order.ensures (search rules) in
    search l
