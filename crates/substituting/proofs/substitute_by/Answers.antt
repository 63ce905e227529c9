-- `substituting::substitute_by` meets its contract.
use Rattle.std.proofs.Common.{◌≡◌, ◌∙◌, Err, rules, arith, sym, refl}
use Rattle.refusals.proofs.Numbers.{refusal_counts}
use Rattle.checks.proofs.Accepted.{send_accepted}
use Rattle.round.proofs.ByHead.{slot_left_by}
use Rattle.round.proofs.ReadLaws.{known}
use Rattle.questions.proofs.SeenLaws.{ready}
use Rattle.substituting.proofs.StandLaws.{substitute_table, substitute_over, substitute_nowhere, substitute_found}
use Rattle.substituting.proofs.substitute_by.Goals as goal

pub whole_as_slice-scan : goal.whole_as_slice-scan
whole_as_slice-scan g c = omega arith

pub whole_as_slice-substitute_row : goal.whole_as_slice-substitute_row
whole_as_slice-substitute_row g c = omega arith

pub returns-in_err-round : goal.returns-in_err-round
returns-in_err-round g c =
    let e : c.from_residual.result ≡ Err c.in_err-round.field-0.0 = search rules in
    let h = c.in_err-round.ensures in
    rw e (substitute_table c.args.ticket.0 c.args.table.now _ h.0 h.1, refl)

pub returns-in_err-may_send : goal.returns-in_err-may_send
returns-in_err-may_send g c =
    let e : c.from_residual-in_err-may_send.result ≡ Err c.in_err-may_send.field-0.0 = search rules in
    let t = c.args.table.now in
    let k = c.in_ok-round.ensures in
    rw e (
      substitute_over c.args.ticket.0 t k.0 _ (slot_left_by t c.in_ok-round.round k.0 k.1 ∙ sym c.in_err-may_send.ensures)
          (λ z. omega (arith, z, refusal_counts c.in_err-may_send.field-0.0)),
      refl,
    )

pub returns-in_default : goal.returns-in_default
returns-in_default g c =
    let t = c.args.table.now in
    let k = c.in_ok-round.ensures in
    (substitute_nowhere c.args.ticket.0 t k.0 (slot_left_by t c.in_ok-round.round k.0 k.1 ∙ sym c.in_ok-may_send.ensures) c.in_default.ensures, refl)

pub substitute_row-requires : goal.substitute_row-requires
substitute_row-requires g c =
    let t = c.args.table.now in
    let h = c.in_ok-round.round in
    let k = c.in_ok-round.ensures in
    let a = send_accepted _ _ (sym c.in_ok-may_send.ensures) in
    let f = c.in-Some.ensures in
    (k.2 a, omega (arith, f.0, (known t h (ready t h k.0 k.1 a)).used))

pub returns : goal.returns
returns g c =
    let t = c.args.table.now in
    let h = c.in_ok-round.round in
    let k = c.in_ok-round.ensures in
    let a = send_accepted _ _ (sym c.in_ok-may_send.ensures) in
    let f = c.in-Some.ensures in (
      c.substitute_row.ensures
          ∙ substitute_found c.args.ticket.0 t k.0 (slot_left_by t h k.0 k.1 ∙ sym c.in_ok-may_send.ensures) (known t h (ready t h k.0 k.1 a)).fine _ f,
      refl,
    )
