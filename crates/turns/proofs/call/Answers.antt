-- `turns::call` meets its contract: the call that the command asks for, and its reply.
use mathlib.Core.Path.{◌≡◌, refl}
use Rattle.std.specs.Prelude.{Err}
use Rattle.rules.specs.Lines.{call_of}
use Rattle.turns.proofs.Turned.{asked, same_opening, same_taking}
use borrow.Author.Rules.{rules}
use Rattle.turns.proofs.call.Goals as goal

pub returns-in_err-open_round-in-Open : goal.returns-in_err-open_round-in-Open
unfolding call_of
returns-in_err-open_round-in-Open c =
    let told : c.from_residual.result ≡ Err c.in_err-open_round-in-Open.field-0.0 = search rules in
    asked _ _ (rw c.in-Open.is (same_opening (search rules))) (rw told) c.in_err-open_round-in-Open.ensures

pub returns-in_ok-open_round-in-Open : goal.returns-in_ok-open_round-in-Open
unfolding call_of
returns-in_ok-open_round-in-Open c = asked _ _ (rw c.in-Open.is (same_opening (search rules))) refl c.in_ok-open_round-in-Open.ensures

pub returns-in_err-ticket-in-Take : goal.returns-in_err-ticket-in-Take
unfolding call_of
returns-in_err-ticket-in-Take c =
    let told : c.from_residual-in_err-ticket-in-Take.result ≡ Err c.in_err-ticket-in-Take.field-0.0 = search rules in
    asked _ _ (rw c.in-Take.is (same_taking (search rules) (search rules) (search rules))) (rw told) c.in_err-ticket-in-Take.ensures

pub returns-in_ok-ticket-in-Take : goal.returns-in_ok-ticket-in-Take
unfolding call_of
returns-in_ok-ticket-in-Take c = asked _ _ (rw c.in-Take.is (same_taking (search rules) (search rules) (search rules))) refl c.in_ok-ticket-in-Take.ensures

pub returns-in_err-send_slot-in-Send : goal.returns-in_err-send_slot-in-Send
unfolding call_of
returns-in_err-send_slot-in-Send c =
    let told : c.from_residual-in_err-send_slot-in-Send.result ≡ Err c.in_err-send_slot-in-Send.field-0.0 = search rules in
    asked _ _ (rw c.in-Send.is) (rw told) c.in_err-send_slot-in-Send.ensures

pub returns-in_ok-send_slot-in-Send : goal.returns-in_ok-send_slot-in-Send
unfolding call_of
returns-in_ok-send_slot-in-Send c = asked _ _ (rw c.in-Send.is) refl c.in_ok-send_slot-in-Send.ensures

pub returns-in_err-seal_round-in-Seal : goal.returns-in_err-seal_round-in-Seal
unfolding call_of
returns-in_err-seal_round-in-Seal c =
    let told : c.from_residual-in_err-seal_round-in-Seal.result ≡ Err c.in_err-seal_round-in-Seal.field-0.0 = search rules in
    asked _ _ (rw c.in-Seal.is) (rw told) c.in_err-seal_round-in-Seal.ensures

pub returns-in_ok-seal_round-in-Seal : goal.returns-in_ok-seal_round-in-Seal
unfolding call_of
returns-in_ok-seal_round-in-Seal c = asked _ _ (rw c.in-Seal.is) refl c.in_ok-seal_round-in-Seal.ensures

pub returns-in_err-ticket-in-Classed : goal.returns-in_err-ticket-in-Classed
unfolding call_of
returns-in_err-ticket-in-Classed c =
    let told : c.from_residual-in_err-ticket-in-Classed.result ≡ Err c.in_err-ticket-in-Classed.field-0.0 = search rules in
    asked _ _ (rw c.in-Classed.is (same_taking (search rules) (search rules) (search rules))) (rw told) c.in_err-ticket-in-Classed.ensures

pub returns-in_ok-ticket-in-Classed : goal.returns-in_ok-ticket-in-Classed
unfolding call_of
returns-in_ok-ticket-in-Classed c = asked _ _ (rw c.in-Classed.is (same_taking (search rules) (search rules) (search rules))) refl c.in_ok-ticket-in-Classed.ensures
