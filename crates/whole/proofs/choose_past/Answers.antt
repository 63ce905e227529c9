-- `whole::choose_past` meets its contract: the second pass and the segment of the heaviest row tell the pick (`WholeLaws`).
use native.Mathlib.Omega.{arith}
use Rattle.whole.proofs.WholeLaws.{goes_first, goes_past, filled, slots_fit, past_from, past_first, past_far, past_kept}
use Rattle.whole.proofs.choose_past.Goals as goal

pub overflow_sub-ahead : goal.overflow_sub-ahead
overflow_sub-ahead c = past_from c.requires c.rank_due.ensures

pub returns-then-first_goes : goal.returns-then-first_goes
returns-then-first_goes c =
    past_first c.requires c.look-found.ensures (goes_first c.args.best c.look-found.result _ c.first_goes.ensures c.if-first_goes.true) (omega arith)

pub returns-then-reach-ahead : goal.returns-then-reach-ahead
returns-then-reach-ahead c =
    past_far c.requires c.look-found.ensures (goes_past c.args.best c.look-found.result _ c.first_goes.ensures c.if-first_goes.false)
    c.rank_due.ensures (omega (arith, c.if-reach-ahead.true, past_from c.requires c.rank_due.ensures)) (omega arith)

pub stretch_of-own-requires : goal.stretch_of-own-requires
stretch_of-own-requires c = (filled c.requires.given, omega (arith, c.if-reach-ahead.false))

pub overflow_cast-own : goal.overflow_cast-own
overflow_cast-own c = omega (arith, (slots_fit c.requires.given c.stretch_of-own.ensures).0)

pub overflow_add-slot : goal.overflow_add-slot
overflow_add-slot c = omega (arith, (slots_fit c.requires.given c.stretch_of-own.ensures).0)

pub returns-then-first_goes-2 : goal.returns-then-first_goes-2
returns-then-first_goes-2 c =
    past_first c.requires c.look-found-2.ensures (goes_first c.args.best c.look-found-2.result _ c.first_goes-2.ensures c.if-first_goes-2.true)
    (omega arith)

pub returns : goal.returns
returns c =
    past_kept c.requires c.look-found-2.ensures (goes_past c.args.best c.look-found-2.result _ c.first_goes-2.ensures c.if-first_goes-2.false)
    c.rank_due.ensures (omega (arith, past_from c.requires c.rank_due.ensures)) c.stretch_of-own.ensures (omega arith) (omega arith) (omega arith)
    (omega arith)
