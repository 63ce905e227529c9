-- `substituting::finding::rows_before` meets its contract.
use native.Mathlib.Omega.{arith}
use Rattle.round.proofs.ReadLaws.{known}
use Rattle.substituting.proofs.FindLaws.{parts_all, parts_met, parts_low, parts_high}
use Rattle.substituting.proofs.finding.rows_before.Goals as goal

pub loop-low-init : goal.loop-low-init
loop-low-init c =
    let t = c.args.sound.now.table.now in
    let h = c.args.sound.now.round in
    (omega arith, omega (arith, (known t h c.args.sound.now.ready).used, (known t h c.args.sound.now.ready).small), parts_all t h c.args.sound.now.ready c.args.ticket.0)

pub overflow_sub-mid : goal.overflow_sub-mid
overflow_sub-mid c = omega arith

pub overflow_add-mid : goal.overflow_add-mid
overflow_add-mid c = omega arith

pub ticket_at-requires : goal.ticket_at-requires
ticket_at-requires c = omega arith

pub overflow_add-low : goal.overflow_add-low
overflow_add-low c = omega arith

pub loop-low-smaller-then-ticket_at-ticket : goal.loop-low-smaller-then-ticket_at-ticket
loop-low-smaller-then-ticket_at-ticket c = omega arith

pub loop-low-preserved-then-ticket_at-ticket : goal.loop-low-preserved-then-ticket_at-ticket
loop-low-preserved-then-ticket_at-ticket c = (
  omega arith,
  c.loop-low.invariant.1,
  parts_low c.args.sound.now.table.now c.args.sound.now.round c.args.sound.now.ready c.args.ticket.0 _ _ _
      c.loop-low.invariant.2 _ c.ticket_at.ensures (omega arith) (omega arith),
)

pub loop-low-smaller : goal.loop-low-smaller
loop-low-smaller c = omega arith

pub loop-low-preserved : goal.loop-low-preserved
loop-low-preserved c = (
  omega arith,
  c.loop-low.invariant.1,
  parts_high c.args.sound.now.table.now c.args.sound.now.round c.args.sound.now.ready
      c.args.ticket.0 _ _ _ c.loop-low.invariant.2 _ c.ticket_at.ensures (omega arith)
      (omega arith) (omega arith),
)

pub returns : goal.returns
returns c = parts_met c.args.sound.now.table.now c.args.sound.now.round c.args.sound.now.ready c.args.ticket.0 _ _ c.loop-low.invariant.2
    (omega arith)
