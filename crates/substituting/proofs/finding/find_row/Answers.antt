-- `substituting::finding::find_row` meets its contract.
use native.Mathlib.Omega.{arith}
use Rattle.round.proofs.ReadLaws.{known}
use Rattle.substituting.proofs.FindLaws.{none_behind, none_there}
use Rattle.substituting.proofs.finding.find_row.Goals as goal

pub returns-then-row-sound : goal.returns-then-row-sound
returns-then-row-sound c = none_behind c.args.sound.now.table.now c.args.sound.now.round c.args.sound.now.ready c.args.ticket.0 _
    c.rows_before-row.ensures c.if-row-sound.true

pub ticket_at-requires : goal.ticket_at-requires
ticket_at-requires c =
    let n = c.if-row-sound.false in
    omega (arith, n, c.rows_before-row.ensures.by, (known c.args.sound.now.table.now c.args.sound.now.round c.args.sound.now.ready).used)

pub returns-then-ticket_at-ticket : goal.returns-then-ticket_at-ticket
returns-then-ticket_at-ticket c =
    let before-it = c.rows_before-row in
    let t = c.args.sound.now.table.now in
    let h = c.args.sound.now.round in
    let n = c.if-row-sound.false in
    none_there t h c.args.sound.now.ready c.args.ticket.0 _ before-it.ensures _ c.ticket_at.ensures c.if-ticket_at-ticket.true
    (omega (arith, n, before-it.ensures.by, (known t h c.args.sound.now.ready).used))

pub returns : goal.returns
returns c =
    let n = c.if-row-sound.false in (
      omega (
        arith,
        n,
        c.rows_before-row.ensures.by,
        (known c.args.sound.now.table.now c.args.sound.now.round
            c.args.sound.now.ready).used,
      ),
      omega (arith, c.ticket_at.ensures.is, c.if-ticket_at-ticket.false),
    )
