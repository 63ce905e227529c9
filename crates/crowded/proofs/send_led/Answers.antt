-- `crowded::send_led` meets its contract.
use Rattle.crowded.proofs.CrowdedLaws.{first_lent, first_alone, planned_step}
use Rattle.went.proofs.SendLaws.{alone_asks}
use native.Mathlib.Omega.{arith}
use mathlib.Core.Bool.{false}
use Rattle.crowded.proofs.send_led.Goals as goal

pub first_planned-row-requires : goal.first_planned-row-requires
first_planned-row-requires c = first_lent c.requires

pub send_row-requires : goal.send_row-requires
send_row-requires c =
    alone_asks (first_alone c.requires (omega arith) c.first_planned-row.ensures) c.requires.due

pub returns-then-round-eq1 : goal.returns-then-round-eq1
returns-then-round-eq1 c =
    c.send_row.ensures.sent false (first_alone c.requires (omega arith) c.first_planned-row.ensures)

pub send_planned-requires : goal.send_planned-requires
send_planned-requires c =
    (planned_step c.requires (λ e. omega (arith, e, c.if-round-eq1.false)) _ _ _ _ c.segments_of-lead.ensures, c.requires.due)
