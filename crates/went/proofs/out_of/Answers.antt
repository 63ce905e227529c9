-- `went::out_of` meets its contract.
use Rattle.went.proofs.SendLaws.{frame_goes, kept_goes}
use Rattle.went.proofs.out_of.Goals as goal

pub returns-then-is_kept : goal.returns-then-is_kept
returns-then-is_kept c = kept_goes c.ticket_at-ticket.ensures c.if-is_kept.ensures

pub returns : goal.returns
returns c = frame_goes c.ticket_at-ticket.ensures c.if-is_kept.ensures
