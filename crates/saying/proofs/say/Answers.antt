-- `saying::say` meets its contract.
use Rattle.replying.proofs.Replying.{said_by, done_said, closed_said}
use Rattle.saying.proofs.say.Goals as goal

pub returns-in-Ok-Opened : goal.returns-in-Ok-Opened
returns-in-Ok-Opened c = said_by c.write_bare_in_room.ensures (rw (c.in-Ok-Opened.is, rw c.in-Ok-Opened.is at c.in-Ok-Opened.field-0-is) done_said)

pub returns-in-Ok-Sealed : goal.returns-in-Ok-Sealed
returns-in-Ok-Sealed c =
    said_by c.write_bare_in_room-in-Ok-Sealed.ensures (rw (c.in-Ok-Sealed.is, rw c.in-Ok-Sealed.is at c.in-Ok-Sealed.field-0-is) closed_said)
