-- `saying::say_step` meets its contract.
use Rattle.replies.specs.Replies.{of_out}
use Rattle.replying.proofs.Replying.{said_by, ordinary_said, leap_said}
use Rattle.saying.proofs.say_step.Goals as goal

pub returns-in-Ordinary : goal.returns-in-Ordinary
returns-in-Ordinary c = said_by c.say_out.ensures (rw c.in-Ordinary.is
    (ordinary_said (of_out c.in-Ordinary.out)))

pub returns-in-Leap : goal.returns-in-Leap
returns-in-Leap c = said_by c.say_out-in-Leap.ensures (rw c.in-Leap.is
    (leap_said (of_out c.in-Leap.out)))
