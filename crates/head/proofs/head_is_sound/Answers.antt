-- `head::head_is_sound` meets its contract: the tests are those of the head's judge.
use Rattle.head.proofs.HeadLaws.{head_is}
use Rattle.head.proofs.head_is_sound.Goals as goal

pub returns : goal.returns
returns c = rw (c.head_is_good.ensures, c.read.ensures, c.read-2.ensures)
    (search (head_is, c.requires.1))
