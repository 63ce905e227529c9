-- `head::write_head` meets its contract: five stores of numbers are the head's numbers.
use Rattle.sorts.specs.Tail.{tail_of}
use Rattle.head.proofs.WriteLaws.{head_stored}
use Rattle.head.proofs.write_head.Goals as goal

pub returns : goal.returns
returns c =
    head_stored _ _ _ _ _ _ _ _ _ _ (tail_of c.args.round) c.requires.0 c.write.ensures c.write-2.ensures
    c.write-3.ensures c.write-4.ensures (cc c.write-5.ensures)
