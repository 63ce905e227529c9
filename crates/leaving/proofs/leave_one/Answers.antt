-- `leave_one`: the greatest key names the row that leaves.
use Rattle.leaving.proofs.GoingLaws.{one_left}
use borrow.Author.Rules.{rules}
use Rattle.leaving.proofs.leave_one.Goals as goal

pub returns : goal.returns
returns c =
    let p = c.requires in
    one_left _ _ _ _ _ _ p.0 c.lightest-top.ensures _ _ p.1 c.row_of.ensures (search rules)
