-- `lightest`: no place before crowds, and the loop has the greatest key so far.
use Rattle.leaving.proofs.GoingLaws.{looking_more, greatest_more}
use borrow.Author.Rules.{rules}
use Rattle.leaving.proofs.lightest.Goals as goal

pub loop-at-preserved : goal.loop-at-preserved
loop-at-preserved c = let i = c.loop-at.invariant in (looking_more _ _ _ i.0 _ _ (search rules) c.ahead_of.ensures (search rules), greatest_more _ _ _ _ _ i.1 (search rules) c.max-top.ensures)
