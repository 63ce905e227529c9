-- `first_crowded`: no place before it crowds.
use Rattle.leaving.proofs.GoingLaws.{looking_more}
use borrow.Author.Rules.{rules}
use Rattle.leaving.proofs.first_crowded.Goals as goal

pub loop-place-preserved : goal.loop-place-preserved
loop-place-preserved c = looking_more _ _ _ c.loop-place.invariant _ _ (search rules) c.ahead_of.ensures (search rules)
