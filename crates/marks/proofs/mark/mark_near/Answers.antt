-- `marks::mark::mark_near` meets its contract.
use Rattle.marks.proofs.NearLaws.{low_fine, mark_found}
use Rattle.marks.proofs.mark.mark_near.Goals as goal

pub weight_of-requires : goal.weight_of-requires
weight_of-requires c = let l = c.requires in low_fine _ _ _ _ _ _ _ l.given _ (c.lightest_by_end.ensures l.of l.n l.given)

pub returns : goal.returns
returns c = λ r n a. mark_found r _ _ _ _ n _ a _ (c.lightest_by_end.ensures r n a) _ c.weight_of.ensures
