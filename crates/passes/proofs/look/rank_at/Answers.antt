-- `passes::look::rank_at`: the rank of what is read.
use borrow.Author.Rules.{rules}
use Rattle.passes.proofs.BestLaws.{rank_read}
use Rattle.passes.proofs.look.rank_at.Goals as goal

pub returns : goal.returns
returns c = rank_read _ _ _ _ _ c.due_at.ensures (search rules) c.rank_of.ensures
