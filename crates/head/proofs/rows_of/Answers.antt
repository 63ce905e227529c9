-- `head::rows_of` meets its contract: by definition.
use borrow.Author.Rules.{rules}
use Rattle.rules.specs.Table.{rows_of}
use Rattle.head.proofs.rows_of.Goals as goal

pub returns : goal.returns
unfolding rows_of
returns c = search rules
