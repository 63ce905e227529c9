-- `listing::entry_at`: the numbers that are read.
use Rattle.listing.proofs.ListFilled.{entry_is}
use Rattle.listing.proofs.entry_at.Goals as goal

pub returns : goal.returns
returns c = entry_is c.args.view _ _ _ c.numbers_at-numbers.ensures
