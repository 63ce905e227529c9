-- `listing::rows_of`: the order is what the view shows.
use Rattle.listing.proofs.Listings.{rows_shown}
use Rattle.listing.proofs.rows_of.Goals as goal

pub returns : goal.returns
returns c = rows_shown c.args.view _ _ c.order_of.ensures
