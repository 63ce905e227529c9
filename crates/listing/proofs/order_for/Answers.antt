-- `listing::order_for`: counts of its own, few for a small table.
use native.Mathlib.Omega.{arith}
use Rattle.round.proofs.PlacesLaws.{few_places, many_places}
use Rattle.listing.proofs.order_for.Goals as goal

pub order_by-requires : goal.order_by-requires
order_by-requires c = (few_places c.args.table.now (omega arith), omega arith)

pub order_by-requires-2 : goal.order_by-requires-2
order_by-requires-2 c = (many_places c.args.table.now, omega arith)
