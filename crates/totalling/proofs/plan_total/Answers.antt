-- `totalling::plan_total` meets its contract.
use native.Mathlib.Omega.{arith}
use Rattle.round.proofs.PlacesLaws.{few_places, many_places}
use Rattle.totalling.proofs.plan_total.Goals as goal

pub total_by-requires : goal.total_by-requires
total_by-requires c = (few_places c.args.table.now (omega arith), omega arith)

pub total_by-requires-2 : goal.total_by-requires-2
total_by-requires-2 c = (many_places c.args.table.now, omega arith)
