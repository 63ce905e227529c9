-- `marking::mark_of` meets its contract.
use native.Mathlib.Omega.{arith}
use Rattle.round.proofs.PlacesLaws.{few_places, many_places}
use Rattle.marking.proofs.mark_of.Goals as goal

pub mark_by-requires : goal.mark_by-requires
mark_by-requires c = (few_places c.args.table.now (omega arith), omega arith)

pub mark_by-requires-2 : goal.mark_by-requires-2
mark_by-requires-2 c = (many_places c.args.table.now, omega arith)
