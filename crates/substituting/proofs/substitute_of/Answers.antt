-- `substituting::substitute_of` meets its contract.
use native.Mathlib.Omega.{arith}
use Rattle.round.proofs.PlacesLaws.{few_places, many_places}
use Rattle.substituting.proofs.substitute_of.Goals as goal

pub substitute_by-requires : goal.substitute_by-requires
substitute_by-requires c = (few_places c.args.table.now (omega arith), omega arith)

pub substitute_by-requires-2 : goal.substitute_by-requires-2
substitute_by-requires-2 c = (many_places c.args.table.now, omega arith)
