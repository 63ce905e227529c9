-- `sending::send_slot` meets its contract.
use native.Mathlib.Omega.{arith}
use Rattle.round.proofs.PlacesLaws.{few_places, many_places}
use Rattle.sending.proofs.send_slot.Goals as goal

pub send_counted-requires : goal.send_counted-requires
send_counted-requires c = (few_places c.args.table.now (omega arith), omega arith)

pub send_counted-requires-2 : goal.send_counted-requires-2
send_counted-requires-2 c = (many_places c.args.table.now, omega arith)
