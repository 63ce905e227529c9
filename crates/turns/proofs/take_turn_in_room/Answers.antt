-- `turns::take_turn_in_room` meets its contract: the call's reply is said.
use Rattle.turns.proofs.Turned.{turned}
use Rattle.turns.proofs.take_turn_in_room.Goals as goal

pub returns : goal.returns
returns c = turned _ c.call.ensures c.say.ensures
