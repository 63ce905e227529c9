-- P10: a round just opened, whatever its last slot and room, sends silence in an ordinary step: opened_silent.
use Rattle.std.specs.Prelude.{refl}
use Rattle.std.proofs.Common.{arith}
use Rattle.rules.specs.Rows.{blank, round}
use Rattle.rules.specs.Plan.{planned}
use Rattle.rules.specs.Steps.{opened}
use Rattle.rules.specs.Calls.{act, deed, says, out_of}
use Rattle.rules.specs.Demands.{OpenedSilent}
use Rattle.theory.specs.Calls.{opened_fine}
use Rattle.theory.specs.Members.{planned_rows}
use Rattle.theory.specs.First.{silent_goes, silence_ordinary}

pub opened_silent : OpenedSilent
unfolding OpenedSilent says deed act opened round out_of blank
opened_silent u k =
    let r = opened u k in
    let f = opened_fine u k in
    let c = planned_rows r f in
    rw (silence_ordinary r f (omega arith) (planned r) c refl, silent_goes r f (omega arith) (planned r) c refl)
