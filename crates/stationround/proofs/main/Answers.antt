-- `stationround::main`: nothing is read at first; a read served is one read more.
use Rattle.std.proofs.Common.{rules, arith}
use mathlib.Core.Path.{ap}
use Rattle.serving.specs.Serving.{held_in}
use Rattle.serving.proofs.OneRead.{held_short}
use Rattle.stationround.proofs.SoFar.{so_far_none, so_far_more}
use Rattle.stationround.proofs.main.Goals as goal

pub loop-init : goal.loop-init
loop-init c = (search rules, so_far_none _ _ (search rules))

pub loop-preserved : goal.loop-preserved
loop-preserved c =
    let served = c.serve_in_room-served.ensures in (
      omega (arith, held_short served, ap held_in c.in-Some.is),
      so_far_more c.loop.invariant.1 c.read_behind-got.ensures.input_unchanged served (omega arith) c.in-Some.is,
    )
