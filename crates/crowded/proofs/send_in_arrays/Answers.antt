-- `crowded::send_in_arrays` meets its contract.
use native.Mathlib.Omega.{arith}
use Rattle.plan.proofs.LentLaws.{ones_front, ones_long}
use Rattle.crowded.proofs.CrowdedLaws.{crowded}
use Rattle.crowded.proofs.send_in_arrays.Goals as goal

pub slice_bounds-send_crowded-end-2 : goal.slice_bounds-send_crowded-end-2
slice_bounds-send_crowded-end-2 g c =
    ones_long c.args.round.used g.row.PLACES (omega (arith, c.requires.5))

pub send_crowded-requires : goal.send_crowded-requires
send_crowded-requires g c =
    rw (ones_front c.args.round.used g.row.PLACES (omega (arith, c.requires.5)))
    (crowded _ _ _ _ c.requires.0 c.requires.1 c.requires.2 c.requires.3 g.row.PLACES c.requires.5 _ c.requires.4)
