-- `every::mark_every` meets its contract.
use native.Mathlib.Omega.{arith}
use Rattle.round.proofs.ReadLaws.{known}
use Rattle.every.proofs.EveryLaws.{fills, mark_is}
use Rattle.every.proofs.mark_every.Goals as goal

pub stretch_of-stretch-requires : goal.stretch_of-stretch-requires
stretch_of-stretch-requires c = let p = c.requires in (fills _ _ _ _ p.0, omega (arith, p.1, p.2))

pub overflow_cast-stretch : goal.overflow_cast-stretch
overflow_cast-stretch c = let p = c.requires in omega (arith, c.stretch_of-stretch.ensures.near, (fills _ _ _ _ p.0).small)

pub overflow_add-current : goal.overflow_add-current
overflow_add-current c = let p = c.requires in
    let k = known _ _ p.0.ready in
    omega (arith, c.stretch_of-stretch.ensures.near, (fills _ _ _ _ p.0).small, k.slot, k.time, k.cap)

pub returns : goal.returns
returns c =
    let p = c.requires in
    mark_is _ _ _ _ p.0 _ _ _ _ p.1 c.stretch_of-stretch.ensures c.least_by.ensures (omega arith)
