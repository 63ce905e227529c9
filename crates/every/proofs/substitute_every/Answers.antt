-- `every::substitute_every` meets its contract.
use native.Mathlib.Omega.{arith}
use Rattle.round.proofs.ReadLaws.{known}
use Rattle.every.proofs.EveryLaws.{fills, blank_is, row_is_low}
use Rattle.every.proofs.substitute_every.Goals as goal

pub overflow_sub-due_at : goal.overflow_sub-due_at
overflow_sub-due_at c = let p = c.requires in omega (arith, c.due_at.ensures.from, (known _ _ p.0.ready).slot)

pub stretch_of-stretch-requires : goal.stretch_of-stretch-requires
stretch_of-stretch-requires c = let p = c.requires in
    (fills _ _ _ _ p.0, omega (arith, p.2, c.due_at.ensures.is, c.due_at.ensures.from, (known _ _ p.0.ready).slot))

pub returns-then-stretch-ne0 : goal.returns-then-stretch-ne0
returns-then-stretch-ne0 c = let p = c.requires in
    blank_is _ _ _ _ p.0 _ _ p.1 c.due_at.ensures _ c.stretch_of-stretch.ensures _ c.if-stretch-ne0.true (omega arith)

pub overflow_cast-stretch : goal.overflow_cast-stretch
overflow_cast-stretch c = let p = c.requires in omega (arith, c.stretch_of-stretch.ensures.near, (fills _ _ _ _ p.0).small)

pub overflow_add-current : goal.overflow_add-current
overflow_add-current c = let p = c.requires in
    let k = known _ _ p.0.ready in
    omega (arith, c.stretch_of-stretch.ensures.near, (fills _ _ _ _ p.0).small, k.slot, k.time, k.cap)

pub returns : goal.returns
returns c = let p = c.requires in
    row_is_low _ _ _ _ p.0 _ _ p.1 c.due_at.ensures _ c.stretch_of-stretch.ensures _ _ _
    c.if-stretch-ne0.false c.lightest_by.ensures (omega arith) c.row_of.ensures
