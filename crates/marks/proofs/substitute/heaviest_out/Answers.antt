-- `marks::substitute::heaviest_out` meets its contract: the loop is `Backing`, for every round that the arrays are given for.
use mathlib.Core.Path.{refl}
use native.Mathlib.Omega.{arith}
use Rattle.marks.proofs.NearLaws.{stops, stays, takes, back_over, left_there}
use Rattle.marks.proofs.substitute.heaviest_out.Goals as goal

pub returns-then-due_of-from : goal.returns-then-due_of-from
returns-then-due_of-from c = λ r s n g.
    stops r _ _ _ s n g _ _ _ _ (omega arith) (omega arith) refl (c.loop-p.invariant r s n g) _ c.due_of.ensures
    c.if-due_of-from.true

pub bounds-flags-row_of : goal.bounds-flags-row_of
bounds-flags-row_of c = left_there _ _ _ c.requires _ _ _ (omega arith) refl c.row_of.ensures

pub loop-p-preserved-then-flags-row_of-ne1 : goal.loop-p-preserved-then-flags-row_of-ne1
loop-p-preserved-then-flags-row_of-ne1 c = λ r s n g.
    takes r _ _ _ s n g _ _ _ _ (omega arith) (omega arith) refl (c.loop-p.invariant r s n g) _ _ _
    c.due_of.ensures c.if-due_of-from.false c.row_of.ensures c.if-flags-row_of-ne1.true c.min-out.ensures

pub loop-p-preserved : goal.loop-p-preserved
loop-p-preserved c = λ r s n g.
    stays r _ _ _ s n g _ _ _ _ (omega arith) (omega arith) refl (c.loop-p.invariant r s n g) _ _
    c.due_of.ensures c.if-due_of-from.false c.row_of.ensures c.if-flags-row_of-ne1.false

pub returns : goal.returns
returns c = λ r s n g. back_over r _ _ _ s n g _ _ _ (omega arith) (c.loop-p.invariant r s n g)
