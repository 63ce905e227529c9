-- `marks::find::find_segment` meets its contract: the loop is `Passing`, for every round that the arrays are given for.
use mathlib.Core.Path.{refl}
use native.Mathlib.Omega.{arith}
use Rattle.marks.proofs.FindLaws.{pass_start, begun_start, pass_out, pass_on, tight, pass_cut, pass_found, finds, pass_end, flag_there, edge_fits}
use Rattle.marks.proofs.find.find_segment.Goals as goal
use Rattle.marks.proofs.find.find_segment.Goals.{then-flags-row_of-eq1+then-due_of-edge+else-asked-edge, then-flags-row_of-eq1+else-due_of-edge, else-flags-row_of-eq1}

pub loop-key-init : goal.loop-key-init
loop-key-init c = (λ r n a. pass_start r _ _ _ _ n _ a _ _ refl refl, λ r n a. begun_start r _ _ _ _ n _ a _ refl)

pub bounds-flags-row_of : goal.bounds-flags-row_of
bounds-flags-row_of c = flag_there _ _ _ _ _ c.requires _ _ _ c.loop-key-test.true refl c.row_of.ensures

pub overflow_add-edge : goal.overflow_add-edge
overflow_add-edge c = omega (arith, edge_fits _ _ _ _ _ c.requires _ _ _ _ (omega arith) c.loop-key.invariant.0)

pub returns-then-asked-edge : goal.returns-then-asked-edge
returns-then-asked-edge c =
    λ r n a.
    finds r _ _ _ _ n _ a _ _ _ _ _ c.loop-key-test.true refl (c.loop-key.invariant.0 r n a) _ (c.loop-key.invariant.1 r n a)
    (pass_found r _ _ _ _ n _ a _ _ _ _ _ c.loop-key-test.true refl (c.loop-key.invariant.0 r n a) _ c.row_of.ensures
    c.if-flags-row_of-eq1.true _ _ c.due_of.ensures (omega (arith, c.if-due_of-edge.true)) (omega (arith, c.if-asked-edge.true))
    (omega (arith, c.max-low.ensures)))

pub loop-key-preserved : goal.loop-key-preserved
loop-key-preserved c =
    let i = c.loop-key.invariant in
    elim c.if-flags-row_of-eq1.branch [
      | then-flags-row_of-eq1+then-due_of-edge+else-asked-edge w ↦ rw (w.first-is, w.edge-is, w.low-is) (
        λ r n a.
            pass_cut r _ _ _ _ n _ a _ _ _ _ _ c.loop-key-test.true refl (i.0 r n a) _ c.row_of.ensures
            w.if-flags-row_of-eq1.true _ (omega (arith, w.if-asked-edge.false)) (omega (arith, w.max-low.ensures)),
        λ r n a.
            (tight r _ _ _ _ n _ a _ _ _ _ _ c.loop-key-test.true refl (i.0 r n a) _ c.row_of.ensures
            w.if-flags-row_of-eq1.true _ w.due_of.ensures (omega (arith, w.if-due_of-edge.true))).1,
      )
      | then-flags-row_of-eq1+else-due_of-edge w ↦ rw (w.first-is, w.edge-is, w.low-is) (
        λ r n a.
            pass_on r _ _ _ _ n _ a _ _ _ _ _ c.loop-key-test.true refl (i.0 r n a) _ c.row_of.ensures
            w.if-flags-row_of-eq1.true _ _ w.due_of.ensures (omega (arith, w.if-due_of-edge.false)) (omega (arith, w.max-low.ensures)),
        i.1,
      )
      | else-flags-row_of-eq1 w ↦ rw (w.first-is, w.edge-is, w.low-is) (
        λ r n a.
            pass_out r _ _ _ _ n _ a _ _ _ _ _ c.loop-key-test.true refl (i.0 r n a) _ c.row_of.ensures w.if-flags-row_of-eq1.false,
        i.1,
      )
    ]

pub returns : goal.returns
returns c = λ r n a. absurd (pass_end r _ _ _ _ n _ a _ _ _ _ (omega (arith, c.loop-key-test.false)) (omega arith) (c.loop-key.invariant.0 r n a))
