-- `marks::substitute::substitute_near` meets its contract.
use Rattle.marks.proofs.NearLaws.{row_first, row_left, blank_left}
use native.Mathlib.Omega.{arith}
use Rattle.marks.proofs.substitute.substitute_near.Goals as goal

pub returns-then-found-slot : goal.returns-then-found-slot
returns-then-found-slot c = λ r n i a h o d.
    row_first r _ _ _ _ n _ a _ (c.find_segment-found.ensures r n a) i h o d _ c.if-found-slot.true c.row_of.ensures

pub returns-then-out-eq-BLANK : goal.returns-then-out-eq-BLANK
returns-then-out-eq-BLANK c = λ r n i a h o d.
    blank_left r _ _ _ _ n _ a _ (c.find_segment-found.ensures r n a) i h o d c.if-found-slot.false _ _
    (c.heaviest_out-out.ensures r _ n a.given) (omega arith) c.if-out-eq-BLANK.true

pub returns : goal.returns
returns c = λ r n i a h o d.
    row_left r _ _ _ _ n _ a _ (c.find_segment-found.ensures r n a) i h o d c.if-found-slot.false _ _
    (c.heaviest_out-out.ensures r _ n a.given) (omega arith) _ c.if-out-eq-BLANK.false c.row_of-2.ensures
