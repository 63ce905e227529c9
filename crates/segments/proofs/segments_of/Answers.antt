-- `segments::segments_of` meets its contract. The invariant: the segments behind the open one, and what is seen of that, of whatever round is given.
use mathlib.Core.Path.{refl, ◌∙◌}
use Prim.Native.Nat.{◌-◌}
use native.Mathlib.Omega.{arith}
use lib.ListN.{length}
use Rattle.segments.proofs.TurnLaws.{passing_first, Goes, roomy, row_there, goes_on, goes_new, says, kept_further, left_further, some_further}
use Rattle.segments.proofs.segments_of.Goals as goal
use Rattle.segments.proofs.segments_of.Goals.{After-row_of, then-ends_here, else-ends_here}

pub loop-i-init : goal.loop-i-init
loop-i-init c =
    (passing_first refl refl (omega arith) (omega arith), refl, refl, refl)

pub close_segment-lead-requires : goal.close_segment-lead-requires
close_segment-lead-requires c =
    let p = c.requires in
    let v = c.loop-i in
    let k = roomy p v.invariant in (
      k.ends,
      k.tops,
      k.lows,
      omega (arith, k.heavies, k.lights, k.outs),
      omega (arith, k.heavies, k.lights, k.outs),
      omega (arith, k.heavies, k.lights, k.outs),
    )

pub bounds-flags-row_of : goal.bounds-flags-row_of
bounds-flags-row_of c =
    let p = c.requires in
    let v = c.loop-i in
    row_there p v.invariant c.loop-i-test.true refl c.row_of.ensures

-- where the ways meet: no new segment at the next place
meets : (c : After-row_of) → let s = c.args in let v = c.loop-i in let u = c.if-ends_here in
    Goes s.keys.now s.flags.now (length s.keys.now) s.slot.0 s.free s.ends.now s.tops.now s.lows.now u.ends u.tops u.lows u.lead u.end u.heavy u.light v.out v.edge (v.i - 1)
meets c =
    let p = c.requires in
    let v = c.loop-i in
    let t = c.loop-i-test.true in
    let d = c.due_of-due in
    let e = c.ends_here.ensures in
    elim c.if-ends_here.branch [
      | then-ends_here w ↦
          let a = w.close_segment-lead.ensures in
          goes_new p v.invariant t d.ensures (cc (e, w.if-ends_here.true)) (w.ends-is ∙ a.1) (cc (w.tops-is, a.2)) (w.lows-is ∙ a.3)
          (w.lead-is ∙ a.0) (omega (arith, w.end-is)) (omega (arith, w.heavy-is)) (omega (arith, w.light-is))
      | else-ends_here w ↦
          goes_on p v.invariant t d.ensures (cc (e, w.if-ends_here.false)) w.ends-is w.tops-is w.lows-is w.lead-is w.end-is w.heavy-is w.light-is
    ]

pub overflow_sub-edge : goal.overflow_sub-edge
overflow_sub-edge c =
    let g = meets (goal.at.overflow_sub-edge c).After-row_of in
    omega (arith, some_further g refl c.row_of.ensures c.requires c.if-flags-row_of-eq1.true)

pub loop-i-preserved-then-flags-row_of-eq1 : goal.loop-i-preserved-then-flags-row_of-eq1
loop-i-preserved-then-flags-row_of-eq1 c =
    let g = meets (goal.at.loop-i-preserved-then-flags-row_of-eq1 c).After-row_of in (
      kept_further g refl c.row_of.ensures
          c.if-flags-row_of-eq1.true (omega (arith, c.min-heavy.ensures)) (omega (arith, c.max-light.ensures))
          (omega arith),
      g.ends,
      g.tops,
      g.lows,
    )

pub loop-i-preserved : goal.loop-i-preserved
loop-i-preserved c =
    let g = meets (goal.at.loop-i-preserved c).After-row_of in (
      left_further g refl c.row_of.ensures
          c.if-flags-row_of-eq1.false (omega (arith, c.min-out.ensures)),
      g.ends,
      g.tops,
      g.lows,
    )

pub close_segment-requires : goal.close_segment-requires
close_segment-requires c =
    let p = c.requires in
    let v = c.loop-i in
    let k = roomy p v.invariant in (
      k.ends,
      k.tops,
      k.lows,
      omega (arith, k.heavies, k.lights, k.outs),
      omega (arith, k.heavies, k.lights, k.outs),
      omega (arith, k.heavies, k.lights, k.outs),
    )

pub returns : goal.returns
returns c =
    let p = c.requires in
    let v = c.loop-i in
    let d = c.close_segment in
    let t = c.loop-i-test.false in
    says p v.invariant (omega (arith, t)) (cc d.ensures.0) d.ensures.1 d.ensures.2 d.ensures.3
