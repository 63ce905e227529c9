-- `buckets::stretch::stretch_of` meets its contract: the loop is `On`.
use native.Mathlib.Omega.{arith}
use Rattle.buckets.proofs.StretchLaws.{full_fits, covered, on_start, on_left, on_covered, on_step, on_end}
use Rattle.buckets.proofs.stretch.stretch_of.Goals as goal

pub lack_before-before-requires : goal.lack_before-before-requires
lack_before-before-requires c = full_fits _ _ _ c.requires.0 c.requires.1

pub first_of-first-requires : goal.first_of-first-requires
first_of-first-requires c = (full_fits _ _ _ c.requires.0 c.requires.1, c.lack_before-before.ensures)

pub overflow_add-lack : goal.overflow_add-lack
overflow_add-lack c = omega (arith, c.lack_before-before.ensures, c.requires.0.small, c.requires.1)

pub overflow_sub-lack : goal.overflow_sub-lack
overflow_sub-lack c = covered _ _ _ _ c.requires.0 c.requires.1 c.lack_before-before.ensures

pub loop-lack-init : goal.loop-lack-init
loop-lack-init c = on_start _ _ _ c.requires.0 _ c.requires.1 c.lack_before-before.ensures

pub bounds-counts-last : goal.bounds-counts-last
bounds-counts-last c =
    let f = c.requires.0 in
    omega (arith, f.enough, on_left _ _ _ f _ _ c.loop-lack.invariant (omega (arith, c.loop-lack-test.true)))

pub overflow_sub-lack-in-loop-lack : goal.overflow_sub-lack-in-loop-lack
overflow_sub-lack-in-loop-lack c =
    let f = c.requires.0 in
    on_covered _ _ _ f _ _ c.loop-lack.invariant (omega (arith, c.loop-lack-test.true))

pub loop-lack-smaller : goal.loop-lack-smaller
loop-lack-smaller c =
    let f = c.requires.0 in
    omega (arith, on_left _ _ _ f _ _ c.loop-lack.invariant (omega (arith, c.loop-lack-test.true)))

pub loop-lack-preserved : goal.loop-lack-preserved
loop-lack-preserved c =
    let f = c.requires.0 in
    on_step _ _ _ f _ _ c.loop-lack.invariant (omega (arith, c.loop-lack-test.true))

pub returns : goal.returns
returns c =
    let f = c.requires.0 in
    on_end _ _ _ f _ _ c.loop-lack.invariant _ c.first_of-first.ensures (omega (arith, c.loop-lack-test.false))
