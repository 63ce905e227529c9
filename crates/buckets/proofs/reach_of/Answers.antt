-- `buckets::reach_of` meets its contract: the loops are `Levels`.
use mathlib.Core.Path.{refl}
use native.Mathlib.Omega.{arith}
use Rattle.buckets.proofs.LevelLaws.{level_start, level_end}
use Rattle.buckets.proofs.FourLaws.{four_fits, four_most, four_turn, four_end, rest_fits, rest_most, rest_step, rest_end}
use Rattle.buckets.proofs.reach_of.Goals as goal

pub returns : goal.returns
returns c =
    let f = c.as_chunks.ensures in
    let w =
    rest_end c.args.counts.now c.top_of-top.result c.as_chunks.result.1.now (search f.back) (search f.back_len) _ _ _ c.loop-count.invariant
    (omega arith) (omega (arith, c.loop-count-test.false)) in
    level_end _ _ _ _ _ w c.top_of-top.ensures (omega arith) (omega arith) (omega arith)

pub loop-four-init : goal.loop-four-init
loop-four-init c = level_start _ _ (rw c.top_of-top.ensures c.requires.1)

pub overflow_add-a : goal.overflow_add-a
overflow_add-a c =
    let f = c.as_chunks.ensures in
    omega (arith, four_fits _ _ _ f.front f.front_len _ _ _ c.loop-four.invariant c.loop-four-test.true)

pub overflow_add-c : goal.overflow_add-c
overflow_add-c c =
    let f = c.as_chunks.ensures in
    omega (arith, four_fits _ _ _ f.front f.front_len _ _ _ c.loop-four.invariant c.loop-four-test.true)

pub overflow_add-c-in-loop-four : goal.overflow_add-c-in-loop-four
overflow_add-c-in-loop-four c =
    let f = c.as_chunks.ensures in
    omega (arith, four_fits _ _ _ f.front f.front_len _ _ _ c.loop-four.invariant c.loop-four-test.true)

pub turn-most-requires : goal.turn-most-requires
turn-most-requires c =
    let f = c.as_chunks.ensures in
    omega (
      arith,
      four_fits _ _ _ f.front f.front_len _ _ _ c.loop-four.invariant c.loop-four-test.true,
      four_most _ _ _ f.front f.front_len _ _ _ c.loop-four.invariant c.loop-four-test.true,
    )

pub loop-four-preserved : goal.loop-four-preserved
loop-four-preserved c =
    let f = c.as_chunks.ensures in
    four_turn _ _ _ f.front f.front_len _ _ _ c.loop-four.invariant c.loop-four-test.true _ _ _ _ _ refl refl refl refl c.turn-most.ensures

pub loop-count-init : goal.loop-count-init
loop-count-init c =
    four_end _ _ _ _ _ c.loop-four.invariant _ c.as_chunks.ensures.front_len (omega arith) (omega (arith, c.loop-four-test.false))

pub overflow_add-sum-in-loop-count : goal.overflow_add-sum-in-loop-count
overflow_add-sum-in-loop-count c =
    let f = c.as_chunks.ensures in
    omega (arith, rest_fits _ _ _ f.back f.back_len _ _ _ c.loop-count.invariant c.loop-count-test.true)

pub overflow_add-most : goal.overflow_add-most
overflow_add-most c =
    let f = c.as_chunks.ensures in
    omega (arith, rest_most _ _ _ f.back f.back_len _ _ _ c.loop-count.invariant)

pub loop-count-preserved : goal.loop-count-preserved
loop-count-preserved c =
    let f = c.as_chunks.ensures in
    rest_step _ _ _ f.back f.back_len _ _ _ c.loop-count.invariant c.loop-count-test.true _ c.max-most.ensures

pub overflow_sub-level : goal.overflow_sub-level
overflow_sub-level c =
    let f = c.as_chunks.ensures in
    let w = rest_end _ _ _ f.back f.back_len _ _ _ c.loop-count.invariant (omega arith) (omega (arith, c.loop-count-test.false)) in
    omega (arith, w.most)
