-- `leave_some`: both loops are in the midst of the sweep, with the keys of the rows kept in the heap.
use mathlib.Core.Path.{refl, ◌∙◌}
use native.Mathlib.Omega.{arith}
use Rattle.std.proofs.Math.Nat.{sub-zero}
use lib.ListN.{length-set}
use Rattle.leaving.proofs.LeaveLaws.{sweeping_start, sweeping_in, sweeping_from, sweeping_joins, sweeping_leaver, sweeping_row}
use Rattle.leaving.proofs.LeaveLaws.{sweeping_leaves}
use borrow.Author.Rules.{rules}
use Rattle.leaving.proofs.leave_some.Goals as goal

pub loop-init : goal.loop-init
loop-init c =
    let p = c.requires in
    let f = c.fill in
    (rw sub-zero (sweeping_start _ _ _ _ _ _ _ _ p.0 p.2 p.1 f.ensures f.auto.heap), refl, refl)

pub bounds-keys-place : goal.bounds-keys-place
bounds-keys-place c =
    let i = c.loop-size.invariant in
    (sweeping_in _ _ _ _ _ _ _ _ _ _ i.0 i.1).0

pub ahead_of-requires : goal.ahead_of-requires
ahead_of-requires c =
    let i = c.loop-size.invariant in
    sweeping_from _ _ _ _ _ _ _ _ _ _ i.0 i.1 _ refl

pub loop-size-smaller : goal.loop-size-smaller
loop-size-smaller c =
    let i = c.loop-size.invariant in
    let b = sweeping_in _ _ _ _ _ _ _ _ _ _ i.0 i.1 in
    search rules

pub loop-size-preserved : goal.loop-size-preserved
loop-size-preserved c =
    let i = c.loop-size.invariant in
    let r = c.rise.ensures in
    (sweeping_joins _ _ _ _ _ _ _ _ _ _ i.0 i.1 _ refl _ c.ahead_of.ensures _ c.loop-size-test.true r, i.1, r.long ∙ i.2)

pub bounds-keys-place-in-loop : goal.bounds-keys-place-in-loop
bounds-keys-place-in-loop c =
    let i = c.loop-size.invariant in
    (sweeping_in _ _ _ _ _ _ _ _ _ _ i.0 i.1).0

pub leaver-out-requires : goal.leaver-out-requires
leaver-out-requires c =
    let i = c.loop-size.invariant in
    sweeping_leaver _ _ _ _ _ _ _ _ _ _ i.0 i.1 _ refl _ c.ahead_of.ensures c.loop-size-test.false

pub bounds-flags-row_of : goal.bounds-flags-row_of
bounds-flags-row_of c =
    let i = c.loop-size.invariant in
    let leaver = c.leaver-out in
    sweeping_row _ _ _ _ _ _ _ _ _ _ i.0 i.1 _ refl _ c.ahead_of.ensures c.loop-size-test.false _ _ leaver.ensures _ c.row_of.ensures

pub loop-preserved : goal.loop-preserved
loop-preserved c =
    let i = c.loop-size.invariant in
    let l = c.loop.invariant in
    let leaver = c.leaver-out in
    let row_of = c.row_of in (
      sweeping_leaves _ _ _ _ _ _ _ _ _ _ i.0 i.1 _ refl _ c.ahead_of.ensures c.loop-size-test.false _ _ leaver.ensures _ _ _ leaver.auto.heap
          row_of.ensures c.lack_of-light.ensures (omega arith),
      simp length-set l.1,
      leaver.auto.heap ∙ i.2 ∙ l.2,
    )
