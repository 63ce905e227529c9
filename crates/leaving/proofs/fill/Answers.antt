-- `fill`: the loop has the first keys in the heap.
use Prim.Native.Nat.{◌<◌}
use Rattle.std.proofs.Common.{get_or-take, length-take}
use Rattle.leaving.proofs.GoingLaws.{filling_none, filling_more}
use borrow.Author.Rules.{rules}
use Rattle.leaving.proofs.fill.Goals as goal

pub loop-place-init : goal.loop-place-init
loop-place-init c = filling_none _ _ _ c.requires

pub loop-place-preserved : goal.loop-place-preserved
loop-place-preserved c =
    let loop = c.loop-place in
    let rise = c.rise in
    let l : c.loop-place.place < c.args.first = search (rules, length-take) in
    filling_more _ _ _ _ _ loop.invariant l _ _ (rw get_or-take) rise.ensures
