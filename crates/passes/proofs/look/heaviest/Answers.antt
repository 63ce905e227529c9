-- `passes::look::heaviest` meets its contract: the loop is `Heaviest`.
use native.Mathlib.Omega.{arith}
use Rattle.round.proofs.ReadLaws.{known}
use Rattle.passes.proofs.BestLaws.{best_start, best_lighter, best_sees}
use Rattle.passes.proofs.look.heaviest.Goals as goal

pub loop-row-init : goal.loop-row-init
loop-row-init c = best_start _ _ _ (omega (arith, (known _ _ c.args.sound.now.ready).used))

pub loop-row-preserved-then-best-weight : goal.loop-row-preserved-then-best-weight
loop-row-preserved-then-best-weight c =
    let n = known _ _ c.args.sound.now.ready in
    let rank_at = c.rank_at-rank.ensures in
    best_sees _ _ _ _ (omega arith) _ c.loop-row.invariant (omega (arith, n.used)) _ _ c.weight_at-weight.ensures rank_at
    (omega (arith, rank_at.by, n.last)) _ c.see-best.ensures

pub loop-row-preserved : goal.loop-row-preserved
loop-row-preserved c = best_lighter _ _ _ _ (omega arith) _ c.loop-row.invariant _ c.weight_at-weight.ensures c.if-best-weight.false
