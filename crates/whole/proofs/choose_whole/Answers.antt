-- `whole::choose_whole` meets its contract: the heaviest row and the first segment tell the pick, or the second pass (`WholeLaws`).
use native.Mathlib.Omega.{arith}
use Rattle.whole.proofs.WholeLaws.{filled, slots_fit, ends_near, ends_first, far_all, first_all}
use Rattle.whole.proofs.choose_whole.Goals as goal

pub returns-then-reach-eq0 : goal.returns-then-reach-eq0
returns-then-reach-eq0 c = far_all c.requires c.heaviest-best.ensures c.if-reach-eq0.true (omega arith)

pub stretch_of-requires : goal.stretch_of-requires
stretch_of-requires c = let n = c.if-reach-eq0.false in (filled c.requires, omega arith)

pub overflow_cast-end : goal.overflow_cast-end
overflow_cast-end c = omega (arith, (slots_fit c.requires c.stretch_of.ensures).0)

pub overflow_add-end : goal.overflow_add-end
overflow_add-end c = omega (arith, (slots_fit c.requires c.stretch_of.ensures).0)

pub returns-then-rank_due-end : goal.returns-then-rank_due-end
returns-then-rank_due-end c =
    first_all c.requires c.heaviest-best.ensures c.stretch_of.ensures (omega (arith, c.if-rank_due-end.true)) (omega arith)

pub choose_past-requires : goal.choose_past-requires
choose_past-requires c =
    record {
      given = c.requires;
      best = c.heaviest-best.ensures;
      near = ends_near c.requires c.stretch_of.ensures (omega arith);
      segment = ends_first c.requires c.stretch_of.ensures (omega arith);
      past = omega (arith, c.if-rank_due-end.false);
    }
