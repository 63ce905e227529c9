-- `far::begin_of` meets its contract: rows wait for bucket s, first behind mid, then up to it.
use native.Mathlib.Omega.{arith}
use borrow.Author.Rules.{rules}
use Rattle.far.proofs.BeginLaws.{wait_start, wait_back, seek_back}
use Rattle.far.proofs.begin_of.Goals as goal

pub loop-s-init : goal.loop-s-init
loop-s-init c = (c.requires.order, rw c.from-waiting.ensures (wait_start _ _ _ c.requires.order))

pub loop-s-preserved : goal.loop-s-preserved
loop-s-preserved c = (omega arith, wait_back _ _ _ _ _ _ _ c.loop-s-test.true c.loop-s.invariant.1 c.saturating_sub.ensures (search rules))

pub loop-waiting-preserved : goal.loop-waiting-preserved
loop-waiting-preserved c = seek_back _ _ _ _ _ _ c.requires (omega arith) c.loop-waiting.invariant (search rules)
