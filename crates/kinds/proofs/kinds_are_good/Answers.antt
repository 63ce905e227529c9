-- `kinds::kinds_are_good` meets its contract: what is said of all kinds is said of those left.
use borrow.Author.Rules.{rules}
use Rattle.kinds.proofs.KindLaws.{kinds_on, kinds_off, kinds_all}
use Rattle.kinds.proofs.kinds_are_good.Goals as goal

pub returns-then-not-kind_is_good : goal.returns-then-not-kind_is_good
returns-then-not-kind_is_good c =
    kinds_off _ _ _ _ _ (search rules) c.row_at-at.ensures c.kind_is_good.ensures c.loop-i.invariant c.if-not-kind_is_good.true

pub loop-i-preserved : goal.loop-i-preserved
loop-i-preserved c =
    kinds_on _ _ _ _ _ (search rules) c.row_at-at.ensures c.kind_is_good.ensures c.loop-i.invariant c.if-not-kind_is_good.false

pub returns : goal.returns
returns c = kinds_all _ _ _ (search rules) c.loop-i.invariant
