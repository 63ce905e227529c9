-- `seen::goes_with` meets its contract.
use Rattle.seen.proofs.SeenLaws.{kept_test}
use Rattle.seen.proofs.goes_with.Goals as goal

pub returns-then-kind-eq0 : goal.returns-then-kind-eq0
returns-then-kind-eq0 c = rw c.if-kind-eq0.true

pub returns : goal.returns
returns c = rw c.from.ensures (kept_test c.args.kind c.args.class c.if-kind-eq0.false)
