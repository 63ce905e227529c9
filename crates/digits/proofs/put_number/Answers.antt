-- `digits::put_number` meets its contract: the digits from i on stand, and the rest is for those before.
use borrow.Author.Rules.{rules}
use Rattle.digits.proofs.Spelling.{put_none, put_more, put_whole}
use Rattle.digits.proofs.put_number.Goals as goal

pub loop-i-init : goal.loop-i-init
loop-i-init c = put_none c.args.value c.args.part.now

pub loop-i-preserved : goal.loop-i-preserved
loop-i-preserved c = put_more c.loop-i.invariant (search rules) c.digit.ensures (search rules)

pub returns : goal.returns
returns c = put_whole c.loop-i.invariant (search rules)
