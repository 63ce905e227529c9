-- `order::flags::flag_plan`: with nothing left out each flag stays.
use native.Mathlib.Omega.{arith}
use Rattle.buckets.proofs.ReachLaws.{multiples, reaches}
use Rattle.order.proofs.OrderLaws.{all_flagged}
use borrow.Author.Rules.{rules}
use Rattle.order.proofs.flags.flag_plan.Goals as goal

pub reach_of-reach-requires : goal.reach_of-reach-requires
reach_of-reach-requires c = let k = c.args.sound.now.ready in (k.time, multiples _ _ _ k c.requires.0)

pub returns-then-reach-eq0 : goal.returns-then-reach-eq0
returns-then-reach-eq0 c =
    let k = c.args.sound.now.ready in
    all_flagged _ _ _ _ k (reaches _ _ _ _ k c.requires.0 c.reach_of-reach.ensures) (omega arith) c.requires.1

pub flag_some-requires : goal.flag_some-requires
flag_some-requires c =
    (c.requires.0, reaches _ _ _ _ c.args.sound.now.ready c.requires.0 c.reach_of-reach.ensures, search rules, c.requires.1)
