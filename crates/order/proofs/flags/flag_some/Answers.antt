-- `order::flags::flag_some`: the plan, with places of its own.
use mathlib.Core.Path.{refl}
use native.Mathlib.Omega.{arith}
use Rattle.order.proofs.OrderLaws.{few_rows}
use Rattle.order.proofs.flags.flag_some.Goals as goal

pub plan_of-requires : goal.plan_of-requires
plan_of-requires c =
    let few = few_rows _ _ c.args.sound.now.ready in
    record {
      ready = c.args.sound.now.ready;
      counted = c.requires.0;
      reaches = c.requires.1;
      some = c.requires.2;
      keys = omega (arith, few);
      flags = c.requires.3;
      heap = refl;
      room = omega (arith, few);
    }
