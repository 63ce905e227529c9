-- `digits::number` meets its contract: the digits before b's place are in the sum.
use mathlib.Core.Path.{sym, ◌∙◌}
use native.Mathlib.Omega.{arith}
use borrow.Author.Rules.{rules}
use Rattle.digits.proofs.Spelling.{value_small, read_none, read_more, read_foul, read_whole, sum_fits}
use Rattle.digits.proofs.number.Goals as goal

pub loop-b-init : goal.loop-b-init
loop-b-init c = read_none c.args.digits.now

pub overflow_mul-sum : goal.overflow_mul-sum
overflow_mul-sum c = omega (arith, sum_fits c.loop-b.invariant (search rules))

pub returns-in_err-sum : goal.returns-in_err-sum
returns-in_err-sum c = cc (read_foul c.loop-b.invariant (search rules) (sym c.value.ensures ∙ c.in_err-sum.was))

pub overflow_add-sum : goal.overflow_add-sum
overflow_add-sum c =
    omega (
      arith,
      sum_fits c.loop-b.invariant (search rules),
      value_small c.loop-b.invariant (search rules) (sym c.value.ensures ∙ c.in_ok-sum.was),
    )

pub loop-b-preserved : goal.loop-b-preserved
loop-b-preserved c = read_more c.loop-b.invariant (search rules) (sym c.value.ensures ∙ c.in_ok-sum.was)

pub returns : goal.returns
returns c = sym (read_whole c.loop-b.invariant (search rules))
