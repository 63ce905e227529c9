-- `lines::read_numbers` meets its contract: the first i numbers are read.
use mathlib.Core.Path.{refl, sym, ◌∙◌}
use native.Mathlib.Omega.{arith}
use borrow.Author.Rules.{rules}
use Rattle.lines.proofs.Collecting.{collected_none, next_within, collected_foul, collected_more, collected_all}
use Rattle.lines.proofs.reader.read_numbers.Goals as goal

pub loop-i-init : goal.loop-i-init
loop-i-init c = collected_none c.args.form.now.widths.now c.args.line.now

pub overflow_add-next : goal.overflow_add-next
overflow_add-next c = omega (arith, next_within c.loop-i.invariant (search rules) refl)

pub slice_bounds-number-end : goal.slice_bounds-number-end
slice_bounds-number-end c = omega (arith, next_within c.loop-i.invariant (search rules) refl)

pub returns-in_err-values : goal.returns-in_err-values
returns-in_err-values c =
    rw c.from_residual.ensures (collected_foul c.loop-i.invariant (search rules) refl c.requires (sym c.number.ensures ∙ c.in_err-values.was))

pub loop-i-preserved : goal.loop-i-preserved
loop-i-preserved c = collected_more c.loop-i.invariant (search rules) refl (search rules) (sym c.number.ensures ∙ c.in_ok-values.was)

pub returns : goal.returns
returns c = collected_all c.loop-i.invariant (search rules)
