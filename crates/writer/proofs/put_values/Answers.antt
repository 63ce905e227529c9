-- `writer::put_values` meets its contract: the first i values stand.
use mathlib.Core.Path.{refl}
use native.Mathlib.Omega.{arith}
use borrow.Author.Rules.{rules}
use Rattle.writer.proofs.Writing.{values_none, next_room, values_more, values_all}
use Rattle.writer.proofs.put_values.Goals as goal

pub loop-i-init : goal.loop-i-init
loop-i-init c = values_none c.args.widths.now c.args.values.now c.args.buffer.now (search rules)

pub overflow_add-next : goal.overflow_add-next
overflow_add-next c = omega (arith, next_room c.loop-i.invariant (search rules) c.requires.as_many refl refl c.requires.room)

pub slice_bounds-put_number-end : goal.slice_bounds-put_number-end
slice_bounds-put_number-end c = omega (arith, next_room c.loop-i.invariant (search rules) c.requires.as_many refl refl c.requires.room)

pub loop-i-preserved : goal.loop-i-preserved
loop-i-preserved c = values_more c.loop-i.invariant (search rules) c.requires.as_many refl refl c.requires.room c.put_number.ensures

pub returns : goal.returns
returns c = values_all c.loop-i.invariant (search rules) c.requires.as_many (search rules)
