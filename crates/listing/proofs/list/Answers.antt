-- `list`: no entry, and one more.
use native.Mathlib.Numerals.{add-one}
use Rattle.listing.specs.Entries.{of_view}
use Rattle.listing.proofs.ListFilled.{filled_none, filled_more}
use Rattle.listing.proofs.list.Goals as goal

pub loop-i-init : goal.loop-i-init
loop-i-init c = filled_none (of_view c.args.view) c.args.table.now c.in_ok-order.order.at c.args.entries.now

pub loop-i-preserved : goal.loop-i-preserved
loop-i-preserved c =
    rw (add-one c.loop-i.i, c.loop-i.invariant, c.entry_at.ensures)
    (filled_more (of_view c.args.view) c.loop-i.i c.args.table.now c.in_ok-order.order.at c.args.entries.now)
