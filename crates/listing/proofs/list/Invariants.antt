-- `list`: the entries of the rows so far are written.
use Rattle.std.proofs.Common.{◌≡◌}
use Rattle.listing.specs.Entries.{of_view}
use Rattle.listing.specs.Listing.{filled}
use Rattle.listing.proofs.list.Given as goal

abbrev pub invariant-loop-i : goal.invariant-loop-i
invariant-loop-i l = l.entries ≡ filled (of_view l.view) l.i l.table l.order.at l.initial.entries
