-- `segments::segments_of` meets its contract. The invariant: the segments behind the open one, and what is seen of that, of whatever round is given.
use mathlib.Core.Path.{◌≡◌}
use lib.ListN.{length}
use Rattle.segments.proofs.PassLaws.{Passing}
use Rattle.segments.proofs.segments_of.Given as goal

abbrev pub invariant-loop-i : goal.invariant-loop-i
invariant-loop-i l = Passing l.keys l.flags (length l.keys) l.current l.free l.ends l.tops l.lows l.lead l.end l.heavy l.light l.out l.edge l.i × (length l.ends ≡ length l.initial.ends) × (length l.tops ≡ length l.initial.tops)
    × (length l.lows ≡ length l.initial.lows)
