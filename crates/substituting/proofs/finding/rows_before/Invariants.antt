-- `substituting::finding::rows_before` meets its contract.
use Prim.Native.Nat.{◌-◌, ◌≤◌}
use Rattle.rules.specs.Table.{round_in}
use Rattle.substituting.specs.Finding.{Parts}
use Rattle.substituting.proofs.finding.rows_before.Given as goal

abbrev pub invariant-loop-low : goal.invariant-loop-low
invariant-loop-low l = (l.high ≤ l.sound.round.used) × (l.sound.round.used ≤ 1024) × Parts (round_in l.sound.table.now) l.ticket.0 l.low l.high

abbrev pub decreases-loop-low : goal.decreases-loop-low
decreases-loop-low l = l.high - l.low
