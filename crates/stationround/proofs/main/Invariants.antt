-- `stationround::main`: table and bytes held are those after the reads so far.
use Rattle.std.proofs.Common.{◌≤◌}
use Rattle.rules.specs.Reads.{longest_line}
use Rattle.stationround.proofs.SoFar.{SoFar}
use Rattle.stationround.proofs.main.Given as goal

abbrev pub invariant-loop : goal.invariant-loop
invariant-loop l =
    (l.held ≤ longest_line) × SoFar l.table l.input l.held
