-- `lines::read_numbers` meets its contract: the first i numbers are read.
use Rattle.lines.proofs.Collecting.{Collected}
use Rattle.lines.proofs.reader.read_numbers.Given as goal

abbrev pub invariant-loop-i : goal.invariant-loop-i
invariant-loop-i l = Collected l.form.widths.now l.line l.i l.from l.values
