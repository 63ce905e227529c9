-- `writer::put_values` meets its contract: the first i values stand.
use Rattle.writer.proofs.Writing.{ValuesPut}
use Rattle.writer.proofs.put_values.Given as goal

abbrev pub invariant-loop-i : goal.invariant-loop-i
invariant-loop-i l = ValuesPut l.widths l.values l.initial.buffer l.i l.at l.buffer
