-- `row::write::write_shift` meets its contract.
use Rattle.std.proofs.Common.{rules}
use Rattle.row.proofs.StoreLaws.{shift_stored}
use Rattle.row.proofs.write.write_shift.Goals as goal

pub returns : goal.returns
returns c = search (shift_stored, rules)
