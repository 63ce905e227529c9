-- `row::write::write_kept` meets its contract.
use Rattle.std.proofs.Common.{rules}
use Rattle.row.proofs.StoreLaws.{kept_stored}
use Rattle.row.proofs.write.write_kept.Goals as goal

pub returns : goal.returns
returns c = search (kept_stored, rules)
