-- `row::entry::kind_in` meets its contract.
use Rattle.std.proofs.Common.{rules}
use Rattle.row.proofs.EntryLaws.{kind_read}
use Rattle.row.proofs.entry.kind_in.Goals as goal

pub returns : goal.returns
returns c = search (kind_read, rules)
