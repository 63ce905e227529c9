-- `row::judge::kind_is_good` meets its contract.
use Rattle.std.proofs.Common.{rules}
use Rattle.row.proofs.RowLaws.{kind_read}
use Rattle.row.proofs.judge.kind_is_good.Goals as goal

pub returns : goal.returns
returns c = search (kind_read, rules)
