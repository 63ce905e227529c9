-- `row::judge::see_row` meets its contract: what it reads is what `row_seen` says of a row.
use Rattle.std.proofs.Common.{arith, rules}
use Rattle.rules.specs.Conditions.{Bytes}
use Rattle.row.proofs.RowLaws.{row_seen}
use Rattle.row.proofs.judge.see_row.Goals as goal

pub returns : goal.returns
returns c =
    let bytes : Bytes c.args.row.now = λ i. omega (arith, c.type_inv.row i) in
    row_seen _ _ _ _ c.read8.result c.read8-2.result c.read-2.result c.read-3.result c.less-2.result
    bytes c.requires (search rules) (search rules) (search rules) (search rules) (search rules) (search rules) (search rules) (search rules) (search rules)
