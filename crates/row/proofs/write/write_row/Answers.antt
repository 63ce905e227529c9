-- `row::write::write_row` meets its contract: five stores are the row's numbers.
use Rattle.std.proofs.Common.{arith}
use Rattle.row.proofs.StoreLaws.{row_stored}
use Rattle.row.proofs.write.write_row.Goals as goal

pub returns : goal.returns
returns c =
    row_stored _ _ _ _ _ _ _ _ _ _ c.args.class.0 _ _
    c.write.ensures
    c.write-2.ensures
    c.write-3.ensures
    c.write-4.ensures
    c.write-5.ensures
    (omega arith)
    (omega arith)
