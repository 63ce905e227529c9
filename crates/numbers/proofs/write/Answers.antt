-- `numbers::write` meets its contract: the first bytes of a word copied are those of a number.
use Rattle.std.proofs.Common.{arith}
use Rattle.numbers.proofs.NumberLaws.{low_written}
use Rattle.numbers.proofs.write.Goals as goal

pub returns : goal.returns
returns g c =
    low_written c.args.bytes.now _ _ c.args.at g.row.N _ c.args.value c.requires.0 c.requires.1 (omega arith) c.to_le_bytes.ensures
    c.copy_from_slice.ensures.after
