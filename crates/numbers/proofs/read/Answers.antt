-- `numbers::read` meets its contract: the bytes copied into a word are a field.
use Rattle.std.proofs.Common.{arith}
use Rattle.numbers.proofs.NumberLaws.{word_read}
use Rattle.numbers.proofs.read.Goals as goal

pub returns : goal.returns
returns g c =
    word_read c.args.bytes.now _ c.args.at g.row.N _ _ c.requires.0 c.requires.1 (omega arith) c.copy_from_slice.ensures.after c.from_le_bytes.ensures
