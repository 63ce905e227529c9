-- `numbers::read8` meets its contract: eight bytes are a field.
use Rattle.std.proofs.Common.{arith}
use Rattle.numbers.proofs.NumberLaws.{eight_bytes}
use Rattle.numbers.proofs.read8.Goals as goal

pub returns : goal.returns
returns c = omega (arith, c.from_le_bytes.ensures, eight_bytes c.args.bytes.now c.args.at c.requires)
