-- `zeros::word` meets its contract: eight bytes are a word, and `WordZero` says of it what is owed.
use native.Mathlib.Omega.{arith}
use Rattle.theory.specs.Fields.{field_zeros}
use Rattle.zeros.proofs.word.Goals as goal

pub returns : goal.returns
returns c =
    let z = field_zeros c.args.at 8 c.args.table.now in
    (λ e. z.0 (omega (arith, c.read8.ensures)), λ h. omega (arith, c.read8.ensures, z.1 h))
