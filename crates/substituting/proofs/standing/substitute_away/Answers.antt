-- `substituting::standing::substitute_away` meets its contract.
use native.Mathlib.Omega.{arith}
use Rattle.questions.proofs.SeenLaws.{few_rows}
use Rattle.substituting.proofs.standing.substitute_away.Goals as goal

pub substitute_around-requires-2 : goal.substitute_around-requires-2
substitute_around-requires-2 c =
    let s = c.args.sound.now in
    (omega (arith, few_rows s.table.now s.round s.ready), omega arith, c.requires.0, c.requires.1, c.requires.2)
