-- `substituting::standing::substitute_around` meets its contract.
use native.Mathlib.Omega.{arith}
use Rattle.questions.proofs.SeenLaws.{around}
use Rattle.substituting.proofs.standing.substitute_around.Goals as goal

pub whole_as_slice-substitute_far : goal.whole_as_slice-substitute_far
whole_as_slice-substitute_far g c = omega arith

pub substitute_far-requires : goal.substitute_far-requires
substitute_far-requires g c =
    let s = c.args.sound.now in
    around s.table.now s.round c.args.reach c.args.row _ s.ready c.requires.2 c.requires.3 c.requires.4 c.requires.0
