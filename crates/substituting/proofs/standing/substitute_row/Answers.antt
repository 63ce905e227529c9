-- `substituting::standing::substitute_row` meets its contract.
use native.Mathlib.Omega.{arith}
use Rattle.rules.specs.Table.{round_in}
use Rattle.round.proofs.ReadLaws.{known}
use Rattle.buckets.proofs.ReachLaws.{multiples}
use Rattle.far.proofs.AskLaws.{not_far}
use Rattle.questions.proofs.SeenLaws.{seen, far_due}
use Rattle.substituting.proofs.StandLaws.{far_in, stands, sub_there}
use Rattle.substituting.proofs.standing.substitute_row.Goals as goal

pub reach_of-reach-requires : goal.reach_of-reach-requires
reach_of-reach-requires c =
    let s = c.args.sound.now in (s.ready.time, multiples s.table.now s.round c.args.counts.now s.ready c.requires.0)

pub is_far-requires : goal.is_far-requires
is_far-requires c = (omega (arith, c.due_at-due.ensures.from, (known c.args.sound.now.table.now c.args.sound.now.round c.args.sound.now.ready).slot))

pub substitute_away-requires : goal.substitute_away-requires
substitute_away-requires c =
    let x = c.reach_of-reach in
    let due = c.due_at-due in
    let s = c.args.sound.now in
    let d = far_due s.round x.result due.result _ (omega (arith, due.ensures.from, (known s.table.now s.round s.ready).slot)) c.is_far.ensures
    c.if-is_far.true in
    ((seen s.table.now s.round c.args.counts.now x.result s.ready c.requires.0 x.ensures).reaches, c.requires.1, omega (arith, d, due.ensures.is))

pub named-requires : goal.named-requires
named-requires c =
    let found = c.substitute_away in sub_there (round_in c.args.sound.now.table.now) c.args.row found.result found.ensures

pub returns-then-is_far : goal.returns-then-is_far
returns-then-is_far c =
    let x = c.reach_of-reach in
    let due = c.due_at-due in
    let found = c.substitute_away in
    let s = c.args.sound.now in
    let i = c.args.row in
    let d = far_due s.round x.result due.result _ (omega (arith, due.ensures.from, (known s.table.now s.round s.ready).slot))
    c.is_far.ensures c.if-is_far.true in
    stands s.table.now s.round s.ready i c.requires.1 found.result _ (far_in s.table.now s.round s.ready i c.requires.1 x.result
    (seen s.table.now s.round c.args.counts.now x.result s.ready c.requires.0 x.ensures).reaches (omega (arith, d, due.ensures.is))) found.ensures
    c.named.ensures

pub substitute_before_free-requires : goal.substitute_before_free-requires
substitute_before_free-requires c =
    let x = c.reach_of-reach in
    let due = c.due_at-due in
    let s = c.args.sound.now in
    let d = not_far s.round x.result due.result _ (omega (arith, due.ensures.from, (known s.table.now s.round s.ready).slot)) c.is_far.ensures
    c.if-is_far.false in
    (seen s.table.now s.round c.args.counts.now x.result s.ready c.requires.0 x.ensures, c.requires.1, omega (arith, d, due.ensures.is))
