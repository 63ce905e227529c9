-- `marking::mark_ahead` meets its contract.
use mathlib.Core.Path.{sym}
use Rattle.buckets.proofs.ReachLaws.{multiples}
use Rattle.far.proofs.AskLaws.{far_zero, not_far}
use Rattle.questions.proofs.SeenLaws.{seen}
use Rattle.marking.proofs.mark_ahead.Goals as goal

pub reach_of-reach-requires : goal.reach_of-reach-requires
reach_of-reach-requires c =
    let s = c.args.sound.now in (s.ready.time, multiples s.table.now s.round c.args.counts.now s.ready c.requires.0)

pub is_far-requires : goal.is_far-requires
is_far-requires c = c.requires.1

pub returns-then-is_far : goal.returns-then-is_far
returns-then-is_far c =
    let s = c.args.sound.now in
    let x = c.reach_of-reach.result in
    sym (far_zero s.table.now s.round x c.args.slot.0 _ s.ready
    (seen s.table.now s.round c.args.counts.now x s.ready c.requires.0 c.reach_of-reach.ensures).reaches c.requires.1 c.requires.2
    c.is_far.ensures (cc c.if-is_far.true))

pub mark_before_free-requires : goal.mark_before_free-requires
mark_before_free-requires c =
    let s = c.args.sound.now in
    let x = c.reach_of-reach.result in (
      seen s.table.now s.round c.args.counts.now x s.ready c.requires.0 c.reach_of-reach.ensures,
      c.requires.1,
      not_far s.round x c.args.slot.0 _ c.requires.1 c.is_far.ensures (cc c.if-is_far.false),
    )
