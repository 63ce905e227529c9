-- `totalling::total_ahead` meets its contract.
use Rattle.std.proofs.Common.{rules, of_calls}
use Rattle.buckets.proofs.ReachLaws.{multiples}
use Rattle.questions.proofs.SeenLaws.{seen}
use Rattle.questions.proofs.PlanLaws.{no_loss}
use native.Mathlib.Omega.{arith}
use Rattle.totalling.proofs.total_ahead.Goals as goal

pub reach_of-reach-requires : goal.reach_of-reach-requires
reach_of-reach-requires c =
    let s = c.args.sound.now in (s.ready.time, multiples s.table.now s.round c.args.counts.now s.ready c.requires)

pub total_of-requires : goal.total_of-requires
total_of-requires c =
    let s = c.args.sound.now in
    let x = c.reach_of-reach in
    no_loss s.table.now c.args.counts.now s.round x.result (seen s.table.now s.round c.args.counts.now x.result s.ready c.requires x.ensures) (omega arith)

pub ask_plan-lost-requires-clause-seen : goal.ask_plan-lost-requires-clause-seen
ask_plan-lost-requires-clause-seen c =
    let s = c.args.sound.now in
    let x = c.reach_of-reach in
    let n = c.if-reach-eq0.false in
    (seen s.table.now s.round c.args.counts.now x.result s.ready c.requires x.ensures, omega (arith, n))

pub total_of-requires-2 : goal.total_of-requires-2
total_of-requires-2 c = let e = c.ask_plan-lost.ensures in let l = e.1.1.1.1.0 in search (rules, of_calls, l)
