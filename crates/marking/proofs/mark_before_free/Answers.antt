-- `marking::mark_before_free` meets its contract.
use Rattle.std.proofs.Common.{rules, of_calls}
use Rattle.std.proofs.iter.Serving.{serving}
use Rattle.questions.proofs.PlanLaws.{plan_asked, plan_mark}
use Rattle.marking.proofs.mark_before_free.Goals as goal

pub ask_plan-requires-clause-can : goal.ask_plan-requires-clause-can
ask_plan-requires-clause-can c =
    λ ks fs n g l.
    let s = c.args.sound.now in
    let a = plan_asked s.table.now s.round c.args.reach s.ready c.requires.0.reaches ks.now fs.now g c.args.slot.0 c.requires.1 c.requires.2 in
    grind serving

pub returns : goal.returns
returns c =
    let e = c.ask_plan.ensures in
    let s = c.args.sound.now in
    let f = plan_mark s.table.now s.round c.args.reach s.ready c.requires.0.reaches e.0.now e.1.0.now e.1.1.1.0 c.args.slot.0 c.requires.1 c.requires.2 in
    search (rules, of_calls, f)
