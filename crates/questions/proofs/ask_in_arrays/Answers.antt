-- `questions::ask_in_arrays`: the first keys are the near rows'.
use Rattle.questions.proofs.PlanLaws.{plan_gives, plan_lost}
use Rattle.questions.proofs.ask_in_arrays.Goals as goal

pub ask-requires : goal.ask-requires
ask-requires g c =
    let s = c.args.sound.now in
    let p = c.plan_of-planned in
    let f = plan_gives s.table.now s.round c.args.reach s.ready _ _ p.result p.ensures in
    let l = plan_lost s.table.now s.round c.args.reach s.ready _ _ p.result p.ensures in
    c.requires.can _ _ _ f (search l)

pub returns : goal.returns
returns g c =
    let s = c.args.sound.now in
    let p = c.plan_of-planned in
    let f = plan_gives s.table.now s.round c.args.reach s.ready _ _ p.result p.ensures in
    let l = plan_lost s.table.now s.round c.args.reach s.ready _ _ p.result p.ensures in
    (_, (_, (_, (f, (l, c.ask.ensures)))))
