-- `substituting::standing::substitute_before_free` meets its contract.
use Rattle.std.proofs.Common.{◌≡◌, ◌<◌, length, Err, subst, rules, of_calls}
use Rattle.std.proofs.iter.Serving.{serving}
use Rattle.rules.specs.Table.{round_in}
use Rattle.substituting.specs.Finding.{Flagged}
use Rattle.substituting.proofs.StandLaws.{flag_there, flag_in, every_in, stands, row_asked, row_kept, row_out, sub_there}
use Rattle.substituting.proofs.standing.substitute_before_free.Goals as goal

pub named-requires : goal.named-requires
named-requires c =
    let found = c.substitute_every in sub_there (round_in c.args.sound.now.table.now) c.args.row found.result found.ensures

pub returns-then-reach-eq0 : goal.returns-then-reach-eq0
returns-then-reach-eq0 c =
    let found = c.substitute_every in
    let s = c.args.sound.now in
    let i = c.args.row in
    stands s.table.now s.round s.ready i c.requires.1 found.result _
    (every_in s.table.now s.round s.ready i c.requires.1 c.args.reach c.requires.0.reaches c.if-reach-eq0.true) found.ensures
    c.named.ensures

pub ask_plan-requires-clause-can : goal.ask_plan-requires-clause-can
ask_plan-requires-clause-can c =
    λ ks fs n g l.
    let s = c.args.sound.now in
    let a = row_asked s.table.now s.round s.ready c.args.reach c.requires.0.reaches ks.now fs.now g c.args.row c.requires.1 c.due_at.result c.due_at.ensures
    c.requires.2 in
    let f : c.args.row < length fs.now = flag_there s.table.now s.round s.ready c.args.row c.requires.1 fs.now g.chosen in
    grind serving

pub returns-in_err-sub : goal.returns-in_err-sub
returns-in_err-sub c =
    let s = c.args.sound.now in
    let p = c.ask_plan.ensures in
    let f : Flagged p.0.now p.1.0.now s.round.slot.0 c.due_at.result c.args.row c.ask_plan.result = search (rules, of_calls) in
    let f' = subst (Flagged p.0.now p.1.0.now s.round.slot.0 c.due_at.result c.args.row) c.in_err-sub.was f in
    let e : c.from_residual.result ≡ Err c.in_err-sub.field-0.0 = search rules in
    rw e (row_out s.table.now s.round s.ready c.args.reach c.requires.0.reaches _ _ p.1.1.1.0 c.args.row c.requires.1 _ c.due_at.ensures c.requires.2 _ f')

pub named-requires-2 : goal.named-requires-2
named-requires-2 c =
    let s = c.args.sound.now in
    let p = c.ask_plan.ensures in
    let f : Flagged p.0.now p.1.0.now s.round.slot.0 c.due_at.result c.args.row c.ask_plan.result = search (rules, of_calls) in
    let f' = subst (Flagged p.0.now p.1.0.now s.round.slot.0 c.due_at.result c.args.row) c.in_ok-sub.was f in
    sub_there (round_in s.table.now) c.args.row c.in_ok-sub.sub
    (row_kept s.table.now s.round s.ready c.args.reach c.requires.0.reaches _ _ p.1.1.1.0 c.args.row c.requires.1 _ c.due_at.ensures c.requires.2 _ f')

pub returns : goal.returns
returns c =
    let s = c.args.sound.now in
    let p = c.ask_plan.ensures in
    let f : Flagged p.0.now p.1.0.now s.round.slot.0 c.due_at.result c.args.row c.ask_plan.result = search (rules, of_calls) in
    let f' = subst (Flagged p.0.now p.1.0.now s.round.slot.0 c.due_at.result c.args.row) c.in_ok-sub.was f in
    stands s.table.now s.round s.ready c.args.row c.requires.1 c.in_ok-sub.sub _
    (flag_in s.table.now s.round s.ready c.args.row c.requires.1 p.1.0.now p.1.1.1.0.chosen f'.0)
    (row_kept s.table.now s.round s.ready c.args.reach c.requires.0.reaches _ _ p.1.1.1.0 c.args.row c.requires.1 _ c.due_at.ensures c.requires.2 _ f')
    c.named-2.ensures
