-- `take_frame` meets its contract: where refused and once written, by what the tests gave.
use mathlib.Core.Path.{◌≡◌, ap, ◌∙◌}
use native.Mathlib.Omega.{arith}
use lib.ListN.{length}
use lib.Seq.{length-sets}
use Rattle.std.proofs.Common.{rules, Err}
use Rattle.rules.specs.Rows.{framed}
use Rattle.rules.specs.Calls.{taking, acting}
use Rattle.theory.specs.Outcomes.{act_judges}
use Rattle.checks.proofs.Refused.{refused_says, unsound_says}
use Rattle.round.proofs.ByHead.{taking_by}
use Rattle.taking.proofs.Taken.{used_room, row_free, taken_says}
use Rattle.taking.proofs.take_frame.Goals as goal

pub returns-in_err-round : goal.returns-in_err-round
returns-in_err-round c =
    let f = framed c.args.due.0 c.args.weight.0 c.args.class.0 in
    let e : c.from_residual.result ≡ Err c.in_err-round.field-0.0 = search rules in
    rw e (unsound_says (acting (taking f)) c.args.table.now _ (act_judges (taking f)) c.in_err-round.ensures.0)

pub returns-in_err-may_take : goal.returns-in_err-may_take
returns-in_err-may_take c =
    let j = c.in_ok-round.ensures in
    let f = framed c.args.due.0 c.args.weight.0 c.args.class.0 in
    let e : c.from_residual-in_err-may_take.result ≡ Err c.in_err-may_take.field-0.0 = search rules in
    rw e (refused_says (acting (taking f)) c.args.table.now _ _ (taking_by c.args.table.now c.in_ok-round.round j.0 j.1 f)
    (omega (arith, c.in_err-may_take.ensures)))

pub row_at-requires : goal.row_at-requires
row_at-requires c =
    let j = c.in_ok-round.ensures in
    let f = framed c.args.due.0 c.args.weight.0 c.args.class.0 in
    omega (arith, used_room c.args.table.now c.in_ok-round.round j.0 j.1 f)

pub write_row-requires : goal.write_row-requires
write_row-requires c =
    let j = c.in_ok-round.ensures in
    let f = framed c.args.due.0 c.args.weight.0 c.args.class.0 in
    omega (arith, (row_free c.args.table.now c.in_ok-round.round j.0 j.1 f (omega (arith, c.in_ok-may_take.ensures))).0, c.row_at.ensures)

pub one_more-requires : goal.one_more-requires
one_more-requires c =
    let j = c.in_ok-round.ensures in
    let f = framed c.args.due.0 c.args.weight.0 c.args.class.0 in
    let free = row_free c.args.table.now c.in_ok-round.round j.0 j.1 f (omega (arith, c.in_ok-may_take.ensures)) in
    (free.2, free.3)

pub write_head-requires : goal.write_head-requires
write_head-requires c =
    let j = c.in_ok-round.ensures in
    let f = framed c.args.due.0 c.args.weight.0 c.args.class.0 in
    let free = row_free c.args.table.now c.in_ok-round.round j.0 j.1 f (omega (arith, c.in_ok-may_take.ensures)) in
    let l : length c.write_row.new.table ≡ length c.args.table.now = ap length
    c.write_row.ensures ∙ simp length-sets in
    (omega (arith, l, free.0), omega (arith, free.1, c.one_more.ensures.3))

pub returns : goal.returns
returns c =
    let j = c.in_ok-round.ensures in
    let f = framed c.args.due.0 c.args.weight.0 c.args.class.0 in
    let o = c.one_more.ensures in
    taken_says c.args.table.now c.in_ok-round.round j.0 j.1 f (omega (arith, c.in_ok-may_take.ensures))
    _ _ _ _ _ c.write_row.new.table c.write_head.new.table
    c.row_at.result _ _ _ _ _
    (o.0, o.1, o.2, o.3, o.5)
    c.row_at.ensures
    (omega arith, omega arith, omega arith, omega arith, omega arith)
    c.write_row.ensures c.write_head.ensures
