-- `closing::close_rows` meets its contract.
use borrow.Author.Rules.{rules}
use Rattle.closing.proofs.CloseLaws.{search_start, runs_start, some_left, search_more, run_room, runs_more, runs_end}
use Rattle.closing.proofs.close_rows.Goals as goal

pub next_leaving-i-requires : goal.next_leaving-i-requires
next_leaving-i-requires c = search (search_start, rules)

pub loop-i-init : goal.loop-i-init
loop-i-init c = search (runs_start, rules)

pub left_behind-left-requires : goal.left_behind-left-requires
left_behind-left-requires c = search (some_left, rules)

pub next_leaving-next-requires : goal.next_leaving-next-requires
next_leaving-next-requires c = search (search_more, rules)

pub move_run-requires : goal.move_run-requires
move_run-requires c =
    let r = run_room c.requires.0 c.requires.1 c.requires.2 c.loop-i.invariant (search rules) c.left_behind-left.ensures
    c.next_leaving-next.ensures in
    search rules

pub overflow_add-kept : goal.overflow_add-kept
overflow_add-kept c =
    let r = run_room c.requires.0 c.requires.1 c.requires.2 c.loop-i.invariant (search rules) c.left_behind-left.ensures
    c.next_leaving-next.ensures in
    search rules

pub loop-i-preserved : goal.loop-i-preserved
loop-i-preserved c =
    runs_more c.requires.0 c.requires.1 c.requires.2 c.loop-i.invariant (search rules) c.left_behind-left.ensures
    c.next_leaving-next.ensures (search rules) (search rules)

pub returns : goal.returns
returns c = search (runs_end, rules)
