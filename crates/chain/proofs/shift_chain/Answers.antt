-- `chain::shift_chain` meets its contract.
use borrow.Author.Rules.{rules}
use Rattle.chain.proofs.ShiftLaws.{shift_none, shift_start, shift_named, shift_long, shift_fair, shift_again, shift_end}
use Rattle.chain.proofs.shift_chain.Goals as goal

pub returns-then-to-own : goal.returns-then-to-own
returns-then-to-own c = search (shift_none, rules)

pub loop-k-init : goal.loop-k-init
loop-k-init c = search (shift_start, rules)

pub pass_segment-waiting-requires : goal.pass_segment-waiting-requires
pass_segment-waiting-requires c = shift_fair c.requires c.loop-k.invariant

pub loop-k-preserved : goal.loop-k-preserved
loop-k-preserved c = search (shift_again, rules)

pub shift_link-requires : goal.shift_link-requires
shift_link-requires c = search (shift_named, rules)

pub shape_of-table : goal.shape_of-table
shape_of-table c =
    let e = shift_long c.requires
    c.loop-k.invariant in
    search rules

pub returns : goal.returns
returns c = search (shift_end, rules)
