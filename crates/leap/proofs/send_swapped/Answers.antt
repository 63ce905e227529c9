-- `leap::send_swapped` meets its contract.
use borrow.Author.Rules.{rules}
use Rattle.leap.proofs.LeapLaws.{leap_used, swap_own, swap_near, swap_chained, swap_small, swap_there, swap_good, swap_due, swap_says}
use Rattle.leap.proofs.send_swapped.Goals as goal

pub out_of-out-requires : goal.out_of-out-requires
out_of-out-requires c = search (leap_used, rules)

pub segment_by-to-requires : goal.segment_by-to-requires
segment_by-to-requires c = search (swap_own, swap_near, rules)

pub shift_chain-requires : goal.shift_chain-requires
shift_chain-requires c = search (swap_chained, rules)

pub write_weight-requires : goal.write_weight-requires
write_weight-requires c = search (swap_small, swap_there, rules)

pub close_up-requires : goal.close_up-requires
close_up-requires c =
    let good =
    swap_good c.requires.0 c.due_of.ensures c.segment_by-to.ensures c.lower_marks.ensures
    c.shift_chain.ensures c.row_of.ensures c.write_weight.ensures (search rules) in
    let used = leap_used c.requires.0.leaps c.row_of-sent.ensures in (
      good.0,
      good.1,
      search rules,
      swap_due c.requires.0 c.due_of.ensures c.segment_by-to.ensures c.lower_marks.ensures
          c.shift_chain.ensures c.row_of.ensures c.write_weight.ensures (search rules) c.requires.1,
    )

pub returns : goal.returns
returns c =
    swap_says c.requires.0 c.due_of.ensures c.segment_by-to.ensures c.lower_marks.ensures
    c.shift_chain.ensures c.row_of.ensures c.write_weight.ensures (search rules)
    c.row_of-sent.ensures c.out_of-out.ensures c.close_up.ensures
