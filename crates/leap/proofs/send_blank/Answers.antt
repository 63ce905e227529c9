-- `leap::send_blank` meets its contract.
use borrow.Author.Rules.{rules}
use Rattle.leap.proofs.LeapLaws.{blank_fits, blank_keeps}
use Rattle.leap.proofs.send_blank.Goals as goal

pub overflow_add-first-2 : goal.overflow_add-first-2
overflow_add-first-2 c =
    let h = blank_fits c.requires.0 in
    search rules

pub send_kept-requires : goal.send_kept-requires
send_kept-requires c = search (blank_keeps, rules)
