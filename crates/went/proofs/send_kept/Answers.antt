-- `step::send_kept` meets its contract.
use borrow.Author.Rules.{rules}
use Rattle.went.proofs.SendLaws.{kept_there, kept_good, kept_due, kept_says}
use Rattle.went.proofs.send_kept.Goals as goal

pub write_kept-requires : goal.write_kept-requires
write_kept-requires c = search (kept_there, rules)

pub close_up-requires : goal.close_up-requires
close_up-requires c =
    let good = kept_good c.requires.0 c.write_kept.ensures in
    (good.0, good.1, search rules, kept_due c.requires.0 c.write_kept.ensures c.requires.1)

pub returns : goal.returns
returns c = search (kept_says, rules)
