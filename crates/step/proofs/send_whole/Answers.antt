-- `step::send_whole` meets its contract.
use borrow.Author.Rules.{rules}
use mathlib.Core.Bool.{true, false}
use Rattle.went.proofs.SendLaws.{alone_asks}
use Rattle.step.proofs.WholeLaws.{whole_first, whole_far, whole_kept}
use Rattle.step.proofs.send_whole.Goals as goal

pub send_row-requires : goal.send_row-requires
send_row-requires c = alone_asks (whole_first c.requires.0 c.in-First.is) c.requires.1

pub send_row-requires-in-Far : goal.send_row-requires-in-Far
send_row-requires-in-Far c = alone_asks (whole_far c.requires.0 c.in-Far.is) c.requires.1

pub send_kept-requires : goal.send_kept-requires
send_kept-requires c = search (whole_kept, rules)

pub returns-in-First : goal.returns-in-First
returns-in-First c = c.send_row.ensures.sent false (whole_first c.requires.0 c.in-First.is)

pub returns-in-Far : goal.returns-in-Far
returns-in-Far c = c.send_row-in-Far.ensures.sent true (whole_far c.requires.0 c.in-Far.is)
