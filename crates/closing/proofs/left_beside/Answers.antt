-- `closing::left_beside` meets its contract.
use native.Mathlib.Omega.{arith}
use borrow.Author.Rules.{rules}
use Rattle.closing.proofs.CloseLaws.{gone_room, beside_most, beside_less}
use Rattle.closing.proofs.left_beside.Goals as goal

pub due_in-requires : goal.due_in-requires
due_in-requires c =
    gone_room c.requires.0 c.requires.1 c.requires.2 c.if-gone-round.true

pub overflow_sub-result : goal.overflow_sub-result
overflow_sub-result c =
    let d = beside_less c.requires.0 c.requires.1 c.requires.2 c.requires.3 (search rules) (search rules) in omega (arith, d)

pub returns-then-due_in-round : goal.returns-then-due_in-round
returns-then-due_in-round c =
    let d = beside_less c.requires.0 c.requires.1 c.requires.2 c.requires.3 (search rules) (search rules) in omega (arith, d)

pub returns-else-due_in-round : goal.returns-else-due_in-round
returns-else-due_in-round c = search (beside_most, rules)

pub returns-else-gone-round : goal.returns-else-gone-round
returns-else-gone-round c = search (beside_most, rules)
