-- `zeros::row_is_zero` meets its contract: a row is zero where its three words are, which leave no gap.
use borrow.Author.Rules.{rules}
use Rattle.zeros.proofs.ZeroLaws.{row_foul, row_last}
use Rattle.zeros.proofs.row_is_zero.Goals as goal

pub returns-then-word-ne0 : goal.returns-then-word-ne0
returns-then-word-ne0 c =
    let s = c.args in
    row_foul s.table.now s.at _ _ c.word.ensures c.if-word-ne0.true (search rules) (search rules)

pub returns-then-word-ne0-2 : goal.returns-then-word-ne0-2
returns-then-word-ne0-2 c =
    let s = c.args in
    row_foul s.table.now s.at _ _ c.word-2.ensures c.if-word-ne0-2.true (search rules) (search rules)

pub returns : goal.returns
returns c =
    let s = c.args in
    row_last s.table.now s.at _ _ _ _ _ c.word.ensures c.word-2.ensures
    c.word-3.ensures c.if-word-ne0.false c.if-word-ne0-2.false (search rules) (search rules) (search rules) (search rules)
