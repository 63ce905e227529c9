-- `zeros::zeros_from` meets its contract. The invariant: the bytes from the start are zero where those from here on are, and whole rows follow.
use mathlib.Core.Bool.{true, false}
use mathlib.Core.Path.{sym, ◌∙◌}
use borrow.Author.Rules.{rules}
use Rattle.zeros.proofs.ZeroLaws.{zeros_more, zeros_none}
use Rattle.zeros.proofs.zeros_from.Goals as goal

pub returns-then-not-four_are_zero : goal.returns-then-not-four_are_zero
returns-then-not-four_are_zero c =
    sym (zeros_more c.args.table.now c.args.from c.loop-at.at _ _ false c.four_are_zero.ensures c.if-not-four_are_zero.true
    c.loop-at.invariant.2)

pub loop-at-preserved : goal.loop-at-preserved
loop-at-preserved c = (
  search rules,
  search rules,
  zeros_more c.args.table.now c.args.from c.loop-at.at _ _ true c.four_are_zero.ensures c.if-not-four_are_zero.false
      c.loop-at.invariant.2,
)

pub returns-then-not-row_is_zero : goal.returns-then-not-row_is_zero
returns-then-not-row_is_zero c =
    sym (zeros_more c.args.table.now c.args.from c.loop-at-2.at _ _ false c.row_is_zero.ensures c.if-not-row_is_zero.true
    c.loop-at-2.invariant.2)

pub loop-at-2-preserved : goal.loop-at-2-preserved
loop-at-2-preserved c = (
  search rules,
  search rules,
  zeros_more c.args.table.now c.args.from c.loop-at-2.at _ _ true c.row_is_zero.ensures c.if-not-row_is_zero.false
      c.loop-at-2.invariant.2,
)

pub returns : goal.returns
returns c = sym (c.loop-at-2.invariant.2 ∙ zeros_none c.args.table.now c.loop-at-2.at (search rules))
