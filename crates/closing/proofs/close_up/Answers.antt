-- `closing::close_up` meets its contract.
use mathlib.Core.Path.{sym}
use native.Mathlib.Omega.{arith}
use borrow.Author.Rules.{rules}
use lib.Seq.{length-take-le}
use Rattle.closing.proofs.HeadLaws.{slot_small}
use Rattle.closing.proofs.EndLaws.{kept_few, closed_written}
use Rattle.closing.proofs.close_up.Goals as goal

pub row_at-end-requires : goal.row_at-end-requires
row_at-end-requires c =
    (kept_few c.close_rows-kept.ensures c.requires.0 c.requires.1).1

pub row_at-from-requires : goal.row_at-from-requires
row_at-from-requires c =
    omega (arith, kept_few c.close_rows-kept.ensures c.requires.0 c.requires.1)

pub slice_bounds-clear-end : goal.slice_bounds-clear-end
slice_bounds-clear-end c =
    omega (arith, kept_few c.close_rows-kept.ensures c.requires.0 c.requires.1, c.row_at-end.ensures)

pub slice_bounds-clear-end-2 : goal.slice_bounds-clear-end-2
slice_bounds-clear-end-2 c =
    sym (length-take-le _ _ (omega (
      arith,
      kept_few c.close_rows-kept.ensures c.requires.0 c.requires.1,
      c.row_at-end.ensures,
    )))

pub clear-requires : goal.clear-requires
clear-requires c =
    let k = kept_few c.close_rows-kept.ensures c.requires.0 c.requires.1 in
    omega (
      arith,
      k,
      length-take-le c.row_at-end.result c.close_rows-kept.new.table
          (omega (arith, k, c.row_at-end.ensures)),
      c.row_at-end.ensures,
      c.row_at-from.ensures,
    )

pub overflow_add-round : goal.overflow_add-round
overflow_add-round c =
    omega (arith, slot_small c.requires.0 c.requires.1)

pub overflow_cast-kept : goal.overflow_cast-kept
overflow_cast-kept c =
    omega (arith, kept_few c.close_rows-kept.ensures c.requires.0 c.requires.1)

pub returns : goal.returns
returns c = search (closed_written, rules)
