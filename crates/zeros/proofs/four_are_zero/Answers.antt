-- `zeros::four_are_zero` meets its contract: four rows without a gap.
use mathlib.Core.Path.{◌≡◌, sym, ap, ◌∙◌}
use Prim.Native.Nat.{ℕ, ◌+◌, ◌*◌}
use native.Mathlib.Omega.{arith}
use Rattle.zeros.specs.Zeros.{zero_part}
use Rattle.zeros.proofs.ZeroLaws.{four_foul, rows_none, rows_more}
use Rattle.zeros.proofs.four_are_zero.Goals as goal

pub loop-row-init : goal.loop-row-init
loop-row-init c = rows_none c.args.table.now c.args.at

pub returns-then-not-row_is_zero : goal.returns-then-not-row_is_zero
returns-then-not-row_is_zero c =
    four_foul c.args.table.now c.args.at _ _ c.row_is_zero.ensures c.if-not-row_is_zero.true (omega arith) (omega arith)

pub loop-row-preserved : goal.loop-row-preserved
loop-row-preserved c =
    let s = c.args in
    let e : 24 * c.loop-row.row + 24 ≡ 24 * (c.loop-row.row + 1) = omega arith in
    sym (ap (λ (n : ℕ). zero_part s.at n s.table.now) e)
    ∙ rows_more s.table.now s.at (24 * c.loop-row.row) _ _ c.row_is_zero.ensures c.if-not-row_is_zero.false (omega arith) c.loop-row.invariant
