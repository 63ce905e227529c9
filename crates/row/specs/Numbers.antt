-- The numbers of a frame's row as bytes, without the zeros behind them.
use Rattle.std.specs.Prelude.{ℕ, List}
use Rattle.rules.specs.Limits.{row_widths}
use Rattle.rules.specs.Rows.{Frame}
use Rattle.rules.specs.Steps.{taken_row}
use Rattle.rules.specs.Table.{put, row_values}

unfoldable pub row_numbers : (ticket : ℕ) → Frame → List ℕ
row_numbers k f = put row_widths (row_values (taken_row k f))
