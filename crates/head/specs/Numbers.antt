-- The numbers of the head as bytes, without the zeros behind them.
use Rattle.std.specs.Prelude.{List, ℕ}
use Rattle.rules.specs.Limits.{head_widths}
use Rattle.rules.specs.Rows.{HeadTail}
use Rattle.rules.specs.Table.{put, head_values}

unfoldable pub head_numbers : (slot last next used : ℕ) → HeadTail → List ℕ
head_numbers t l n u m = put head_widths (head_values t l n u m)
