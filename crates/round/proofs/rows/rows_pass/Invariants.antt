-- `round::rows::rows_pass` meets its contract. The invariant: the rows before i are judged (`Judging`), and counted where they are to be.
use Rattle.std.proofs.Common.{◌≡◌, length}
use mathlib.Core.Bool.{true}
use denote.Param.{number}
use Rattle.round.specs.contracts.rows.rows_pass.{COUNTED-type}
use Rattle.rules.specs.Table.{round_in}
use Rattle.round.proofs.CountLaws.{Counting}
use Rattle.round.proofs.ScanLaws.{Judging}
use Rattle.round.proofs.rows.rows_pass.Given as goal

abbrev pub invariant-loop-i : goal.invariant-loop-i
invariant-loop-i g l =
    Judging l.table l.round l.i l.seen × (COUNTED-type (number g.row.COUNTED) ≡ true → Counting (round_in l.table) l.i l.counts) × (length l.counts ≡ length l.initial.counts)
