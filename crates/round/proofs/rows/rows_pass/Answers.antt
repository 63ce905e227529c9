-- `round::rows::rows_pass` meets its contract: each answer from what the tests on the way have shown.
use mathlib.Core.Path.{◌≡◌, refl}
use mathlib.Core.Bool.{true, false≢true}
use Prim.Native.Nat.{ℕ, zero, suc, ◌+◌}
use native.Mathlib.Omega.{arith}
use borrow.Author.Rules.{rules}
use Prim.Native.Nat.compare as compare
use denote.Param.{number}
use Rattle.rules.specs.Table.{round_in}
use Rattle.round.specs.contracts.rows.rows_pass.{COUNTED-type}
use Rattle.round.proofs.CountLaws.{counting_start}
use Rattle.round.proofs.ScanLaws.{Judging, Scanned, BucketAt, judging_start, judging_on, judging_off, judging_end, bucket_there, scanned_on, scanned_room, no_row, all_late, say_none, say_off, say_all}
use Rattle.round.proofs.rows.rows_pass.Goals as goal
use Rattle.round.proofs.rows.rows_pass.Goals.{then-this-ne0, else-this-ne0}

-- counting is asked for exactly where the parameter is not 0
counted_off : (n : ℕ) → n ≡ 0 → COUNTED-type (number n) ≡ true → ⊥
counted_off zero e h = false≢true h
counted_off (suc n) e h = absurd (omega (arith, e))

counted_on : (n : ℕ) → (n ≡ 0 → ⊥) → COUNTED-type (number n) ≡ true
counted_on zero h = absurd (h refl)
counted_on (suc n) h = rw compare.suc-zero

pub returns-then-round-eq0-clause-judged : goal.returns-then-round-eq0-clause-judged
returns-then-round-eq0-clause-judged g c = no_row c.args.table.now c.args.round (search rules)

pub returns-then-round-eq0-clause-counted : goal.returns-then-round-eq0-clause-counted
returns-then-round-eq0-clause-counted g c = λ h. say_none _ _ _ c.requires.0 (c.requires.1 h) (search rules)

pub returns-then-round-clause-judged : goal.returns-then-round-clause-judged
returns-then-round-clause-judged g c = all_late c.args.table.now c.args.round (search rules) (search rules)

pub returns-then-round-clause-counted : goal.returns-then-round-clause-counted
returns-then-round-clause-counted g c = λ h. say_off _ _ _ (all_late c.args.table.now c.args.round (search rules) (search rules))

pub loop-i-init : goal.loop-i-init
loop-i-init g c = (judging_start _ _ c.requires.0, λ h. counting_start _ _ _ c.requires.0 (c.requires.1 h), refl)

pub returns-then-not-row_follows-clause-judged : goal.returns-then-not-row_follows-clause-judged
returns-then-not-row_follows-clause-judged g c =
    judging_off _ _ c.requires.0 (search rules) _ _ _ c.row_at-a.ensures refl (search rules) _ _
    c.see_row-seen.ensures _ c.row_follows.ensures c.if-not-row_follows.true c.loop-i.invariant.0

pub returns-then-not-row_follows-clause-counted : goal.returns-then-not-row_follows-clause-counted
returns-then-not-row_follows-clause-counted g c = λ h. say_off _ _ _
    (judging_off _ _ c.requires.0 (search rules) _ _ _ c.row_at-a.ensures refl (search rules) _ _
    c.see_row-seen.ensures _ c.row_follows.ensures c.if-not-row_follows.true c.loop-i.invariant.0)

pub overflow_add-counts : goal.overflow_add-counts
overflow_add-counts g c =
    let bucket : BucketAt (round_in c.args.table.now) c.loop-i.i (c.min-b.result) =
    bucket_there _ _ c.requires.0 c.if-round.false _ _ _ c.row_at-a.ensures refl c.loop-i-test.true _ _
    c.see_row-seen.ensures _ _ _ c.row_follows.ensures c.if-not-row_follows.false c.top_of-top.ensures c.min-b.ensures in
    let so_far : Scanned c.args.table.now c.args.round c.loop-i.i c.loop-i.seen c.loop-i.counts = record { judging = c.loop-i.invariant.0; counting = c.loop-i.invariant.1 (counted_on _ c.if-this-ne0.true) } in
    omega (arith, (scanned_room _ _ _ _ _ _ c.requires.0 bucket so_far).2)

pub loop-i-preserved : goal.loop-i-preserved
loop-i-preserved g c =
    let judging : Judging c.args.table.now c.args.round (c.loop-i.i + 1) c.see_row-seen.result =
    judging_on _ _ c.requires.0 c.if-round.false _ _ _ c.row_at-a.ensures refl c.loop-i-test.true _ _
    c.see_row-seen.ensures _ c.row_follows.ensures c.if-not-row_follows.false c.loop-i.invariant.0 in (
      judging,
      elim c.if-this-ne0.branch [
        | then-this-ne0 w ↦ λ h.
            let bucket : BucketAt (round_in c.args.table.now) c.loop-i.i w.min-b.result =
            bucket_there _ _ c.requires.0 c.if-round.false _ _ _ c.row_at-a.ensures refl c.loop-i-test.true _ _
            c.see_row-seen.ensures _ _ _ c.row_follows.ensures c.if-not-row_follows.false c.top_of-top.ensures w.min-b.ensures in
            let so_far : Scanned c.args.table.now c.args.round c.loop-i.i c.loop-i.seen c.loop-i.counts =
            record { judging = c.loop-i.invariant.0; counting = c.loop-i.invariant.1 h } in
            rw w.counts-is (scanned_on _ _ _ _ _ _ _ c.requires.0 c.loop-i-test.true judging bucket so_far).counting
        | else-this-ne0 w ↦ λ h. absurd (counted_off _ w.if-this-ne0.false h)
      ],
      omega (arith, c.if-this-ne0.auto.counts, c.loop-i.invariant.2),
    )

pub returns-clause-judged : goal.returns-clause-judged
returns-clause-judged g c = judging_end _ _ _ _ _ c.loop-i.invariant.0 (search rules) c.all_pass.ensures

pub returns-clause-counted : goal.returns-clause-counted
returns-clause-counted g c = λ h. say_all _ _ _ _ _ _ c.requires.0 (search rules) c.all_pass.ensures
    (record { judging = c.loop-i.invariant.0; counting = c.loop-i.invariant.1 h })
