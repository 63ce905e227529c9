-- `open_round` meets its contract.
use mathlib.Core.Path.{◌≡◌, sym, ◌∙◌}
use mathlib.Core.Bool.{true}
use native.Mathlib.Omega.{arith}
use lib.ListN.{length}
use Rattle.std.proofs.Common.{rules, Err}
use Rattle.rules.specs.Table.{length_good}
use Rattle.rules.specs.Rows.{until}
use Rattle.rules.specs.Calls.{opening}
use Rattle.theory.specs.Outcomes.{says_refused, opening_length, opening_number}
use Rattle.rules.specs.Calls.{first_of, open_tests}
use Rattle.checks.proofs.Refused.{refused_says}
use Rattle.opening.proofs.Opened.{head_fits, cleared_fits, opened_says}
use Rattle.opening.proofs.open_round.Goals as goal

pub returns-then-not-length_is_good : goal.returns-then-not-length_is_good
returns-then-not-length_is_good c =
    says_refused (opening (until c.args.last.0)) c.args.table.now 2
    (opening_length (until c.args.last.0) c.args.table.now (sym c.length_is_good.ensures ∙ c.if-not-length_is_good.true)) (λ z. omega (arith, z))

pub returns-in_err-may_open : goal.returns-in_err-may_open
returns-in_err-may_open c =
    let good : length_good (length c.args.table.now) ≡ true = sym c.length_is_good.ensures ∙ c.if-not-length_is_good.false in
    let e : c.from_residual.result ≡ Err c.in_err-may_open.field-0.0 = search rules in
    rw e (refused_says (opening (until c.args.last.0)) c.args.table.now _ _ (opening_number (until c.args.last.0) c.args.table.now good)
    (omega (arith, c.in_err-may_open.ensures)))

pub rows_of-requires : goal.rows_of-requires
rows_of-requires c =
    let good : length_good (length c.args.table.now) ≡ true = sym c.length_is_good.ensures ∙ c.if-not-length_is_good.false in
    head_fits (until c.args.last.0) c.args.table.now good

pub clear-requires : goal.clear-requires
clear-requires c =
    let good : length_good (length c.args.table.now) ≡ true = sym c.length_is_good.ensures ∙ c.if-not-length_is_good.false in
    omega (arith, head_fits (until c.args.last.0) c.args.table.now good)

pub write_head-requires : goal.write_head-requires
write_head-requires c =
    let good : length_good (length c.args.table.now) ≡ true = sym c.length_is_good.ensures ∙ c.if-not-length_is_good.false in (
      cleared_fits (until c.args.last.0) c.args.table.now good
          c.clear.new.table c.clear.ensures,
      omega (arith, c.new-round.ensures.3),
    )

pub returns : goal.returns
returns c =
    let good : length_good (length c.args.table.now) ≡ true = sym c.length_is_good.ensures ∙ c.if-not-length_is_good.false in
    let free : first_of (open_tests (until c.args.last.0)) ≡ 0 = omega (arith, c.in_ok-may_open.ensures) in
    let n = c.new-round.ensures in
    opened_says (until c.args.last.0) c.args.table.now
    good
    free _ _ _ _ _
    c.clear.new.table c.write_head.new.table
    (omega (arith, n.0), omega (arith, n.1), omega (arith, n.2), omega (arith, n.3), omega (arith, n.5))
    (cc c.clear.ensures) c.write_head.ensures
