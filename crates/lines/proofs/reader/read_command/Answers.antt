-- `lines::read_command` meets its contract: each way out is a way in which a line is broken, or the command of its numbers.
use mathlib.Core.Path.{refl, sym, ◌∙◌}
use Prim.Native.Nat.{◌+◌, ◌-◌, ◌<◌}
use native.Mathlib.Omega.{arith}
use lib.ListN.{length, take}
use borrow.Author.Rules.{rules}
use Rattle.rules.specs.Limits.{short_digits}
use Rattle.rules.specs.Lines.{count_digits, numbers_at}
use Rattle.theory.specs.Broken.{unended}
use Rattle.forms.proofs.FormLaws.{front_count}
use Rattle.lines.proofs.ReadLines.{spelt_nothing, short, foul, Begun, begun, too_few, unfit_payload, read_good}
use Rattle.lines.proofs.Collecting.{command_same}
use Rattle.lines.proofs.reader.read_command.Goals as goal
use Rattle.lines.proofs.reader.read_command.Goals.{After-form_of-form}

pub returns-then-n-le-SHORT_DIGITS : goal.returns-then-n-le-SHORT_DIGITS
returns-then-n-le-SHORT_DIGITS c = record { result_value = short c.args.line.now c.if-n-le-SHORT_DIGITS.true; line_value = refl }

pub returns-then-line-end-ne-LINE_END : goal.returns-then-line-end-ne-LINE_END
returns-then-line-end-ne-LINE_END c =
    record { result_value = unended c.args.line.now (λ e. omega (arith, c.if-line-end-ne-LINE_END.true)); line_value = refl }

pub returns-in_err-kind : goal.returns-in_err-kind
returns-in_err-kind c =
    let line = c.args.line.now in
    let no = spelt_nothing (take 2 line) (sym c.number.ensures ∙ c.in_err-kind.was) in
    record { result_value = rw c.from_residual.ensures (foul 0 2 line (search rules) no); line_value = refl }

-- the line is begun by its number
here : (c : After-form_of-form) → Begun c.in_ok-kind.kind c.args.line.now
here c = begun c.args.line.now (search rules) (search rules) (sym c.number.ensures ∙ c.in_ok-kind.was)

pub returns-then-end-front : goal.returns-then-end-front
returns-then-end-front c =
    let begun-here = here (goal.at.returns-then-end-front c).After-form_of-form in
    record { result_value = too_few begun-here c.form_of-form.ensures c.if-end-front.true; line_value = refl }

pub returns-then-not-payload_fits : goal.returns-then-not-payload_fits
returns-then-not-payload_fits c =
    let begun-here = here (goal.at.returns-then-not-payload_fits c).After-form_of-form in
    let no = sym c.payload_fits.ensures ∙ c.if-not-payload_fits.true in
    record { result_value = unfit_payload begun-here c.form_of-form.ensures c.if-end-front.false no; line_value = refl }

pub returns-then-not-digits_only : goal.returns-then-not-digits_only
returns-then-not-digits_only c =
    let begun-here = here (goal.at.returns-then-not-digits_only c).After-form_of-form in
    let line = c.args.line.now in
    let front = c.form_of-form.result.front in
    record {
      result_value =
          foul front (length line - 1 - front) line (omega (arith, c.if-end-front.false, begun-here.long))
          (sym c.digits_only.ensures ∙ c.if-not-digits_only.true);
      line_value = refl;
    }

pub read_numbers-requires : goal.read_numbers-requires
read_numbers-requires c = omega (arith, front_count c.form_of-form.ensures, c.if-end-front.false)

pub returns-in_err-values : goal.returns-in_err-values
returns-in_err-values c =
    let widths = c.form_of-form.result.widths.now in
    let within : short_digits + count_digits widths < length c.args.line.now = omega (arith, front_count c.form_of-form.ensures, c.if-end-front.false) in
    let no = rw c.in_err-values.was at c.read_numbers.ensures in
    record { result_value = rw c.from_residual-in_err-values.ensures (foul short_digits (count_digits widths) c.args.line.now within no); line_value = refl }

pub returns : goal.returns
returns c =
    let begun-here = here (goal.at.returns c).After-form_of-form in
    let numbers = rw c.in_ok-values.was at c.read_numbers.ensures in
    record {
      result_value =
          c.command_of.ensures
          ∙ command_same _ c.in_ok-values.values (numbers_at short_digits c.form_of-form.result.widths.now c.args.line.now) numbers.1
          ∙ read_good begun-here c.form_of-form.ensures c.if-end-front.false (sym c.payload_fits.ensures ∙ c.if-not-payload_fits.false) numbers.0
          (sym c.digits_only.ensures ∙ c.if-not-digits_only.false);
      line_value = refl;
    }
