-- `lines::payload_place` meets its contract: the place, by what the line is read as.
use mathlib.Core.Path.{refl, ap, ◌∙◌}
use native.Mathlib.Omega.{arith}
use borrow.Author.Rules.{rules}
use Rattle.rules.specs.Lines.{form_numbered, front_size}
use Rattle.theory.specs.Lines.{front_small}
use Rattle.forms.specs.Cases.{of_command}
use Rattle.lines.proofs.Places.{placed_broken, placed_behind, placed_bare}
use Rattle.lines.proofs.part.payload_place.Goals as goal

pub returns-in_default : goal.returns-in_default
returns-in_default c =
    record {
      payload_placed = placed_broken c.args.line.now c.read_command.ensures.result_value c.in_default.is (search rules) (search rules);
      line_value = refl;
    }

pub overflow_add-front : goal.overflow_add-front
overflow_add-front c =
    let front_here = c.form_of-front.ensures.front ∙ ap (λ k. front_size (form_numbered k)) c.line_number.ensures in
    omega (arith, front_here, front_small (of_command c.in-Some.command))

pub returns-then-front-n : goal.returns-then-front-n
returns-then-front-n c =
    let front_here = c.form_of-front.ensures.front ∙ ap (λ k. front_size (form_numbered k)) c.line_number.ensures in
    record {
      payload_placed =
          placed_behind c.args.line.now c.read_command.ensures.result_value c.in-Some.is front_here c.if-front-n.true refl refl;
      line_value = refl;
    }

pub returns-else-front-n : goal.returns-else-front-n
returns-else-front-n c =
    let front_here = c.form_of-front.ensures.front ∙ ap (λ k. front_size (form_numbered k)) c.line_number.ensures in
    record {
      payload_placed =
          placed_bare c.args.line.now c.read_command.ensures.result_value c.in-Some.is front_here c.if-front-n.false refl refl;
      line_value = refl;
    }
