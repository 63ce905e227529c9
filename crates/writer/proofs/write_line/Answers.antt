-- `writer::write_line` meets its contract: the refusals in their order; then front, payload and 0A.
use mathlib.Core.Path.{◌≡◌, refl, sym, ◌∙◌}
use Prim.Native.Nat.{◌+◌, ◌-◌}
use native.Mathlib.Omega.{arith}
use native.Mathlib.Nat.{sub-zero}
use lib.ListN.{length}
use borrow.Author.Rules.{rules}
use Rattle.rules.specs.Lines.{form_of, front_size, stands}
use Rattle.theory.specs.Lines.{front_small}
use Rattle.digits.proofs.Filling.{put_part}
use Rattle.forms.specs.Cases.{of_command}
use Rattle.forms.proofs.FormLaws.{front_count}
use Rattle.writer.proofs.Writing.{front_here, stands_here, front_put, write_unfit, write_full, write_on}
use Rattle.writer.proofs.write_line.Goals as goal
use Rattle.writer.proofs.write_line.Goals.{After-values_of-values, After-can_stand}

-- the front, and what is asked, are of the command
front : (c : After-values_of-values) → c.form_of-form.result.front ≡ front_size (form_of (of_command c.args.command))
front c = front_here c.line_number-number.ensures c.form_of-form.ensures c.values_of-values.ensures

asked : (c : After-can_stand) → c.can_stand.result ≡ stands (of_command c.args.command) c.args.payload.now
asked c = c.can_stand.ensures ∙ stands_here c.line_number-number.ensures c.form_of-form.ensures c.values_of-values.ensures c.args.payload.now

pub returns-then-not-can_stand : goal.returns-then-not-can_stand
returns-then-not-can_stand c =
    let ask = asked (goal.at.returns-then-not-can_stand c).After-can_stand in
    record { writes = write_unfit (of_command c.args.command) c.args.payload.now c.args.buffer.now (sym ask ∙ c.if-not-can_stand.true); payload_value = refl }

pub overflow_add-end : goal.overflow_add-end
overflow_add-end c =
    omega (arith, front (goal.at.overflow_add-end c).After-values_of-values, front_small (of_command c.args.command))

pub returns-then-buffer-end : goal.returns-then-buffer-end
returns-then-buffer-end c =
    let here = goal.at.returns-then-buffer-end c in
    let ask = asked here.After-can_stand in
    record {
      writes =
          write_full (of_command c.args.command) c.args.payload.now c.args.buffer.now (sym ask ∙ c.if-not-can_stand.false)
          (omega (arith, front here.After-values_of-values, c.if-buffer-end.true));
      payload_value = refl;
    }

pub slice_bounds-put_number-end : goal.slice_bounds-put_number-end
slice_bounds-put_number-end c = omega (arith, c.if-buffer-end.false, front_count c.form_of-form.ensures)

pub put_values-requires-clause-room : goal.put_values-requires-clause-room
put_values-requires-clause-room c = omega (arith, c.if-buffer-end.false, front_count c.form_of-form.ensures)

pub returns : goal.returns
returns c =
    let here = goal.at.returns c in
    let m = c.form_of-form.result.front in
    let filled =
    front_put c.line_number-number.ensures c.form_of-form.ensures c.values_of-values.ensures {z = c.args.buffer.now} {y = c.put_number.new.part}
    (omega (arith, c.if-buffer-end.false)) c.put_number.ensures refl (rw sub-zero at c.put_values.ensures) in
    let copied = put_part m (m + length c.args.payload.now - m) c.put_values.new.buffer c.copy_from_slice.ensures.after (omega arith) in
    let ask = asked here.After-can_stand in
    record {
      writes =
          write_on (of_command c.args.command) c.args.payload.now c.args.buffer.now (sym ask ∙ c.if-not-can_stand.false)
          (front here.After-values_of-values) c.if-buffer-end.false filled copied (search rules);
      payload_value = refl;
    }
