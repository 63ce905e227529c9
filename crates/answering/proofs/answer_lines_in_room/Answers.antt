-- `answering::answer_lines_in_room` meets its contract: the lines so far are answered; what is left of the input falls.
use mathlib.Core.Path.{refl, ◌∙◌}
use native.Mathlib.Omega.{arith}
use borrow.Author.Rules.{rules}
use Rattle.rules.specs.Calls.{refused}
use Rattle.rules.specs.Lines.{reply_text}
use Rattle.forms.specs.Cases.{of_command}
use Rattle.replying.proofs.Replying.{said_by}
use Rattle.answering.proofs.Put.{put_line}
use Rattle.answering.proofs.Answered.{out_within, answering_more, answered_broken, answered_all}
use Rattle.answering.proofs.answer_lines_in_room.Goals as goal

pub returns-clause-answers : goal.returns-clause-answers
returns-clause-answers c =
    let told = c.so_far.ensures in
    answered_all c.loop-end.invariant.0 (omega (arith, told.0), omega (arith, told.1), told.2) c.in_default.ensures.line_ends

pub returns-in_default-read_command-clause-answers : goal.returns-in_default-read_command-clause-answers
returns-in_default-read_command-clause-answers c =
    let inv = c.loop-end.invariant.0 in
    let wrote = c.say_refusal-wrote in
    answered_broken inv c.in-Some.ensures.line_ends c.in_default-read_command.ensures.result_value (refl, refl, search rules)
    (put_line (out_within inv) (said_by {text = reply_text (refused 1)} wrote.ensures cc) wrote.auto.reply)

pub loop-end-preserved : goal.loop-end-preserved
loop-end-preserved c =
    let inv = c.loop-end.invariant in
    let taken = c.take_turn_in_room-wrote in (
      answering_more inv.0 c.in-Some.ensures.line_ends (of_command c.in-Some-read_command.command) c.in-Some-read_command.ensures.result_value (omega arith, refl)
          taken.ensures.moved (put_line (out_within inv.0) taken.ensures.said taken.auto.reply),
      taken.auto.table ∙ inv.1,
    )
