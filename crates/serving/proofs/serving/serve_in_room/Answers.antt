-- `serving::serve_in_room` meets its contract: each way out is one of a read's four.
use mathlib.Core.Path.{refl}
use Rattle.serving.proofs.OneRead.{serves_end, serves_stopped, serves_overlong, serves_on}
use borrow.Author.Rules.{rules}
use Rattle.serving.proofs.serving.serve_in_room.Goals as goal

pub returns-then-got-eq0 : goal.returns-then-got-eq0
returns-then-got-eq0 c =
    serves_end {held = c.args.held} {got = c.args.got} {input = c.args.input.now} (search rules) c.requires.0
    c.end_input.ensures (refl, refl)

pub returns-then-progress : goal.returns-then-progress
returns-then-progress c =
    serves_stopped c.args.held c.args.got c.args.input.now (search rules) c.requires.0
    c.answer_lines_in_room-progress.ensures.answers (search rules) (refl, refl)

pub returns-then-rest-gt-LONGEST_LINE : goal.returns-then-rest-gt-LONGEST_LINE
returns-then-rest-gt-LONGEST_LINE c =
    serves_overlong c.args.held c.args.got c.args.input.now (search rules) c.requires.0
    c.answer_lines_in_room-progress.ensures.answers (search rules) (search rules) c.refuse_behind.ensures
    (refl, refl)

pub returns : goal.returns
returns c =
    serves_on c.args.held c.args.got c.args.input.now (search rules) c.requires.0
    c.answer_lines_in_room-progress.ensures.answers (search rules) (search rules) c.copy_within.ensures.after (refl, refl)
