-- `questions::ask_plan`: large arrays fit every sound table.
use native.Mathlib.Omega.{arith}
use Rattle.questions.proofs.SeenLaws.{few_rows}
use Rattle.questions.proofs.ask_plan.Goals as goal

pub ask_in_arrays-requires-2-clause-fits : goal.ask_in_arrays-requires-2-clause-fits
ask_in_arrays-requires-2-clause-fits g c = (few_rows c.args.sound.now.table.now c.args.sound.now.round c.args.sound.now.ready, omega arith, omega arith)
