-- `replying::write_step_in_room` meets its contract: the buffer is filled part by part.
use mathlib.Core.Path.{refl}
use borrow.Author.Rules.{rules}
use Rattle.rules.specs.Lines.{digits}
use Rattle.replying.specs.Replying.{step_text}
use Rattle.digits.proofs.Filling.{filled_none, filled_number, filled_byte}
use Rattle.replying.proofs.Replying.{replied}
use Rattle.replying.proofs.write_step_in_room.Goals as goal

pub returns : goal.returns
unfolding digits step_text
returns c =
    let s = c.args in
    let one = filled_number 0 2 2 (filled_none s.buffer.now) c.put_number.ensures refl (search rules) in
    let two = filled_number 2 2 s.out one c.put_number-2.ensures refl (search rules) in
    let three = filled_number 4 2 s.leap two c.put_number-3.ensures refl (search rules) in
    let four = filled_number 6 8 s.gone.0 three c.put_number-4.ensures refl (search rules) in
    replied (filled_byte 14 10 four refl (search rules)) (search rules)
