-- `replying::write_ticket_in_room` meets its contract: the buffer is filled part by part.
use mathlib.Core.Path.{refl}
use borrow.Author.Rules.{rules}
use Rattle.rules.specs.Lines.{digits, reply_digits, reply_text}
use Rattle.digits.proofs.Filling.{filled_none, filled_number, filled_byte}
use Rattle.replying.proofs.Replying.{replied}
use Rattle.replying.proofs.write_ticket_in_room.Goals as goal

pub returns : goal.returns
unfolding digits reply_digits reply_text
returns c =
    let s = c.args in
    let one = filled_number 0 2 1 (filled_none s.buffer.now) c.put_number.ensures refl (search rules) in
    let two = filled_number 2 8 s.given.0 one c.put_number-2.ensures refl (search rules) in
    replied (filled_byte 10 10 two refl (search rules)) (search rules)
