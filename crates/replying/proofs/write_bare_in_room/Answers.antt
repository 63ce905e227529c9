-- `replying::write_bare_in_room` meets its contract: the buffer is filled part by part.
use mathlib.Core.Path.{refl}
use borrow.Author.Rules.{rules}
use Rattle.rules.specs.Lines.{digits}
use Rattle.replying.specs.Replying.{bare_text}
use Rattle.digits.proofs.Filling.{filled_none, filled_number, filled_byte}
use Rattle.replying.proofs.Replying.{replied}
use Rattle.replying.proofs.write_bare_in_room.Goals as goal

pub returns : goal.returns
unfolding digits bare_text
returns c =
    let s = c.args in
    let one = filled_number 0 2 s.number (filled_none s.buffer.now) c.put_number.ensures refl (search rules) in
    replied (filled_byte 2 10 one refl (search rules)) (search rules)
