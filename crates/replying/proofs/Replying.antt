-- Reply lines written: from the filled buffer, a line by another name for it, and a line by its numbers.
use mathlib.Core.Path.{◌≡◌, refl}
use mathlib.Core.List.{List}
use Prim.Native.Nat.{ℕ}
use lib.ListN.{length}
use Rattle.rules.specs.Calls.{Out, silence, frame, kept_blank, ordinary, leap, done, closed, step}
use Rattle.rules.specs.Lines.{digits, reply_text, reply_digits, out_digits}
use Rattle.digits.proofs.Filling.{Filled}
use Rattle.replying.specs.Replying.{Replies, bare_text, step_text, out_number, out_ticket}

pub replied : {xs zs b : List ℕ} {r : ℕ} → Filled xs zs b → r ≡ length xs → Replies xs zs b r
replied f e = record { long = e; left = f.stand }

pub said_by : {line text before after : List ℕ} {r : ℕ} → Replies line before after r → line ≡ text → Replies text before after r
said_by p e = rw e at p

-- an opening's line and a sealing's, by their numbers
pub done_said : bare_text 0 ≡ reply_text done
unfolding reply_text reply_digits bare_text
done_said = refl

pub closed_said : bare_text 3 ≡ reply_text closed
unfolding reply_text reply_digits bare_text
closed_said = refl

-- a step's line by its numbers
pub ordinary_said : (o : Out) → step_text (out_number o) 0 (out_ticket o) ≡ reply_text (step (ordinary o))
unfolding reply_text reply_digits out_digits step_text digits
ordinary_said silence = refl
ordinary_said (frame k) = refl
ordinary_said (kept_blank k) = refl

pub leap_said : (o : Out) → step_text (out_number o) 1 (out_ticket o) ≡ reply_text (step (leap o))
unfolding reply_text reply_digits out_digits step_text digits
leap_said silence = refl
leap_said (frame k) = refl
leap_said (kept_blank k) = refl
