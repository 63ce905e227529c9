-- Broken lines, whose last byte is no 0A, or that are longer than any command's: unended, too_long.
use Rattle.std.specs.Prelude.{◌≡◌, refl, Bool, true, false, List, [], ◌∷◌, ℕ, ◌+◌, ◌-◌, ◌%◌, ◌≤◌, ◌<◌, leb, eqb, length, get_or}
use Rattle.std.proofs.Common.{sym, ap, ◌∙◌, arith, length-append, length-take-le, leb-true, eqb-true}
use Rattle.std.proofs.lemmas.List.{get_or_at}
use Rattle.rules.specs.Limits.{most_payload}
use Rattle.rules.specs.Lines.{form_of, front_size, payload_fits, Command, line_end, Reading, command, broken, body, read}
use Rattle.rules.specs.Reads.{longest_line}
use Rattle.theory.specs.Tests.{and_true}
use Rattle.theory.specs.Lines.{front_small, from_long, Ended, command_ended}

pub length_body : (line : List ℕ) → length (body line) ≡ length line - 1
unfolding body
length_body line = length-take-le (length line - 1) line (omega arith)

-- a line that is no command's
pub read_not : (line : List ℕ) → ((c : Command) → Ended c line → ⊥) → broken ≡ read line
read_not line f = told (read line) refl
  where
    told : (r : Reading) → read line ≡ r → broken ≡ read line
    told (command c) e = absurd (f c (command_ended c line e))
    told broken e = sym e

-- NO 0A LAST
pub ended_last : (c : Command) (line : List ℕ) → Ended c line → get_or line (length line - 1) 0 ≡ line_end
ended_last c line h =
    let l : length line ≡ length (body line) + 1 = ap length h.ends ∙ length-append (body line) (line_end ∷ []) in
    ap (λ (xs : List ℕ). get_or xs (length line - 1) 0) h.ends ∙ get_or_at (body line) line_end [] 0 (length line - 1) (omega arith)

pub unended : (line : List ℕ) → (get_or line (length line - 1) 0 ≡ line_end → ⊥) → broken ≡ read line
unended line f = read_not line (λ c h. f (ended_last c line h))

-- TOO LONG: no form has more digits than line 04 with a whole payload
pub payload_most : (may : Bool) (n : ℕ) → payload_fits may n ≡ true → n ≤ most_payload
unfolding payload_fits
payload_most true n e = leb-true n most_payload (and_true (eqb (n % 2) 0) (leb n most_payload) e).1
payload_most false n e = omega (arith, eqb-true n 0 e)

pub too_long : (line : List ℕ) → longest_line < length line → broken ≡ read line
too_long line g =
    read_not line λ c h.
    let f = form_of c in
    let n = length (body line) in
    let l = from_long f n h.reads.long in
    omega (arith, length_body line, l.front, front_small c, payload_most f.payload (n - front_size f) l.payload)
