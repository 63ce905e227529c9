-- The payload's place in its line.
use mathlib.Core.Path.{◌≡◌, sym, ap, ◌∙◌}
use mathlib.Core.List.{List}
use Prim.Native.Nat.{ℕ, ◌+◌, ◌-◌, ◌≤◌, ◌<◌}
use native.Mathlib.Omega.{arith}
use lib.ListN.{length, take, drop, length-drop}
use lib.Seq.{length-take-le}
use denote.Ref.{Bor}
use Rattle.std.specs.Prelude.{Option, Some, None}
use Rattle.rules.specs.Lines.{form_of, front_size, read, payload_place, payload}
use Rattle.theory.specs.Reader.{payload_behind, payload_bare, payload_broken, place_within}
use Rattle.forms.specs.declared.Command.{Command}
use Rattle.forms.specs.Cases.{of_command, of_reading}
use Rattle.lines.specs.Part.{PayloadPlaced, PayloadPart}

-- THE PLACE, by what the line is read as
module _ (line : List ℕ) {r : Option Command} (reads : of_reading r ≡ read line) {start end : ℕ} where
  pub placed_broken : r ≡ None → start ≡ 0 → end ≡ 0 → PayloadPlaced line start end
  placed_broken e p q = let h = payload_broken line (sym reads ∙ ap of_reading e) in record { starts = rw (p, h); ends = rw (q, h) }

  module _ {c : Command} (is : r ≡ Some c) {f : ℕ} (before : f ≡ front_size (form_of (of_command c))) where
    pub placed_behind : f + 1 < length line → start ≡ f → end ≡ length line - 1 → PayloadPlaced line start end
    placed_behind l p q =
        let h = payload_behind (of_command c) line (sym reads ∙ ap of_reading is) (omega arith) in
        record { starts = p ∙ before ∙ rw h; ends = q ∙ rw h }

    pub placed_bare : length line ≤ f + 1 → start ≡ 0 → end ≡ 0 → PayloadPlaced line start end
    placed_bare l p q =
        let h = payload_bare (of_command c) line (sym reads ∙ ap of_reading is) (omega arith) in
        record { starts = rw (p, h); ends = rw (q, h) }

-- the bytes of that place are the payload, in the line's memory
pub placed_part : {line part : Bor (List ℕ)} → part.ref_ptr.0 ≡ line.ref_ptr.0 → part.ref_ptr.1 ≡ line.ref_ptr.1 + (payload_place line.now).start →
    part.now ≡ take ((payload_place line.now).end - (payload_place line.now).start) (drop (payload_place line.now).start line.now) →
    PayloadPart line part
unfolding payload
placed_part {line} b p e =
    let place = payload_place line.now in
    let h = place_within line.now in
    let n : length (drop place.start line.now) ≡ length line.now - place.start = length-drop place.start line.now in
    record {
      bytes = e;
      long = ap length e ∙ length-take-le (place.end - place.start) (drop place.start line.now) (omega (arith, n, h.0, h.1));
      block = b;
      starts = p;
    }
