-- The payload's place in its line, and that part.
use Rattle.std.specs.Prelude.{◌≡◌, List, ℕ, ◌+◌, ◌-◌, length}
use Rattle.std.specs.Borrow.{Bor}
use Rattle.rules.specs.Lines.{payload, payload_place}

pub record PayloadPlaced (line : List ℕ) (start end : ℕ) : Type 0 where
  pub starts : start ≡ (payload_place line).start
  pub ends : end ≡ (payload_place line).end

-- a reference to the payload, in the very memory of its line
pub record PayloadPart (line part : Bor (List ℕ)) : Type 0 where
  pub bytes : part.now ≡ payload line.now
  pub long : length part.now ≡ (payload_place line.now).end - (payload_place line.now).start
  pub block : part.ref_ptr.0 ≡ line.ref_ptr.0
  pub starts : part.ref_ptr.1 ≡ line.ref_ptr.1 + (payload_place line.now).start
