-- What an exported call promises, and that its number tells its reply.
use Rattle.std.specs.Prelude.{◌≡◌, List, ℕ}
use Rattle.rules.specs.Calls.{Call, Reply, answer, left}
use Rattle.rules.specs.Looking.{substitute_answer}
use Rattle.packing.specs.Packing.{pack, unpack, unpack_substitute, Fits}

-- the packed reply whole, and every byte of the table
abbrev pub Exports : Call → (packed : ℕ) → (entry exit : List ℕ) → Type 0
Exports c n t z = (n ≡ pack (answer c t)) × (z ≡ left c t)

-- the same of an exported call that only looks: the reply named, packed, and every byte of the table as it was
abbrev pub ExportsLook : (named : Reply) → (packed : ℕ) → (entry exit : List ℕ) → Type 0
ExportsLook a n t z = (n ≡ pack a) × (z ≡ t)

-- OWED: what an exported call answers is within the packing's bounds
unfoldable pub AnswersFit : Call → Type 0
AnswersFit c = (t : List ℕ) → Fits c (answer c t)

-- so every exported call's reply on any table is read back from its number
unfoldable pub RepliesBack : Type 0
RepliesBack =
    ((c : Call) (t : List ℕ) → unpack c (pack (answer c t)) ≡ answer c t)
    × ((k : ℕ) (t : List ℕ) → unpack_substitute (pack (substitute_answer k t)) ≡ substitute_answer k t)
