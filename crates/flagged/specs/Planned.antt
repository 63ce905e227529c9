-- The first of the plan's rows by their keys in due order and their flags.
use Rattle.std.specs.Prelude.{◌≡◌, List, ℕ, ◌≤◌, ◌<◌, length, get_or}
use Rattle.rules.specs.Rows.{Round}
use Rattle.theory.specs.Flags.{with_flag}
use Rattle.keys.specs.Key.{row_of}
use Rattle.segments.specs.Given.{Given}
use Rattle.first.specs.First.{IsFirst}

-- some round is given
pub record Lent (ks fs : List ℕ) (many : ℕ) : Type 0 where
  pub of : Round
  pub slot : ℕ
  pub free : ℕ
  pub given : Given of ks fs many slot free

-- THE FIRST of whatever round is given
abbrev pub FirstSays : (ks fs : List ℕ) (many row : ℕ) → Type 0
FirstSays ks fs many i = (r : Round) (slot n : ℕ) → Given r ks fs many slot n → IsFirst r (with_flag r fs) i

-- the flag of the row whose key is at a place
abbrev pub flag_at : (ks fs : List ℕ) (place : ℕ) → ℕ
flag_at ks fs p = get_or fs (row_of (get_or ks p 0)) 0

-- a key with a flag, and the first such
pub record SomeFlagged (ks fs : List ℕ) : Type 0 where
  pub place : ℕ
  pub there : place < length ks
  pub rows : (p : ℕ) → p ≤ place → row_of (get_or ks p 0) < length fs
  pub flag : flag_at ks fs place ≡ 1

pub record FirstFlagged (ks fs : List ℕ) (place : ℕ) : Type 0 where
  pub flag : flag_at ks fs place ≡ 1
  pub before : (p : ℕ) → p < place → flag_at ks fs p ≡ 1 → ⊥
