-- What the passes over the plan's keys go by: a sound round, its near rows' keys in due order, and the flags of those in the plan.
use Rattle.std.specs.Prelude.{◌≡◌, List, ℕ, ◌+◌, ◌≤◌, ◌<◌, length}
use Rattle.rules.specs.Rows.{Round}
use Rattle.theory.specs.Full.{Fine}
use Rattle.theory.specs.Near.{Near}
use Rattle.theory.specs.Flags.{Chosen}
use Rattle.keys.specs.Sorted.{many_due, Sorted}

-- rows fill each of the n slots from the current one on; many rows are due in them
pub record Given (r : Round) (ks fs : List ℕ) (many slot n : ℕ) : Type 0 where
  pub fine : Fine r
  pub time : r.slot ≤ r.last
  pub cap : r.last ≤ 4095
  pub small : length r.rows ≤ 1024
  pub chosen : Chosen r fs
  pub sorted : Sorted r n ks
  pub near : Near r (r.slot + n)
  pub now : slot ≡ r.slot
  pub all : many ≡ many_due r n

-- one of those slots is asked about
pub record Asked (r : Round) (ks fs : List ℕ) (many slot n asked : ℕ) : Type 0 where
  pub given : Given r ks fs many slot n
  pub from : slot ≤ asked
  pub by : asked < slot + n

-- some round is given
pub record Lent (ks fs : List ℕ) (many : ℕ) : Type 0 where
  pub of : Round
  pub slot : ℕ
  pub n : ℕ
  pub given : Given of ks fs many slot n

pub record LentAsked (ks fs : List ℕ) (many slot asked : ℕ) : Type 0 where
  pub of : Round
  pub n : ℕ
  pub given : Asked of ks fs many slot n asked
