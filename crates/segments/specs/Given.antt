-- What the pass over the plan's keys goes by: a sound round, its near rows' keys in due order, and the flags of those in the plan.
use Rattle.std.specs.Prelude.{◌≡◌, List, ℕ, ◌+◌, ◌≤◌, length}
use Rattle.rules.specs.Rows.{Round}
use Rattle.theory.specs.Full.{Fine}
use Rattle.theory.specs.Near.{Near}
use Rattle.theory.specs.Flags.{Chosen}
use Rattle.keys.specs.Sorted.{many_due, Sorted}

-- rows fill each of the n slots from the current one on; many rows are due in them
pub record Given (r : Round) (ks fs : List ℕ) (many slot n : ℕ) : Type 0 where
  pub fine : Fine r
  pub time : r.slot ≤ r.last
  pub cap : r.last ≤ 4095
  pub small : length r.rows ≤ 1024
  pub chosen : Chosen r fs
  pub sorted : Sorted r n ks
  pub near : Near r (r.slot + n)
  pub some : 1 ≤ n
  pub now : slot ≡ r.slot
  pub all : many ≡ many_due r n

-- some round is given, and places for as many segments as there are slots
pub record Lent (ks fs : List ℕ) (many slot n : ℕ) (es ts ls : List ℕ) : Type 0 where
  pub of : Round
  pub given : Given of ks fs many slot n
  pub ends : n ≤ length es
  pub tops : n ≤ length ts
  pub lows : n ≤ length ls
