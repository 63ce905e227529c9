-- What is known of a table before it is asked about, and what its plan gives to those who ask.
use Rattle.std.specs.Prelude.{◌≡◌, List, ℕ, length}
use Rattle.rules.specs.Rows.{Round}
use Rattle.rules.specs.Table.{round_in}
use Rattle.theory.specs.Flags.{Chosen}
use Rattle.sorts.specs.declared.Round.{Round as Head}
use Rattle.round.specs.Rows.{Ready}
use Rattle.round.specs.Buckets.{Counted}
use Rattle.keys.specs.Sorted.{Sorted, many_due}
use Rattle.buckets.specs.Reach.{Reaches}
use Rattle.buckets.specs.declared.Reach.{Reach}

-- SEEN: a sound table with a slot left, its counts, and how far rows fill every slot
pub record Seen (t cs : List ℕ) (h : Head) (x : Reach) : Type 0 where
  pub ready : Ready t h
  pub counted : Counted (round_in t) cs
  pub reaches : Reaches (round_in t) x

-- WHAT THE PLAN GIVES: the near rows' keys in due order, and a flag for each row of the plan
pub record Gives (r : Round) (x : Reach) (ks fs : List ℕ) : Type 0 where
  pub sorted : Sorted r x.free ks
  pub all : length ks ≡ many_due r x.free
  pub chosen : Chosen r fs
