-- What a sending in an unsealed round goes by: the segments and the heaviest far row, or the pick where no row is left out.
use Rattle.std.specs.Prelude.{◌≡◌, ◌⊎◌, ◌≢◌, List, ℕ, ◌+◌, ◌≤◌, ◌<◌, length}
use Rattle.rules.specs.Rows.{Round}
use Rattle.rules.specs.Table.{round_in}
use Rattle.theory.specs.Near.{Near}
use Rattle.sorts.specs.declared.Round.{Round as Head}
use Rattle.round.specs.Rows.{Ready, at}
use Rattle.keys.specs.Key.{blank_key, key_at}
use Rattle.buckets.specs.Reach.{Reaches}
use Rattle.buckets.specs.declared.Reach.{Reach}
use Rattle.lead.specs.declared.Lead.{Lead}
use Rattle.segments.specs.Segmented.{Segmented}
use Rattle.whole.specs.Whole.{Picked}
use Rattle.whole.specs.declared.Whole.{Whole}

-- THE HEAVIEST FAR ROW by its key, the least of those due from slot z on; a blank's where there is none
pub record FarRow (r : Round) (z k : ℕ) : Type 0 where
  pub row : ℕ
  pub below : row < length r.rows
  pub far : z ≤ (at r row).due
  pub key : k ≡ key_at r row

pub record FarFirst (r : Round) (z k : ℕ) : Type 0 where
  pub least : (i : ℕ) → i < length r.rows → z ≤ (at r i).due → k ≤ key_at r i
  pub found : (k ≡ blank_key) ⊎ FarRow r z k

-- WHAT A SENDING BY THE PLAN GOES BY: the segments of the near slots, the one that leads, and the heaviest far row
pub record PlannedStep (t : List ℕ) (h : Head) (es ts ls : List ℕ) (far : ℕ) (l : Lead) : Type 0 where
  pub ready : Ready t h
  pub unsealed : (round_in t).tail.sealed ≢ 1
  pub free : ℕ
  pub near : Near (round_in t) ((round_in t).slot + free)
  pub segments : Segmented (round_in t) free es ts ls l
  pub first_far : FarFirst (round_in t) ((round_in t).slot + free) far

-- WHERE NO ROW IS LEFT OUT: the pick that passes over the table found
pub record WholeStep (t : List ℕ) (h : Head) (w : Whole) : Type 0 where
  pub ready : Ready t h
  pub unsealed : (round_in t).tail.sealed ≢ 1
  pub reach : Reach
  pub reaches : Reaches (round_in t) reach
  pub none : reach.over ≡ 0
  pub picked : Picked (round_in t) reach.free w
