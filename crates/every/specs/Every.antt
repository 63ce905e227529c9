-- Where no row is left out: what is given, and the lightest row due by a slot.
use Rattle.std.specs.Prelude.{◌≡◌, List, ℕ, ◌≤◌, ◌<◌, length}
use Rattle.rules.specs.Rows.{Round}
use Rattle.rules.specs.Table.{round_in}
use Rattle.round.specs.Rows.{Ready, at}
use Rattle.round.specs.Buckets.{Counted}
use Rattle.sorts.specs.declared.Round.{Round as Head}
use Rattle.keys.specs.Key.{key_at}
use Rattle.buckets.specs.Reach.{Reaches}
use Rattle.buckets.specs.declared.Reach.{Reach}

-- WHOLE: a sound table, its counts, and that all rows fit
pub record Whole (t cs : List ℕ) (h : Head) (x : Reach) : Type 0 where
  pub ready : Ready t h
  pub counted : Counted (round_in t) cs
  pub reaches : Reaches (round_in t) x
  pub none : x.over ≡ 0

-- a row of the first n that is due by e, with that key
pub record DueKey (r : Round) (n e k : ℕ) : Type 0 where
  pub row : ℕ
  pub below : row < n
  pub by : (at r row).due ≤ e
  pub is : key_at r row ≡ k

-- THE GREATEST KEY of the rows due by e
pub record LightestKey (r : Round) (e k : ℕ) : Type 0 where
  pub most : (i : ℕ) → i < length r.rows → (at r i).due ≤ e → key_at r i ≤ k
  pub some : 1 ≤ k → DueKey r (length r.rows) e k
