-- What a plan is made from, and what it tells.
use Rattle.std.specs.Prelude.{◌≡◌, Bool, true, List, ℕ, ◌+◌, ◌≤◌, ◌<◌, length, replicate}
use Rattle.rules.specs.Rows.{Round}
use Rattle.rules.specs.Table.{round_in}
use Rattle.theory.specs.Sum.{sum}
use Rattle.theory.specs.Flags.{Chosen, with_flag}
use Rattle.sorts.specs.declared.Round.{Round as Head}
use Rattle.round.specs.Rows.{Ready, at}
use Rattle.round.specs.Buckets.{Counted}
use Rattle.keys.specs.Key.{blank_key, key_at, row_of}
use Rattle.keys.specs.Sorted.{Sorted, many_due}
use Rattle.buckets.specs.Reach.{Reaches}
use Rattle.buckets.specs.declared.Reach.{Reach}
use Rattle.plan.specs.declared.Planned.{Planned}

-- WHAT IS LENT: counts, places for keys, a flag for each row, and an empty heap; some row is left out
pub record Lent (t cs ks fs hs : List ℕ) (h : Head) (x : Reach) : Type 0 where
  pub ready : Ready t h
  pub counted : Counted (round_in t) cs
  pub reaches : Reaches (round_in t) x
  pub some : 1 ≤ x.over
  pub keys : h.used ≤ length ks
  pub flags : fs ≡ replicate h.used 1
  pub heap : hs ≡ replicate (length hs) 0
  pub room : h.used + 2 ≤ length hs

-- THE HEAVIEST ROW due from a slot on, by its key; blank_key where there is none
pub record HeaviestFrom (r : Round) (slot key : ℕ) : Type 0 where
  pub by : key ≤ blank_key
  pub least : (i : ℕ) → i < length r.rows → slot ≤ (at r i).due → key ≤ key_at r i
  pub named : key < blank_key → (row_of key < length r.rows) × (slot ≤ (at r (row_of key)).due) × (key_at r (row_of key) ≡ key)

-- THE PLAN: the near rows' keys in due order, a flag for each row of the plan, how many near rows there are,
-- the heaviest of the others where it is asked for, and the weight of all rows left out
pub record Plans (r : Round) (x : Reach) (asked : Bool) (ks fs : List ℕ) (p : Planned) : Type 0 where
  pub sorted : Sorted r x.free ks
  pub chosen : Chosen r fs
  pub many : p.many ≡ many_due r x.free
  pub far : asked ≡ true → HeaviestFrom r (r.slot + x.free) p.far
  pub lost : p.lost + sum (λ y. y.weight) (with_flag r fs) ≡ sum (λ y. y.weight) r.rows
