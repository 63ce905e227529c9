-- A sound table's rows by index: ticket, due slot, weight, kind, class and bucket.
use Rattle.std.specs.Prelude.{Bool, cond, ◌≡◌, List, ℕ, ◌-◌, ◌≤◌, min, length, get_or}
use Rattle.rules.specs.Limits.{most_last, most_weight, most_class}
use Rattle.rules.specs.Rows.{Row, Round, blank}
use Rattle.rules.specs.Table.{table_refusal}
use Rattle.theory.specs.Count.{bucket}
use Rattle.head.specs.Head.{HeadOf}
use Rattle.sorts.specs.declared.Round.{Round as Head}

-- what every call here asks for: a sound table with its head, and a slot left
pub record Ready (t : List ℕ) (h : Head) : Type 0 where
  pub sound : table_refusal t ≡ 0
  pub head : HeadOf t h
  pub time : h.slot.0 ≤ h.last.0

abbrev pub at : Round → (row : ℕ) → Row
at r i = get_or r.rows i (blank 0)

-- buckets 0 to top: slots from the current one on, as many as there are rows or slots left, the last for all further ones
abbrev pub top_of : Round → ℕ
top_of r = min (length r.rows) (r.last - r.slot)

abbrev pub place : Round → (row : ℕ) → ℕ
place r i = bucket r.slot (top_of r) (at r i)

pub record DueAt (r : Round) (i d : ℕ) : Type 0 where
  pub is : d ≡ (at r i).due
  pub from : r.slot ≤ d
  pub by : d ≤ r.last
  pub small : d ≤ most_last

pub record WeightAt (r : Round) (i w : ℕ) : Type 0 where
  pub is : w ≡ (at r i).weight
  pub some : 1 ≤ w
  pub most : w ≤ most_weight

-- its ticket, its kind and its class
pub record TicketAt (r : Round) (i k : ℕ) : Type 0 where
  pub is : k ≡ (at r i).ticket
  pub some : 1 ≤ k

abbrev pub KeptAt : Round → (row : ℕ) → (kept : Bool) → Type 0
KeptAt r i b = (at r i).tail.kind ≡ cond b 1 0

pub record ClassAt (r : Round) (i c : ℕ) : Type 0 where
  pub is : c ≡ (at r i).tail.class
  pub most : c ≤ most_class
