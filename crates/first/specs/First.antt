-- The plan's canonical first, and the first of some rows of the table.
use Rattle.std.specs.Prelude.{◌≡◌, ◌⊎◌, List, ℕ, ◌≤◌, ◌<◌, length}
use Rattle.rules.specs.Rows.{Row, Round, In}
use Rattle.theory.specs.Order.{NotBefore}
use Rattle.round.specs.Rows.{at}
use Rattle.keys.specs.Key.{key_at}
use Rattle.first.specs.declared.First.{First}

-- THE CANONICAL FIRST of the plan's rows rs: none of them is before it
pub record IsFirst (r : Round) (rs : List Row) (row : ℕ) : Type 0 where
  pub below : row < length r.rows
  pub inside : In (at r row) rs
  pub first : (q : Row) → In q rs → NotBefore q (at r row)

-- a row that isn't before the first so far: it is due with it, and its key is no less
abbrev pub Behind : (due key : ℕ) → First → Type 0
Behind d k f = (d ≡ f.due) × (f.key ≤ k)

abbrev pub Ahead : (due key : ℕ) → First → Type 0
Ahead d k f = d ≡ f.due → k < f.key

abbrev pub first_of : (due key : ℕ) → First
first_of d k = record { due = d; key = k }

abbrev pub Sees : First → (due key : ℕ) → First → Type 0
Sees f d k x = (Behind d k f × (x ≡ f)) ⊎ (Ahead d k f × (x ≡ first_of d k))

-- THE FIRST of the first n rows
pub record Leads (r : Round) (n : ℕ) (f : First) : Type 0 where
  pub row : ℕ
  pub below : row < n
  pub due : f.due ≡ (at r row).due
  pub key : f.key ≡ key_at r row
  pub first : (j : ℕ) → j < n → NotBefore (at r j) (at r row)
