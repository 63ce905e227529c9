-- Rows closed up in a table, as its bytes tell them.
use Rattle.std.specs.Prelude.{◌≡◌, ◌⊎◌, ◌≢◌, cond, List, ℕ, suc, ◌+◌, ◌*◌, ◌-◌, ◌≤◌, ◌<◌, ltb, eqb, length, replicate}
use Rattle.rules.specs.Limits.{row_size}
use Rattle.rules.specs.Rows.{Row, Round}
use Rattle.rules.specs.Conditions.{row_at, used_in, ticket_in, due_in}
use Rattle.rules.specs.Table.{table, round_in}
use Rattle.theory.specs.Back.{head_of}
use Rattle.theory.specs.Sum.{sum}
use Rattle.theory.specs.Feas.{below, num}
use Rattle.theory.specs.Close.{closed, after_slot, Closing}

-- at most n rows are due in the current slot
abbrev pub DueNow : List ℕ → (n : ℕ) → Type 0
DueNow t n = num 0 (suc (round_in t).slot) (round_in t).rows ≤ n

-- beside the row that goes, by its ticket
abbrev pub due_other : (slot gone : ℕ) → Row → ℕ
due_other s k x = cond (eqb x.ticket k) 0 (below 0 s x)

-- the ticket of the row that goes; 0, which is no row's, where none does
abbrev pub gone_ticket : List ℕ → (gone : ℕ) → ℕ
gone_ticket t g = cond (ltb g (used_in t)) (ticket_in t g) 0

-- at most n rows beside it are due in the current slot
abbrev pub DueBeside : List ℕ → (gone n : ℕ) → Type 0
DueBeside t g n = sum (due_other (suc (round_in t).slot) (gone_ticket t g)) (round_in t).rows ≤ n

-- NONE of the rows from one up to i is due in a slot; i is not past the last
pub record NoneDue (slot from to : ℕ) (t : List ℕ) (i : ℕ) : Type 0 where
  pub onward : from ≤ i
  pub by : i ≤ to
  pub none : (j : ℕ) → from ≤ j → j < i → due_in t j ≡ slot → ⊥

-- THE FIRST that is, or the last place
pub record NextDue (slot from to : ℕ) (t : List ℕ) (n : ℕ) : Type 0 where
  pub before : NoneDue slot from to t n
  pub due : n < to → due_in t n ≡ slot

-- WHERE A SEARCH may begin: with no row left that is due now, beside the one that goes, there is none to find
pub record Search (slot gone from used left : ℕ) (t : List ℕ) : Type 0 where
  pub by : from ≤ used
  pub gone_by : gone ≤ used
  pub few : used ≤ 1024
  pub long : row_at used ≤ length t
  pub none : left ≡ 0 → (j : ℕ) → from ≤ j → j < used → j ≢ gone → due_in t j ≡ slot → ⊥

-- THE NEXT ROW THAT LEAVES: due in the slot, or the one that goes; those before it are neither
pub record NextLeaving (slot gone from used : ℕ) (t : List ℕ) (n : ℕ) : Type 0 where
  pub before : NoneDue slot from used t n
  pub other : (j : ℕ) → from ≤ j → j < n → j ≡ gone → ⊥
  pub leaves : n < used → (due_in t n ≡ slot) ⊎ (n ≡ gone)

-- so many beside the one that goes are left behind a row that leaves
abbrev pub LeftBehind : (gone row left : ℕ) → (n : ℕ) → Type 0
LeftBehind g i l n = ((i ≡ g) × (n ≡ l)) ⊎ ((i ≢ g) × (l ≡ n + 1))

-- ROWS CLOSED UP among the first i of a sound table t, in w
abbrev pub ClosingIn : (slot gone : ℕ) → (r : Round) → (i : ℕ) → List ℕ → Type 0
ClosingIn s k r i w =
    Closing s k (head_of r) r.rows (replicate (row_size * (r.room - length r.rows)) 0) i w

pub record ClosedRows (slot gone : ℕ) (t w : List ℕ) (n : ℕ) : Type 0 where
  pub rows : ClosingIn slot gone (round_in t) (length (round_in t).rows) w
  pub many : n ≡ length (closed slot gone (round_in t).rows)

-- THE TABLE AFTER: one slot on, the rows still due but for one ticket
unfoldable pub closed_up : (gone : ℕ) → List ℕ → List ℕ
closed_up k t = table (after_slot (round_in t) (closed (suc (round_in t).slot) k (round_in t).rows))
