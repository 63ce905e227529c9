-- What a listing will do, decided before an entry is written: all that the walk over the entries knows of it.
use Rattle.std.specs.Prelude.{◌≡◌, List, ℕ, zero, suc, ◌≤◌, ◌<◌, length, get_or, set, Result, Ok, Err}
use Rattle.rules.specs.Limits.{most_rows}
use Rattle.rules.specs.Rows.{Row, Round, blank}
use Rattle.rules.specs.Conditions.{row_at}
use Rattle.rules.specs.Calls.{refused, amount}
use Rattle.rules.specs.Looking.{View, shows, list_answer, list_left}
use Rattle.theory.specs.Soundness.{row_in}
use Rattle.round.specs.Rows.{at}
use Rattle.order.specs.declared.Order.{Order}
use Rattle.refusals.specs.declared.Refusal.{Refusal}
use Rattle.refusals.specs.Refusals.{refusal_number}
use Rattle.listing.specs.declared.Entry.{Entry}
use Rattle.listing.specs.Entries.{entry}

-- a row's bytes are in the table; its entry
abbrev pub RowThere : List ℕ → (row : ℕ) → Type 0
RowThere t i = (i < most_rows) × (row_at (suc i) ≤ length t)

abbrev pub entry_in : View → List ℕ → (row : ℕ) → Entry
entry_in v t i = entry v (row_in t i)

-- the entries of n rows of a table, by their indices, written one after another
unfoldable pub filled : View → (n : ℕ) → (table rows : List ℕ) → List Entry → List Entry
filled v zero t xs es = es
filled v (suc n) t xs es = set (filled v n t xs es) n (entry_in v t (get_or xs n 0))

-- THE DECISION, accepted: the count is the rules', each row to be listed is in the table, and written they leave the rules' list
pub record RowsListed (v : View) (t : List ℕ) (room : ℕ) (o : Order) : Type 0 where
  pub reply : amount o.count ≡ list_answer (shows v) t room
  pub fits : o.count ≤ room
  pub few : o.count ≤ most_rows
  pub row : (i : ℕ) → i < o.count → RowThere t (get_or o.at i 0)
  pub left : (es : List Entry) → length es ≡ room → filled v o.count t o.at es ≡ list_left (shows v) (entry v) t es

-- refused: the number is the rules', and they leave every entry as it was
pub record NothingListed (v : View) (t : List ℕ) (room number : ℕ) : Type 0 where
  pub reply : refused number ≡ list_answer (shows v) t room
  pub left : (es : List Entry) → length es ≡ room → es ≡ list_left (shows v) (entry v) t es

abbrev pub ListingSays : View → List ℕ → (room : ℕ) → Result Order Refusal → Type 0
ListingSays v t room (Ok o) = RowsListed v t room o
ListingSays v t room (Err r) = NothingListed v t room (refusal_number r)

-- WHAT IS SHOWN, by index: as many rows as there are, and row at[i] is the i-th of them
pub record RowsShown (r : Round) (xs : List Row) (o : Order) : Type 0 where
  pub count : o.count ≡ length xs
  pub few : o.count ≤ most_rows
  pub within : (i : ℕ) → i < o.count → get_or o.at i 0 < length r.rows
  pub is : (i : ℕ) → i < o.count → at r (get_or o.at i 0) ≡ get_or xs i (blank 0)
