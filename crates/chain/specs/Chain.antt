-- A leap's chain: segments by their numbers, counted from the back; their marks; and the links between two segments' ends.
use Rattle.std.specs.Prelude.{◌≡◌, cond, List, ℕ, suc, ◌-◌, ◌≤◌, ◌<◌, max, min, leb, eqb, length, get_or}
use Rattle.rules.specs.Rows.{Row, Round, going_on}
use Rattle.rules.specs.Plan.{plan, planned, mark}
use Rattle.rules.specs.Conditions.{row_at}
use Rattle.rules.specs.Table.{table, round_in}
use Rattle.theory.specs.Chain.{Linked, moves}
use Rattle.picture.specs.Picture.{Spans, Heaviest, Lightest, Within}
use Rattle.sorts.specs.declared.Round.{Round as Head}
use Rattle.round.specs.Rows.{Ready, at}
use Rattle.row.specs.Written.{with_shift}
use Rattle.keys.specs.Key.{weight_of, row_of, blank_key, key_at}

-- A SEGMENT BY NUMBERS: its first and last slot, the key of its heaviest row, and the weight of its own lightest
pub record Piece (r : Round) (b e k w : ℕ) : Type 0 where
  pub spans : Spans r b e
  pub row : ℕ
  pub below : row < length r.rows
  pub key : k ≡ key_at r row
  pub top : Heaviest (Within (plan r) b e) (at r row)
  pub low : Row
  pub weight : w ≡ low.weight
  pub some : 1 ≤ w
  pub least : Lightest (Within (plan r) b e) low

-- the first slot of segment k of n: the current one for the first, which is number n - 1, else the one behind the segment before
abbrev pub start_of : (slot n : ℕ) → (ends : List ℕ) → (k : ℕ) → ℕ
start_of t n es k = cond (eqb (suc k) n) t (suc (get_or es (suc k) 0))

pub record Pieces (r : Round) (n : ℕ) (es ts ls : List ℕ) : Type 0 where
  pub some : 1 ≤ n
  pub ends : n ≤ length es
  pub tops : n ≤ length ts
  pub lows : n ≤ length ls
  pub piece : (k : ℕ) → k < n → Piece r (start_of r.slot n es k) (get_or es k 0) (get_or ts k 0) (get_or ls k 0)

-- THE SEGMENT in which a slot lies, own or a later one
pub record LiesIn (es : List ℕ) (own d k : ℕ) : Type 0 where
  pub by : k ≤ own
  pub end : d ≤ get_or es k 0
  pub behind : k < own → get_or es (suc k) 0 < d

-- LEAST SO FAR, from the first segment to segment to
pub record Lowered (n to : ℕ) (ls us : List ℕ) : Type 0 where
  pub size : length us ≡ length ls
  pub first : get_or us (n - 1) 0 ≡ get_or ls (n - 1) 0
  pub next : (k : ℕ) → to ≤ k → suc k < n → get_or us k 0 ≡ min (get_or us (suc k) 0) (get_or ls k 0)

-- THE MARKS of segments to and those before it
pub record Marked (r : Round) (n to : ℕ) (es ms : List ℕ) : Type 0 where
  pub long : n ≤ length ms
  pub mark : (k : ℕ) → to ≤ k → k < n → get_or ms k 0 ≡ mark r (get_or es k 0)

-- a key's row stands in the table
pub record Named (k : ℕ) (t : List ℕ) : Type 0 where
  pub most : k ≤ blank_key
  pub there : row_at (suc (row_of k)) ≤ length t

-- A LINK MOVED to an end, its weight at least the mark
abbrev pub linked : (key end mark : ℕ) → List ℕ → List ℕ
linked k e m bs = with_shift bs (row_of k) e (max (weight_of k) m)

-- a segment passed: where its heaviest row is heavier than the link that waits, that one moves to its end
abbrev pub passed : (ends tops marks : List ℕ) → (waiting k : ℕ) → List ℕ → List ℕ
passed es ts ms w k bs = cond (leb w (get_or ts k 0)) bs (linked w (get_or es k 0) (get_or ms k 0) bs)

-- WHAT THE PASS GOES BY, from the end of segment to to that of segment own before it
pub record Chained (t es ts ms : List ℕ) (to own : ℕ) : Type 0 where
  pub head : Head
  pub ready : Ready t head
  pub count : ℕ
  pub lows : List ℕ
  pub pieces : Pieces (round_in t) count es ts lows
  pub marks : Marked (round_in t) count to es ms
  pub order : to ≤ own
  pub within : own < count

-- the round with other rows
abbrev pub having : Round → List Row → Round
having r xs = going_on r.slot r.next xs r

-- THE SHIFTS: every link of the chain between two ends moved
pub record Shifts (r : Round) (e g : ℕ) (t : List ℕ) : Type 0 where
  pub links : List Row
  pub chain : Linked r (planned r) e g links
  pub bytes : t ≡ table (having r (moves r e links r.rows))
