-- Rows, rounds, and the two orders among rows.
use Rattle.std.specs.Prelude.{◌≡◌, ◌⊎◌, Bool, ◌&&◌, ◌||◌, cond, List, [], ◌∷◌, ℕ, suc, ◌-◌, ◌<◌, ltb, eqb}
use Rattle.rules.specs.Limits.{most_class}

-- A FRAME as it is handed in (the paper's packet), with its class (L2)
pub record Frame : Type 0 where
  pub due : ℕ
  pub weight : ℕ
  pub class : ℕ

abbrev pub framed : (due weight class : ℕ) → Frame
framed d w c = record { due = d; weight = w; class = c }

-- A SETUP: what a round is opened with
pub record Setup : Type 0 where
  pub last : ℕ

abbrev pub until : (last : ℕ) → Setup
until l = record { last = l }

-- A ROW's TAIL: what steps hand on as it is. The kind is 0 of a frame, 1 of a kept blank. The class (L2) only decides ties; a kept blank's is 3
pub record Tail : Type 0 where
  pub kind : ℕ
  pub class : ℕ

abbrev pub frame_tail : (class : ℕ) → Tail
frame_tail c = record { kind = 0; class = c }

abbrev pub blank_tail : Tail
blank_tail = record { kind = 1; class = most_class }

-- A ROW: a frame or a kept blank. Ticket 0: a blank without a row (a virtual packet)
pub record Row : Type 0 where
  pub ticket : ℕ
  pub due : ℕ
  pub weight : ℕ
  pub tail : Tail

unfoldable pub row : (ticket due weight : ℕ) → Tail → Row
row k d w m = record { ticket = k; due = d; weight = w; tail = m }

unfoldable pub blank : (due : ℕ) → Row
blank s = record { ticket = 0; due = s; weight = 0; tail = frame_tail most_class }

-- A HEAD's TAIL: what a round has beside its slots, tickets and rows, handed on by taking and sending. Sealed (L1) is 1, else 0
pub record HeadTail : Type 0 where
  pub sealed : ℕ

abbrev pub unsealed_tail : HeadTail
unsealed_tail = record { sealed = 0 }

abbrev pub sealed_tail : HeadTail
sealed_tail = record { sealed = 1 }

-- A ROUND: current slot (the paper's time step t), last slot, next ticket, room for rows, rows in ticket order.
-- The due slot is the paper's deadline
pub record Round : Type 0 where
  pub slot : ℕ
  pub last : ℕ
  pub next : ℕ
  pub room : ℕ
  pub rows : List Row
  pub tail : HeadTail

unfoldable pub round : (slot last next room : ℕ) → List Row → HeadTail → Round
round t l n k xs m = record { slot = t; last = l; next = n; room = k; rows = xs; tail = m }

-- the same round at another slot, next ticket and rows
abbrev pub going_on : (slot next : ℕ) → List Row → Round → Round
going_on t n xs r = round t r.last n r.room xs r.tail

-- the same round with another tail
abbrev pub with_tail : HeadTail → Round → Round
with_tail m r = round r.slot r.last r.next r.room r.rows m

unfoldable pub slots_left : Round → ℕ
slots_left r = suc r.last - r.slot

-- HEAVIER: larger weight, then earlier due slot, then smaller class (L2), then smaller ticket. CANONICAL ORDER: earlier due slot, then heavier
unfoldable pub heavier : Row → Row → Bool
heavier a b =
    ltb b.weight a.weight
    || (eqb a.weight b.weight
    && (ltb a.due b.due
    || (eqb a.due b.due
    && (ltb a.tail.class b.tail.class || (eqb a.tail.class b.tail.class && ltb a.ticket b.ticket)))))

unfoldable pub canonical : Row → Row → Bool
canonical a b = ltb a.due b.due || (eqb a.due b.due && heavier a b)

-- THE OLD ORDER, document 01's own, which L2 refines: larger weight, then earlier due slot, then smaller ticket
unfoldable pub old_heavier : Row → Row → Bool
old_heavier a b =
    ltb b.weight a.weight
    || (eqb a.weight b.weight && (ltb a.due b.due || (eqb a.due b.due && ltb a.ticket b.ticket)))

-- the same as facts
abbrev pub Heavier : Row → Row → Type 0
Heavier a b =
    (b.weight < a.weight)
    ⊎ ((a.weight ≡ b.weight)
    × ((a.due < b.due)
    ⊎ ((a.due ≡ b.due)
    × ((a.tail.class < b.tail.class) ⊎ ((a.tail.class ≡ b.tail.class) × (a.ticket < b.ticket))))))

abbrev pub OldHeavier : Row → Row → Type 0
OldHeavier a b =
    (b.weight < a.weight)
    ⊎ ((a.weight ≡ b.weight) × ((a.due < b.due) ⊎ ((a.due ≡ b.due) × (a.ticket < b.ticket))))

abbrev pub Canonical : Row → Row → Type 0
Canonical a b = (a.due < b.due) ⊎ ((a.due ≡ b.due) × Heavier a b)

-- rows sorted by an order
unfoldable pub into : (before : Row → Row → Bool) → Row → List Row → List Row
into f x [] = x ∷ []
into f x (y ∷ ys) = cond (f x y) (x ∷ y ∷ ys) (y ∷ into f x ys)

unfoldable pub sorted : (before : Row → Row → Bool) → List Row → List Row
sorted f [] = []
sorted f (x ∷ xs) = into f x (sorted f xs)

-- a row stands in a list; every row of a list has a property
abbrev pub In : Row → List Row → Type 0
In x [] = ⊥
In x (y ∷ ys) = (x ≡ y) ⊎ In x ys

abbrev pub All : (Row → Type 0) → List Row → Type 0
All P [] = Unit {0}
All P (x ∷ xs) = P x × All P xs

-- some of the rows, each once, in their order; and those that have a row in the table
unfoldable pub chosen : (flags : List Bool) → List Row → List Row
chosen [] xs = []
chosen (m ∷ ms) [] = []
chosen (m ∷ ms) (x ∷ xs) = cond m (x ∷ chosen ms xs) (chosen ms xs)

unfoldable pub rows_only : List Row → List Row
rows_only [] = []
rows_only (x ∷ xs) = cond (eqb x.ticket 0) (rows_only xs) (x ∷ rows_only xs)
