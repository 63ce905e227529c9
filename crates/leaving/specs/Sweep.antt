-- Rows by rising due slot, each by its place: which are kept in the midst of the sweep.
use Rattle.std.specs.Prelude.{◌≡◌, ◌⊎◌, Bool, true, false, cond, not, List, ℕ, zero, suc, ◌+◌, ◌-◌, ◌≤◌, ◌<◌, ltb, eqb, length, get_or, replicate}
use Rattle.keys.specs.Key.{weight_of, due_of, row_of, blank_key}
use Rattle.heap.specs.Heap.{Heap, heaped}
use Rattle.keys.specs.DueSums.{each}

-- the sum of a measure of some of the first n
unfoldable pub tally : (measure : ℕ → ℕ) → (some : ℕ → Bool) → (n : ℕ) → ℕ
tally f κ zero = 0
tally f κ (suc n) = tally f κ n + cond (κ n) (f n) 0

-- 1 for a row due before e slots ahead; for such a row with a key below w
unfoldable pub before : (ahead : ℕ → ℕ) → (e place : ℕ) → ℕ
before D e j = cond (ltb (D j) e) 1 0

unfoldable pub smaller : (key ahead : ℕ → ℕ) → (w e place : ℕ) → ℕ
smaller K D w e j = cond (ltb (K j) w) (before D e j) 0

-- A ROW LEFT OUT: past its due slot the slots up to some e are filled by rows with smaller keys
pub record Barred (key ahead : ℕ → ℕ) (kept : ℕ → Bool) (p j : ℕ) : Type 0 where
  pub at : ℕ
  pub past : ahead j < at
  pub full : at ≤ tally (smaller key ahead (key j) at) kept p

-- IN THE MIDST: the rows kept of the first p fit into the slots, and each other one is barred
pub record Mid (key ahead : ℕ → ℕ) (kept : ℕ → Bool) (p count : ℕ) : Type 0 where
  pub all : tally (λ _. 1) kept p ≡ count
  pub fits : (e : ℕ) → tally (before ahead e) kept p ≤ e
  pub out : (j : ℕ) → j < p → kept j ≡ false → Barred key ahead kept p j

-- what the key at a place tells
abbrev pub key_on : List ℕ → (place : ℕ) → ℕ
key_on ks p = get_or ks p 0

abbrev pub row_on : List ℕ → (place : ℕ) → ℕ
row_on ks p = row_of (get_or ks p 0)

abbrev pub ahead_on : List ℕ → (slot place : ℕ) → ℕ
ahead_on ks s p = due_of (get_or ks p 0) - s

abbrev pub weight_on : List ℕ → (place : ℕ) → ℕ
weight_on ks p = weight_of (get_or ks p 0)

-- whether a row has a flag, and the row at a place
abbrev pub kept? : (flags : List ℕ) → (row : ℕ) → Bool
kept? gs i = eqb (get_or gs i 0) 1

abbrev pub kept_on : (keys flags : List ℕ) → (place : ℕ) → Bool
kept_on ks gs p = kept? gs (row_on ks p)

abbrev pub left_on : (keys flags : List ℕ) → (place : ℕ) → Bool
left_on ks gs p = not (kept_on ks gs p)

-- KEYS IN DUE ORDER: m of them, of different rows due within n slots from the current one on
pub record Queue (ks : List ℕ) (slot n m : ℕ) : Type 0 where
  pub long : m ≤ length ks
  pub small : m ≤ 1024
  pub some : (p : ℕ) → p < m → 1 ≤ key_on ks p
  pub most : (p : ℕ) → p < m → key_on ks p ≤ blank_key
  pub from : (p : ℕ) → p < m → slot ≤ due_of (key_on ks p)
  pub early : (p : ℕ) → p < m → ahead_on ks slot p < n
  pub rises : (p q : ℕ) → p ≤ q → q < m → ahead_on ks slot p ≤ ahead_on ks slot q
  pub apart : (p q : ℕ) → p < m → q < m → row_on ks p ≡ row_on ks q → p ≡ q

-- THE SWEEP AT A PLACE: flags of rows that wait are up; the weight is that of the rows left out
pub record Swept (ks gs : List ℕ) (slot m p count weight : ℕ) : Type 0 where
  pub by : p ≤ m
  pub rows : (q : ℕ) → q < m → row_on ks q < length gs
  pub waits : (q : ℕ) → p ≤ q → q < m → kept_on ks gs q ≡ true
  pub mid : Mid (key_on ks) (ahead_on ks slot) (kept_on ks gs) p count
  pub lost : weight ≡ tally (weight_on ks) (left_on ks gs) p
  pub bits : (i : ℕ) → i < length gs → get_or gs i 0 ≤ 1
  pub sums : (f : ℕ → ℕ) → tally f (kept? gs) (length gs) + tally (λ q. f (row_on ks q)) (left_on ks gs) p ≡ each f (length gs)

-- the keys of the rows kept, in a heap
pub record Heaped (ks hs gs : List ℕ) (p count : ℕ) : Type 0 where
  pub ordered : Heap count hs
  pub keys : (μ : ℕ → ℕ) → heaped μ count hs ≡ tally (λ q. μ (key_on ks q)) (kept_on ks gs) p

-- WHO LEAVES for a key when the heap may not grow: the lightest of all, the key itself or the top
pub record Leaves (count key : ℕ) (h u : List ℕ) (out : ℕ) : Type 0 where
  pub heap : Heap count u
  pub keys : (μ : ℕ → ℕ) → heaped μ count u + μ out ≡ heaped μ count h + μ key
  pub over_top : get_or h 1 0 ≤ out
  pub over_key : key ≤ out
  pub is : (out ≡ get_or h 1 0) ⊎ (out ≡ key)

-- WHERE ROWS CROWD: a place that has fewer slots than places before it; and the first such
pub record Crowds (ks : List ℕ) (slot : ℕ) : Type 0 where
  pub at : ℕ
  pub within : at < length ks
  pub small : at ≤ 1024
  pub from : (p : ℕ) → p ≤ at → slot ≤ due_of (key_on ks p)
  pub over : ahead_on ks slot at < at

pub record FirstCrowded (ks : List ℕ) (slot c : ℕ) : Type 0 where
  pub within : c < length ks
  pub over : ahead_on ks slot c < c
  pub under : (q : ℕ) → q < c → q ≤ ahead_on ks slot q

-- the first keys in a heap
pub record Filled (ks hs : List ℕ) (n : ℕ) : Type 0 where
  pub ordered : Heap n hs
  pub keys : (μ : ℕ → ℕ) → heaped μ n hs ≡ each (λ q. μ (key_on ks q)) n

-- the greatest of the first n keys
pub record Greatest (ks : List ℕ) (n top : ℕ) : Type 0 where
  pub place : ℕ
  pub within : place < n
  pub is : top ≡ key_on ks place
  pub most : (q : ℕ) → q < n → key_on ks q ≤ top

-- the greatest key up to the first crowded place
pub record Lightest (ks : List ℕ) (slot top : ℕ) : Type 0 where
  pub place : ℕ
  pub first : FirstCrowded ks slot place
  pub greatest : Greatest ks (place + 1) top

-- an empty heap, and what may be in it
pub record EmptyHeap (hs : List ℕ) (most : ℕ) : Type 0 where
  pub none : hs ≡ replicate (length hs) 0
  pub room : most + 2 ≤ length hs

pub record Fills (ks hs : List ℕ) (n : ℕ) : Type 0 where
  pub empty : EmptyHeap hs n
  pub within : n < length ks
  pub small : n ≤ 1024
  pub some : (p : ℕ) → p < n → 1 ≤ key_on ks p

-- BEFORE THE SWEEP every flag is up; over rows are too many for the slots
pub record Crowd (ks gs : List ℕ) (slot free over : ℕ) : Type 0 where
  pub queue : Queue ks slot free (free + over)
  pub some : 1 ≤ over
  pub rows : (q : ℕ) → q < free + over → row_on ks q < length gs
  pub flags : gs ≡ replicate (length gs) 1

-- AFTER IT that many have left
pub record Parted (ks gs : List ℕ) (slot free over weight : ℕ) : Type 0 where
  pub place : ℕ
  pub count : ℕ
  pub swept : Swept ks gs slot (free + over) place count weight
  pub left : place ≡ count + over
