-- How a round by hand is written, and how the definitions play it on bytes.
use mathlib.Core.Bool.{Bool, cond}
use mathlib.Core.List.{List, [], ◌∷◌, map}
use Prim.Native.Nat.{ℕ, zero, suc, ◌+◌, ◌*◌}
use lib.Dec.{eqb}
use lib.ListN.{replicate}
use Rattle.rules.specs.Limits.{head_size, row_size}
use Rattle.rules.specs.Rows.{Row, Round, row, round, until, framed, slots_left, frame_tail, blank_tail, unsealed_tail, sealed_tail}
use Rattle.rules.specs.Plan.{mark, listed}
use Rattle.rules.specs.Table.{round_in, same}
use Rattle.rules.specs.Calls.{taking, sending, sealing, marking, totalling, Call, opening, acting, asking, Reply, number_of, answer, left, refused, round_refusal, says, next_round}
use Rattle.rules.specs.Looking.{with_ticket, stand_in, substitute_answer, list_answer, list_left, the_plan, shows}

-- the calls by their arguments
abbrev pub opens : (last : ℕ) → Call
opens l = opening (until l)

abbrev pub takes : (due weight : ℕ) → Call
takes d w = acting (taking (framed d w 0))

abbrev pub takes_of : (class due weight : ℕ) → Call
takes_of c d w = acting (taking (framed d w c))

abbrev pub sends : Call
sends = acting sending

abbrev pub seals : Call
seals = acting sealing

abbrev pub marks : (slot : ℕ) → Call
marks s = asking (marking s)

abbrev pub totals : Call
totals = asking totalling

-- a round of some rows, unsealed and sealed
abbrev pub plain : (slot last next room : ℕ) → List Row → Round
plain t l n k xs = round t l n k xs unsealed_tail

abbrev pub plain_sealed : (slot last next room : ℕ) → List Row → Round
plain_sealed t l n k xs = round t l n k xs sealed_tail

-- a waiting frame, of class 0 and of any class, and a kept blank: ticket, due slot, weight
abbrev pub waits : (ticket due weight : ℕ) → Row
waits k d w = row k d w (frame_tail 0)

abbrev pub waits_of : (class ticket due weight : ℕ) → Row
waits_of c k d w = row k d w (frame_tail c)

abbrev pub keeps : (ticket due weight : ℕ) → Row
keeps k d w = row k d w blank_tail

-- entries lent to a listing, no two alike
abbrev pub old : ℕ → Row
old n = row 0 n 0 (record { kind = 9; class = 9 })

abbrev pub lent : (room : ℕ) → List Row
lent zero = []
lent (suc n) = old n ∷ lent n

-- A TURN: a call with its reply, then the waiting rows and the marks from the current slot to the last;
-- or the tickets of the plan in canonical order with the substitute of each;
-- or the substitute asked of a ticket, with the reply;
-- or the plan listed into so many entries, with the reply and all entries afterwards;
-- or a call that is refused by a number, and whether every byte is as it was;
-- or the head: current slot, last slot, next ticket, and whether it is sealed
pub data Turn : Type 0 where
  turn : Call → Reply → (rows : List Row) → (marks : List ℕ) → Turn
  listing : (tickets : List ℕ) → (substitutes : List Reply) → Turn
  substituting : (ticket : ℕ) → Reply → Turn
  lists : (room : ℕ) → Reply → (entries : List Row) → Turn
  refuses : Call → (number : ℕ) → (unchanged : Bool) → Turn
  head : (slot last next sealed : ℕ) → Turn

-- A ROUND BY HAND: a table and turns on it
pub record Hand : Type 0 where
  pub start : List ℕ
  pub turns : List Turn

-- a table of so many rows with something else in it; a round's is mostly one row longer than it needs
abbrev pub found : (rows : ℕ) → List ℕ
found k = replicate (head_size + row_size * k) 7

abbrev pub marks_from : (left s : ℕ) → Round → List ℕ
marks_from zero s r = []
marks_from (suc n) s r = mark r s ∷ marks_from n (suc s) r

abbrev pub marks_of : Round → List ℕ
marks_of r = marks_from (slots_left r) r.slot r

abbrev pub tickets_of : List Row → List ℕ
tickets_of xs = map (λ (x : Row). x.ticket) xs

-- the same calls by the definitions
abbrev pub replayed : List ℕ → List Turn → List Turn
replayed t [] = []
replayed t (turn c a xs ms ∷ ts) =
    let z = left c t in turn c (answer c t) (round_in z).rows (marks_of (round_in z)) ∷ replayed z ts
replayed t (listing ks ss ∷ ts) =
    let is = tickets_of (listed (round_in t)) in listing is (map (λ (k : ℕ). substitute_answer k t) is) ∷ replayed t ts
replayed t (substituting k a ∷ ts) = substituting k (substitute_answer k t) ∷ replayed t ts
replayed t (lists n a es ∷ ts) =
    lists n (list_answer (shows the_plan) t n) (list_left (shows the_plan) (λ (x : Row). x) t (lent n)) ∷ replayed t ts
replayed t (refuses c n b ∷ ts) = refuses c (number_of (answer c t)) (same (left c t) t) ∷ replayed t ts
replayed t (head s l n b ∷ ts) =
    let r = round_in t in head r.slot r.last r.next r.tail.sealed ∷ replayed t ts

abbrev pub played : List Hand → List Hand
played [] = []
played (h ∷ hs) = record { start = h.start; turns = replayed h.start h.turns } ∷ played hs

-- A ROUND BY HAND ON THE MODEL (Calls.antt), which knows no bytes: a round and turns on it
pub record ModelHand : Type 0 where
  pub start : Round
  pub turns : List Turn

-- a round with something else in it
abbrev pub spent : (room : ℕ) → Round
spent k = plain_sealed 7 7 7 k (keeps 6 7 7 ∷ [])

abbrev pub model_answer : Call → Round → Reply
model_answer c r = cond (eqb (round_refusal c r) 0) (says c r) (refused (round_refusal c r))

-- the same calls by the definitions; a turn that is about bytes has no place in it
abbrev pub model_replayed : Round → List Turn → List Turn
model_replayed r [] = []
model_replayed r (turn c a xs ms ∷ ts) = let z = next_round c r in turn c (model_answer c r) z.rows (marks_of z) ∷ model_replayed z ts
model_replayed r (listing ks ss ∷ ts) =
    let is = tickets_of (listed r) in listing is (map (λ (k : ℕ). stand_in r (with_ticket k r.rows)) is) ∷ model_replayed r ts
model_replayed r (substituting k a ∷ ts) = []
model_replayed r (lists n a es ∷ ts) = []
model_replayed r (refuses c n b ∷ ts) = []
model_replayed r (head s l n b ∷ ts) = []

abbrev pub modelled : List ModelHand → List ModelHand
modelled [] = []
modelled (h ∷ hs) = record { start = h.start; turns = model_replayed h.start h.turns } ∷ modelled hs
