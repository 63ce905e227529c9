-- L14, WHAT HINDSIGHT COULD HAVE GAINED: what calls and replies alone tell of a round; S, what went out in it; B, the most that could have;
-- and the owed statements about the two.
use Rattle.std.specs.Prelude.{◌≡◌, Bool, true, false, ◌&&◌, not, cond, List, [], ◌∷◌, ℕ, zero, suc, ◌+◌, ◌*◌, ◌-◌, ◌≤◌, max, leb, eqb, length}
use Rattle.std.proofs.Math.Option.{Option, none, some}
use Rattle.rules.specs.Limits.{head_size, row_size, most_rows, most_last}
use Rattle.rules.specs.Rows.{Setup}
use Rattle.rules.specs.Calls.{taking, sending, sealing, Call, opening, acting, asking, Out, silence, frame, kept_blank, ordinary, leap, Reply, refused, done, closed, ticket, step, amount, blank_due, left, run, replies}
use Rattle.rules.specs.Conditions.{Past}
use Rattle.rules.specs.Demands.{member, NoOpening}

-- WHAT A CALL AND ITS REPLY TELL: a frame accepted, what went out, that the round is shut (L1's sealing), or nothing of these
pub data Told : Type 0 where
  nothing : Told
  took : (ticket due weight : ℕ) → Told
  went : Out → Told
  shut : Told

unfoldable pub took_in : (due weight : ℕ) → Reply → Told
took_in d w (refused n) = nothing
took_in d w done = nothing
took_in d w closed = nothing
took_in d w (ticket k) = took k d w
took_in d w (step s) = nothing
took_in d w (amount n) = nothing
took_in d w (blank_due s) = nothing

unfoldable pub went_out : Reply → Told
went_out (refused n) = nothing
went_out done = nothing
went_out closed = nothing
went_out (ticket k) = nothing
went_out (step (ordinary o)) = went o
went_out (step (leap o)) = went o
went_out (amount n) = nothing
went_out (blank_due s) = nothing

unfoldable pub shut_by : Reply → Told
shut_by (refused n) = nothing
shut_by done = nothing
shut_by closed = shut
shut_by (ticket k) = nothing
shut_by (step s) = nothing
shut_by (amount n) = nothing
shut_by (blank_due s) = nothing

unfoldable pub told : Call → Reply → Told
told (opening u) a = nothing
told (acting (taking f)) a = took_in f.due f.weight a
told (acting sending) a = went_out a
told (acting sealing) a = shut_by a
told (asking q) a = nothing

unfoldable pub story : List Call → List Reply → List Told
story [] bs = []
story (c ∷ cs) [] = []
story (c ∷ cs) (a ∷ bs) = told c a ∷ story cs bs

-- whether the round was never sealed
unfoldable pub never_shut : List Told → Bool
never_shut [] = true
never_shut (nothing ∷ ts) = never_shut ts
never_shut (took k d w ∷ ts) = never_shut ts
never_shut (went o ∷ ts) = never_shut ts
never_shut (shut ∷ ts) = false

-- S, WHAT WENT OUT: a frame counts for the weight it was taken with, by its ticket; silence and a kept blank count nothing
unfoldable pub counts_for : (worth : ℕ → ℕ) → Out → ℕ
counts_for f silence = 0
counts_for f (frame k) = f k
counts_for f (kept_blank k) = 0

unfoldable pub noted : (ticket worth : ℕ) → (ℕ → ℕ) → ℕ → ℕ
noted k w f x = cond (eqb x k) w (f x)

unfoldable pub earned : List Told → (worth : ℕ → ℕ) → (sum : ℕ) → ℕ
earned [] f u = u
earned (nothing ∷ ts) f u = earned ts f u
earned (took k d w ∷ ts) f u = earned ts (noted k w f) u
earned (went o ∷ ts) f u = earned ts f (u + counts_for f o)
earned (shut ∷ ts) f u = earned ts f u

unfoldable pub sent_in : List Told → ℕ
sent_in ts = earned ts (λ k. 0) 0

-- AN OFFER: a frame accepted, from the slot in which it was taken (the source's release time) to its first due slot, with its first weight
pub record Offer : Type 0 where
  pub from : ℕ
  pub to : ℕ
  pub weight : ℕ

unfoldable pub offer : (from to weight : ℕ) → Offer
offer a b w = record { from = a; to = b; weight = w }

-- the offers of a round from a slot on: whatever went out ended a slot
unfoldable pub offers : List Told → (slot : ℕ) → List Offer
offers [] s = []
offers (nothing ∷ ts) s = offers ts s
offers (took k d w ∷ ts) s = offer s d w ∷ offers ts s
offers (went o ∷ ts) s = offers ts (suc s)
offers (shut ∷ ts) s = offers ts s

-- A RIVAL'S CHOICE, the source's schedule of the adversary: for each offer in turn a slot or none
abbrev pub Choice : Type 0
Choice = List (Option ℕ)

-- it can be kept: each slot lies within its offer's time, and none is used twice
unfoldable pub kept_to : List Offer → Choice → (used : List ℕ) → Bool
kept_to [] cs us = true
kept_to (x ∷ xs) [] us = true
kept_to (x ∷ xs) (none ∷ cs) us = kept_to xs cs us
kept_to (x ∷ xs) (some s ∷ cs) us = ((leb x.from s && leb s x.to) && not (member s us)) && kept_to xs cs (s ∷ us)

unfoldable pub gained : List Offer → Choice → ℕ
gained [] cs = 0
gained (x ∷ xs) [] = 0
gained (x ∷ xs) (none ∷ cs) = gained xs cs
gained (x ∷ xs) (some s ∷ cs) = x.weight + gained xs cs

-- B, THE MOST that could have gone out, the source's w(OPT): each offer is left, or put in any free slot of its time. The most of n slots from s on
unfoldable pub top_of : (n s : ℕ) → (ℕ → ℕ) → ℕ
top_of zero s g = 0
top_of (suc n) s g = max (g s) (top_of n (suc s) g)

unfoldable pub most : List Offer → (used : List ℕ) → ℕ
most [] us = 0
most (x ∷ xs) us =
    max (most xs us) (top_of (suc x.to - x.from) x.from (λ s. cond (member s us) 0 (x.weight + most xs (s ∷ us))))

unfoldable pub could_have : List Told → ℕ
could_have ts = most (offers ts 0) []

-- it is the most: some choice that can be kept gains it, and none gains more
unfoldable pub Most : List Offer → ℕ → Type 0
Most xs b =
    ((cs : Choice) × (kept_to xs cs [] ≡ true) × (gained xs cs ≡ b))
    × ((cs : Choice) → kept_to xs cs [] ≡ true → gained xs cs ≤ b)

unfoldable pub MostReckoned : Type 0
MostReckoned = (xs : List Offer) → Most xs (most xs [])

-- A CLAIM about every list of calls on a table just opened, with no accepted opening among them: of the bytes afterwards and of what is told
abbrev pub OfRounds : (claim : (bytes : List ℕ) → List Told → Type 0) → Type 0
OfRounds claim =
    (t : List ℕ) (k : ℕ) (u : Setup) (cs : List Call) → length t ≡ head_size + row_size * k → 1 ≤ k → k ≤ most_rows → u.last ≤ most_last → NoOpening cs →
    let z = left (opening u) t in claim (run cs z) (story cs (replies cs z))

-- what went out could have: S is at most B
unfoldable pub SentCouldHave : Type 0
SentCouldHave = OfRounds (λ z ts. sent_in ts ≤ could_have ts)

-- THE GOLDEN BOUND: past the last slot of a round that was never sealed B is at most S times the golden ratio
unfoldable pub GoldenHindsight : Type 0
GoldenHindsight = OfRounds (λ z ts. Past z → never_shut ts ≡ true → could_have ts * could_have ts ≤ could_have ts * sent_in ts + sent_in ts * sent_in ts)
