-- Opening, taking, sealing and sending: what each makes of a round.
use Rattle.std.specs.Prelude.{Bool, ◌&&◌, cond, List, [], ◌∷◌, ◌++◌, ℕ, zero, suc, max, ltb, leb, eqb}
use Rattle.rules.specs.Rows.{Frame, Setup, Row, Round, row, blank, round, going_on, with_tail, heavier, frame_tail, blank_tail, unsealed_tail, sealed_tail}
use Rattle.rules.specs.Plan.{plan, mark_in, tight_after, first_end, substitute, best, canonical_first}

-- OPENING
unfoldable pub opened : Setup → (room : ℕ) → Round
opened u k = round 0 u.last 1 k [] unsealed_tail

-- TAKING: the first unused row gets the next ticket
abbrev pub taken_row : (ticket : ℕ) → Frame → Row
taken_row k f = row k f.due f.weight (frame_tail f.class)

unfoldable pub taken : Round → Frame → Round
taken r f = going_on r.slot (suc r.next) (r.rows ++ (taken_row r.next f ∷ [])) r

-- SEALING (L1)
unfoldable pub sealed : Round → Round
sealed r = with_tail sealed_tail r

-- a row at another due slot and weight; a row kept as a blank there
abbrev pub set_to : (due weight : ℕ) → Row → Row
set_to d w x = row x.ticket d w x.tail

abbrev pub kept_at : (due weight : ℕ) → Row → Row
kept_at d w x = row x.ticket d w blank_tail

-- a row changed or gone, by its ticket
unfoldable pub changed : (ticket : ℕ) → (new : Row) → List Row → List Row
changed k x [] = []
changed k x (y ∷ ys) = cond (eqb y.ticket k) (x ∷ ys) (y ∷ changed k x ys)

unfoldable pub without : (ticket : ℕ) → List Row → List Row
without k [] = []
without k (y ∷ ys) = cond (eqb y.ticket k) ys (y ∷ without k ys)

-- the next h: the heaviest plan member due after one slot and by another
unfoldable pub heaviest_between : (after by : ℕ) → List Row → (best : Row) → Row
heaviest_between a b [] x = x
heaviest_between a b (y ∷ ys) x =
    heaviest_between a b ys (cond ((ltb a y.due && leb y.due b) && heavier y x) y x)

-- A LEAP's step 2: shifts from e to g, marks and tight slots those before the slot
unfoldable pub shifted : (fuel : ℕ) → Round → (ps : List Row) → (e g : ℕ) → (rows : List Row) → List Row
shifted zero r ps e g xs = xs
shifted (suc n) r ps e g xs =
    let h = heaviest_between e g ps (blank (suc g)) in
    let moved = changed h.ticket (set_to e (max h.weight (mark_in r ps e)) h) xs in
    cond (ltb e g) (shifted n r ps (tight_after r ps h.due) g moved) xs

-- step 3: r's weight becomes its mark; a blank becomes a kept blank in p's row where that is above 0
unfoldable pub replaced : Round → (ps : List Row) → (p sub : Row) → (rows : List Row) → List Row
replaced r ps p s xs =
    let m = mark_in r ps s.due in
    cond (eqb s.ticket 0)
    (cond (ltb 0 m) (changed p.ticket (kept_at s.due m p) xs) (without p.ticket xs))
    (without p.ticket (changed s.ticket (set_to s.due m s) xs))

unfoldable pub leapt : Round → (ps : List Row) → (p : Row) → List Row
leapt r ps p =
    let s = substitute r ps p in
    let g = tight_after r ps s.due in
    let e = tight_after r ps p.due in
    replaced r ps p s (shifted (suc r.last) r ps e g r.rows)

-- WHOSE TURN IT IS: the plan's canonical first in a sealed round (L1), else PlanM's pick. Document 01's p
unfoldable pub turn_of : Round → (ps : List Row) → Row
turn_of r ps = cond (eqb r.tail.sealed 1) (canonical_first r ps) (best r ps)

abbrev pub goes : Round → Row
goes r = turn_of r (plan r)

-- SENDING: ordinary where p is due by the first segment's end, else a leap; rows due before the next slot leave
unfoldable pub still_due : (slot : ℕ) → List Row → List Row
still_due t [] = []
still_due t (x ∷ xs) = cond (leb t x.due) (x ∷ still_due t xs) (still_due t xs)

unfoldable pub is_ordinary : Round → Bool
is_ordinary r = leb (goes r).due (first_end r (plan r))

unfoldable pub sent : Round → Round
sent r =
    let ps = plan r in
    let p = turn_of r ps in
    let xs = cond (leb p.due (first_end r ps)) (without p.ticket r.rows) (leapt r ps p) in
    going_on (suc r.slot) r.next (still_due (suc r.slot) xs) r
