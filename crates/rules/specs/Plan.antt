-- The plan, tight slots, marks, substitutes and the pick: algorithm PlanM's choice.
use Rattle.std.specs.Prelude.{Bool, true, false, ◌&&◌, ◌||◌, not, cond, List, [], ◌∷◌, ◌++◌, ℕ, zero, suc, ◌+◌, ◌*◌, ◌-◌, min, ltb, leb, eqb, replicate}
use Rattle.rules.specs.Limits.{most_weight}
use Rattle.rules.specs.Rows.{Row, Round, blank, slots_left, heavier, canonical, sorted, chosen, rows_only}

-- FEASIBLE: at most s - t + 1 members due by s, for every slot s from t on
unfoldable pub due_by : (s : ℕ) → List Row → ℕ
due_by s [] = 0
due_by s (x ∷ xs) = cond (leb x.due s) 1 0 + due_by s xs

unfoldable pub fits_from : (left s : ℕ) → (t : ℕ) → List Row → Bool
fits_from zero s t xs = true
fits_from (suc n) s t xs = leb (due_by s xs) (suc s - t) && fits_from n (suc s) t xs

unfoldable pub feasible : Round → List Row → Bool
feasible r xs = fits_from (slots_left r) r.slot r.slot xs

-- THE PLAN: rows from heaviest to lightest, then blanks by rising due slots, each kept that leaves the set feasible;
-- by whichever order among rows, and by heavier
unfoldable pub kept : Round → (rest plan : List Row) → List Row
kept r [] ps = ps
kept r (x ∷ xs) ps = kept r xs (cond (feasible r (x ∷ ps)) (x ∷ ps) ps)

unfoldable pub blanks_from : (left s : ℕ) → (many : ℕ) → List Row
blanks_from zero s k = []
blanks_from (suc n) s k = replicate k (blank s) ++ blanks_from n (suc s) k

abbrev pub plan_by : (before : Row → Row → Bool) → Round → List Row
plan_by f r = kept r (sorted f r.rows ++ blanks_from (slots_left r) r.slot (slots_left r)) []

unfoldable pub plan : Round → List Row
plan r = plan_by heavier r

-- THE TOTAL of the plan
unfoldable pub total_weight : List Row → ℕ
total_weight [] = 0
total_weight (x ∷ xs) = x.weight + total_weight xs

unfoldable pub total : Round → ℕ
total r = total_weight (plan r)

-- TIGHT: exactly s - t + 1 members due by s
unfoldable pub tight : Round → (ps : List Row) → (s : ℕ) → Bool
tight r ps s = eqb (due_by s ps) (suc s - r.slot)

-- the first tight slot at or after one (nextts); the last is always tight
unfoldable pub tight_from : (left s : ℕ) → Round → (ps : List Row) → ℕ
tight_from zero s r ps = s
tight_from (suc n) s r ps = cond (tight r ps s) s (tight_from n (suc s) r ps)

unfoldable pub tight_after : Round → (ps : List Row) → (s : ℕ) → ℕ
tight_after r ps s = tight_from (suc r.last - s) s r ps

-- A SEGMENT's first slot: one more than the last tight slot before one (prevts); the current slot if there is none
unfoldable pub segment_from : (left s : ℕ) → Round → (ps : List Row) → (start : ℕ) → ℕ
segment_from zero s r ps b = b
segment_from (suc n) s r ps b = segment_from n (suc s) r ps (cond (tight r ps s) (suc s) b)

unfoldable pub segment_start : Round → (ps : List Row) → (due : ℕ) → ℕ
segment_start r ps d = segment_from (d - r.slot) r.slot r ps r.slot

-- the end of the first segment: document 01's slot a
unfoldable pub first_end : Round → (ps : List Row) → ℕ
first_end r ps = tight_after r ps r.slot

-- THE MARK of a slot (minwt): the smallest weight due by the first tight slot at or after it
unfoldable pub least_weight : (s : ℕ) → List Row → (best : ℕ) → ℕ
least_weight s [] b = b
least_weight s (x ∷ xs) b = least_weight s xs (cond (leb x.due s) (min b x.weight) b)

unfoldable pub mark_in : Round → (ps : List Row) → (s : ℕ) → ℕ
mark_in r ps s = least_weight (tight_after r ps s) ps most_weight

unfoldable pub mark : Round → (s : ℕ) → ℕ
mark r s = mark_in r (plan r) s

-- SUBSTITUTE (sub): of a member due by the first segment's end its lightest member;
-- of any other the heaviest outside due after the last tight slot before its due slot
unfoldable pub same_row : Row → Row → Bool
same_row a b = eqb a.ticket b.ticket

unfoldable pub in_plan : Row → List Row → Bool
in_plan x [] = false
in_plan x (p ∷ ps) = same_row x p || in_plan x ps

unfoldable pub lightest_by : (s : ℕ) → List Row → (best : Row) → Row
lightest_by s [] b = b
lightest_by s (x ∷ xs) b = lightest_by s xs (cond (leb x.due s && heavier b x) x b)

unfoldable pub heaviest_outside : (from : ℕ) → (rows ps : List Row) → (best : Row) → Row
heaviest_outside a [] ps b = b
heaviest_outside a (x ∷ xs) ps b =
    heaviest_outside a xs ps (cond (leb a x.due && (not (in_plan x ps) && heavier x b)) x b)

unfoldable pub substitute : Round → (ps : List Row) → Row → Row
substitute r ps p =
    cond (leb p.due (first_end r ps)) (lightest_by (first_end r ps) ps p)
    (heaviest_outside (segment_start r ps p.due) r.rows ps (blank (segment_start r ps p.due)))

-- THE GOLDEN COMPARISON: x > φ y, then a + φ b > c + φ d, exactly
unfoldable pub beats_golden : (x y : ℕ) → Bool
beats_golden x y = ltb y (2 * x) && ltb (5 * y * y) ((2 * x - y) * (2 * x - y))

unfoldable pub golden_more : (a b c d : ℕ) → Bool
golden_more a b c d =
    cond (leb c a)
    (cond (leb d b) (ltb c a || ltb d b) (beats_golden (a - c) (d - b)))
    (cond (leb b d) false (not (beats_golden (c - a) (b - d))))

-- THE PICK: the greatest weight + φ × substitute's weight; among equals the canonical first
unfoldable pub sends_before : Round → (ps : List Row) → Row → Row → Bool
sends_before r ps p q =
    let v = (substitute r ps p).weight in
    let w = (substitute r ps q).weight in
    golden_more p.weight v q.weight w || (not (golden_more q.weight w p.weight v) && canonical p q)

unfoldable pub best_from : Round → (all rest : List Row) → (best : Row) → Row
best_from r ps [] b = b
best_from r ps (x ∷ xs) b = best_from r ps xs (cond (sends_before r ps x b) x b)

unfoldable pub best : Round → (ps : List Row) → Row
best r [] = blank r.slot
best r (p ∷ ps) = best_from r (p ∷ ps) ps p

-- THE CANONICAL FIRST of the plan, blanks among its members: what a sealed round sends (L1)
unfoldable pub first_from : List Row → (best : Row) → Row
first_from [] b = b
first_from (x ∷ xs) b = first_from xs (cond (canonical x b) x b)

unfoldable pub canonical_first : Round → (ps : List Row) → Row
canonical_first r [] = blank r.slot
canonical_first r (p ∷ ps) = first_from ps p

-- the plan as a set of waiting rows, by a flag for each; and AS LISTED, in canonical order, blanks left out
unfoldable pub flags : (ps xs : List Row) → List Bool
flags ps [] = []
flags ps (x ∷ xs) = in_plan x ps ∷ flags ps xs

unfoldable pub planned : Round → List Row
planned r = chosen (flags (plan r) r.rows) r.rows

unfoldable pub listed : Round → List Row
listed r = sorted canonical (rows_only (plan r))
