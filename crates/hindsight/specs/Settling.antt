-- Settling: a row held that the plan no longer has becomes a number owed; what is left splits the waiting rows.
use Rattle.std.specs.Prelude.{◌≡◌, refl, true, cond, List, [], ◌∷◌, ◌++◌, ℕ, suc, ◌+◌, ◌≤◌, eqb}
use Rattle.std.proofs.Common.{inl, inr, arith}
use Rattle.rules.specs.Rows.{All, In, Round, Row}
use Rattle.rules.specs.Plan.{in_plan, mark, plan}
use Rattle.theory.specs.Tests.{either}
use Rattle.theory.specs.Sum.{sum, sum_append, sum_le}
use Rattle.theory.specs.All.{all_in, all_map, all_of_in}
use Rattle.theory.specs.Bounds.{RowFine}
use Rattle.theory.specs.Full.{Fine, outside, plan_sum}
use Rattle.theory.specs.Change.{rising_above}
use Rattle.theory.specs.Leap.{outside_heavy}
use Rattle.theory.specs.Same.{of_outside, of_plan, of_yes, sum_none}
use Rattle.theory.specs.MarksFall.{mark_falls}
use Rattle.hindsight.specs.Occurs.{Among, part_all}
use Rattle.hindsight.specs.Worth.{Split}
use Rattle.hindsight.specs.Stash.{StashEntry, Good, Keeps, claims, held, hold, hold_idle, idle, owe}

-- a measure of the plan's rows alone is at most the measure
of_less : (ps : List Row) (μ : Row → ℕ) (x : Row) → of_plan ps μ x ≤ μ x
unfolding of_plan
of_less ps μ x =
    elim (either (eqb x.ticket 0)) [
      | inl e ↦ rw e (omega arith)
      | inr e ↦ rw e (elim (either (in_plan x ps)) [ inl q ↦ rw q (omega arith) | inr q ↦ rw q (omega arith) ])
    ]

-- and the same of rows that the plan has
of_inside : (ps : List Row) (μ : Row → ℕ) (xs : List Row) → All (λ x. (1 ≤ x.ticket) × (in_plan x ps ≡ true)) xs → sum (of_plan ps μ) xs ≡ sum μ xs
of_inside ps μ [] a = refl
of_inside ps μ (x ∷ xs) a = omega (arith, of_yes ps μ x a.0.0 a.0.1, of_inside ps μ xs a.1)

-- waiting rows that the plan has are part of it
pub inside_plan : (r : Round) → Fine r → (xs : List Row) → All (λ x. (1 ≤ x.ticket) × (in_plan x (plan r) ≡ true)) xs → Among xs r.rows → Among xs (plan r)
inside_plan r f xs a h μ =
    omega (
      arith,
      of_inside (plan r) μ xs a,
      h (of_plan (plan r) μ),
      plan_sum (of_plan (plan r) μ) r,
      sum_none (of_plan (plan r) μ) (outside r) (all_of_in (λ x. of_plan (plan r) μ x ≡ 0) (outside r) (λ x i. of_outside r f μ x i)),
      sum_le (of_plan (plan r) μ) μ (of_less (plan r) μ) (plan r),
    )

-- SETTLING: a held row that the plan does not have becomes a number owed, what it counts for
unfoldable pub settled : List Row → List StashEntry → List StashEntry
settled ps [] = []
settled ps (idle ∷ es) = idle ∷ settled ps es
settled ps (owe m ∷ es) = owe m ∷ settled ps es
settled ps (hold x m ∷ es) = cond (in_plan x ps) (hold x m) (owe m) ∷ settled ps es

-- the rows that become free by it
unfoldable pub dropped : List Row → List StashEntry → List Row
dropped ps [] = []
dropped ps (idle ∷ es) = dropped ps es
dropped ps (owe m ∷ es) = dropped ps es
dropped ps (hold x m ∷ es) = cond (in_plan x ps) (dropped ps es) (x ∷ dropped ps es)

-- rows held before are held still or free now
pub settled_sum : (ps : List Row) (μ : Row → ℕ) (es : List StashEntry) → sum μ (held (settled ps es)) + sum μ (dropped ps es) ≡ sum μ (held es)
unfolding settled dropped
settled_sum ps μ [] = refl
settled_sum ps μ (idle ∷ es) = settled_sum ps μ es
settled_sum ps μ (owe m ∷ es) = settled_sum ps μ es
settled_sum ps μ (hold x m ∷ es) =
    elim (either (in_plan x ps)) [ inl e ↦ rw e (omega (arith, settled_sum ps μ es)) | inr e ↦ rw e (omega (arith, settled_sum ps μ es)) ]

-- it counts for as much
pub settled_claims : (ps : List Row) (es : List StashEntry) → claims (settled ps es) ≡ claims es
unfolding settled
settled_claims ps [] = refl
settled_claims ps (idle ∷ es) = settled_claims ps es
settled_claims ps (owe m ∷ es) = omega (arith, settled_claims ps es)
settled_claims ps (hold x m ∷ es) =
    elim (either (in_plan x ps)) [ inl e ↦ rw e (omega (arith, settled_claims ps es)) | inr e ↦ rw e (omega (arith, settled_claims ps es)) ]

-- every row held then is in the plan
pub settled_all : (ps : List Row) (es : List StashEntry) → All (λ x. 1 ≤ x.ticket) (held es) →
    All (λ x. (1 ≤ x.ticket) × (in_plan x ps ≡ true)) (held (settled ps es))
unfolding settled
settled_all ps [] a = tt
settled_all ps (idle ∷ es) a = settled_all ps es a
settled_all ps (owe m ∷ es) a = settled_all ps es a
settled_all ps (hold x m ∷ es) a =
    elim (either (in_plan x ps)) [ inl e ↦ rw e ((a.0, e), settled_all ps es a.1) | inr e ↦ rw e (settled_all ps es a.1) ]

-- a good stash stays good: a row outside weighs at most the mark of its due slot
pub settled_good : (r : Round) → Fine r → (s : ℕ) (es : List StashEntry) → r.slot ≤ s → All (λ x. In x r.rows) (held es) → Good r s es →
    Good r s (settled (plan r) es)
unfolding settled mark
settled_good r f s [] t a g = g
settled_good r f s (idle ∷ es) t a g = (g.0, settled_good r f (suc s) es (omega arith) a g.1)
settled_good r f s (owe m ∷ es) t a g = (g.0, g.1, settled_good r f (suc s) es (omega arith) a g.2)
settled_good r f s (hold x m ∷ es) t a g =
    elim (either (in_plan x (plan r))) [
      | inl e ↦ rw e (g.0, g.1, g.2, settled_good r f (suc s) es (omega arith) a.1 g.3)
      | inr e ↦ rw e (
        g.0,
        omega (
          arith,
          g.2,
          outside_heavy r f x a.0 e,
          mark_falls r f s x.due t g.1 (all_in (RowFine r) x r.rows f.fine a.0).due_by,
        ),
        settled_good r f (suc s) es (omega arith) a.1 g.3,
      )
    ]

-- and idle slots idle
pub settled_keeps : (ps : List Row) (s : ℕ) (es : List StashEntry) → Keeps s es (settled ps es)
unfolding settled
settled_keeps ps s [] us d = tt
settled_keeps ps s (idle ∷ es) us d = (d.0, settled_keeps ps (suc s) es us d.1)
settled_keeps ps s (owe m ∷ es) us d = (d.0, settled_keeps ps (suc s) es us d.1)
settled_keeps ps s (hold x m ∷ es) us d =
    (λ b. hold_idle x m (cond (in_plan x ps) (hold x m) (owe m)) (d.0 b), settled_keeps ps (suc s) es us d.1)

-- A STATE of the analysis: a good stash, and the rows that it does not hold
pub record State (r : Round) (es : List StashEntry) (fs : List Row) : Type 0 where
  pub good : Good r r.slot es
  pub split : Split r fs (held es)

-- WHAT SETTLING LEAVES
pub record Settled (r : Round) (es : List StashEntry) (fs : List Row) : Type 0 where
  pub stash : List StashEntry
  pub free : List Row
  pub state : State r stash free
  pub counts : claims stash ≡ claims es
  pub more : Among fs free
  pub keeps : Keeps r.slot es stash

-- every good stash settles
pub settle : (r : Round) → Fine r → (es : List StashEntry) (fs : List Row) → Good r r.slot es →
    ((μ : Row → ℕ) → sum μ fs + sum μ (held es) ≡ sum μ r.rows) → Settled r es fs
settle r f es fs g w =
    let ps = plan r in
    let waits = part_all (held es) r.rows (λ μ. omega (arith, w μ)) in
    record {
      stash = settled ps es;
      free = dropped ps es ++ fs;
      state = record {
        good = settled_good r f r.slot es (omega arith) waits g;
        split = record {
          whole = λ μ. omega (arith, w μ, settled_sum ps μ es, sum_append μ (dropped ps es) fs);
          inside = inside_plan r f (held (settled ps es))
              (settled_all ps es (all_map {Q = λ x. 1 ≤ x.ticket} (λ x (i : In x r.rows). rising_above 1 r.next x r.rows f.rising i)
              (held es) waits))
              (λ μ. omega (arith, w μ, settled_sum ps μ es));
        };
      };
      counts = settled_claims ps es;
      more = λ μ. omega (arith, sum_append μ (dropped ps es) fs);
      keeps = settled_keeps ps r.slot es;
    }
