-- How large a total and a mark can be.
use mathlib.Core.Logic.{inl, inr}
use mathlib.Core.List.{List, [], ◌∷◌}
use Prim.Native.Nat.{ℕ, ◌*◌, ◌≤◌, min}
use native.Mathlib.Omega.{arith}
use lib.Dec.{leb}
use lib.ListN.{length}
use Rattle.rules.specs.Rows.{Row, Round, All}
use Rattle.rules.specs.Plan.{plan, total, least_weight, mark_in, mark, flags, planned}
use Rattle.rules.specs.Table.{round_in}
use Rattle.rules.specs.Calls.{totalling, asking, question, deed, refusal, says, answer}
use Rattle.theory.specs.Tests.{either, eqb?}
use Rattle.theory.specs.Sum.{sum, sum_chosen, total_sum}
use Rattle.theory.specs.Bounds.{RowFine}
use Rattle.theory.specs.Full.{Fine}
use Rattle.theory.specs.Same.{planned_weighs}
use Rattle.packing.specs.Packing.{SmallAmount}
use Rattle.station.proofs.Fitting.{accepted_question}

pub weights_most : (r : Round) (xs : List Row) → All (RowFine r) xs → sum (λ x. x.weight) xs ≤ 16777216 * length xs
weights_most r [] a = omega arith
weights_most r (x ∷ xs) a = omega (arith, a.0.most, weights_most r xs a.1)

pub total_most : (r : Round) → Fine r → length r.rows ≤ 1024 → total r ≤ 17179869184
unfolding planned
total_most r f h =
    omega (
      arith,
      planned_weighs r f,
      total_sum (planned r),
      sum_chosen (λ x. x.weight) (flags (plan r) r.rows) r.rows,
      weights_most r r.rows f.fine,
    )

pub total_answer_small : (t : List ℕ) → SmallAmount (answer (asking totalling) t)
unfolding answer says deed question
total_answer_small t = elim (eqb? (refusal (asking totalling) t) 0) [
  | inl e ↦
      let s = accepted_question totalling t e.1 in
      rw e.0 (total_most (round_in t) s.fine (omega (arith, s.size.long, s.size.room)))
  | inr e ↦ rw e.0 tt
]

pub least_most : (s : ℕ) (xs : List Row) (b : ℕ) → least_weight s xs b ≤ b
unfolding least_weight
least_most s [] b = omega arith
least_most s (x ∷ xs) b = elim (either (leb x.due s)) [
  | inl e ↦ rw e (omega (arith, least_most s xs (min b x.weight)))
  | inr e ↦ rw e (least_most s xs b)
]

pub mark_most : (r : Round) (s : ℕ) → mark r s ≤ 16777216
unfolding mark mark_in
mark_most r s = least_most _ (plan r) 16777216
