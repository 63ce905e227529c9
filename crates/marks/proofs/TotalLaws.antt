-- The weight of all rows, row by row.
use mathlib.Core.Path.{◌≡◌, ap, ◌∙◌}
use Prim.Native.Nat.{ℕ, ◌+◌, ◌*◌, ◌≤◌, ◌<◌}
use native.Mathlib.Omega.{arith}
use native.Mathlib.Numerals.{add-one}
use lib.ListN.{length, take}
use lib.Seq.{take-length}
use Rattle.rules.specs.Rows.{Round, blank}
use Rattle.rules.specs.Plan.{total_weight}
use Rattle.theory.specs.Sum.{sum, total_sum}
use Rattle.theory.specs.Index.{sum_next}
use Rattle.round.specs.Rows.{WeightAt}

-- SUMMING: n is the weight of the first i rows
pub record Summing (r : Round) (i n : ℕ) : Type 0 where
  pub is : n ≡ sum (λ x. x.weight) (take i r.rows)
  pub most : n ≤ 16777216 * i

pub sum_step : (r : Round) (i n w : ℕ) → i < length r.rows → WeightAt r i w → Summing r i n → Summing r (i + 1) (n + w)
sum_step r i n w h a s =
    record {
      is = rw (add-one i) (omega (arith, s.is, sum_next (λ x. x.weight) (blank 0) r.rows i h, a.is));
      most = omega (arith, s.most, a.most);
    }

pub sum_end : (r : Round) (i n : ℕ) → i ≡ length r.rows → Summing r i n → n ≡ total_weight r.rows
sum_end r i n e s =
    omega (
      arith,
      s.is,
      ap (sum (λ x. x.weight)) (ap (λ (n : ℕ). take n r.rows) e ∙ take-length r.rows),
      total_sum r.rows,
    )
