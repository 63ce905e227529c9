-- What callers go by: from a table and its plan to what the answers ask for, and back to the table's round.
use mathlib.Core.Path.{◌≡◌}
use mathlib.Core.List.{List}
use Prim.Native.Nat.{ℕ, ◌+◌, ◌≤◌, ◌<◌}
use native.Mathlib.Omega.{arith}
use lib.ListN.{length, take}
use Rattle.rules.specs.Rows.{Round}
use Rattle.rules.specs.Table.{round_in}
use Rattle.theory.specs.Sum.{sum, total_sum}
use Rattle.theory.specs.Full.{Fine}
use Rattle.theory.specs.Members.{found_total}
use Rattle.theory.specs.Flags.{with_flag, Chosen, chosen_rows}
use Rattle.sorts.specs.declared.Round.{Round as Head}
use Rattle.round.specs.Rows.{Ready}
use Rattle.keys.specs.Sorted.{Sorted, many_due}
use Rattle.keys.proofs.SliceLaws.{front_many, front_sorted}
use Rattle.buckets.specs.Reach.{Reaches}
use Rattle.buckets.specs.declared.Reach.{Reach}
use Rattle.buckets.proofs.SegmentLaws.{whole_rows}
use Rattle.marks.specs.Total.{Lost}
use Rattle.marks.specs.Given.{Asked}
use Rattle.marks.proofs.KeptLaws.{given}

-- THE WEIGHT LEFT OUT
pub lost_is : (r : Round) → Fine r → (fs : List ℕ) (lost : ℕ) → Chosen r fs →
    lost + sum (λ y. y.weight) (with_flag r fs) ≡ sum (λ y. y.weight) r.rows → Lost r lost
lost_is r f fs lost c e =
    record { is = omega (arith, e, found_total r f (with_flag r fs) (chosen_rows r f fs c), total_sum (with_flag r fs), total_sum r.rows) }

pub lost_none : (r : Round) → Fine r → (x : Reach) → Reaches r x → x.over ≡ 0 → Lost r 0
lost_none r f x w e = record { is = omega (arith, found_total r f r.rows (whole_rows r f x w e)) }

-- A NEAR SLOT, where rows are left out: the near rows' keys are the first ones
module _ (t ks fs : List ℕ) (h : Head) (x : Reach) (many : ℕ) (k : Ready t h) (w : Reaches (round_in t) x) (s : Sorted (round_in t) x.free ks)
    (c : Chosen (round_in t) fs) (m : many ≡ many_due (round_in t) x.free) (d : ℕ) (a : h.slot.0 ≤ d) (b : d < h.slot.0 + x.free) where
  pub asked : Asked (round_in t) (take many ks) fs (length (take many ks)) h.slot.0 x.free d
  asked =
      record {
        given = given t (take many ks) fs h x (length (take many ks)) k w (front_sorted (round_in t) x.free ks many m s) c
            (front_many (round_in t) x.free ks many m s);
        from = a;
        by = b;
      }
