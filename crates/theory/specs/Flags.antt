-- The plan's rows as one flag byte a row: Chosen, with_flag, chosen_rows, all_chosen, raised_at.
use Rattle.std.specs.Prelude.{◌≡◌, refl, Bool, true, false, List, [], ◌∷◌, ℕ, zero, suc, ◌≤◌, ◌<◌, eqb, length, get_or, replicate}
use Rattle.std.proofs.Common.{ap, arith}
use Rattle.std.proofs.lemmas.List.{length-replicate, get_or-replicate}
use Rattle.rules.specs.Rows.{Row, Round, chosen}
use Rattle.rules.specs.Plan.{feasible}
use Rattle.theory.specs.Full.{Fine}
use Rattle.theory.specs.Unique.{Certified}
use Rattle.theory.specs.Members.{RowsOfPlan, certified_found}
use Rattle.theory.specs.Near.{all_certified}

unfoldable pub raised : List ℕ → List Bool
raised [] = []
raised (f ∷ fs) = eqb f 1 ∷ raised fs

-- CHOSEN: the rows with a flag are the plan's; each flag is 1 or 0
pub record Chosen (r : Round) (fs : List ℕ) : Type 0 where
  pub long : length fs ≡ length r.rows
  pub certified : Certified r (raised fs)
  pub bits : (i : ℕ) → i < length fs → get_or fs i 0 ≤ 1

-- those rows
abbrev pub with_flag : Round → List ℕ → List Row
with_flag r fs = chosen (raised fs) r.rows

pub chosen_rows : (r : Round) → Fine r → (fs : List ℕ) → Chosen r fs → RowsOfPlan r (with_flag r fs)
chosen_rows r f fs c = certified_found r f (raised fs) c.certified

pub length_raised : (fs : List ℕ) → length (raised fs) ≡ length fs
unfolding raised
length_raised [] = refl
length_raised (f ∷ fs) = ap suc (length_raised fs)

pub raised_at : (fs : List ℕ) (i : ℕ) → i < length fs → get_or (raised fs) i false ≡ eqb (get_or fs i 0) 1
unfolding raised
raised_at [] i h = absurd (omega arith)
raised_at (f ∷ fs) zero h = refl
raised_at (f ∷ fs) (suc i) h = raised_at fs i (omega arith)

pub raised_all : (n : ℕ) → raised (replicate n 1) ≡ replicate n true
unfolding raised
raised_all zero = refl
raised_all (suc n) = ap (λ (bs : List Bool). true ∷ bs) (raised_all n)

-- nothing left out: every flag
pub all_chosen : (r : Round) → feasible r r.rows ≡ true → Chosen r (replicate (length r.rows) 1)
all_chosen r h =
    let n = length r.rows in
    record {
      long = length-replicate n 1;
      certified = rw (raised_all n) (all_certified r h);
      bits = λ i k. omega (arith, get_or-replicate {A = ℕ} n i 1 0 (omega (arith, k, length-replicate {A = ℕ} n 1)));
    }
