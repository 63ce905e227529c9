-- The same laws by index, as loops over a table's rows have them: each_row, flag_in, each_chosen, sum_next, chosen_next, at_flag.
use Rattle.std.specs.Prelude.{◌≡◌, refl, Bool, true, false, cond, List, [], ◌∷◌, ℕ, zero, suc, ◌+◌, ◌≤◌, ◌<◌, length, get_or, take}
use Rattle.std.proofs.Common.{sym, ap, ◌∙◌, subst, inl, inr, arith}
use Rattle.std.proofs.lemmas.Bool.{false≢true}
use Rattle.rules.specs.Rows.{Row, Round, chosen, In}
use Rattle.rules.specs.Plan.{in_plan}
use Rattle.theory.specs.Sum.{sum}
use Rattle.theory.specs.Full.{Fine}
use Rattle.theory.specs.Unique.{Certified, flags_chosen, flag_at}

-- what holds at every index holds of every row
pub index_of : (z x : Row) (xs : List Row) → In x xs → (i : ℕ) × (i < length xs) × (get_or xs i z ≡ x)
index_of z x [] j = absurd j
index_of z x (y ∷ ys) (inl e) = (0, omega arith, sym e)
index_of z x (y ∷ ys) (inr j) = let q = index_of z x ys j in (suc q.0, omega (arith, q.1), q.2)

pub each_row : (P : Row → Type 0) (z : Row) (xs : List Row) → ((i : ℕ) → i < length xs → P (get_or xs i z)) → (x : Row) → In x xs → P x
each_row P z xs h x j = let q = index_of z x xs j in subst P q.2 (h q.0 q.1)

-- rows with a flag
pub flag_in : (z : Row) (fs : List Bool) (xs : List Row) (i : ℕ) → i < length xs → get_or fs i false ≡ true → In (get_or xs i z) (chosen fs xs)
unfolding chosen
flag_in z fs [] i h e = absurd (omega arith)
flag_in z [] (x ∷ xs) i h e = absurd (false≢true e)
flag_in z (true ∷ fs) (x ∷ xs) zero h e = inl refl
flag_in z (false ∷ fs) (x ∷ xs) zero h e = absurd (false≢true e)
flag_in z (true ∷ fs) (x ∷ xs) (suc i) h e = inr (flag_in z fs xs i (omega arith) e)
flag_in z (false ∷ fs) (x ∷ xs) (suc i) h e = flag_in z fs xs i (omega arith) e

pub chosen_index : (z x : Row) (fs : List Bool) (xs : List Row) → In x (chosen fs xs) → (i : ℕ) × (i < length xs) × (get_or fs i false ≡ true) × (get_or xs i z ≡ x)
unfolding chosen
chosen_index z x [] xs j = absurd j
chosen_index z x (m ∷ fs) [] j = absurd j
chosen_index z x (true ∷ fs) (y ∷ ys) (inl e) = (0, omega arith, refl, sym e)
chosen_index z x (true ∷ fs) (y ∷ ys) (inr j) = let q = chosen_index z x fs ys j in (suc q.0, omega (arith, q.1), q.2, q.3)
chosen_index z x (false ∷ fs) (y ∷ ys) j = let q = chosen_index z x fs ys j in (suc q.0, omega (arith, q.1), q.2, q.3)

pub each_chosen : (P : Row → Type 0) (z : Row) (fs : List Bool) (xs : List Row) → ((i : ℕ) → i < length xs → get_or fs i false ≡ true → P (get_or xs i z)) →
    (x : Row) → In x (chosen fs xs) → P x
each_chosen P z fs xs h x j = let q = chosen_index z x fs xs j in subst P q.3 (h q.0 q.1 q.2)

-- sums grow by one row
pub sum_next : (μ : Row → ℕ) (z : Row) (xs : List Row) (i : ℕ) → i < length xs → sum μ (take (suc i) xs) ≡ sum μ (take i xs) + μ (get_or xs i z)
sum_next μ z [] i h = absurd (omega arith)
sum_next μ z (x ∷ xs) zero h = omega arith
sum_next μ z (x ∷ xs) (suc i) h = omega (arith, sum_next μ z xs i (omega arith))

pub chosen_next : (μ : Row → ℕ) (z : Row) (fs : List Bool) (xs : List Row) (i : ℕ) → i < length xs → length fs ≡ length xs →
    sum μ (chosen (take (suc i) fs) (take (suc i) xs)) ≡ sum μ (chosen (take i fs) (take i xs)) + cond (get_or fs i false) (μ (get_or xs i z)) 0
unfolding chosen
chosen_next μ z fs [] i h e = absurd (omega arith)
chosen_next μ z [] (x ∷ xs) i h e = absurd (omega arith)
chosen_next μ z (true ∷ fs) (x ∷ xs) zero h e = omega arith
chosen_next μ z (false ∷ fs) (x ∷ xs) zero h e = omega arith
chosen_next μ z (true ∷ fs) (x ∷ xs) (suc i) h e = omega (arith, chosen_next μ z fs xs i (omega arith) (omega arith))
chosen_next μ z (false ∷ fs) (x ∷ xs) (suc i) h e = chosen_next μ z fs xs i (omega arith) (omega arith)

-- A TABLE'S ROWS with flags that are certified
module _ (r : Round) (f : Fine r) (fs : List Bool) (w : Certified r fs) (small : length r.rows ≤ 1024) (last : r.last ≤ 4095) (z : Row) where
  abbrev pub at : ℕ → Row
  at i = get_or r.rows i z

  abbrev pub found_rows : List Row
  found_rows = chosen fs r.rows

  pub at_flag : (i : ℕ) → i < length r.rows → in_plan (at i) found_rows ≡ get_or fs i false
  at_flag i h =
      flag_at found_rows r.rows z i h ∙ ap (λ (bs : List Bool). get_or bs i false) (flags_chosen 1 r.next fs r.rows f.rising w.long)
