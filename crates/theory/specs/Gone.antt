-- Rows gone by a ticket and rows still due, in lists with their sums and choices: two_in, in_without, without_gone, still_all, chosen_without.
use Rattle.std.specs.Prelude.{◌≡◌, refl, ◌⊎◌, ◌≢◌, List, [], ◌∷◌, ℕ, suc, ◌+◌, ◌≤◌, leb, eqb}
use Rattle.std.proofs.Common.{sym, ap, ◌∙◌, subst, inl, inr, arith, eq-eqb, ne_eqb}
use Rattle.rules.specs.Rows.{Row, chosen, rows_only, All, In}
use Rattle.rules.specs.Plan.{in_plan, flags}
use Rattle.rules.specs.Steps.{without, still_due}
use Rattle.theory.specs.Tests.{either, leb?, eqb?}
use Rattle.theory.specs.Sum.{sum}
use Rattle.theory.specs.Full.{Rising}
use Rattle.theory.specs.Change.{in_sum}
use Rattle.theory.specs.Times.{all_of_chosen}
use Rattle.theory.specs.Unique.{rising_other}

-- two rows with different tickets both count
pub two_in : (μ : Row → ℕ) (x y : Row) (xs : List Row) → In x xs → In y xs → x.ticket ≢ y.ticket → μ x + μ y ≤ sum μ xs
two_in μ x y [] i j n = absurd i
two_in μ x y (z ∷ zs) (inl e) (inl d) n = absurd (n (ap (λ (a : Row). a.ticket) (e ∙ sym d)))
two_in μ x y (z ∷ zs) (inl e) (inr j) n = omega (arith, ap μ e, in_sum μ y zs j)
two_in μ x y (z ∷ zs) (inr i) (inl d) n = omega (arith, ap μ d, in_sum μ x zs i)
two_in μ x y (z ∷ zs) (inr i) (inr j) n = omega (arith, two_in μ x y zs i j n)

-- the rows of a list and one of its blanks
pub rows_and_blank : (μ : Row → ℕ) (p : Row) (ps : List Row) → p.ticket ≡ 0 → In p ps → sum μ (rows_only ps) + μ p ≤ sum μ ps
unfolding rows_only
rows_and_blank μ p [] t i = absurd i
rows_and_blank μ p (q ∷ qs) t (inl e) =
    rw (eq-eqb q.ticket 0 (ap (λ (a : Row). a.ticket) (sym e) ∙ t)) (omega (arith, ap μ e, rows_below μ qs))
  where
    rows_below : (μ : Row → ℕ) (xs : List Row) → sum μ (rows_only xs) ≤ sum μ xs
    rows_below μ [] = omega arith
    rows_below μ (x ∷ xs) = elim (either (eqb x.ticket 0)) [
      | inl h ↦ rw h (omega (arith, rows_below μ xs))
      | inr h ↦ rw h (omega (arith, rows_below μ xs))
    ]
rows_and_blank μ p (q ∷ qs) t (inr i) = elim (either (eqb q.ticket 0)) [
  | inl h ↦ rw h (omega (arith, rows_and_blank μ p qs t i))
  | inr h ↦ rw h (omega (arith, rows_and_blank μ p qs t i))
]

-- what a ticket's row leaves
pub without_absent : (k : ℕ) (xs : List Row) → All (λ x. k ≢ x.ticket) xs → without k xs ≡ xs
unfolding without
without_absent k [] a = refl
without_absent k (x ∷ xs) a = rw (ne_eqb x.ticket k (λ e. a.0 (sym e))) (ap (λ (l : List Row). x ∷ l) (without_absent k xs a.1))

-- another row stays
pub in_without : (k : ℕ) (x : Row) (xs : List Row) → In x xs → x.ticket ≢ k → In x (without k xs)
unfolding without
in_without k x [] i n = i
in_without k x (y ∷ ys) (inl e) n = rw (ne_eqb y.ticket k (λ q. n (ap (λ (a : Row). a.ticket) e ∙ q))) (inl e)
in_without k x (y ∷ ys) (inr i) n = elim (eqb? y.ticket k) [ inl h ↦ rw h.0 i | inr h ↦ rw h.0 (inr (in_without k x ys i n)) ]

-- what stays was there
pub without_in : (k : ℕ) (x : Row) (xs : List Row) → In x (without k xs) → In x xs
unfolding without
without_in k x [] i = i
without_in k x (y ∷ ys) i = elim (eqb? y.ticket k) [
  | inl h ↦ inr (rw h.0 at i)
  | inr h ↦ elim (the_case (rw h.0 at i)) [ inl e ↦ inl e | inr j ↦ inr (without_in k x ys j) ]
]
  where
    the_case : In x (y ∷ without k ys) → (x ≡ y) ⊎ In x (without k ys)
    the_case j = j

-- no row with the ticket is left where tickets rise
pub without_gone : (a b k : ℕ) (xs : List Row) → Rising a b xs → All (λ x. k ≢ x.ticket) (without k xs)
unfolding without
without_gone a b k [] s = tt
without_gone a b k (x ∷ xs) s = elim (eqb? x.ticket k) [
  | inl h ↦ rw h.0 (subst (λ (n : ℕ). All (λ y. n ≢ y.ticket) xs) h.1 (rising_other b x xs s.1))
  | inr h ↦ rw h.0 (λ e. h.1 (sym e), without_gone (suc x.ticket) b k xs s.1)
]

-- rows still due
pub still_all : (t : ℕ) (xs : List Row) → All (λ x. t ≤ x.due) xs → still_due t xs ≡ xs
unfolding still_due
still_all t [] a = refl
still_all t (x ∷ xs) a = elim (leb? t x.due) [
  | inl h ↦ rw h.0 (ap (λ (l : List Row). x ∷ l) (still_all t xs a.1))
  | inr h ↦ absurd (omega (arith, a.0, h.1))
]

-- what is still due was there
pub still_in : (t : ℕ) (x : Row) (xs : List Row) → In x (still_due t xs) → In x xs
unfolding still_due
still_in t x [] i = i
still_in t x (y ∷ ys) i = elim (leb? t y.due) [
  | inl k ↦ elim (the_case (rw k.0 at i)) [ inl e ↦ inl e | inr j ↦ inr (still_in t x ys j) ]
  | inr k ↦ inr (still_in t x ys (rw k.0 at i))
]
  where
    the_case : In x (y ∷ still_due t ys) → (x ≡ y) ⊎ In x (still_due t ys)
    the_case j = j

-- choices by a plan, after rows have gone
pub chosen_still : (ps : List Row) (t : ℕ) (xs : List Row) → chosen (flags ps (still_due t xs)) (still_due t xs) ≡ still_due t (chosen (flags ps xs) xs)
unfolding chosen flags still_due
chosen_still ps t [] = refl
chosen_still ps t (x ∷ xs) = elim (either (leb t x.due)) [
  | inl h ↦ elim (either (in_plan x ps)) [
    | inl k ↦ rw (h, k, h) (ap (λ (l : List Row). x ∷ l) (chosen_still ps t xs))
    | inr k ↦ rw (h, k) (chosen_still ps t xs)
  ]
  | inr h ↦ elim (either (in_plan x ps)) [
    | inl k ↦ rw (h, k, h) (chosen_still ps t xs)
    | inr k ↦ rw (h, k) (chosen_still ps t xs)
  ]
]

-- a choice after a row has gone
pub chosen_without : (ps : List Row) (a b k : ℕ) (xs : List Row) → Rising a b xs →
    chosen (flags ps (without k xs)) (without k xs) ≡ without k (chosen (flags ps xs) xs)
unfolding chosen flags without
chosen_without ps a b k [] s = refl
chosen_without ps a b k (x ∷ xs) s = elim (eqb? x.ticket k) [
  | inl h ↦ elim (either (in_plan x ps)) [
    | inl e ↦ rw (h.0, e, h.0)
    | inr e ↦ rw (h.0, e) (sym (without_absent k (chosen (flags ps xs) xs)
        (all_of_chosen (λ y. k ≢ y.ticket) (flags ps xs) xs (subst (λ (n : ℕ). All (λ y. n ≢ y.ticket) xs) h.1 (rising_other b x xs s.1)))))
  ]
  | inr h ↦ elim (either (in_plan x ps)) [
    | inl e ↦ rw (h.0, e, h.0) (ap (λ (l : List Row). x ∷ l) (chosen_without ps (suc x.ticket) b k xs s.1))
    | inr e ↦ rw (h.0, e) (chosen_without ps (suc x.ticket) b k xs s.1)
  ]
]
