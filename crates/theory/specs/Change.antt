-- A row changed or gone by its ticket, and rows still due: changed_sum, without_sum, rising_same, rising_changed, still_box, row_outside.
use Rattle.std.specs.Prelude.{◌≡◌, refl, ◌⊎◌, Bool, true, false, List, [], ◌∷◌, ◌++◌, ℕ, suc, ◌+◌, ◌≤◌, ◌<◌, leb, eqb}
use Rattle.std.proofs.Common.{sym, ap, ◌∙◌, inl, inr, true≢false, arith, eq-eqb, ne_eqb}
use Rattle.rules.specs.Rows.{Row, Round, heavier, into, sorted, All, In}
use Rattle.rules.specs.Plan.{feasible, kept, plan, same_row, in_plan}
use Rattle.rules.specs.Steps.{changed, without, still_due}
use Rattle.theory.specs.Tests.{either, leb?, eqb?}
use Rattle.theory.specs.Sum.{sum, rejected}
use Rattle.theory.specs.Full.{Rising, blanks, pool, outside}
use Rattle.theory.specs.Marks.{box, box?}

-- the first row with its ticket
abbrev pub FirstOfTicket : Row → List Row → Type 0
FirstOfTicket x [] = ⊥
FirstOfTicket x (y ∷ ys) = (x ≡ y) ⊎ ((y.ticket ≡ x.ticket → ⊥) × FirstOfTicket x ys)

pub changed_sum : (μ : Row → ℕ) (x y : Row) (xs : List Row) → FirstOfTicket x xs → sum μ (changed x.ticket y xs) + μ x ≡ sum μ xs + μ y
unfolding changed
changed_sum μ x y [] f = absurd f
changed_sum μ x y (z ∷ zs) (inl e) =
    rw (eq-eqb z.ticket x.ticket (ap (λ (a : Row). a.ticket) (sym e))) (omega (arith, ap μ e))
changed_sum μ x y (z ∷ zs) (inr h) = rw (ne_eqb z.ticket x.ticket h.0) (omega (arith, changed_sum μ x y zs h.1))

pub without_sum : (μ : Row → ℕ) (x : Row) (xs : List Row) → FirstOfTicket x xs → sum μ (without x.ticket xs) + μ x ≡ sum μ xs
unfolding without
without_sum μ x [] f = absurd f
without_sum μ x (z ∷ zs) (inl e) =
    rw (eq-eqb z.ticket x.ticket (ap (λ (a : Row). a.ticket) (sym e))) (omega (arith, ap μ e))
without_sum μ x (z ∷ zs) (inr h) = rw (ne_eqb z.ticket x.ticket h.0) (omega (arith, without_sum μ x zs h.1))

pub changed_first : (k : ℕ) (y z : Row) → (k ≡ z.ticket → ⊥) → y.ticket ≡ k → (xs : List Row) → FirstOfTicket z xs → FirstOfTicket z (changed k y xs)
unfolding changed
changed_first k y z n q [] f = absurd f
changed_first k y z n q (x ∷ xs) f =
    elim (eqb? x.ticket k) [
      | inl h ↦ rw h.0 (elim f as (λ _. FirstOfTicket z (y ∷ xs)) [
        | inl e ↦ absurd (n (sym h.1 ∙ ap (λ (a : Row). a.ticket) (sym e)))
        | inr g ↦ inr (λ c. n (sym q ∙ c), g.1)
      ])
      | inr h ↦ rw h.0 (elim f as (λ _. FirstOfTicket z (x ∷ changed k y xs)) [
        | inl e ↦ inl e
        | inr g ↦ inr (g.0, changed_first k y z n q xs g.1)
      ])
    ]

-- tickets that rise are each there once
pub rising_above : (a b : ℕ) (x : Row) (xs : List Row) → Rising a b xs → In x xs → a ≤ x.ticket
rising_above a b x [] s i = absurd i
rising_above a b x (y ∷ ys) s (inl e) = omega (arith, s.0, ap (λ (a : Row). a.ticket) e)
rising_above a b x (y ∷ ys) s (inr i) = omega (arith, s.0, rising_above (suc y.ticket) b x ys s.1 i)

pub rising_first : (a b : ℕ) (x : Row) (xs : List Row) → Rising a b xs → In x xs → FirstOfTicket x xs
rising_first a b x [] s i = absurd i
rising_first a b x (y ∷ ys) s (inl e) = inl e
rising_first a b x (y ∷ ys) s (inr i) =
    inr (λ c. omega (arith, rising_above (suc y.ticket) b x ys s.1 i), rising_first (suc y.ticket) b x ys s.1 i)

-- two rows in with one ticket are one
pub rising_same : (a b : ℕ) (x y : Row) (xs : List Row) → Rising a b xs → In x xs → In y xs → x.ticket ≡ y.ticket → x ≡ y
rising_same a b x y [] s i j q = absurd i
rising_same a b x y (z ∷ zs) s (inl e) (inl d) q = e ∙ sym d
rising_same a b x y (z ∷ zs) s (inl e) (inr j) q =
    absurd (omega (arith, rising_above (suc z.ticket) b y zs s.1 j, ap (λ (a : Row). a.ticket) e))
rising_same a b x y (z ∷ zs) s (inr i) (inl d) q =
    absurd (omega (arith, rising_above (suc z.ticket) b x zs s.1 i, ap (λ (a : Row). a.ticket) d))
rising_same a b x y (z ∷ zs) s (inr i) (inr j) q = rising_same (suc z.ticket) b x y zs s.1 i j q

-- what changes leave
pub all_changed : (P : Row → Type 0) (k : ℕ) (y : Row) → P y → (xs : List Row) → All P xs → All P (changed k y xs)
unfolding changed
all_changed P k y p [] a = tt
all_changed P k y p (x ∷ xs) a =
    elim (either (eqb x.ticket k)) [ inl h ↦ rw h (p, a.1) | inr h ↦ rw h (a.0, all_changed P k y p xs a.1) ]

pub all_without : (P : Row → Type 0) (k : ℕ) (xs : List Row) → All P xs → All P (without k xs)
unfolding without
all_without P k [] a = tt
all_without P k (x ∷ xs) a =
    elim (either (eqb x.ticket k)) [ inl h ↦ rw h a.1 | inr h ↦ rw h (a.0, all_without P k xs a.1) ]

pub all_still : (P : Row → Type 0) (t : ℕ) (xs : List Row) → All P xs → All (λ x. (t ≤ x.due) × P x) (still_due t xs)
unfolding still_due
all_still P t [] a = tt
all_still P t (x ∷ xs) a =
    elim (leb? t x.due) [
      | inl h ↦ rw h.0 ((h.1, a.0), all_still P t xs a.1)
      | inr h ↦ rw h.0 (all_still P t xs a.1)
    ]

pub rising_less : (a c b : ℕ) (xs : List Row) → c ≤ a → Rising a b xs → Rising c b xs
rising_less a c b [] h s = omega arith
rising_less a c b (x ∷ xs) h s = (omega (arith, s.0), s.1)

pub rising_changed : (a b k : ℕ) (y : Row) → y.ticket ≡ k → (xs : List Row) → Rising a b xs → Rising a b (changed k y xs)
unfolding changed
rising_changed a b k y q [] s = s
rising_changed a b k y q (x ∷ xs) s =
    elim (eqb? x.ticket k) [
      | inl h ↦ rw h.0 (omega (arith, s.0), rising_less (suc x.ticket) (suc y.ticket) b xs (omega arith) s.1)
      | inr h ↦ rw h.0 (s.0, rising_changed (suc x.ticket) b k y q xs s.1)
    ]

pub rising_without : (a b k : ℕ) (xs : List Row) → Rising a b xs → Rising a b (without k xs)
unfolding without
rising_without a b k [] s = s
rising_without a b k (x ∷ xs) s =
    elim (either (eqb x.ticket k)) [
      | inl h ↦ rw h (rising_less (suc x.ticket) a b xs (omega (arith, s.0)) s.1)
      | inr h ↦ rw h (s.0, rising_without (suc x.ticket) b k xs s.1)
    ]

pub rising_still : (a b t : ℕ) (xs : List Row) → Rising a b xs → Rising a b (still_due t xs)
unfolding still_due
rising_still a b t [] s = s
rising_still a b t (x ∷ xs) s =
    elim (either (leb t x.due)) [
      | inl h ↦ rw h (s.0, rising_still (suc x.ticket) b t xs s.1)
      | inr h ↦ rw h (rising_less (suc x.ticket) a b (still_due t xs) (omega (arith, s.0)) (rising_still (suc x.ticket) b t xs s.1))
    ]

-- rows no longer due don't count from a later slot on
pub still_box : (w t v e : ℕ) → t ≤ v → v ≤ e → (xs : List Row) → sum (box w v e) (still_due t xs) ≡ sum (box w v e) xs
unfolding still_due
still_box w t v e h k [] = refl
still_box w t v e h k (x ∷ xs) =
    elim (leb? t x.due) [
      | inl a ↦ rw a.0 (omega (arith, still_box w t v e h k xs))
      | inr a ↦ elim (box? w v e x k) [
        | inl b ↦ absurd (omega arith)
        | inr b ↦ rw a.0 (omega (arith, still_box w t v e h k xs))
      ]
    ]

-- members of the plan and rows outside
pub without_none : (a b k : ℕ) (xs : List Row) → k < a → Rising a b xs → without k xs ≡ xs
unfolding without
without_none a b k [] h s = refl
without_none a b k (x ∷ xs) h s =
    rw (ne_eqb x.ticket k (λ e. omega (arith, s.0)))
    (ap (λ (l : List Row). x ∷ l) (without_none (suc x.ticket) b k xs (omega (arith, s.0)) s.1))

pub changed_none : (a b k : ℕ) (y : Row) (xs : List Row) → k < a → Rising a b xs → changed k y xs ≡ xs
unfolding changed
changed_none a b k y [] h s = refl
changed_none a b k y (x ∷ xs) h s =
    rw (ne_eqb x.ticket k (λ e. omega (arith, s.0)))
    (ap (λ (l : List Row). x ∷ l) (changed_none (suc x.ticket) b k y xs (omega (arith, s.0)) s.1))

pub in_sum : (μ : Row → ℕ) (x : Row) (xs : List Row) → In x xs → μ x ≤ sum μ xs
in_sum μ x [] i = absurd i
in_sum μ x (y ∷ ys) (inl e) = omega (arith, ap μ e)
in_sum μ x (y ∷ ys) (inr i) = omega (arith, in_sum μ x ys i)

pub in_append : (x : Row) (xs ys : List Row) → In x xs → In x (xs ++ ys)
in_append x [] ys i = absurd i
in_append x (z ∷ zs) ys (inl e) = inl e
in_append x (z ∷ zs) ys (inr i) = inr (in_append x zs ys i)

pub in_into : (f : Row → Row → Bool) (x y : Row) (ys : List Row) → (x ≡ y) ⊎ In x ys → In x (into f y ys)
unfolding into
in_into f x y [] i = i
in_into f x y (z ∷ zs) i =
    elim (either (f y z)) [
      | inl e ↦ rw e i
      | inr e ↦ rw e (elim i as (λ _. (x ≡ z) ⊎ In x (into f y zs)) [
        | inl a ↦ inr (in_into f x y zs (inl a))
        | inr (inl b) ↦ inl b
        | inr (inr b) ↦ inr (in_into f x y zs (inr b))
      ])
    ]

pub in_sorted : (f : Row → Row → Bool) (x : Row) (xs : List Row) → In x xs → In x (sorted f xs)
unfolding sorted
in_sorted f x [] i = i
in_sorted f x (y ∷ ys) (inl e) = in_into f x y (sorted f ys) (inl e)
in_sorted f x (y ∷ ys) (inr i) = in_into f x y (sorted f ys) (inr (in_sorted f x ys i))

pub kept_keeps : (r : Round) (x : Row) (xs ps : List Row) → In x ps → In x (kept r xs ps)
unfolding kept
kept_keeps r x [] ps i = i
kept_keeps r x (y ∷ ys) ps i =
    elim (either (feasible r (y ∷ ps))) [ inl e ↦ rw e (kept_keeps r x ys (y ∷ ps) (inr i)) | inr e ↦ rw e (kept_keeps r x ys ps i) ]

pub kept_or_not : (r : Round) (x : Row) (xs ps : List Row) → In x xs → In x (kept r xs ps) ⊎ In x (rejected r xs ps)
unfolding kept rejected
kept_or_not r x [] ps i = absurd i
kept_or_not r x (y ∷ ys) ps (inl q) =
    elim (either (feasible r (y ∷ ps))) [ inl e ↦ rw e (inl (kept_keeps r x ys (y ∷ ps) (inl q))) | inr e ↦ rw e (inr (inl q)) ]
kept_or_not r x (y ∷ ys) ps (inr i) =
    elim (either (feasible r (y ∷ ps))) [
      | inl e ↦ rw e (kept_or_not r x ys (y ∷ ps) i)
      | inr e ↦ rw e (elim (kept_or_not r x ys ps i) [ inl a ↦ inl a | inr a ↦ inr (inr a) ])
    ]

pub not_in_plan : (x : Row) (ps : List Row) → in_plan x ps ≡ false → (y : Row) → In y ps → x.ticket ≡ y.ticket → ⊥
unfolding in_plan same_row
not_in_plan x [] e y i q = i
not_in_plan x (p ∷ ps) e y i q =
    elim (eqb? x.ticket p.ticket) [
      | inl h ↦ let z : true ≡ false = (rw h.0 at e) in true≢false z
      | inr h ↦ elim i [
        | inl a ↦ h.1 (q ∙ ap (λ (a : Row). a.ticket) a)
        | inr a ↦ not_in_plan x ps (rw h.0 at e) y a q
      ]
    ]

pub row_outside : (r : Round) (x : Row) → In x r.rows → in_plan x (plan r) ≡ false → In x (outside r)
unfolding plan outside
row_outside r x i n =
    elim (kept_or_not r x (pool r) [] (in_append x (sorted heavier r.rows) (blanks r) (in_sorted heavier x r.rows i))) [
      | inl a ↦ absurd (not_in_plan x (plan r) n x a refl)
      | inr a ↦ a
    ]
