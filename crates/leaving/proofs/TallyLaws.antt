-- Sums over some of the first n, and what one less does to them.
use mathlib.Core.Path.{◌≡◌, refl, ap, ◌∙◌}
use mathlib.Core.Logic.{◌⊎◌, inl, inr}
use mathlib.Core.Bool.{Bool, true, false, cond, not}
use Prim.Native.Nat.{ℕ, zero, suc, ◌+◌, ◌≤◌, ◌<◌}
use native.Mathlib.Omega.{arith}
use Rattle.theory.specs.Tests.{either, ltb?, eqb?}
use Rattle.keys.specs.DueSums.{each}
use Rattle.leaving.specs.Sweep.{tally, before, smaller}

abbrev part : (f : ℕ → ℕ) → (κ : ℕ → Bool) → ℕ → ℕ
part f κ j = cond (κ j) (f j) 0

pub part_yes : (f : ℕ → ℕ) (κ : ℕ → Bool) (j : ℕ) → κ j ≡ true → part f κ j ≡ f j
part_yes f κ j e = rw e

pub part_no : (f : ℕ → ℕ) (κ : ℕ → Bool) (j : ℕ) → κ j ≡ false → part f κ j ≡ 0
part_no f κ j e = rw e

part_same : (f : ℕ → ℕ) (κ λ' : ℕ → Bool) (j : ℕ) → κ j ≡ λ' j → part f κ j ≡ part f λ' j
part_same f κ λ' j e = ap (λ (b : Bool). cond b (f j) 0) e

pub tally_yes : (f : ℕ → ℕ) (κ : ℕ → Bool) (n : ℕ) → κ n ≡ true → tally f κ (suc n) ≡ tally f κ n + f n
unfolding tally
tally_yes f κ n e = omega (arith, part_yes f κ n e)

pub tally_no : (f : ℕ → ℕ) (κ : ℕ → Bool) (n : ℕ) → κ n ≡ false → tally f κ (suc n) ≡ tally f κ n
unfolding tally
tally_no f κ n e = omega (arith, part_no f κ n e)

pub tally_zero : (f : ℕ → ℕ) (κ : ℕ → Bool) → tally f κ 0 ≡ 0
unfolding tally
tally_zero f κ = refl

pub tally_same : (f : ℕ → ℕ) (κ λ' : ℕ → Bool) (n : ℕ) → ((j : ℕ) → j < n → κ j ≡ λ' j) → tally f κ n ≡ tally f λ' n
unfolding tally
tally_same f κ λ' zero h = refl
tally_same f κ λ' (suc n) h = omega (arith, tally_same f κ λ' n (λ j k. h j (omega (arith, k))), part_same f κ λ' n (h n (omega arith)))

-- ONE LESS, at z
pub tally_off : (f : ℕ → ℕ) (κ λ' : ℕ → Bool) (n z : ℕ) → z < n → κ z ≡ true → λ' z ≡ false → ((j : ℕ) → j < n → (j ≡ z → ⊥) → λ' j ≡ κ j) →
    tally f λ' n + f z ≡ tally f κ n
unfolding tally
tally_off f κ λ' zero z h a b g = absurd (omega (arith, h))
tally_off f κ λ' (suc n) z h a b g = elim (eqb? n z) [
  | inl c ↦
      let e : n ≡ z = c.1 in
      omega (
        arith,
        tally_same f λ' κ n (λ j k. g j (omega (arith, k)) (λ q. omega (arith, q, k, e))),
        part_yes f κ n (ap κ e ∙ a),
        part_no f λ' n (ap λ' e ∙ b),
        ap f e,
      )
  | inr c ↦
      let d = c.1 in
      omega (arith, tally_off f κ λ' n z (omega (arith, h)) a b (λ j k. g j (omega (arith, k))), part_same f λ' κ n (g n (omega arith) c.1))
]

-- THE OTHERS
pub tally_both : (f : ℕ → ℕ) (κ : ℕ → Bool) (n : ℕ) → tally f κ n + tally f (λ j. not (κ j)) n ≡ each f n
unfolding tally each
tally_both f κ zero = refl
tally_both f κ (suc n) = elim (either (κ n)) [
  | inl a ↦ omega (arith, tally_both f κ n, part_yes f κ n a, part_no f (λ j. not (κ j)) n (ap not a))
  | inr a ↦ omega (arith, tally_both f κ n, part_no f κ n a, part_yes f (λ j. not (κ j)) n (ap not a))
]

pub tally_all : (f : ℕ → ℕ) (κ : ℕ → Bool) (n : ℕ) → ((j : ℕ) → j < n → κ j ≡ true) → tally f κ n ≡ each f n
unfolding tally each
tally_all f κ zero h = refl
tally_all f κ (suc n) h = omega (arith, part_yes f κ n (h n (omega arith)), tally_all f κ n (λ j k. h j (omega (arith, k))))

-- COMPARED
pub tally_le : (f g : ℕ → ℕ) (κ : ℕ → Bool) (n : ℕ) → ((j : ℕ) → j < n → κ j ≡ true → f j ≤ g j) → tally f κ n ≤ tally g κ n
unfolding tally
tally_le f g κ zero h = omega arith
tally_le f g κ (suc n) h = elim (either (κ n)) [
  | inl a ↦ omega (arith, h n (omega arith) a, part_yes f κ n a, part_yes g κ n a, tally_le f g κ n (λ j k. h j (omega (arith, k))))
  | inr a ↦ omega (arith, part_no f κ n a, tally_le f g κ n (λ j k. h j (omega (arith, k))))
]

pub tally_nothing : (f : ℕ → ℕ) (κ : ℕ → Bool) (n : ℕ) → ((j : ℕ) → j < n → κ j ≡ true → f j ≡ 0) → tally f κ n ≡ 0
unfolding tally
tally_nothing f κ zero h = refl
tally_nothing f κ (suc n) h = elim (either (κ n)) [
  | inl a ↦ omega (arith, h n (omega arith) a, part_yes f κ n a, tally_nothing f κ n (λ j k. h j (omega (arith, k))))
  | inr a ↦ omega (arith, part_no f κ n a, tally_nothing f κ n (λ j k. h j (omega (arith, k))))
]

pub tally_few : (f : ℕ → ℕ) (κ : ℕ → Bool) (n : ℕ) → ((j : ℕ) → f j ≤ 1) → tally f κ n ≤ n
unfolding tally
tally_few f κ zero h = omega arith
tally_few f κ (suc n) h = elim (either (κ n)) [
  | inl a ↦ omega (arith, h n, part_yes f κ n a, tally_few f κ n h)
  | inr a ↦ omega (arith, part_no f κ n a, tally_few f κ n h)
]

pub tally_more : (f : ℕ → ℕ) (κ : ℕ → Bool) (m n : ℕ) → m ≤ n → tally f κ m ≤ tally f κ n
unfolding tally
tally_more f κ m zero h = let e : m ≡ 0 = omega (arith, h) in omega (arith, ap (tally f κ) e)
tally_more f κ m (suc n) h = elim (eqb? m (suc n)) [
  | inl a ↦ omega (arith, ap (tally f κ) a.1)
  | inr a ↦ let d = a.1 in omega (arith, tally_more f κ m n (omega (arith, h)))
]

-- one of them, and a sum that isn't 0
pub tally_at : (f : ℕ → ℕ) (κ : ℕ → Bool) (n j : ℕ) → j < n → κ j ≡ true → f j ≤ tally f κ n
unfolding tally
tally_at f κ zero j h e = absurd (omega (arith, h))
tally_at f κ (suc n) j h e = elim (eqb? j n) [
  | inl a ↦ omega (arith, part_yes f κ j e, ap (part f κ) a.1)
  | inr a ↦ let d = a.1 in omega (arith, tally_at f κ n j (omega (arith, h)) e)
]

pub tally_some : (f : ℕ → ℕ) (κ : ℕ → Bool) (n : ℕ) → 1 ≤ tally f κ n → (j : ℕ) × (j < n) × (κ j ≡ true) × (1 ≤ f j)
unfolding tally
tally_some f κ zero h = absurd (omega (arith, h))
tally_some f κ (suc n) h = elim (either (κ n)) [
  | inl a ↦ elim (ltb? 0 (f n)) [
    | inl b ↦ (n, omega arith, a, b.1)
    | inr b ↦ let r = tally_some f κ n (omega (arith, h, part_yes f κ n a, b.1)) in (r.0, omega (arith, r.1), r.2, r.3)
  ]
  | inr a ↦ let r = tally_some f κ n (omega (arith, h, part_no f κ n a)) in (r.0, omega (arith, r.1), r.2, r.3)
]

-- DUE BEFORE e slots ahead, by cases
pub before? : (D : ℕ → ℕ) (e j : ℕ) → ((before D e j ≡ 1) × (D j < e)) ⊎ ((before D e j ≡ 0) × (e ≤ D j))
unfolding before
before? D e j = elim (ltb? (D j) e) [ inl a ↦ inl (rw a.0, a.1) | inr a ↦ inr (rw a.0, a.1) ]

pub before_yes : (D : ℕ → ℕ) (e j : ℕ) → D j < e → before D e j ≡ 1
before_yes D e j h = elim (before? D e j) [ inl a ↦ a.0 | inr a ↦ omega (arith, a.1, h) ]

pub before_no : (D : ℕ → ℕ) (e j : ℕ) → e ≤ D j → before D e j ≡ 0
before_no D e j h = elim (before? D e j) [ inl a ↦ omega (arith, a.1, h) | inr a ↦ a.0 ]

pub before_1 : (D : ℕ → ℕ) (e j : ℕ) → before D e j ≤ 1
before_1 D e j = elim (before? D e j) [ inl a ↦ omega (arith, a.0) | inr a ↦ omega (arith, a.0) ]

pub smaller_yes : (K D : ℕ → ℕ) (w e j : ℕ) → K j < w → smaller K D w e j ≡ before D e j
unfolding smaller
smaller_yes K D w e j h = elim (ltb? (K j) w) [ inl a ↦ rw a.0 | inr a ↦ absurd (omega (arith, a.1, h)) ]

pub smaller_no : (K D : ℕ → ℕ) (w e j : ℕ) → w ≤ K j → smaller K D w e j ≡ 0
unfolding smaller
smaller_no K D w e j h = elim (ltb? (K j) w) [ inl a ↦ absurd (omega (arith, a.1, h)) | inr a ↦ rw a.0 ]

pub smaller? : (K D : ℕ → ℕ) (w e j : ℕ) → ((smaller K D w e j ≡ 1) × (K j < w) × (D j < e)) ⊎ (smaller K D w e j ≡ 0)
smaller? K D w e j = elim (ltb? (K j) w) [
  | inl a ↦ elim (before? D e j) [
    | inl b ↦ inl (smaller_yes K D w e j a.1 ∙ b.0, a.1, b.1)
    | inr b ↦ inr (smaller_yes K D w e j a.1 ∙ b.0)
  ]
  | inr a ↦ inr (smaller_no K D w e j a.1)
]

pub smaller_1 : (K D : ℕ → ℕ) (w e j : ℕ) → smaller K D w e j ≤ 1
smaller_1 K D w e j = elim (smaller? K D w e j) [ inl a ↦ omega (arith, a.0) | inr a ↦ omega (arith, a) ]
