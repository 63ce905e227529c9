-- How many digits hold a number, and how many payload digits there can be.
use mathlib.Core.Path.{◌≡◌, refl}
use mathlib.Core.Logic.{inl, inr}
use mathlib.Core.Bool.{Bool, true, false, not, true≢false, false≢true}
use Prim.Native.Nat.{ℕ, zero, suc, ◌-◌, ◌/◌, ◌%◌, ◌^◌, ◌≤◌, ◌<◌}
use native.Mathlib.Omega.{arith}
use native.Mathlib.Nat.{pow-suc}
use lib.Dec.{ltb, leb, eqb}
use borrow.Author.Tests.{lt-ltb, le-ltb, eq-eqb, ne_eqb}
use Rattle.rules.specs.Limits.{most_payload}
use Rattle.rules.specs.Lines.{payload_fits}
use Rattle.theory.specs.Tests.{ltb?, eqb?}

-- A NUMBER in one digit less, without its last
fits_less : (v n : ℕ) → ltb v (16 ^ suc n) ≡ ltb (v / 16) (16 ^ n)
fits_less v n = elim (ltb? (v / 16) (16 ^ n)) [
  | inl a ↦ rw (a.0, lt-ltb v (16 ^ suc n) (omega (arith, a.1, pow-suc 16 n)))
  | inr a ↦ rw (a.0, le-ltb v (16 ^ suc n) (omega (arith, a.1, pow-suc 16 n)))
]

pub fits_on : (v left : ℕ) → 0 < left → ltb v (16 ^ left) ≡ ltb (v / 16) (16 ^ (left - 1))
fits_on v zero h = absurd (omega arith)
fits_on v (suc n) h = let m : suc n - 1 ≡ n = omega arith in rw m (fits_less v n)

pub fits_end : (v left : ℕ) → left ≤ 0 → ltb v (16 ^ left) ≡ eqb v 0
fits_end v left h =
    let m : left ≡ 0 = omega arith in
    elim (eqb? v 0) [
      | inl a ↦ rw (m, a.0, lt-ltb v 1 (omega (arith, a.1)))
      | inr a ↦ rw (m, a.0, le-ltb v 1 (omega (arith, a.1)))
    ]

-- PAYLOAD DIGITS in a line that may have none, an odd number of them, an even one
pub bare_fits : (may : Bool) (n : ℕ) → not may ≡ true → eqb n 0 ≡ payload_fits may n
unfolding payload_fits
bare_fits true n e = absurd (false≢true e)
bare_fits false n e = refl

pub odd_fits : (may : Bool) (n : ℕ) → not may ≡ false → (n % 2 ≡ 0 → ⊥) → false ≡ payload_fits may n
unfolding payload_fits
odd_fits true n e h = rw (ne_eqb (n % 2) 0 h)
odd_fits false n e h = absurd (true≢false e)

pub even_fits : (may : Bool) (n : ℕ) → not may ≡ false → n % 2 ≡ 0 → leb n most_payload ≡ payload_fits may n
unfolding payload_fits
even_fits true n e h = rw (eq-eqb (n % 2) 0 h)
even_fits false n e h = absurd (true≢false e)
