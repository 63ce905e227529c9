-- The segment of a bucket, walked to over counts: back to its beginning, on to its end.
use mathlib.Core.Path.{◌≡◌, ap}
use mathlib.Core.Logic.{◌≢◌, inl, inr}
use mathlib.Core.List.{List}
use Prim.Native.Nat.{ℕ, suc, ◌+◌, ◌*◌, ◌-◌, ◌≤◌, ◌<◌}
use native.Mathlib.Omega.{arith}
use native.Mathlib.Numerals.{add-one}
use lib.ListN.{length, get_or, take}
use Rattle.std.proofs.Common.{get_or-take}
use Rattle.std.proofs.lemmas.List.{length-take-le}
use Rattle.theory.specs.Tests.{ltb?}
use Rattle.buckets.specs.Stretch.{upto, Fits, Full, Begins, Stretches}

pub full_fits : (cs : List ℕ) (free b : ℕ) → Full cs free → b < free → Fits cs b
full_fits cs free b f h =
    record { enough = omega (arith, f.enough, h); small = omega (arith, f.small, h); fits = λ v l. f.fits v (omega (arith, l, h)) }

-- SUMMING UP the buckets before b
module _ (cs : List ℕ) (b s : ℕ) (f : Fits cs b) where
  pub sum_next : s < b → upto s cs + get_or cs s 0 ≤ 2048 * b
  sum_next h = omega (arith, f.fits (suc s) h, h)

  pub first_long : length (take b cs) ≡ b
  first_long = length-take-le b cs (omega (arith, f.enough))

  module _ (h : s < length (take b cs)) where
    here : get_or (take b cs) s 0 ≡ get_or cs s 0
    here = let l : s < b = omega (arith, h, first_long) in rw get_or-take

    pub sum_here : upto s cs + get_or (take b cs) s 0 ≤ 2048 * b
    sum_here = omega (arith, f.fits (suc s) (omega (arith, h, first_long)), h, first_long, here)

    pub sum_more : (sum : ℕ) → sum ≡ upto s cs → sum + get_or (take b cs) s 0 ≡ upto (s + 1) cs
    sum_more sum e = rw (add-one s) (omega (arith, e, here))

  pub sum_end : s ≤ length (take b cs) → length (take b cs) ≤ s → (upto s cs ≡ upto b cs) × (upto b cs ≤ 2048 * b)
  sum_end h k = let e : s ≡ b = omega (arith, h, k, first_long) in (ap (λ (t : ℕ). upto t cs) e, f.fits b (omega arith))

-- BACK: the rows in buckets before a lack so much to fill them; behind it, up to b, no segment begins
pub record Back (cs : List ℕ) (b lack a : ℕ) : Type 0 where
  pub from : a ≤ b
  pub level : lack + upto a cs ≡ 2048 * a
  pub none : (v : ℕ) → a < v → v ≤ b → upto v cs ≢ 2048 * v

-- ON: the rows in buckets up to z lack so much to fill them; from b on, before z, no segment ends
pub record On (cs : List ℕ) (free b lack z : ℕ) : Type 0 where
  pub from : b ≤ z
  pub near : z < free
  pub level : lack + upto (suc z) cs ≡ 2048 * suc z
  pub none : (u : ℕ) → b ≤ u → u < z → upto (suc u) cs ≢ 2048 * suc u

-- what a bucket takes
pub covered : (cs : List ℕ) (free lack s : ℕ) → Full cs free → s < free → lack + upto s cs ≡ 2048 * s → get_or cs s 0 ≤ lack + 2048
covered cs free lack s f h e = omega (arith, f.fits (suc s) h, e)

module _ (cs : List ℕ) (free b : ℕ) (f : Full cs free) where
  pub on_start : (lack : ℕ) → b < free → lack + upto b cs ≡ 2048 * b → On cs free b (lack + 2048 - get_or cs b 0) b
  on_start lack h e =
      record { from = omega arith; near = h; level = omega (arith, covered cs free lack b f h e, e); none = λ u i j. absurd (omega (arith, i, j)) }

  module _ (lack z : ℕ) (w : On cs free b lack z) where
    -- a bucket before free is left where something lacks
    pub on_left : lack ≢ 0 → z + 1 < free
    on_left n = elim (ltb? (z + 1) free) [
      | inl y ↦ y.1
      | inr y ↦
          let o : suc z ≡ free = omega (arith, y.1, w.near) in
          absurd (n (omega (arith, w.level, o, ap (λ (t : ℕ). upto t cs) o, f.full)))
    ]

    pub on_covered : lack ≢ 0 → get_or cs (z + 1) 0 ≤ lack + 2048
    on_covered n = covered cs free lack (z + 1) f (on_left n) (rw (add-one z) w.level)

    pub on_step : lack ≢ 0 → On cs free b (lack + 2048 - get_or cs (z + 1) 0) (z + 1)
    on_step n =
        let c = on_covered n in
        let d = add-one z in
        record {
          from = omega (arith, w.from);
          near = on_left n;
          level = omega (arith, c, w.level, ap (λ (t : ℕ). upto t cs) d);
          none = λ u i j. elim (ltb? u z) [
            | inl y ↦ w.none u i y.1
            | inr y ↦ λ q. let o : u ≡ z = omega (arith, y.1, j) in
                n (omega (arith, w.level, q, o, ap (λ (t : ℕ). upto (suc t) cs) o))
          ];
        }

    pub on_end : (a : ℕ) → Begins cs b a → lack ≡ 0 → Stretches cs free b (record { first = a; last = z })
    on_end a g e =
        record {
          from = g.from;
          by = w.from;
          near = w.near;
          edge = g.edge;
          end = omega (arith, w.level, e);
          none = λ u i j. elim (ltb? u b) [
            | inl y ↦ g.none (suc u) (omega (arith, i)) y.1
            | inr y ↦ w.none u y.1 j
          ];
        }
