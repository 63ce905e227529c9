-- The level, bucket by bucket: its greatest so far tells the sweep over the buckets so far.
use mathlib.Core.Path.{◌≡◌, refl, ap, ◌∙◌}
use mathlib.Core.Logic.{inl, inr}
use mathlib.Core.List.{List}
use Prim.Native.Nat.{ℕ, zero, suc, ◌+◌, ◌*◌, ◌-◌, ◌/◌, ◌%◌, ◌≤◌, ◌<◌, max}
use native.Mathlib.Omega.{arith}
use lib.ListN.{get_or}
use Rattle.theory.specs.Tests.{leb?, eqb?}
use Rattle.theory.specs.Count.{Sweep}
use Rattle.buckets.specs.Reach.{upto, passed, Levels, Multiples, ReachSays}
use Rattle.buckets.specs.declared.Reach.{Reach}

-- THE SWEEP FORWARD: one more bucket brings more rows too many, or as many as ever
pub sweep_rises : (F : ℕ → ℕ) (s q z : ℕ) → Sweep F s 0 q z → F 0 ≡ 0 → z + q ≡ F z → suc s + q ≤ F (suc s) → Sweep F (suc s) 0 (F (suc s) - suc s) (suc s)
sweep_rises F s q z w o e h =
    record {
      low = omega arith;
      high = omega arith;
      level = omega (arith, o, h);
      full = λ v a b. elim (eqb? v (suc s)) [
        | inl d ↦ omega (arith, d.1, ap F d.1)
        | inr d ↦ let n = d.1 in below v (omega (arith, b))
      ];
      free = λ u a b. absurd (omega (arith, a, b));
    }
  where
    below : (v : ℕ) → v ≤ s → F v + (suc s - v) ≤ F (suc s)
    below v a = elim (leb? v z) [
      | inl d ↦ omega (arith, w.full v (omega arith) d.1, d.1, a, e, h, w.high)
      | inr d ↦
          let g : suc (v - 1) ≡ v = omega (arith, d.1) in
          omega (arith, w.free (v - 1) (omega (arith, d.1)) (omega (arith, d.1, a)), ap F g, d.1, a, e, h, g)
    ]

pub sweep_falls : (F : ℕ → ℕ) (s q z : ℕ) → Sweep F s 0 q z → z + q ≡ F z → F (suc s) < suc s + q → Sweep F (suc s) 0 q z
sweep_falls F s q z w e h =
    record {
      low = w.low;
      high = omega (arith, w.high);
      level = w.level;
      full = w.full;
      free = λ u a b. elim (eqb? u s) [
        | inl d ↦ omega (arith, d.1, ap (λ (y : ℕ). F (suc y)) d.1, e, h, w.high)
        | inr d ↦ let n = d.1 in w.free u a (omega (arith, b))
      ];
    }

-- counts only add up
pub upto_by : (cs : List ℕ) (a b : ℕ) → a ≤ b → upto a cs ≤ upto b cs
upto_by cs a zero h = let e : a ≡ 0 = omega (arith, h) in omega (arith, ap (λ (y : ℕ). upto y cs) e)
upto_by cs a (suc b) h = elim (leb? a b) [
  | inl d ↦ omega (arith, upto_by cs a b d.1)
  | inr d ↦ let e : a ≡ suc b = omega (arith, d.1, h) in omega (arith, ap (λ (y : ℕ). upto y cs) e)
]

-- SO FAR
pub level_start : (cs : List ℕ) (top : ℕ) → Multiples cs top → Levels cs top 0 0 0
level_start cs top m =
    record {
      counts = m;
      by = omega arith;
      sum = refl;
      over = 0;
      free = 0;
      most = refl;
      sweep = record {
        low = omega arith;
        high = omega arith;
        level = refl;
        full = λ v a b. let d : v ≡ 0 = omega (arith, b) in omega (arith, d, ap (λ (y : ℕ). upto y cs) d);
        free = λ u a b. absurd (omega (arith, b));
      };
    }

module _ (cs : List ℕ) (top s l m : ℕ) (w : Levels cs top s l m) where
  -- nothing overflows
  pub most_fits : m ≤ 2097152 + 2048 * s
  most_fits =
      omega (arith, w.most, w.sweep.level, w.sweep.high, w.by, w.counts.few, upto_by cs w.free (suc top) (omega (arith, w.sweep.high, w.by)))

  pub sum_fits : s ≤ top → l + get_or cs s 0 ≤ 2097152
  sum_fits h = omega (arith, w.sum, w.counts.count s h, w.counts.few, upto_by cs (suc s) (suc top) (omega (arith, h)))

  -- one bucket
  pub level_step : s ≤ top → {t l2 n : ℕ} → t ≡ suc s → l2 ≡ l + get_or cs s 0 → n ≡ passed m l2 → Levels cs top t l2 n
  level_step h {t} {l2} {n} p q e =
      let z = w.sweep.level in
      let c = w.counts.count s h in
      rw p (elim (leb? (suc s + w.over) (upto (suc s) cs)) [
        | inl d ↦ record {
          counts = w.counts;
          by = omega (arith, h);
          sum = omega (arith, q, w.sum, c);
          over = upto (suc s) cs - suc s;
          free = suc s;
          most = omega (arith, e, q, w.sum, w.most, c, d.1, w.sweep.high);
          sweep = sweep_rises (λ v. upto v cs) s w.over w.free w.sweep refl (omega (arith, z)) d.1;
        }
        | inr d ↦ record {
          counts = w.counts;
          by = omega (arith, h);
          sum = omega (arith, q, w.sum, c);
          over = w.over;
          free = w.free;
          most = omega (arith, e, q, w.sum, w.most, c, d.1);
          sweep = sweep_falls (λ v. upto v cs) s w.over w.free w.sweep (omega (arith, z)) d.1;
        }
      ])

  -- THE END: quotient and remainder
  pub level_end : {x : ℕ} → top ≡ x → top < s → {y : Reach} → y.free ≡ (m - 2047 * s) % 2048 → y.over ≡ (m - 2047 * s) / 2048 → ReachSays cs x y
  level_end {x} e h {y} f o =
      let a : y.free ≡ w.free = omega (arith, f, w.most, w.sweep.high, w.by, w.counts.small) in
      let b : y.over ≡ w.over = omega (arith, o, w.most, w.sweep.high, w.by, w.counts.small) in
      let d : s ≡ suc x = omega (arith, e, h, w.by) in
      record { sweep = rw (a, b) (rw d at w.sweep) }

-- FOUR BUCKETS at once
pass_two : (m a b : ℕ) → passed (passed m a) (a + b) ≡ max (m + 4094) (a + max b 2047)
pass_two m a b = omega arith

pub pass_four : (m a b c d : ℕ) →
    passed (passed (passed (passed m a) (a + b)) c) (c + d) ≡ max (m + 8188) (max (a + max b 2047 + 4094) (c + max d 2047))
pass_four m a b c d =
    pass_two (passed (passed m a) (a + b)) c d
    ∙ ap (λ (x : ℕ). max (x + 4094) (c + max d 2047)) (pass_two m a b)
    ∙ raised (a + max b 2047) (c + max d 2047)
  where
    raised : (x y : ℕ) → max (max (m + 4094) x + 4094) y ≡ max (m + 8188) (max (x + 4094) y)
    raised x y = omega arith

-- one after the other
module _ (cs : List ℕ) (top s l m : ℕ) (w : Levels cs top s l m) (h : s + 2 < top) where
  three : {a b c : ℕ} → a ≡ l + get_or cs s 0 → b ≡ get_or cs (s + 1) 0 → c ≡ a + b + get_or cs (s + 2) 0 →
      Levels cs top (s + 3) c (passed (passed (passed m a) (a + b)) c)
  three {a} {b} {c} p q r =
      let one : Levels cs top (s + 1) a (passed m a) = level_step _ _ _ _ _ w (omega (arith, h)) (omega arith) p refl in
      let two : Levels cs top (s + 2) (a + b) (passed (passed m a) (a + b)) =
      level_step _ _ _ _ _ one (omega (arith, h)) (omega arith) (omega (arith, q)) refl in
      level_step _ _ _ _ _ two (omega (arith, h)) (omega arith) r refl

  pub turn_fits : l + get_or cs s 0 + get_or cs (s + 1) 0 + get_or cs (s + 2) 0 + get_or cs (s + 3) 0 ≤ 2097152
  turn_fits = sum_fits _ _ _ _ _ (three refl refl refl) (omega (arith, h))

  pub level_turn : {a b c d n : ℕ} → a ≡ l + get_or cs s 0 → b ≡ get_or cs (s + 1) 0 → c ≡ a + b + get_or cs (s + 2) 0 → d ≡ get_or cs (s + 3) 0 →
      n ≡ passed (passed (passed (passed m a) (a + b)) c) (c + d) → Levels cs top (s + 4) (c + d) n
  level_turn {a} {b} {c} {d} p q r t e =
      level_step _ _ _ _ _ (three p q r) (omega (arith, h)) (omega arith) (omega (arith, t)) e
