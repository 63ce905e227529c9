-- The golden ratio in whole numbers, and the same order by one score of two Fibonacci numbers: beats_golden?, golden_score, golden.
use Rattle.std.specs.Prelude.{◌≡◌, refl, ◌⊎◌, true, false, ◌||◌, not, ℕ, zero, suc, ◌+◌, ◌*◌, ◌-◌, ◌≤◌, ◌<◌, ltb}
use Rattle.std.proofs.Common.{sym, ap, ◌∙◌, inl, inr, arith, mul-add, mul_comm, mul_assoc, mul-le-mul, ltb-true, lt-ltb, le-ltb}
use Rattle.rules.specs.Plan.{beats_golden, golden_more}
use Rattle.rules.specs.PlanM.{AboveGolden, GoldenMore, score}
use Rattle.rules.specs.Demands.{Golden}
use Rattle.theory.specs.Tests.{leb?, ltb?, decided}

pub mul_mono : (a b c d : ℕ) → a ≤ c → b ≤ d → a * b ≤ c * d
mul_mono a b c d h k = mul-le-mul h k

-- squares of a difference
pub square_gap : (x y z : ℕ) → z + y ≡ 2 * x → z * z + 4 * (x * y) ≡ 4 * (x * x) + y * y
square_gap x y z e =
    let a : z * (z + y) ≡ z * (2 * x) = ap (λ v. z * v) e in
    let b : y * (z + y) ≡ y * (2 * x) = ap (λ v. y * v) e in
    let c : x * (z + y) ≡ x * (2 * x) = ap (λ v. x * v) e in
    omega (
      arith,
      a,
      b,
      c,
      mul-add z z y,
      mul-add y z y,
      mul-add x z y,
      sym (mul_assoc z 2 x),
      sym (mul_assoc y 2 x),
      sym (mul_assoc x 2 x),
      ap (λ v. v * x) (mul_comm z 2),
      ap (λ v. v * x) (mul_comm y 2),
      ap (λ v. v * x) (mul_comm x 2),
      mul_assoc 2 z x,
      mul_assoc 2 y x,
      mul_assoc 2 x x,
      mul_comm x z,
      mul_comm x y,
      mul_comm y z,
    )

-- THE TEST, without roots: x over y is above φ
pub beats_golden_is : (x y : ℕ) → beats_golden x y ≡ ltb (x * y + y * y) (x * x)
unfolding beats_golden
beats_golden_is x y =
    elim (ltb? y (2 * x)) [
      | inl h ↦
          let q = square_gap x y (2 * x - y) (omega arith) in
          let p = mul_assoc 5 y y in
          elim (ltb? (x * y + y * y) (x * x)) [
            | inl k ↦ rw (h.0, k.0) (lt-ltb (5 * y * y) ((2 * x - y) * (2 * x - y)) (omega arith))
            | inr k ↦ rw (h.0, k.0) (le-ltb (5 * y * y) ((2 * x - y) * (2 * x - y)) (omega arith))
          ]
      | inr h ↦ rw h.0 (sym (le-ltb (x * y + y * y) (x * x) (omega (arith, mul_mono x x y y (omega arith) (omega arith)))))
    ]

pub beats_golden? : (x y : ℕ) → ((beats_golden x y ≡ true) × AboveGolden x y) ⊎ ((beats_golden x y ≡ false) × (AboveGolden x y → ⊥))
beats_golden? x y =
    elim (ltb? (x * y + y * y) (x * x)) [
      | inl h ↦ inl (beats_golden_is x y ∙ h.0, h.1)
      | inr h ↦ inr (beats_golden_is x y ∙ h.0, λ k. omega (arith, h.1, k))
    ]

pub golden_beats : (x y : ℕ) → AboveGolden x y → beats_golden x y ≡ true
golden_beats x y h = beats_golden_is x y ∙ lt-ltb (x * y + y * y) (x * x) h

-- the whole comparison
pub golden_more? : (a b c d : ℕ) → ((golden_more a b c d ≡ true) × GoldenMore a b c d) ⊎ ((golden_more a b c d ≡ false) × (GoldenMore a b c d → ⊥))
unfolding golden_more
golden_more? a b c d =
    elim (leb? c a) [
      | inl p ↦ elim (leb? d b) [
        | inl q ↦ rw (p.0, q.0) (both p.1 q.1)
        | inr q ↦ rw (p.0, q.0) (elim (beats_golden? (a - c) (d - b)) [
          | inl h ↦ inl (h.0, inr (inl (p.1, q.1, h.1)))
          | inr h ↦ inr (h.0, λ g. elim g [ inl k ↦ omega (arith, k, q.1) | inr (inl k) ↦ h.1 k.2 | inr (inr k) ↦ omega (arith, k.0, p.1) ])
        ])
      ]
      | inr p ↦ elim (leb? b d) [
        | inl q ↦ rw (p.0, q.0) (inr (
          refl,
          λ g. elim g [
            | inl k ↦ omega (arith, k.0, p.1)
            | inr (inl k) ↦ omega (arith, k.0, p.1)
            | inr (inr k) ↦ omega (arith, k.1, q.1)
          ],
        ))
        | inr q ↦ rw (p.0, q.0) (elim (beats_golden? (c - a) (b - d)) [
          | inl h ↦ inr (rw h.0, λ g. elim g [ inl k ↦ omega (arith, k.0, p.1) | inr (inl k) ↦ omega (arith, k.0, p.1) | inr (inr k) ↦ k.2 h.1 ])
          | inr h ↦ inl (rw h.0, inr (inr (p.1, q.1, h.1)))
        ])
      ]
    ]
  where
    both : c ≤ a → d ≤ b → (((ltb c a || ltb d b) ≡ true) × GoldenMore a b c d) ⊎ (((ltb c a || ltb d b) ≡ false) × (GoldenMore a b c d → ⊥))
    both p q =
        elim (ltb? c a) [
          | inl h ↦ inl (rw h.0, inl (p, q, inl h.1))
          | inr h ↦ elim (ltb? d b) [
            | inl k ↦ inl (rw (h.0, k.0), inl (p, q, inr k.1))
            | inr k ↦ inr (
              rw (h.0, k.0),
              λ g. elim g [
                | inl (_, _, inl m) ↦ omega (arith, m, h.1)
                | inl (_, _, inr m) ↦ omega (arith, m, k.1)
                | inr (inl m) ↦ omega (arith, m.1, q)
                | inr (inr m) ↦ omega (arith, m.0, p)
              ],
            )
          ]
        ]

-- THE SCORE: with F(38) = 39088169 and F(39) = 63245986, F(39)² = F(38)F(39) + F(38)² + 1
pub scale : (v x y k : ℕ) → x * 39088169 ≡ y * 63245986 + k → v * x * 39088169 ≡ v * y * 63245986 + v * k
scale v x y k e =
    let a : v * (x * 39088169) ≡ v * (y * 63245986 + k) = ap (λ z. v * z) e in
    omega (arith, a, mul-add v (y * 63245986) k, mul_assoc v x 39088169, mul_assoc v y 63245986)

pub score_above : (x y k : ℕ) → 1 ≤ k → x * 39088169 ≡ y * 63245986 + k → x * y + y * y < x * x
score_above x y k h e =
    omega (
      arith,
      scale x x y k e,
      scale y x y k e,
      scale k x y k e,
      mul_comm x y,
      mul_comm x k,
      mul_comm y k,
      mul_mono 1 1 k k h h,
    )

pub scale_below : (v x y k : ℕ) → x * 39088169 + k ≡ y * 63245986 → v * x * 39088169 + v * k ≡ v * y * 63245986
scale_below v x y k e =
    let a : v * (x * 39088169 + k) ≡ v * (y * 63245986) = ap (λ z. v * z) e in
    omega (arith, a, mul-add v (x * 39088169) k, mul_assoc v x 39088169, mul_assoc v y 63245986)

-- both products by the square of F(38)
pub square_scaled : (x y k : ℕ) → x * 39088169 + k ≡ y * 63245986 → x * x * 1527884955772561 + k * y * 126491972 ≡ y * y * 4000054745112196 + k * k
square_scaled x y k e =
    omega (arith, scale_below x x y k e, scale_below y x y k e, scale_below k x y k e, mul_comm x y, mul_comm x k, mul_comm y k)

pub product_scaled : (x y k : ℕ) → x * 39088169 + k ≡ y * 63245986 → x * y * 1527884955772561 + k * y * 39088169 ≡ y * y * 2472169789339634
product_scaled x y k e = omega (arith, scale_below y x y k e, mul_comm x y, mul_comm y k)

pub score_level : (x y : ℕ) → y ≤ 16777216 → x * 39088169 + 0 ≡ y * 63245986 → x * x ≤ x * y + y * y
score_level x y h e =
    omega (arith, square_scaled x y 0 e, product_scaled x y 0 e, mul_mono y y 16777216 16777216 h h)

pub small_terms : (y k : ℕ) → 1 ≤ k → y ≤ 16777216 → k ≤ y * 63245986 → y * y + k * k ≤ k * y * 87403803
small_terms y k i h j =
    omega (
      arith,
      mul_mono k k k (y * 63245986) (omega arith) j,
      mul_assoc k y 63245986,
      mul_mono y y 16777216 y h (omega arith),
      mul_mono 1 y k y i (omega arith),
    )

pub score_below : (x y k : ℕ) → 1 ≤ k → y ≤ 16777216 → x * 39088169 + k ≡ y * 63245986 → x * x ≤ x * y + y * y
score_below x y k i h e =
    let a = square_scaled x y k e in
    let b = product_scaled x y k e in
    let c = small_terms y k i h (omega arith) in last_step (x * x) (x * y) (y * y) (k * y) (k * k) a b c
  where
    last_step : (xx xy yy ky kk : ℕ) → xx * 1527884955772561 + ky * 126491972 ≡ yy * 4000054745112196 + kk →
        xy * 1527884955772561 + ky * 39088169 ≡ yy * 2472169789339634 → yy + kk ≤ ky * 87403803 →
        xx ≤ xy + yy
    last_step xx xy yy ky kk a b c = omega arith

-- no tie but at 0
pub no_tie : (x y : ℕ) → 1 ≤ y → y ≤ 16777216 → x * 39088169 ≡ y * 63245986 → ⊥
no_tie x y i h e =
    let d : x * 39088169 + 0 ≡ y * 63245986 = omega arith in
    last_step (x * x) (x * y) (y * y) (square_scaled x y 0 d) (product_scaled x y 0 d) (mul_mono 1 1 y y i i) (mul_mono y y 16777216 16777216 h h)
    (score_level x y h d)
  where
    last_step : (xx xy yy : ℕ) → xx * 1527884955772561 + 0 * y * 126491972 ≡ yy * 4000054745112196 + 0 * 0 →
        xy * 1527884955772561 + 0 * y * 39088169 ≡ yy * 2472169789339634 → 1 * 1 ≤ yy →
        yy ≤ 16777216 * 16777216 → xx ≤ xy + yy → ⊥
    last_step xx xy yy a b c d g = omega arith

pub beats_golden_score : (x y : ℕ) → y ≤ 16777216 → beats_golden x y ≡ ltb (y * 63245986) (x * 39088169)
beats_golden_score x y h =
    elim (ltb? (y * 63245986) (x * 39088169)) [
      | inl a ↦ golden_beats x y (score_above x y (x * 39088169 - y * 63245986) (omega arith) (omega arith)) ∙ sym a.0
      | inr a ↦ beats_golden_is x y ∙ le-ltb (x * y + y * y) (x * x) (not_above (y * 63245986 - x * 39088169) (omega arith)) ∙ sym a.0
    ]
  where
    not_above : (k : ℕ) → x * 39088169 + k ≡ y * 63245986 → x * x ≤ x * y + y * y
    not_above zero e = score_level x y h e
    not_above (suc k) e = score_below x y (suc k) (omega arith) h e

pub ltb_same : (a b c d : ℕ) → (a < b → c < d) → (c < d → a < b) → ltb a b ≡ ltb c d
ltb_same a b c d f g =
    elim (ltb? a b) [
      | inl h ↦ h.0 ∙ sym (lt-ltb c d (f h.1))
      | inr h ↦ h.0 ∙ sym (le-ltb c d (elim (ltb? c d) [ inl k ↦ absurd (omega (arith, g k.1, h.1)) | inr k ↦ k.1 ]))
    ]

pub golden_score : (a b c d : ℕ) → b ≤ 16777216 → d ≤ 16777216 → golden_more a b c d ≡ ltb (score c d) (score a b)
unfolding golden_more
golden_score a b c d i k =
    elim (leb? c a) [
      | inl p ↦ elim (leb? d b) [
        | inl q ↦ rw (p.0, q.0) (elim (ltb? c a) as (λ _. (ltb c a || ltb d b) ≡ ltb (score c d) (score a b)) [
          | inl u ↦ rw u.0 (sym (lt-ltb (score c d) (score a b) (omega (arith, u.1, p.1, q.1))))
          | inr u ↦ rw u.0 (ltb_same d b (score c d) (score a b) (λ v. omega (arith, v, u.1, p.1, q.1)) (λ v. omega (arith, v, u.1, p.1, q.1)))
        ])
        | inr q ↦ rw (p.0, q.0)
            (beats_golden_score (a - c) (d - b) (omega (arith, q.1)) ∙
            ltb_same ((d - b) * 63245986) ((a - c) * 39088169) (score c d) (score a b) (λ v. omega (arith, v, p.1, q.1)) (λ v. omega (arith, v, p.1, q.1)))
      ]
      | inr p ↦ elim (leb? b d) [
        | inl q ↦ rw (p.0, q.0) (sym (le-ltb (score c d) (score a b) (omega (arith, p.1, q.1))))
        | inr q ↦ rw (p.0, q.0) (against p.1 q.1)
      ]
    ]
  where
    against : a < c → d < b → not (beats_golden (c - a) (b - d)) ≡ ltb (score c d) (score a b)
    against p q =
        elim (ltb? ((b - d) * 63245986) ((c - a) * 39088169)) [
          | inl u ↦ rw (beats_golden_score (c - a) (b - d) (omega arith), u.0) (sym (le-ltb (score c d) (score a b) (omega (arith, u.1))))
          | inr u ↦ rw (beats_golden_score (c - a) (b - d) (omega arith), u.0)
              (sym (lt-ltb (score c d) (score a b) (omega (arith, u.1, strict u.1))))
        ]
      where
        strict : (c - a) * 39088169 ≤ (b - d) * 63245986 → (c - a) * 39088169 < (b - d) * 63245986
        strict u = elim (ltb? ((c - a) * 39088169) ((b - d) * 63245986)) [
          | inl v ↦ v.1
          | inr v ↦ absurd (no_tie (c - a) (b - d) (omega arith) (omega arith) (omega (arith, u, v.1)))
        ]

-- THE COMPARISON IS THE GOLDEN RATIO'S, and the score's
pub golden : Golden
unfolding Golden
golden = (
  λ x y. decided (beats_golden x y) (beats_golden? x y),
  λ a b c d. decided (golden_more a b c d) (golden_more? a b c d),
  λ a b c d h k. (
    λ e. ltb-true (score c d) (score a b) (sym (golden_score a b c d h k) ∙ e),
    λ l. golden_score a b c d h k ∙ lt-ltb (score c d) (score a b) l,
  ),
)
