-- The backward sweep over counts by bucket finds the far slots and how many rows stay out: Sweep, sweep_near, sweep_none, sweep_out.
use Rattle.std.specs.Prelude.{◌≡◌, ◌⊎◌, true, ℕ, suc, ◌+◌, ◌-◌, ◌≤◌, ◌<◌, min, ltb, eqb}
use Rattle.std.proofs.Math.Path.{refl}
use Rattle.std.proofs.Common.{sym, ap, ◌∙◌, inl, inr, lt-ltb, le-ltb, ne_eqb}
use mathlib.Core.List.{List, [], ◌∷◌}
use native.Mathlib.Omega.{arith}
use Rattle.std.proofs.Math.ListN.{length}
use Rattle.rules.specs.Rows.{Row, Round, All, In}
use Rattle.rules.specs.Plan.{plan, in_plan, feasible, planned}
use Rattle.theory.specs.Tests.{either, leb?, ltb?, eqb?, one_if}
use Rattle.theory.specs.Sum.{sum, sum_le, length_sum}
use Rattle.theory.specs.All.{all_map, all_in, all_of_in}
use Rattle.theory.specs.Feas.{below, num, below_yes, below_late, below_1}
use Rattle.theory.specs.Bounds.{RowFine}
use Rattle.theory.specs.Full.{Fine, num_length}
use Rattle.theory.specs.Same.{of_plan, of_yes, of_chosen, row_ticket, planned_same, in_plan?}
use Rattle.theory.specs.Members.{RowsOfPlan, of_rows_fine, in_plan_is}
use Rattle.theory.specs.Near.{Near, near_all, near_edge, near_out}

-- BUCKETS: due slots from t on, the last bucket for all further ones
unfoldable pub bucket : (t top : ℕ) → Row → ℕ
bucket t top x = min (x.due - t) top

unfoldable pub in_bucket : (t top s : ℕ) → Row → ℕ
in_bucket t top s x = one_if (eqb (bucket t top x) s)

unfoldable pub under : (t top s : ℕ) → Row → ℕ
under t top s x = one_if (ltb (bucket t top x) s)

pub under_next : (t top s : ℕ) (x : Row) → under t top (suc s) x ≡ under t top s x + in_bucket t top s x
unfolding under in_bucket
under_next t top s x = elim (ltb? (bucket t top x) s) [
  | inl a ↦ rw (a.0, lt-ltb (bucket t top x) (suc s) (omega (arith, a.1)), ne_eqb (bucket t top x) s (λ e. omega (arith, e, a.1)))
  | inr a ↦ elim (eqb? (bucket t top x) s) [
    | inl b ↦ rw (a.0, b.0, lt-ltb (bucket t top x) (suc s) (omega (arith, b.1)))
    | inr b ↦ let n = b.1 in rw (a.0, b.0, le-ltb (bucket t top x) (suc s) (omega (arith, a.1)))
  ]
]

pub counts_next : (t top s : ℕ) (xs : List Row) → sum (under t top (suc s)) xs ≡ sum (under t top s) xs + sum (in_bucket t top s) xs
counts_next t top s [] = refl
counts_next t top s (x ∷ xs) = omega (arith, counts_next t top s xs, under_next t top s x)

pub under_below : (t top s : ℕ) (x : Row) → s ≤ top → t ≤ x.due → under t top s x ≡ below 0 (t + s) x
unfolding under bucket
under_below t top s x h k = elim (ltb? x.due (t + s)) [
  | inl a ↦ rw (lt-ltb (min (x.due - t) top) s (omega (arith, a.1, k))) (sym (below_yes 0 (t + s) x (omega arith) a.1))
  | inr a ↦ rw (le-ltb (min (x.due - t) top) s (omega (arith, a.1, h))) (sym (below_late 0 (t + s) x a.1))
]

pub counts_below : (t top s : ℕ) (xs : List Row) → s ≤ top → All (λ x. t ≤ x.due) xs → sum (under t top s) xs ≡ num 0 (t + s) xs
counts_below t top s [] h a = refl
counts_below t top s (x ∷ xs) h a = omega (arith, counts_below t top s xs h a.1, under_below t top s x h a.0)

pub counts_all : (t top : ℕ) (xs : List Row) → sum (under t top (suc top)) xs ≡ length xs
unfolding under bucket
counts_all t top [] = refl
counts_all t top (x ∷ xs) = rw (lt-ltb (min (x.due - t) top) (suc top) (omega arith)) (omega (arith, counts_all t top xs))

pub counts_none : (t top : ℕ) (xs : List Row) → sum (under t top 0) xs ≡ 0
unfolding under
counts_none t top [] = refl
counts_none t top (x ∷ xs) = rw (le-ltb (bucket t top x) 0 (omega arith)) (omega (arith, counts_none t top xs))

pub under_1 : (t top s : ℕ) (x : Row) → under t top s x ≤ 1
unfolding under
under_1 t top s x = elim (either (ltb (bucket t top x) s)) [ inl e ↦ rw e (omega arith) | inr e ↦ rw e (omega arith) ]

-- 1 for a row due from e on
unfoldable pub late : ℕ → Row → ℕ
late e x = 1 - below 0 e x

pub late_is : (e : ℕ) (x : Row) → 1 ≡ below 0 e x + late e x
unfolding late
late_is e x = omega (arith, below_1 0 e x)

pub of_late : (ps : List Row) (e : ℕ) (x : Row) → x.due < e → of_plan ps (late e) x ≡ late e x
unfolding late of_plan
of_late ps e x h =
    let b = below_yes 0 e x (omega arith) h in
    elim (either (eqb x.ticket 0)) [
      | inl d ↦ rw d (omega (arith, b))
      | inr d ↦ elim (either (in_plan x ps)) [ inl y ↦ rw (d, y) | inr y ↦ rw (d, y) (omega (arith, b)) ]
    ]

-- THE SWEEP from bucket m down to s, F the counts below each: q rows too many from s on, z the first bucket that stays free
pub record Sweep (F : ℕ → ℕ) (m s q z : ℕ) : Type 0 where
  pub low : s ≤ z
  pub high : z ≤ m
  pub level : F z ≡ F s + (z - s) + q
  pub full : (v : ℕ) → s ≤ v → v ≤ z → F v + (z - v) ≤ F z
  pub free : (u : ℕ) → z ≤ u → u < m → F (suc u) ≤ F z + (u - z)

pub sweep_start : (F : ℕ → ℕ) (m : ℕ) → Sweep F m m 0 m
sweep_start F m =
    record {
      low = omega arith;
      high = omega arith;
      level = omega arith;
      full = λ v a b. let e : v ≡ m = omega (arith, a, b) in omega (arith, ap F e, e);
      free = λ u a b. absurd (omega (arith, a, b));
    }

-- a bucket of n rows
pub sweep_more : (F : ℕ → ℕ) (m s q z n : ℕ) → Sweep F m (suc s) q z → F (suc s) ≡ F s + n → 1 ≤ q + n → Sweep F m s (q + n - 1) z
sweep_more F m s q z n w e h =
    record {
      low = omega (arith, w.low);
      high = w.high;
      level = omega (arith, w.level, w.low, e, h);
      full = λ v a b. elim (eqb? v s) [
        | inl d ↦ omega (arith, d.1, ap F d.1, w.level, w.low, e, h)
        | inr d ↦ let g = d.1 in w.full v (omega (arith, a)) b
      ];
      free = w.free;
    }

pub sweep_idle : (F : ℕ → ℕ) (m s q z n : ℕ) → Sweep F m (suc s) q z → F (suc s) ≡ F s + n → q + n ≡ 0 → Sweep F m s 0 s
sweep_idle F m s q z n w e h =
    record {
      low = omega arith;
      high = omega (arith, w.low, w.high);
      level = omega arith;
      full = λ v a b. let d : v ≡ s = omega (arith, a, b) in omega (arith, ap F d, d);
      free = λ u a b. elim (ltb? u z) [
        | inl d ↦ elim (eqb? u s) [
          | inl g ↦ omega (arith, ap (λ y. F (suc y)) g.1, g.1, e, h)
          | inr g ↦ let k = g.1 in omega (arith, w.full (suc u) (omega (arith, a)) d.1, w.level, w.low, e, h, d.1, a)
        ]
        | inr d ↦ omega (arith, w.free u d.1 b, w.level, w.low, e, h, d.1)
      ];
    }

-- WHAT IT FINDS: with n + 1 buckets for n rows, or one for each slot left
module _ (r : Round) (f : Fine r) (top q z : ℕ) (span : r.slot + top ≤ r.last)
    (enough : (top ≡ length r.rows) ⊎ (r.slot + top ≡ r.last)) (w : Sweep (λ s. sum (under r.slot top s) r.rows) (suc top) 0 q z) where
  pub rows_from : All (λ x. r.slot ≤ x.due) r.rows
  rows_from = all_map {Q = λ x. r.slot ≤ x.due} (λ x (h : RowFine r x). h.due_from) r.rows f.fine

  pub rows_many : (e : ℕ) → num 0 e r.rows ≤ length r.rows
  rows_many e = omega (arith, length_sum r.rows, sum_le (below 0 e) (λ x. 1) (below_1 0 e) r.rows)

  pub sweep_at : sum (under r.slot top z) r.rows ≡ num 0 (r.slot + z) r.rows
  sweep_at = elim (leb? z top) [
    | inl a ↦ counts_below r.slot top z r.rows a.1 rows_from
    | inr a ↦ elim enough [
      | inl b ↦ absurd (omega (
        arith,
        b,
        a.1,
        w.level,
        rows_few,
      ))
      | inr b ↦
          let d : z ≡ suc top = omega (arith, a.1, w.high) in
          omega (
            arith,
            ap (λ v. sum (under r.slot top v) r.rows) d,
            counts_all r.slot top r.rows,
            num_length (r.slot + z) r.rows
                (all_map {Q = λ x. x.due < r.slot + z} (λ x (h : RowFine r x). omega (arith, h.due_by, b, d)) r.rows f.fine),
          )
    ]
  ]
    where
      rows_few : sum (under r.slot top z) r.rows ≤ length r.rows
      rows_few = omega (arith, length_sum r.rows, sum_le (under r.slot top z) (λ x. 1) (λ x. under_1 r.slot top z x) r.rows)

  pub sweep_near : Near r (r.slot + z)
  sweep_near =
      record {
        from = omega arith;
        by = omega (arith, w.high, span);
        full = λ v a b.
            let d : r.slot + (v - r.slot) ≡ v = omega (arith, a) in
            elim (leb? (v - r.slot) top) [
              | inl h ↦ omega (
                arith,
                w.full (v - r.slot) (omega arith) (omega (arith, b)),
                counts_below r.slot top (v - r.slot) r.rows h.1 rows_from,
                ap (λ y. num 0 y r.rows) d,
                sweep_at,
                d,
              )
              | inr h ↦ let g : v ≡ r.slot + z = omega (arith, h.1, b, w.high) in omega (arith, g, ap (λ y. num 0 y r.rows) g)
            ];
        free = λ u a b.
            let d : r.slot + suc (u - r.slot) ≡ suc u = omega (arith, a) in
            elim (ltb? (u - r.slot) top) [
              | inl h ↦ omega (
                arith,
                w.free (u - r.slot) (omega (arith, a)) (omega (arith, h.1)),
                counts_below r.slot top (suc (u - r.slot)) r.rows h.1 rows_from,
                ap (λ y. num 0 y r.rows) d,
                sweep_at,
                a,
              )
              | inr h ↦ elim (leb? z top) [
                | inl g ↦ omega (arith, w.free top g.1 (omega arith), counts_all r.slot top r.rows, rows_many (suc u), sweep_at, h.1, g.1, a)
                | inr g ↦ elim enough [
                  | inl y ↦ omega (arith, rows_many (suc u), y, g.1, w.level, sweep_at, rows_many (r.slot + z), a)
                  | inr y ↦ absurd (omega (arith, y, g.1, a, b))
                ]
              ]
            ];
      }

  -- counts of the plan's rows, up to where it ends
  pub kept_counts : (rs : List Row) → RowsOfPlan r rs → (s : ℕ) → s ≤ z → sum (under r.slot top s) rs ≡ num 0 (r.slot + s) rs
  kept_counts rs c s h = elim (leb? s top) [
    | inl a ↦ counts_below r.slot top s rs a.1 (all_of_in (λ x. r.slot ≤ x.due) rs (λ x i. (of_rows_fine r f rs c x i).due_from))
    | inr a ↦
        let d : s ≡ suc top = omega (arith, a.1, h, w.high) in
        elim enough [
          | inl b ↦ absurd (omega (arith, b, a.1, h, w.level, sweep_at, rows_many (r.slot + z)))
          | inr b ↦ omega (
            arith,
            ap (λ v. sum (under r.slot top v) rs) d,
            counts_all r.slot top rs,
            num_length (r.slot + s) rs (all_of_in (λ x. x.due < r.slot + s) rs (λ x i. omega (arith, (of_rows_fine r f rs c x i).due_by, b, d))),
          )
        ]
  ]

  -- the rows too many
  pub sweep_left : num 0 (r.slot + z) r.rows ≡ z + q
  sweep_left = omega (arith, sweep_at, w.level, counts_none r.slot top r.rows)

  pub sweep_none : q ≡ 0 → feasible r r.rows ≡ true
  sweep_none e = near_all r (r.slot + z) sweep_near (omega (arith, sweep_left, e))

  -- are the rows outside the plan
  pub sweep_out : (rs : List Row) → RowsOfPlan r rs → length rs + q ≡ length r.rows
  unfolding planned
  sweep_out rs c =
      let e = r.slot + z in
      omega (
        arith,
        sweep_left,
        near_edge r f rs c e sweep_near,
        split e rs,
        split e r.rows,
        c.same (late e),
        planned_same r f (late e),
        of_chosen (plan r) (late e) r.rows (row_ticket r f),
        same_late r.rows (all_of_in (λ x. of_plan (plan r) (late e) x ≡ late e x) r.rows (λ x i. one x i)),
      )
    where
      split : (e : ℕ) (xs : List Row) → length xs ≡ num 0 e xs + sum (late e) xs
      split e [] = refl
      split e (x ∷ xs) = omega (arith, split e xs, late_is e x)

      same_late : (xs : List Row) → All (λ x. of_plan (plan r) (late (r.slot + z)) x ≡ late (r.slot + z) x) xs →
          sum (of_plan (plan r) (late (r.slot + z))) xs ≡ sum (late (r.slot + z)) xs
      same_late [] a = refl
      same_late (x ∷ xs) a = omega (arith, a.0, same_late xs a.1)

      one : (x : Row) → In x r.rows → of_plan (plan r) (late (r.slot + z)) x ≡ late (r.slot + z) x
      one x i =
          let t = all_in (λ y. 1 ≤ y.ticket) x r.rows (row_ticket r f) i in
          elim (in_plan? x (plan r)) [
            | inl a ↦ of_yes (plan r) (late (r.slot + z)) x t a.0
            | inr a ↦ of_late (plan r) (r.slot + z) x (near_out r f rs c (r.slot + z) sweep_near x i (sym (in_plan_is r f rs c x i) ∙ a.0))
          ]
