-- The heaviest row and the least weight, row by row.
use mathlib.Core.Path.{◌≡◌, sym, subst}
use mathlib.Core.Logic.{inl, inr}
use Prim.Native.Nat.{ℕ, ◌+◌, ◌≤◌, ◌<◌, min}
use native.Mathlib.Omega.{arith}
use lib.ListN.{length}
use Rattle.rules.specs.Rows.{Round}
use Rattle.theory.specs.Tests.{leb?, ltb?, eqb?}
use Rattle.round.specs.Rows.{at, DueAt, WeightAt, ClassAt}
use Rattle.keys.specs.Key.{rank, rank_at}
use Rattle.keys.proofs.KeyLaws.{rank_due}
use Rattle.passes.specs.Best.{RankAt, Over, Under, Sees, Behind, best_of, IsRow, Heaviest, Weighs, Least}
use Rattle.passes.specs.Look.{Notes, Looks}
use Rattle.passes.specs.declared.best.Best.{Best}
use Rattle.passes.specs.declared.look.Found.{Found}

-- of one row more: it, or one of those behind it
split : (P : ℕ → Type 0) (m i n : ℕ) → i ≡ n + 1 → ((j : ℕ) → i ≤ j → j < m → P j) → P n → (j : ℕ) → n ≤ j → j < m → P j
split P m i n q a b j h k = elim (eqb? j n) [
  | inl e ↦ subst P (sym e.1) b
  | inr e ↦ let o = e.1 in a j (omega arith) k
]

-- A RANK as it is read
pub rank_read : (r : Round) (i d c x : ℕ) → DueAt r i d → ClassAt r i c → x ≡ rank d c → RankAt r i x
rank_read r i d c x a b e =
    record {
      is = omega (arith, e, a.is, b.is);
      due = omega (arith, e, a.is, rank_due d c b.most);
      by = omega (arith, a.is, a.by);
      class = omega (arith, b.is, b.most);
    }

-- THE HEAVIEST
pub best_start : (r : Round) (n e : ℕ) → length r.rows ≤ n → Heaviest r n e (best_of 0 0 0)
best_start r n e l = record { small = omega arith; most = λ j h k. absurd (omega (arith, h, k, l)); some = λ h. absurd (omega (arith, h)) }

row_more : (r : Round) (i n e : ℕ) (b : Best) → i ≡ n + 1 → IsRow r i e b → IsRow r n e b
row_more r i n e b q s =
    record { from = omega (arith, q, s.from); below = s.below; weight = s.weight; rank = s.rank; due = s.due; by = s.by }

module _ (r : Round) (i n e : ℕ) (q : i ≡ n + 1) (b : Best) (g : Heaviest r i e b) where
  -- the row n doesn't count, or is lighter
  pub best_stays : ((at r n).due ≤ e → Behind r n b) → Heaviest r n e b
  best_stays h =
      record {
        small = g.small;
        most = split (λ j. (at r j).due ≤ e → Behind r j b) (length r.rows) i n q g.most h;
        some = λ o. row_more r i n e b q (g.some o);
      }

  pub best_passes : (d : ℕ) → DueAt r n d → e < d → Heaviest r n e b
  best_passes d a h = best_stays (λ k. absurd (omega (arith, k, h, a.is)))

  pub best_lighter : (w : ℕ) → WeightAt r n w → w < b.weight → Heaviest r n e b
  best_lighter w a h = best_stays (λ _. inl (omega (arith, h, a.is)))

  -- it is compared
  module _ (m : n < length r.rows) (w y : ℕ) (a : WeightAt r n w) (k : RankAt r n y) (l : (at r n).due ≤ e) where
    best_new : Over w y b → Heaviest r n e (best_of w y n)
    best_new o =
        record {
          small = a.most;
          most = split (λ j. (at r j).due ≤ e → Behind r j (best_of w y n)) (length r.rows) i n q (λ j h p u. after o j (omega (arith, h, q)) (g.most j h p u))
              (λ u. inr (sym a.is, inr (sym k.is, omega arith)));
          some = λ _. record { from = omega arith; below = m; weight = a.is; rank = k.is; due = k.due; by = l };
        }
      where
        after : Over w y b → (j : ℕ) → n ≤ j → Behind r j b → Behind r j (best_of w y n)
        after (inl v) j h (inl z) = inl (omega arith)
        after (inl v) j h (inr z) = inl (omega (arith, z.0))
        after (inr v) j h (inl z) = inl (omega (arith, v.0))
        after (inr v) j h (inr (z, inl u)) = inr (omega (arith, v.0), inl (omega (arith, v.1)))
        after (inr v) j h (inr (z, inr u)) = elim (ltb? y (rank_at r j)) [
          | inl t ↦ inr (omega (arith, v.0), inl t.1)
          | inr t ↦ inr (omega (arith, v.0), inr (omega (arith, t.1, v.1, u.0), h))
        ]

    pub best_sees : (x : Best) → Sees b w y n x → Heaviest r n e x
    best_sees x (inl v) = subst (λ (z : Best). Heaviest r n e z) (sym v.1) (best_stays (λ _. kept v.0))
      where
        kept : Under w y b → Behind r n b
        kept (inl u) = inl (omega (arith, a.is))
        kept (inr u) = inr (omega (arith, u.0, a.is), inl (omega (arith, u.1, k.is)))
    best_sees x (inr v) = subst (λ (z : Best). Heaviest r n e z) (sym v.1) (best_new v.0)

-- THE LEAST WEIGHT
pub least_start : (r : Round) (n e : ℕ) → length r.rows ≤ n → Least r n e 16777216
least_start r n e l = record { small = omega arith; least = λ j h k. absurd (omega (arith, h, k, l)); some = λ h. absurd (omega (arith, h)) }

weighs_more : (r : Round) (i n e m : ℕ) → i ≡ n + 1 → Weighs r i e m → Weighs r n e m
weighs_more r i n e m q s = record { row = s.row; from = omega (arith, q, s.from); below = s.below; by = s.by; is = s.is }

module _ (r : Round) (i n e m : ℕ) (q : i ≡ n + 1) (g : Least r i e m) where
  pub least_passes : (d : ℕ) → DueAt r n d → e < d → Least r n e m
  least_passes d a h =
      record {
        small = g.small;
        least = split (λ j. (at r j).due ≤ e → m ≤ (at r j).weight) (length r.rows) i n q g.least (λ k. absurd (omega (arith, k, h, a.is)));
        some = λ o. weighs_more r i n e m q (g.some o);
      }

  pub least_sees : n < length r.rows → (w d : ℕ) → WeightAt r n w → DueAt r n d → d ≤ e → (x : ℕ) → x ≡ min m w → Least r n e x
  least_sees o w d a k l x v =
      record {
        small = omega (arith, v, g.small);
        least = split (λ j. (at r j).due ≤ e → x ≤ (at r j).weight) (length r.rows) i n q (λ j h p u. omega (arith, v, g.least j h p u)) (λ u. omega (arith, v, a.is));
        some = λ u. elim (leb? m w) [
          | inl y ↦ let z : m ≡ x = omega (arith, v, y.1) in
              subst (λ (t : ℕ). Weighs r n e t) z (weighs_more r i n e m q (g.some (omega (arith, u, z))))
          | inr y ↦ record { row = n; from = omega arith; below = o; by = omega (arith, l, k.is); is = omega (arith, v, y.1, a.is) }
        ];
      }

-- BOTH by two slots
pub look_start : (r : Round) (n e o : ℕ) → length r.rows ≤ n → Looks r n e o (record { first = best_of 0 0 0; lightest = 16777216; mark = 16777216 })
look_start r n e o l = record { first = best_start r n e l; lightest = least_start r n e l; mark = least_start r n o l }

module _ (r : Round) (i n e o : ℕ) (q : i ≡ n + 1) (f : Found) (g : Looks r i e o f) (d : ℕ) (k : DueAt r n d) (l : e ≤ o) where
  pub look_notes : n < length r.rows → (w y : ℕ) → WeightAt r n w → RankAt r n y → d ≤ o → (x : Found) → Notes f w d y n e x → Looks r n e o x
  look_notes m w y a b h x (inl v) =
      record {
        first = best_sees r i n e q f.first g.first m w y a b (omega (arith, k.is, v.by)) x.first v.first;
        lightest = least_sees r i n e f.lightest q g.lightest m w d a k v.by x.lightest v.lightest;
        mark = least_sees r i n o f.mark q g.mark m w d a k h x.mark v.mark;
      }
  look_notes m w y a b h x (inr v) =
      record {
        first = subst (λ (z : Best). Heaviest r n e z) (sym v.first) (best_passes r i n e q f.first g.first d k v.past);
        lightest = subst (λ (z : ℕ). Least r n e z) (sym v.lightest) (least_passes r i n e f.lightest q g.lightest d k v.past);
        mark = least_sees r i n o f.mark q g.mark m w d a k h x.mark v.mark;
      }
