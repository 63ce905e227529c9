-- The least key and the greatest of places of some kind: how a pass keeps them, and the rows that they stand for.
use mathlib.Core.Path.{◌≡◌, refl, sym, ap, ◌∙◌, subst}
use mathlib.Core.Logic.{◌⊎◌, inl, inr}
use Prim.Native.Nat.{ℕ, ◌≤◌, ◌<◌, min, max}
use native.Mathlib.Omega.{arith}
use lib.ListN.{length}
use Rattle.rules.specs.Rows.{Row, Round}
use Rattle.theory.specs.Tests.{leb?}
use Rattle.theory.specs.Order.{NotOver, heavier_no}
use Rattle.theory.specs.Full.{Fine}
use Rattle.round.specs.Rows.{at}
use Rattle.keys.specs.Key.{blank_key, key_at}
use Rattle.keys.proofs.KeyLaws.{some_key, greater_key}
use Rattle.picture.specs.Picture.{Heaviest, Lightest}
use Rattle.segments.specs.Segmented.{Keyed}

-- THE LEAST, or a blank's where there is none; THE GREATEST, or 0
pub record Least (key : ℕ → ℕ) (C : ℕ → Type 0) (k : ℕ) : Type 0 where
  pub under : (q : ℕ) → C q → k ≤ key q
  pub of : (k ≡ blank_key) ⊎ ((q : ℕ) × C q × (k ≡ key q))

pub record Greatest (key : ℕ → ℕ) (C : ℕ → Type 0) (k : ℕ) : Type 0 where
  pub over : (q : ℕ) → C q → key q ≤ k
  pub of : (k ≡ 0) ⊎ ((q : ℕ) × C q × (k ≡ key q))

-- of the same places, and of one more
pub least_none : (key : ℕ → ℕ) (C : ℕ → Type 0) → ((q : ℕ) → C q → ⊥) → Least key C blank_key
least_none key C n = record { under = λ q c. absurd (n q c); of = inl refl }

pub greatest_none : (key : ℕ → ℕ) (C : ℕ → Type 0) → ((q : ℕ) → C q → ⊥) → Greatest key C 0
greatest_none key C n = record { over = λ q c. absurd (n q c); of = inl refl }

module _ (key : ℕ → ℕ) (A C : ℕ → Type 0) (a : (q : ℕ) → A q → C q) where
  pub least_same : ((q : ℕ) → C q → A q) → (k : ℕ) → Least key A k → Least key C k
  least_same c k l =
      record {
        under = λ q i. l.under q (c q i);
        of = elim l.of [ inl e ↦ inl e | inr (q, i, e) ↦ inr (q, a q i, e) ];
      }

  pub greatest_same : ((q : ℕ) → C q → A q) → (k : ℕ) → Greatest key A k → Greatest key C k
  greatest_same c k l =
      record {
        over = λ q i. l.over q (c q i);
        of = elim l.of [ inl e ↦ inl e | inr (q, i, e) ↦ inr (q, a q i, e) ];
      }

  module _ (p : ℕ) (b : C p) (c : (q : ℕ) → C q → A q ⊎ (q ≡ p)) where
    pub least_more : (k : ℕ) → Least key A k → Least key C (min k (key p))
    least_more k l =
        record {
          under = λ q i. elim (c q i) [ inl j ↦ omega (arith, l.under q j) | inr e ↦ omega (arith, ap key e) ];
          of = elim (leb? k (key p)) [
            | inl h ↦
                let m : min k (key p) ≡ k = omega (arith, h.1) in
                elim l.of [ inl e ↦ inl (m ∙ e) | inr (q, i, e) ↦ inr (q, a q i, m ∙ e) ]
            | inr h ↦ inr (p, b, omega (arith, h.1))
          ];
        }

    pub greatest_more : (k : ℕ) → Greatest key A k → Greatest key C (max k (key p))
    greatest_more k l =
        record {
          over = λ q i. elim (c q i) [ inl j ↦ omega (arith, l.over q j) | inr e ↦ omega (arith, ap key e) ];
          of = elim (leb? (key p) k) [
            | inl h ↦
                let m : max k (key p) ≡ k = omega (arith, h.1) in
                elim l.of [ inl e ↦ inl (m ∙ e) | inr (q, i, e) ↦ inr (q, a q i, m ∙ e) ]
            | inr h ↦ inr (p, b, omega (arith, h.1))
          ];
        }

-- THE ROW that a least key stands for is the heaviest, that of a greatest the lightest
module _ (r : Round) (f : Fine r) (small : length r.rows ≤ 1024) (cap : r.last ≤ 4095) (row : ℕ → ℕ) (C : ℕ → Type 0) (D : Row → Type 0)
    (there : (q : ℕ) → C q → row q < length r.rows) (out : (q : ℕ) → C q → D (at r (row q)))
    (back : (y : Row) → D y → (q : ℕ) × C q × (y ≡ at r (row q))) where
  lighter : (q p : ℕ) → C q → C p → key_at r (row p) ≤ key_at r (row q) → NotOver (at r (row q)) (at r (row p))
  lighter q p i j h =
      heavier_no (at r (row q)) (at r (row p)) (greater_key r f small cap (row q) (row p) (there q i) (there p j) h)

  pub record Stands (N : Row → Type 0) (k : ℕ) : Type 0 where
    pub row_of : Row
    pub keyed : Keyed r row_of k
    pub right : N row_of

  pub least_row : (k : ℕ) → Least (λ q. key_at r (row q)) C k → (y : Row) → D y → Stands (Heaviest D) k
  least_row k l y d = elim l.of [
    | inl e ↦
        let w = back y d in
        absurd (omega (arith, e, l.under w.0 w.1, (some_key r f small cap (row w.0) (there w.0 w.1)).1))
    | inr (q, i, e) ↦ record {
      row_of = at r (row q);
      keyed = record { row = row q; there = there q i; is = refl; key = e };
      right = record {
        of = out q i;
        most = λ x j.
            let w = back x j in
            subst (λ (v : Row). NotOver v (at r (row q))) (sym w.2) (lighter w.0 q w.1 i (omega (arith, e, l.under w.0 w.1)));
      };
    }
  ]

  pub greatest_row : (k : ℕ) → Greatest (λ q. key_at r (row q)) C k → (y : Row) → D y → Stands (Lightest D) k
  greatest_row k l y d = elim l.of [
    | inl e ↦
        let w = back y d in
        absurd (omega (arith, e, l.over w.0 w.1, (some_key r f small cap (row w.0) (there w.0 w.1)).0))
    | inr (q, i, e) ↦ record {
      row_of = at r (row q);
      keyed = record { row = row q; there = there q i; is = refl; key = e };
      right = record {
        of = out q i;
        least = λ x j.
            let w = back x j in
            subst (λ (v : Row). NotOver (at r (row q)) v) (sym w.2) (lighter q w.0 i w.1 (omega (arith, e, l.over w.0 w.1)));
      };
    }
  ]

  -- or there is none
  pub least_maybe : (k : ℕ) → Least (λ q. key_at r (row q)) C k → Stands (Heaviest D) k ⊎ ((k ≡ blank_key) × ((y : Row) → D y → ⊥))
  least_maybe k l = elim l.of [
    | inl e ↦ inr (
      e,
      λ y d.
          let w = back y d in
          omega (arith, e, l.under w.0 w.1, (some_key r f small cap (row w.0) (there w.0 w.1)).1),
    )
    | inr (q, i, e) ↦ inl (least_row k l (at r (row q)) (out q i))
  ]
