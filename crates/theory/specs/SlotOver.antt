-- Rows closed up, each changed on its own, are the slot over row by row: closed_over, same_over, changed_over.
use Rattle.std.specs.Prelude.{◌≡◌, ◌⊎◌, ◌≢◌, ℕ}
use Rattle.std.proofs.Math.Path.{refl}
use Rattle.std.proofs.Common.{sym, ap, subst, ◌∙◌, arith}
use Rattle.std.proofs.Math.Logic.{inl, inr}
use mathlib.Core.List.{List, [], ◌∷◌}
use Rattle.rules.specs.Rows.{Row, In}
use Rattle.rules.specs.Steps.{changed}
use Rattle.rules.specs.StepsOf.{SlotOver}
use Rattle.theory.specs.Tests.{leb?, eqb?}
use Rattle.theory.specs.Full.{Rising}
use Rattle.theory.specs.Close.{stays, closed}
use Rattle.theory.specs.Leaping.{each, or_changed, changed_each}

-- a row changed by its ticket, by cases
pub or_changed? : (k : ℕ) (y : Row) (m : Row → Row) (x : Row) →
    ((x.ticket ≡ k) × (or_changed k y m x ≡ y)) ⊎ ((x.ticket ≢ k) × (or_changed k y m x ≡ m x))
unfolding or_changed
or_changed? k y m x = elim (eqb? x.ticket k) [ inl e ↦ inl (e.1, rw e.0) | inr e ↦ inr (e.1, rw e.0) ]

-- no change at all
pub each_same : (xs : List Row) → each (λ x. x) xs ≡ xs
unfolding each
each_same [] = refl
each_same (x ∷ xs) = ap (λ (zs : List Row). x ∷ zs) (each_same xs)

module _ (t k : ℕ) (L : Row → Type 0) (B : Row → Row → Type 0) where
  -- each row by itself
  pub closed_over : (m : Row → Row) (xs : List Row) → ((x : Row) → In x xs → (m x).ticket ≡ k → L x) →
      ((x : Row) → In x xs → (m x).ticket ≢ k → B x (m x)) → SlotOver t L B xs (closed t k (each m xs))
  unfolding closed each stays
  closed_over m [] l b = refl
  closed_over m (x ∷ xs) l b =
      let rest = closed_over m xs (λ z i. l z (inr i)) (λ z i. b z (inr i)) in
      elim (eqb? (m x).ticket k) [
        | inl e ↦ elim (leb? t (m x).due) [
          | inl h ↦ rw (e.0, h.0) (inl (l x (inl refl) e.1, rest))
          | inr h ↦ rw (e.0, h.0) (inl (l x (inl refl) e.1, rest))
        ]
        | inr e ↦ elim (leb? t (m x).due) [
          | inl h ↦ rw (e.0, h.0) (inr (inr (m x, b x (inl refl) e.1, omega (arith, h.1), (closed t k (each m xs), refl, rest))))
          | inr h ↦ rw (e.0, h.0) (inr (inl (m x, b x (inl refl) e.1, omega (arith, h.1), rest)))
        ]
      ]

  -- rows as they are
  pub same_over : (xs : List Row) → ((x : Row) → In x xs → x.ticket ≡ k → L x) → ((x : Row) → In x xs → x.ticket ≢ k → B x x) →
      SlotOver t L B xs (closed t k xs)
  same_over xs l b = subst (λ (zs : List Row). SlotOver t L B xs (closed t k zs)) (each_same xs) (closed_over (λ x. x) xs l b)

  -- one row changed after each was
  pub changed_over : (j : ℕ) (y : Row) → y.ticket ≡ j → (m : Row → Row) → ((x : Row) → (m x).ticket ≡ x.ticket) → (a b : ℕ) (xs : List Row) →
      Rising a b xs → ((x : Row) → In x xs → x.ticket ≡ k → L x) →
      ((x : Row) → In x xs → x.ticket ≢ k → ((x.ticket ≡ j) → B x y) × ((x.ticket ≢ j) → B x (m x))) →
      SlotOver t L B xs (closed t k (changed j y (each m xs)))
  changed_over j y q m h a b xs s l c =
      subst (λ (zs : List Row). SlotOver t L B xs (closed t k zs)) (sym (changed_each j y m h a b xs s))
      (closed_over (or_changed j y m) xs (λ x i e. l x i (sym (same x) ∙ e)) (λ x i n.
      let d = c x i (λ e. n (same x ∙ e)) in
      elim (or_changed? j y m x) [ inl e ↦ subst (B x) (sym e.1) (d.0 e.0) | inr e ↦ subst (B x) (sym e.1) (d.1 e.0) ]))
    where
      same : (x : Row) → (or_changed j y m x).ticket ≡ x.ticket
      same x = elim (or_changed? j y m x) [
        | inl e ↦ ap (λ (z : Row). z.ticket) e.1 ∙ q ∙ sym e.0
        | inr e ↦ ap (λ (z : Row). z.ticket) e.1 ∙ h x
      ]
