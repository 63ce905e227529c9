-- The slot over read row by row, and that the order by tickets is kept: each_row_of, nothing_else, order_kept.
use Rattle.std.specs.Prelude.{◌≡◌, refl, ◌⊎◌, List, [], ◌∷◌, ℕ, suc, ◌≤◌, ◌<◌}
use Rattle.std.proofs.Common.{sym, ap, subst, inl, inr, arith}
use Rattle.rules.specs.Rows.{Row, Round, row, In}
use Rattle.rules.specs.StepsOf.{Is, SlotOver, Shift, Unchanged, Becomes}
use Rattle.theory.specs.Full.{Rising}
use Rattle.theory.specs.Change.{rising_less}

module _ (t : ℕ) (L : Row → Type 0) (B : Row → Row → Type 0) where
  -- EACH ROW leaves, or becomes a row that is there after where it is still due
  pub each_row_of : (xs ys : List Row) → SlotOver t L B xs ys → (x : Row) → In x xs →
      L x ⊎ ((y : Row) × B x y × ((y.due < t) ⊎ ((t ≤ y.due) × In y ys)))
  each_row_of [] ys o x i = absurd i
  each_row_of (z ∷ zs) ys (inl o) x (inl e) = inl (subst L (sym e) o.0)
  each_row_of (z ∷ zs) ys (inl o) x (inr i) = each_row_of zs ys o.1 x i
  each_row_of (z ∷ zs) ys (inr (inl o)) x (inl e) = inr (o.0, subst (λ (v : Row). B v o.0) (sym e) o.1, inl o.2)
  each_row_of (z ∷ zs) ys (inr (inl o)) x (inr i) = each_row_of zs ys o.3 x i
  each_row_of (z ∷ zs) ys (inr (inr o)) x (inl e) =
      inr (o.0, subst (λ (v : Row). B v o.0) (sym e) o.1, inr (o.2, subst (In o.0) (sym o.3.1) (inl refl)))
  each_row_of (z ∷ zs) ys (inr (inr o)) x (inr i) = elim (each_row_of zs o.3.0 o.3.2 x i) [
    | inl a ↦ inl a
    | inr (y, b, inl c) ↦ inr (y, b, inl c)
    | inr (y, b, inr c) ↦ inr (y, b, inr (c.0, subst (In y) (sym o.3.1) (inr c.1)))
  ]

  -- NOTHING ELSE: each row after is due, and is what a row before became
  pub nothing_else : (xs ys : List Row) → SlotOver t L B xs ys → (y : Row) → In y ys → (x : Row) × In x xs × B x y × (t ≤ y.due)
  nothing_else [] ys o y i = absurd (subst (In y) o i)
  nothing_else (z ∷ zs) ys (inl o) y i = let v = nothing_else zs ys o.1 y i in (v.0, inr v.1, v.2, v.3)
  nothing_else (z ∷ zs) ys (inr (inl o)) y i = let v = nothing_else zs ys o.3 y i in (v.0, inr v.1, v.2, v.3)
  nothing_else (z ∷ zs) ys (inr (inr o)) y i = elim (split (subst (In y) o.3.1 i)) [
    | inl e ↦ (z, inl refl, subst (B z) (sym e) o.1, subst (λ (v : Row). t ≤ v.due) (sym e) o.2)
    | inr j ↦ let v = nothing_else zs o.3.0 o.3.2 y j in (v.0, inr v.1, v.2, v.3)
  ]
    where
      split : In y (o.0 ∷ o.3.0) → (y ≡ o.0) ⊎ In y o.3.0
      split j = j

  -- THE ORDER by tickets, where no row becomes another's
  pub order_kept : ((x y : Row) → B x y → Is y x) → (a b : ℕ) (xs ys : List Row) → SlotOver t L B xs ys → Rising a b xs → Rising a b ys
  order_kept k a b [] ys o s = subst (Rising a b) (sym o) s
  order_kept k a b (x ∷ xs) ys (inl o) s = rising_less (suc x.ticket) a b ys (omega (arith, s.0)) (order_kept k (suc x.ticket) b xs ys o.1 s.1)
  order_kept k a b (x ∷ xs) ys (inr (inl o)) s =
      rising_less (suc x.ticket) a b ys (omega (arith, s.0)) (order_kept k (suc x.ticket) b xs ys o.3 s.1)
  order_kept k a b (x ∷ xs) ys (inr (inr o)) s =
      let e = k x o.0 o.1 in
      let u = order_kept k (suc x.ticket) b xs o.3.0 o.3.2 s.1 in
      subst (Rising a b) (sym o.3.1) (omega (arith, s.0, e), rising_less (suc x.ticket) (suc o.0.ticket) b o.3.0 (omega (arith, e)) u)

-- tickets are kept, in an ordinary step and in a leap
pub unchanged_is : (r : Round) (x y : Row) → Unchanged r x y → Is y x
unchanged_is r x y u = ap (λ (z : Row). z.ticket) u.1

pub becomes_is : (r : Round) (cs : List Shift) (x y : Row) → Becomes r cs x y → Is y x
unfolding row
becomes_is r cs x y (inl b) = ap (λ (z : Row). z.ticket) b.2
becomes_is r cs x y (inr (inl b)) = ap (λ (z : Row). z.ticket) b.2
becomes_is r cs x y (inr (inr (inl b))) = ap (λ (z : Row). z.ticket) b.2
becomes_is r cs x y (inr (inr (inr b))) = ap (λ (z : Row). z.ticket) b.3
