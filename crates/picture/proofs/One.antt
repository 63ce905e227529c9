-- Rows of a round and blanks of which neither is heavier are one. Assumes nothing.
use Rattle.std.specs.Prelude.{◌≡◌, ℕ, ◌≤◌}
use Rattle.std.proofs.Common.{sym, ap, ◌∙◌, inl, inr, arith}
use Rattle.rules.specs.Rows.{Row, Round, blank, Heavier, In}
use Rattle.rules.specs.Plan.{plan}
use Rattle.rules.specs.PlanM.{Outside}
use Rattle.theory.specs.All.{all_in, IsBlank, blank_ticket}
use Rattle.theory.specs.Order.{NotOver, heavier?, not_over_both}
use Rattle.theory.specs.Full.{Fine, plan_member}
use Rattle.theory.specs.Change.{rising_same}
use Rattle.theory.specs.Same.{row_ticket}
use Rattle.picture.specs.One.{Known}

pub not_over_due : (a b : Row) → NotOver a b → NotOver b a → a.due ≡ b.due
not_over_due a b (inl h) (inl k) = omega arith
not_over_due a b (inl h) (inr k) = omega (arith, k.0)
not_over_due a b (inr h) (inl k) = omega (arith, h.0)
not_over_due a b (inr (e, inl h)) (inr (g, inl k)) = omega arith
not_over_due a b (inr (e, inl h)) (inr (g, inr k)) = omega (arith, k.0)
not_over_due a b (inr (e, inr h)) (inr (g, inl k)) = omega (arith, h.0)
not_over_due a b (inr (e, inr h)) (inr (g, inr k)) = h.0

pub no_heavier : (a b : Row) → (Heavier a b → ⊥) → NotOver a b
no_heavier a b n = elim (heavier? a b) [ inl h ↦ absurd (n h.1) | inr h ↦ h.1 ]

pub blanks_one : (x y : Row) → IsBlank x → IsBlank y → x.due ≡ y.due → x ≡ y
blanks_one x y a b e = a ∙ ap blank e ∙ sym b

module _ (r : Round) (f : Fine r) where
  pub same_one : (x y : Row) → Known r x → Known r y → x.ticket ≡ y.ticket → x.due ≡ y.due → x ≡ y
  same_one x y (inl i) (inl j) t d = rising_same 1 r.next x y r.rows f.rising i j t
  same_one x y (inl i) (inr b) t d = absurd (omega (arith, t, blank_ticket y b, all_in (λ z. 1 ≤ z.ticket) x r.rows (row_ticket r f) i))
  same_one x y (inr a) (inl j) t d = absurd (omega (arith, t, blank_ticket x a, all_in (λ z. 1 ≤ z.ticket) y r.rows (row_ticket r f) j))
  same_one x y (inr a) (inr b) t d = blanks_one x y a b d

  pub one : (x y : Row) → Known r x → Known r y → NotOver x y → NotOver y x → x ≡ y
  one x y i j h k = same_one x y i j (not_over_both x y h k) (not_over_due x y h k)

  pub member_known : (x : Row) → In x (plan r) → Known r x
  member_known x i = elim (plan_member r x i) [ inl a ↦ inl a | inr a ↦ inr a.0 ]

  pub outside_known : (s : ℕ) (x : Row) → Outside r s x → Known r x
  outside_known s x o = elim o.1 [ inl a ↦ inl a.0 | inr a ↦ inr a.0 ]
