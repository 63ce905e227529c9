-- How a pass from the last segment back keeps the heaviest row left out: one segment's rows at a time. Assumes nothing.
use Rattle.std.specs.Prelude.{◌⊎◌, cond, List, ℕ, suc, ◌≤◌}
use Rattle.std.proofs.Common.{inl, inr, arith}
use Rattle.rules.specs.Rows.{Row, Round, heavier}
use Rattle.theory.specs.Tests.{leb?}
use Rattle.theory.specs.Full.{Fine}
use Rattle.theory.specs.Members.{RowsOfPlan}
use Rattle.theory.specs.Near.{Near, near_out}
use Rattle.picture.specs.Picture.{Heaviest}
use Rattle.picture.proofs.Join.{heaviest_join}
use Rattle.picture.specs.Near.{LeftRow}
use Rattle.picture.specs.Outs.{LeftWithin}

-- none is due from z on, where rows no longer fill every slot
pub left_far : (r : Round) (f : Fine r) (rs : List Row) (c : RowsOfPlan r rs) (z : ℕ) → Near r z → (x : Row) → LeftRow r rs z x → ⊥
left_far r f rs c z k x i = omega (arith, i.2, near_out r f rs c z k x i.0 i.1)

module _ (r : Round) (rs : List Row) (b e : ℕ) (h : b ≤ suc e) where
  pub left_parts : (x : Row) → LeftRow r rs b x → LeftRow r rs (suc e) x ⊎ LeftWithin r rs b e x
  left_parts x i = elim (leb? x.due e) [ inl k ↦ inr (i.0, i.1, i.2, k.1) | inr k ↦ inl (i.0, i.1, k.1) ]

  pub left_later : (x : Row) → LeftRow r rs (suc e) x → LeftRow r rs b x
  left_later x i = (i.0, i.1, omega (arith, i.2, h))

  -- rows left out on both sides, on one, on none
  pub left_join : (x y : Row) → Heaviest (LeftRow r rs (suc e)) x → Heaviest (LeftWithin r rs b e) y → Heaviest (LeftRow r rs b) (cond (heavier y x) y x)
  left_join = heaviest_join (LeftRow r rs (suc e)) (LeftWithin r rs b e) (LeftRow r rs b) left_later (λ x i. (i.0, i.1, i.2)) left_parts

  pub left_keep : (x : Row) → Heaviest (LeftRow r rs (suc e)) x → ((y : Row) → LeftWithin r rs b e y → ⊥) → Heaviest (LeftRow r rs b) x
  left_keep x t n =
      record {
        of = left_later x t.of;
        most = λ y i. elim (left_parts y i) [ inl j ↦ t.most y j | inr j ↦ absurd (n y j) ];
      }

  pub left_start : (y : Row) → ((x : Row) → LeftRow r rs (suc e) x → ⊥) → Heaviest (LeftWithin r rs b e) y → Heaviest (LeftRow r rs b) y
  left_start y n t =
      record {
        of = (t.of.0, t.of.1, t.of.2);
        most = λ x i. elim (left_parts x i) [ inl j ↦ absurd (n x j) | inr j ↦ t.most x j ];
      }

  pub left_none : ((x : Row) → LeftRow r rs (suc e) x → ⊥) → ((y : Row) → LeftWithin r rs b e y → ⊥) → (x : Row) → LeftRow r rs b x → ⊥
  left_none n m x i = elim (left_parts x i) [ inl j ↦ n x j | inr j ↦ m x j ]
