-- The first tight slot at or after one, and where a slot's segment starts, as PlanM states them: tight_next, segment_from_tight.
use Rattle.std.specs.Prelude.{◌≡◌, ◌⊎◌, ℕ, suc, ◌-◌, ◌≤◌, ◌<◌}
use Rattle.std.proofs.Common.{sym, ap, ◌∙◌, inl, inr, arith}
use Rattle.rules.specs.Rows.{Round}
use Rattle.rules.specs.Plan.{plan, tight_after, segment_start}
use Rattle.rules.specs.PlanM.{Tight}
use Rattle.theory.specs.Tests.{eqb?}
use Rattle.theory.specs.Feas.{num, due_below}
use Rattle.theory.specs.Full.{Fine, plan_feas, plan_full}
use Rattle.theory.specs.Marks.{TightIn, next, start}

module _ (r : Round) (f : Fine r) where
  pub tight_counted : (s : ℕ) → Tight r s → TightIn r (plan r) s
  tight_counted s t = sym (due_below s (plan r)) ∙ t

  pub tight_next : (s : ℕ) → r.slot ≤ s → s ≤ r.last → let g = tight_after r (plan r) s in
      (s ≤ g) × (g ≤ r.last) × Tight r g × ((u : ℕ) → s ≤ u → u < g → Tight r u → ⊥)
  tight_next s h k =
      let n = next r (plan r) s k (plan_full r f) in
      (n.from, n.by, due_below (tight_after r (plan r) s) (plan r) ∙ n.tight, λ u a b t. n.first u a b (tight_counted u t))

  pub segment_from_tight : (d : ℕ) → r.slot ≤ d → d ≤ r.last → let b = segment_start r (plan r) d in
      (r.slot ≤ b) × (b ≤ d) × ((b ≡ r.slot) ⊎ Tight r (b - 1)) × ((u : ℕ) → b ≤ u → u < d → Tight r u → ⊥)
  segment_from_tight d h k =
      let b = segment_start r (plan r) d in
      let s = start r (plan r) d (plan_feas r f) f.time h in
      (s.low, s.by, edge b s.low s.edge, λ u a c t. s.none u a c (tight_counted u t))
    where
      edge : (b : ℕ) → r.slot ≤ b → num 0 b (plan r) ≡ b - r.slot → (b ≡ r.slot) ⊎ Tight r (b - 1)
      edge b h e = elim (eqb? b r.slot) [
        | inl a ↦ inl a.1
        | inr a ↦
            let n = a.1 in
            let z : suc (b - 1) ≡ b = omega arith in
            inr (omega (arith, due_below (b - 1) (plan r), ap (λ v. num 0 v (plan r)) z, e, z))
      ]
