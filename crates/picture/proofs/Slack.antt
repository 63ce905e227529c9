-- A segment's ends by the slack of rows alone, anywhere: slots that no later slot has less slack than. Assumes nothing.
use Rattle.std.specs.Prelude.{◌≡◌, List, ℕ, suc, ◌-◌, ◌≤◌, ◌<◌}
use Rattle.std.proofs.Common.{sym, ◌∙◌, subst, inl, inr, true≢false, arith}
use Rattle.rules.specs.Rows.{Row, Round}
use Rattle.rules.specs.Plan.{plan, tight}
use Rattle.theory.specs.Tests.{ltb?}
use Rattle.theory.specs.Feas.{num}
use Rattle.theory.specs.Full.{Fine, plan_feas}
use Rattle.theory.specs.Marks.{TightIn, tight?}
use Rattle.theory.specs.Slack.{tight_least, least_tight}
use Rattle.theory.specs.Members.{RowsOfPlan}
use Rattle.picture.specs.Picture.{Spans}
use Rattle.picture.specs.Slack.{Least, LessLater}

module _ (r : Round) (f : Fine r) (rs : List Row) (c : RowsOfPlan r rs) where
  pub least_is_tight : (s : ℕ) → r.slot ≤ s → s ≤ r.last → Least r rs s → TightIn r (plan r) s
  least_is_tight s h k l = elim (tight? r (plan r) s) [
    | inl a ↦ a.1
    | inr a ↦ absurd (true≢false (sym (least_tight r f rs c.same s h k l) ∙ a.0))
  ]

  pub less_not_tight : (s : ℕ) → r.slot ≤ s → s ≤ r.last → LessLater r rs s → TightIn r (plan r) s → ⊥
  less_not_tight s h k l t = elim (tight? r (plan r) s) [
    | inl a ↦ absurd (omega (arith, l.3, tight_least r f rs c.same s h k a.0 l.0 l.1 l.2))
    | inr a ↦ a.1 t
  ]

  -- ENDS
  pub spans_slack : (b e : ℕ) → r.slot ≤ b → b ≤ e → e ≤ r.last → (r.slot < b → Least r rs (b - 1)) → Least r rs e →
      ((u : ℕ) → b ≤ u → u < e → LessLater r rs u) → Spans r b e
  spans_slack b e h i k before end none =
      record {
        from = h;
        by = i;
        ahead = k;
        edge = elim (ltb? r.slot b) [
          | inl a ↦
              let d : suc (b - 1) ≡ b = omega (arith, a.1) in
              subst (λ v. num 0 v (plan r) ≡ v - r.slot) d (least_is_tight (b - 1) (omega (arith, a.1)) (omega (arith, i, k)) (before a.1))
          | inr a ↦ omega (arith, a.1, h, plan_feas r f b h (omega (arith, i, k)))
        ];
        tight = least_is_tight e (omega (arith, h, i)) k end;
        none = λ u a v. less_not_tight u (omega (arith, h, a)) (omega (arith, v, k)) (none u a v);
      }
