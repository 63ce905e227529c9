-- Marks from segment to segment: the first one's is its own lightest weight, each later one's the lesser of its own and of the mark before. Assumes nothing.
use Rattle.std.specs.Prelude.{◌≡◌, ℕ, suc, ◌≤◌, min}
use Rattle.std.proofs.Common.{sym, ap, ◌∙◌, inl, inr, arith}
use Rattle.rules.specs.Rows.{Row, Round}
use Rattle.rules.specs.Limits.{most_weight}
use Rattle.rules.specs.Plan.{plan, mark_in, mark, least_weight}
use Rattle.theory.specs.Tests.{leb?}
use Rattle.theory.specs.All.{all_in}
use Rattle.theory.specs.Order.{not_over_weight}
use Rattle.theory.specs.Full.{Fine, plan_due}
use Rattle.theory.specs.Picks.{mark_least, mark_attained}
use Rattle.picture.specs.Picture.{Spans, Lightest, Within}
use Rattle.picture.proofs.Places.{ends_at}

-- one mark for all slots of a segment
pub mark_end : (r : Round) → Fine r → (b e : ℕ) → Spans r b e → (d : ℕ) → b ≤ d → d ≤ e → mark r d ≡ mark r e
unfolding mark mark_in
mark_end r f b e s d h k =
    ap (λ (v : ℕ). least_weight v (plan r) most_weight) (ends_at r f b e s d h k ∙ sym (ends_at r f b e s e s.by (omega arith)))

module _ (r : Round) (f : Fine r) (b e : ℕ) (s : Spans r b e) (x : Row) (l : Lightest (Within (plan r) b e) x) where
  mark_under : mark r e ≤ x.weight
  mark_under = mark_least r f e x l.of.0 (omega (arith, l.of.2, ends_at r f b e s e s.by (omega arith)))

  -- THE FIRST SEGMENT
  pub mark_first : b ≡ r.slot → mark r e ≡ x.weight
  mark_first q =
      let y = mark_attained r f e (omega (arith, s.from, s.by)) s.ahead in
      let d = all_in (λ x. (r.slot ≤ x.due) × (x.due ≤ r.last)) y.0 (plan r) (plan_due r f) y.1 in
      omega (
        arith,
        mark_under,
        not_over_weight x y.0 (l.least y.0 (y.1, omega (arith, d.0, q), omega (arith, y.2, ends_at r f b e s e s.by (omega arith)))),
        y.3,
      )

  -- A LATER ONE, behind one that ends before it
  pub mark_next : (a d : ℕ) → Spans r a d → suc d ≡ b → mark r e ≡ min x.weight (mark r d)
  mark_next a d t q =
      let g = ends_at r f b e s e s.by (omega arith) in
      let h = ends_at r f a d t d t.by (omega arith) in
      let y = mark_attained r f e (omega (arith, s.from, s.by)) s.ahead in
      let z = mark_attained r f d (omega (arith, t.from, t.by)) t.ahead in
      let u : mark r e ≤ mark r d = omega (arith, z.3, mark_least r f e z.0 z.1 (omega (arith, z.2, h, g, q, s.by))) in
      elim (leb? y.0.due d) [
        | inl c ↦ omega (arith, u, mark_under, y.3, mark_least r f d y.0 y.1 (omega (arith, c.1, h)))
        | inr c ↦ omega (
          arith,
          u,
          mark_under,
          y.3,
          not_over_weight x y.0 (l.least y.0 (y.1, omega (arith, c.1, q), omega (arith, y.2, g))),
        )
      ]
