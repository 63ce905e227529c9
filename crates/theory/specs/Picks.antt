-- Marks, substitutes, pick and next h as PlanM states them: mark_attained, first_substitute, later_substitute, best_picked, next_shifted.
use Rattle.std.specs.Prelude.{◌≡◌, refl, false, ◌&&◌, ◌||◌, List, [], ◌∷◌, ℕ, suc, ◌≤◌, ◌<◌, ltb, eqb}
use Rattle.std.proofs.Common.{sym, ◌∙◌, subst, arith, le-ltb, eq-eqb, ne_eqb}
use Rattle.std.proofs.Math.Logic.{inl, inr}
use Rattle.rules.specs.Rows.{Row, Round, blank, canonical, Heavier, In}
use Rattle.rules.specs.Plan.{plan, tight_after, segment_start, first_end, mark_in, mark, heaviest_outside, substitute, sends_before, best}
use Rattle.rules.specs.Steps.{heaviest_between}
use Rattle.rules.specs.PlanM.{Outside}
use Rattle.theory.specs.Tests.{ltb?, eqb?}
use Rattle.theory.specs.All.{all_in, IsBlank, blank_weight, blank_class, blank_is, due_of_blank}
use Rattle.theory.specs.Order.{NotOver, not_over_trans, over_absurd, not_before_canonical}
use Rattle.theory.specs.Feas.{num, below_late}
use Rattle.theory.specs.Full.{Fine, plan_feas, plan_full, plan_due}
use Rattle.theory.specs.Marks.{next, start, least_found, mark_all}
use Rattle.theory.specs.Score.{Bounded, plan_bounded, score_of, sends_by_score}
use Rattle.theory.specs.Top.{heaviest, LeftFrom, outside_top}
use Rattle.theory.specs.Substitute.{first_lightest, later_is}
use Rattle.theory.specs.Best.{Beaten, best_goes}

-- a row that counts is somewhere
pub with_due : (e : ℕ) (xs : List Row) → 1 ≤ num 0 e xs → (x : Row) × In x xs × (x.due < e)
with_due e [] h = absurd (omega arith)
with_due e (x ∷ xs) h = elim (ltb? x.due e) [
  | inl a ↦ (x, inl refl, a.1)
  | inr a ↦ let q = with_due e xs (omega (arith, h, below_late 0 e x a.1)) in (q.0, inr q.1, q.2)
]

-- a blank due later isn't heavier; whatever is due earlier is
pub later_blank_lighter : (b : ℕ) (x : Row) → IsBlank x → b ≤ x.due → NotOver x (blank b)
unfolding blank
later_blank_lighter b x e h = elim (ltb? b x.due) [
  | inl a ↦ inr (blank_weight x e, inl a.1)
  | inr a ↦ inr (blank_weight x e, inr (omega (arith, a.1), inr (blank_class x e, omega arith)))
]

pub earlier_over_blank : (b : ℕ) (x : Row) → x.due < b → Heavier x (blank b)
unfolding blank
earlier_over_blank b x h = elim (eqb? x.weight 0) [ inl a ↦ inr (a.1, inl h) | inr a ↦ let n = a.1 in inl (omega arith) ]

module _ (r : Round) (f : Fine r) where
  -- THE MARK
  pub mark_least : (s : ℕ) (x : Row) → In x (plan r) → x.due ≤ tight_after r (plan r) s → mark r s ≤ x.weight
  unfolding mark
  mark_least s x i h = all_in (λ x. x.due ≤ tight_after r (plan r) s → mark_in r (plan r) s ≤ x.weight) x (plan r) (mark_all r (plan r) s) i h

  pub mark_attained : (s : ℕ) → r.slot ≤ s → s ≤ r.last →
      (x : Row) × In x (plan r) × (x.due ≤ tight_after r (plan r) s) × (x.weight ≡ mark r s)
  unfolding mark mark_in
  mark_attained s h k = elim (least_found (tight_after r (plan r) s) (plan r) 16777216) [
    | inl e ↦
        let n = next r (plan r) s k (plan_full r f) in
        let x = with_due (suc (tight_after r (plan r) s)) (plan r) (omega (arith, n.tight, n.from)) in
        let d : x.0.due ≤ tight_after r (plan r) s = omega (arith, x.2) in
        (x.0, x.1, d, omega (arith, e, mark_least s x.0 x.1 d, all_in Bounded x.0 (plan r) (plan_bounded r f) x.1))
    | inr x ↦ x
  ]

  -- SUBSTITUTES
  pub first_substitute : (p : Row) → In p (plan r) → p.due ≤ first_end r (plan r) → let s = substitute r (plan r) p in
      In s (plan r) × (s.due ≤ first_end r (plan r)) × ((x : Row) → In x (plan r) → x.due ≤ first_end r (plan r) → Heavier s x → ⊥)
  first_substitute p i h =
      let l = first_lightest r p i h in
      (l.inside, l.by, λ x j k o. over_absurd (substitute r (plan r) p) x o (l.least x j k))

  pub later_substitute : (p : Row) → In p (plan r) → first_end r (plan r) < p.due → let s = substitute r (plan r) p in
      Outside r (segment_start r (plan r) p.due) s × ((x : Row) → Outside r (segment_start r (plan r) p.due) x → Heavier x s → ⊥)
  later_substitute p i h =
      let b = segment_start r (plan r) p.due in
      let z = heaviest_outside b r.rows (plan r) (blank b) in
      let t = outside_top b (plan r) r.rows (blank b) in
      let u = all_in (λ x. (r.slot ≤ x.due) × (x.due ≤ r.last)) p (plan r) (plan_due r f) i in
      let l : b ≤ r.last = omega (arith, u.1, (start r (plan r) p.due (plan_feas r f) f.time u.0).by) in
      rw (later_is r p h) (
        elim t.found [
          | inl e ↦ subst (λ (x : Row). Outside r b x) (sym e) (omega (arith, due_of_blank b), inr (blank_is b, omega (arith, due_of_blank b, l)))
          | inr j ↦ (j.1.0, inl (j.0, j.1.1))
        ],
        λ x o k. over_absurd x z k (elim o.1 [
          | inl a ↦ all_in (λ y. LeftFrom b (plan r) y → NotOver y z) x r.rows t.most a.0 (o.0, a.1)
          | inr a ↦ not_over_trans x (blank b) z (later_blank_lighter b x a.0 o.0) t.first
        ]),
      )

  -- THE PICK
  pub best_picked : r.slot ≤ r.last →
      In (best r (plan r)) (plan r) × ((q : Row) → In q (plan r) → sends_before r (plan r) q (best r (plan r)) ≡ false)
  best_picked o =
      let p = best r (plan r) in
      let g = best_goes r f o in
      (g.inside, λ q i. sends_by_score r f q p i g.inside ∙ beaten p q (g.first q i))
    where
      beaten : (p q : Row) → Beaten r q p → (ltb (score_of r p) (score_of r q) || (eqb (score_of r q) (score_of r p) && canonical q p)) ≡ false
      beaten p q (inl h) =
          rw (le-ltb (score_of r p) (score_of r q) (omega arith), ne_eqb (score_of r q) (score_of r p) (λ e. omega (arith, e)))
      beaten p q (inr h) =
          rw (le-ltb (score_of r p) (score_of r q) (omega (arith, h.0)), eq-eqb (score_of r q) (score_of r p) h.0, not_before_canonical q p h.1)

  -- THE NEXT h of a leap
  pub next_shifted : (e g : ℕ) (x : Row) → In x (plan r) → e < x.due → x.due ≤ g → let h = heaviest_between e g (plan r) (blank (suc g)) in
      In h (plan r) × (e < h.due) × (h.due ≤ g) × (Heavier x h → ⊥)
  next_shifted e g x i a b =
      let h = heaviest_between e g (plan r) (blank (suc g)) in
      let t = heaviest e g (plan r) (blank (suc g)) in
      let n : NotOver x h = all_in (λ y. (e < y.due) × (y.due ≤ g) → NotOver y h) x (plan r) t.most i (a, b) in
      elim t.found [
        | inl q ↦ absurd (over_absurd x (blank (suc g)) (earlier_over_blank (suc g) x (omega arith)) (subst (λ (y : Row). NotOver x y) q n))
        | inr j ↦ (j.0, j.1.0, j.1.1, λ o. over_absurd x h o n)
      ]
