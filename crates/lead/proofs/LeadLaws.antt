-- One segment closed, and where one ends, as the code computes them.
use mathlib.Core.Path.{◌≡◌, ap, ◌∙◌}
use mathlib.Core.Logic.{inl, inr}
use mathlib.Core.Bool.{false}
use Prim.Native.Nat.{ℕ, suc, ◌+◌, ◌≤◌, ◌<◌}
use native.Mathlib.Omega.{arith}
use lib.Dec.{ltb}
use Rattle.rules.specs.PlanM.{score}
use Rattle.theory.specs.Tests.{eqb?, leb?}
use Rattle.keys.specs.Key.{weight_of}
use Rattle.lead.specs.Closed.{ends_here, closed}
use Rattle.lead.specs.declared.Lead.{Lead}

abbrev lead_of : (count score key segment other : ℕ) → Lead
lead_of c s k g o = record { count = c; score = s; key = k; segment = g; other = o }

module _ (l : Lead) (h o a b s : ℕ) (p : a ≡ weight_of h) (q : b ≡ weight_of o) (e : s ≡ score a b) where
  the_score : s ≡ score (weight_of h) (weight_of o)
  the_score = e ∙ ap (λ (v : ℕ). score v b) p ∙ ap (λ (v : ℕ). score (weight_of h) v) q

  pub closed_takes : l.score ≤ s → record { count = l.count + 1; score = s; key = h; segment = l.count; other = o } ≡ closed l h o
  unfolding closed
  closed_takes k =
      let n : l.count + 1 ≡ suc l.count = omega arith in
      elim (leb? l.score (score (weight_of h) (weight_of o))) [
        | inl t ↦ rw t.0 (ap (λ (v : ℕ). lead_of v s h l.count o) n ∙ ap (λ (v : ℕ). lead_of (suc l.count) v h l.count o) the_score)
        | inr t ↦ absurd (omega (arith, k, t.1, the_score))
      ]

  pub closed_keeps : s < l.score →
      record { count = l.count + 1; score = l.score; key = l.key; segment = l.segment; other = l.other } ≡ closed l h o
  unfolding closed
  closed_keeps k =
      let n : l.count + 1 ≡ suc l.count = omega arith in
      elim (leb? l.score (score (weight_of h) (weight_of o))) [
        | inl t ↦ absurd (omega (arith, k, t.1, the_score))
        | inr t ↦ rw t.0 (ap (λ (v : ℕ). lead_of v l.score l.key l.segment l.other) n)
      ]

-- where a segment ends
pub ends_not : (d s e : ℕ) → d ≡ e → false ≡ ends_here d s e
unfolding ends_here
ends_not d s e q = elim (eqb? d e) [ inl a ↦ rw a.0 | inr a ↦ absurd (a.1 q) ]

pub ends_by : (d s e : ℕ) → (d ≡ e → ⊥) → ltb d s ≡ ends_here d s e
unfolding ends_here
ends_by d s e n = elim (eqb? d e) [ inl a ↦ absurd (n a.1) | inr a ↦ rw a.0 ]
