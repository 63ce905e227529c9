-- A member's substitute is a field of its segment: the lightest in the first, the heaviest outside in later ones. Assumes nothing.
use Rattle.std.specs.Prelude.{◌≡◌, List, ℕ, ◌≤◌, ◌<◌}
use Rattle.std.proofs.Common.{sym, ◌∙◌, inl, inr, arith}
use Rattle.std.proofs.Math.Path.{ap}
use Rattle.rules.specs.Rows.{Row, Round, In}
use Rattle.rules.specs.Plan.{plan, substitute}
use Rattle.rules.specs.PlanM.{Outside, score}
use Rattle.theory.specs.Tests.{eqb?}
use Rattle.theory.specs.Full.{Fine}
use Rattle.theory.specs.Score.{score_of}
use Rattle.theory.specs.Picks.{first_substitute, later_substitute}
use Rattle.picture.specs.Picture.{Segment, Right, Drawn}
use Rattle.picture.proofs.One.{no_heavier, one, member_known, outside_known}
use Rattle.picture.specs.Places.{Holds}
use Rattle.picture.proofs.Places.{starts_at, first_ends, later_starts, member_at}
use Rattle.picture.specs.Substitutes.{stand_in}

pub stand_in_first : (r : Round) (g : Segment) → g.first ≡ r.slot → stand_in r g ≡ g.low
unfolding stand_in
stand_in_first r g e = elim (eqb? g.first r.slot) [ inl a ↦ rw a.0 | inr a ↦ absurd (a.1 e) ]

pub stand_in_later : (r : Round) (g : Segment) → r.slot < g.first → stand_in r g ≡ g.out
unfolding stand_in
stand_in_later r g h = elim (eqb? g.first r.slot) [ inl a ↦ absurd (omega (arith, h, a.1)) | inr a ↦ rw a.0 ]

module _ (r : Round) (f : Fine r) (g : Segment) (w : Right r g) (p : Row) (i : In p (plan r)) (from : g.first ≤ p.due) (by : p.due ≤ g.last) where
  pub substitute_low : g.first ≡ r.slot → substitute r (plan r) p ≡ g.low
  substitute_low e =
      let x = substitute r (plan r) p in
      let d = first_ends r f g.first g.last w.spans e in
      let s = first_substitute r f p i (omega (arith, d, by)) in
      one r f x g.low (member_known r f x s.0) (member_known r f g.low w.low.of.0)
      (no_heavier x g.low (s.2 g.low w.low.of.0 (omega (arith, d, w.low.of.1))))
      (w.low.least x (s.0, omega (arith, d, s.1)))

  pub substitute_out : r.slot < g.first → substitute r (plan r) p ≡ g.out
  substitute_out h =
      let x = substitute r (plan r) p in
      let d = starts_at r f g.first g.last w.spans p.due from by in
      let s = later_substitute r f p i (omega (arith, later_starts r f g.first g.last w.spans h, from)) in
      let o : Outside r g.first x = (omega (arith, d, s.0.0), s.0.1) in
      one r f x g.out (outside_known r f g.first x o) (outside_known r f g.first g.out w.out.of)
      (w.out.most x o)
      (no_heavier g.out x (s.1 g.out (omega (arith, d, w.out.of.0), w.out.of.1)))

  -- either
  pub substitute_is : substitute r (plan r) p ≡ stand_in r g
  substitute_is = elim (eqb? g.first r.slot) [
    | inl a ↦ substitute_low a.1 ∙ sym (stand_in_first r g a.1)
    | inr a ↦
        let n = a.1 in
        let h : r.slot < g.first = omega (arith, w.spans.from) in
        substitute_out h ∙ sym (stand_in_later r g h)
  ]

  -- and its score
  pub score_is : score_of r p ≡ score p.weight (stand_in r g).weight
  unfolding score_of
  score_is = ap (λ (x : Row). score p.weight x.weight) substitute_is

-- of a picture as far as it goes
pub substitute_drawn : (r : Round) (f : Fine r) (z : ℕ) (gs : List Segment) → Drawn r r.slot z gs → (p : Row) → In p (plan r) → p.due < z →
    (h : Holds r gs p.due) × (substitute r (plan r) p ≡ stand_in r h.of)
substitute_drawn r f z gs w p i k =
    let h = member_at r f z gs w p i k in
    (h, substitute_is r f h.of h.right p i h.from h.by)
