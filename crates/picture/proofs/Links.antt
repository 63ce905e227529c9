-- A leap's links: the heaviest between two ends is the heaviest top between them. Assumes nothing.
use Rattle.std.specs.Prelude.{◌≡◌, List, ℕ, suc, ◌≤◌, ◌<◌}
use Rattle.std.proofs.Common.{inl, inr, arith}
use Rattle.rules.specs.Rows.{Round, blank}
use Rattle.rules.specs.Plan.{plan}
use Rattle.rules.specs.Steps.{heaviest_between}
use Rattle.theory.specs.Order.{NotOver, not_over_trans}
use Rattle.theory.specs.Full.{Fine}
use Rattle.theory.specs.Marks.{TightIn}
use Rattle.theory.specs.Picks.{next_shifted}
use Rattle.picture.specs.Picture.{Segment, Right, Drawn, Among}
use Rattle.picture.proofs.One.{no_heavier, one, member_known}
use Rattle.picture.proofs.Places.{holds, right_of, tight_outside}
use Rattle.picture.specs.Links.{Lies}

module _ (r : Round) (f : Fine r) where
  -- members between two ends lie in segments between them
  pub lies_between : (e d : ℕ) → TightIn r (plan r) e → TightIn r (plan r) d → (g : Segment) → Right r g → (s : ℕ) → e < s → s ≤ d →
      g.first ≤ s → s ≤ g.last → Lies e d g
  lies_between e d t u g w s h k i j = (
    elim (tight_outside r f g.first g.last w.spans e t) [ inl a ↦ a | inr a ↦ absurd (omega (arith, a, h, j)) ],
    elim (tight_outside r f g.first g.last w.spans d u) [ inl a ↦ absurd (omega (arith, a, k, i)) | inr a ↦ a ],
  )

  -- THE NEXT LINK
  pub link_top : (b z : ℕ) (gs : List Segment) → Drawn r b z gs → (e d : ℕ) → b ≤ suc e → d < z → TightIn r (plan r) e → TightIn r (plan r) d →
      (g : Segment) → Among g gs → Lies e d g → ((h : Segment) → Among h gs → Lies e d h → NotOver h.top g.top) →
      heaviest_between e d (plan r) (blank (suc d)) ≡ g.top
  link_top b z gs p e d a k t u g i l n =
      let w = right_of r b z gs p g i in
      let x = heaviest_between e d (plan r) (blank (suc d)) in
      let v = w.top.of in
      let s = next_shifted r f e d g.top v.0 (omega (arith, l.0, v.1)) (omega (arith, l.1, v.2)) in
      let h = holds r b z gs p x.due (omega (arith, a, s.1)) (omega (arith, k, s.2)) in
      one r f x g.top (member_known r f x s.0) (member_known r f g.top v.0)
      (not_over_trans x h.of.top g.top (h.right.top.most x (s.0, h.from, h.by))
      (n h.of h.among (lies_between e d t u h.of h.right x.due s.1 s.2 h.from h.by)))
      (no_heavier g.top x s.3)
