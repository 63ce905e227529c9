-- The pick is the top of a segment, the best by its weight and its segment's substitute. Assumes nothing.
use Rattle.std.specs.Prelude.{◌≡◌, false, ◌&&◌, ◌||◌, not, List, ℕ, ◌≤◌, ltb, eqb}
use Rattle.std.proofs.Common.{sym, ◌∙◌, inl, inr, true≢false, arith}
use Rattle.rules.specs.Rows.{Row, Round, canonical, In}
use Rattle.rules.specs.Plan.{plan, golden_more, sends_before, best}
use Rattle.rules.specs.PlanM.{score}
use Rattle.theory.specs.Order.{NotOver, not_before_due}
use Rattle.theory.specs.Full.{Fine}
use Rattle.theory.specs.Score.{score_of, sends_by_score}
use Rattle.theory.specs.Best.{Beaten, beaten_trans, beaten_both, sends?, best_goes}
use Rattle.picture.specs.Picture.{Segment, Right, Picture, Among}
use Rattle.picture.proofs.One.{same_one, member_known}
use Rattle.picture.proofs.Places.{member_in, right_of}
use Rattle.picture.specs.Substitutes.{stand_in}
use Rattle.picture.proofs.Substitutes.{substitute_is, score_is}
use Rattle.picture.specs.Pick.{top_score}

pub beaten_due : (r : Round) (a b : Row) → Beaten r a b → Beaten r b a → a.due ≡ b.due
beaten_due r a b (inl h) (inl k) = absurd (omega arith)
beaten_due r a b (inl h) (inr k) = absurd (omega (arith, k.0))
beaten_due r a b (inr h) (inl k) = absurd (omega (arith, h.0))
beaten_due r a b (inr h) (inr k) = omega (arith, not_before_due a b h.1, not_before_due b a k.1)

-- of two with one score the heavier is canonically first
pub under_beaten : (r : Round) (q t : Row) (v : ℕ) → score_of r q ≡ score q.weight v → score_of r t ≡ score t.weight v → NotOver q t → Beaten r q t
under_beaten r q t v a b (inl h) = inl (omega (arith, a, b, h))
under_beaten r q t v a b (inr (e, inl h)) = inr (omega (arith, a, b, e), inl h)
under_beaten r q t v a b (inr (e, inr h)) = inr (omega (arith, a, b, e), inr (h.0, inr (e, inr h)))

module _ (r : Round) (f : Fine r) where
  -- WITHIN A SEGMENT the top goes first
  pub top_first : (g : Segment) → Right r g → (q : Row) → In q (plan r) → g.first ≤ q.due → q.due ≤ g.last → Beaten r q g.top
  top_first g w q i h k =
      let t = w.top.of in
      under_beaten r q g.top (stand_in r g).weight (score_is r f g w q i h k) (score_is r f g w g.top t.0 t.1 t.2)
      (w.top.most q (i, h, k))

  -- TWO TOPS compared by their own fields
  pub tops_golden : (g h : Segment) → Right r g → Right r h → sends_before r (plan r) g.top h.top ≡
      (golden_more g.top.weight (stand_in r g).weight h.top.weight (stand_in r h).weight
      || (not (golden_more h.top.weight (stand_in r h).weight g.top.weight (stand_in r g).weight) && canonical g.top h.top))
  unfolding sends_before
  tops_golden g h v w =
      let t = v.top.of in
      let u = w.top.of in
      rw (substitute_is r f g v g.top t.0 t.1 t.2, substitute_is r f h w h.top u.0 u.1 u.2)

  pub tops_by_score : (g h : Segment) → Right r g → Right r h → sends_before r (plan r) g.top h.top ≡
      (ltb (top_score r h) (top_score r g) || (eqb (top_score r g) (top_score r h) && canonical g.top h.top))
  tops_by_score g h v w =
      let t = v.top.of in
      let u = w.top.of in
      sends_by_score r f g.top h.top t.0 u.0
      ∙ rw (score_is r f g v g.top t.0 t.1 t.2, score_is r f h w h.top u.0 u.1 u.2)

  pub not_sent : (q t : Row) → In q (plan r) → In t (plan r) → sends_before r (plan r) q t ≡ false → Beaten r q t
  not_sent q t i j n = elim (sends? r f q t i j) [ inl a ↦ absurd (true≢false (sym a.0 ∙ n)) | inr a ↦ a.1 ]

  -- a member that no member goes before is the pick
  pub unbeaten_best : r.slot ≤ r.last → (t : Row) → In t (plan r) → ((q : Row) → In q (plan r) → Beaten r q t) → best r (plan r) ≡ t
  unbeaten_best o t i h =
      let b = best_goes r f o in
      let x = best r (plan r) in
      same_one r f x t (member_known r f x b.inside) (member_known r f t i)
      (beaten_both r x t (h x b.inside) (b.first t i)) (beaten_due r x t (h x b.inside) (b.first t i))

  -- THE PICK: the top that no top goes before
  pub pick_top : r.slot ≤ r.last → (gs : List Segment) → Picture r gs → (g : Segment) → Among g gs →
      ((h : Segment) → Among h gs → sends_before r (plan r) h.top g.top ≡ false) → best r (plan r) ≡ g.top
  pick_top o gs p g i n =
      let w = right_of r r.slot _ gs p in
      let t = (w g i).top.of.0 in
      unbeaten_best o g.top t (λ q j.
      let h = member_in r f gs p q j in
      beaten_trans r q h.of.top g.top (top_first h.of h.right q j h.from h.by)
      (not_sent h.of.top g.top h.right.top.of.0 t (n h.of h.among)))

  -- and there is one: the pick is the top of its own segment
  pub pick_is_top : r.slot ≤ r.last → (gs : List Segment) → Picture r gs → (g : Segment) × (Among g gs) × (best r (plan r) ≡ g.top)
  pick_is_top o gs p =
      let b = best_goes r f o in
      let x = best r (plan r) in
      let h = member_in r f gs p x b.inside in
      let t = h.right.top.of.0 in (
        h.of,
        h.among,
        unbeaten_best o h.of.top t (λ q j. beaten_trans r q x h.of.top (b.first q j)
            (top_first h.of h.right x b.inside h.from h.by)),
      )
