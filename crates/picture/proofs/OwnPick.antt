-- The pick by segments with their own lightest: their scores, the one that leads, and the rest of what pictures say of picks. Assumes nothing.
use Rattle.std.specs.Prelude.{◌≡◌, refl, cond, List, [], ◌∷◌, map, ℕ, suc, ◌+◌, ◌*◌, ◌≤◌, ◌<◌, leb, length}
use Rattle.std.proofs.Math.Path.{sym, ap, subst}
use Rattle.std.proofs.Common.{◌∙◌, arith}
use Rattle.std.proofs.Math.Logic.{inl, inr}
use Rattle.rules.specs.Rows.{Row, Round}
use Rattle.rules.specs.Plan.{plan, best}
use Rattle.rules.specs.PlanM.{score}
use Rattle.theory.specs.Tests.{leb?, eqb?}
use Rattle.theory.specs.Full.{Fine}
use Rattle.theory.specs.Score.{score_of}
use Rattle.theory.specs.Best.{Beaten}
use Rattle.theory.specs.Near.{Near}
use Rattle.theory.specs.Members.{RowsOfPlan}
use Rattle.picture.specs.Picture.{Segment, segment, Heaviest, Lightest, Within, By, Among}
use Rattle.picture.proofs.One.{one, member_known}
use Rattle.picture.proofs.Join.{low_start}
use Rattle.picture.specs.Substitutes.{stand_in}
use Rattle.picture.proofs.Substitutes.{stand_in_first, stand_in_later}
use Rattle.picture.specs.Pick.{top_score}
use Rattle.picture.specs.Leads.{Leads}
use Rattle.picture.proofs.Leads.{score_top, earlier_beaten, leads_next, leads_still}
use Rattle.picture.specs.Far.{Far}
use Rattle.picture.proofs.Far.{pick_leader, pick_far}
use Rattle.picture.specs.Own.{RightOwn, DrawnOwn, whole, Numbered}
use Rattle.picture.proofs.Own.{whole_right, whole_drawn}

pub beaten_score : (r : Round) (q p : Row) → Beaten r q p → score_of r q ≤ score_of r p
beaten_score r q p (inl h) = omega arith
beaten_score r q p (inr h) = omega (arith, h.0)

-- segments follow one another
pub right_own_of : (r : Round) (b z : ℕ) (gs : List Segment) → DrawnOwn r b z gs → (g : Segment) → Among g gs → RightOwn r g
right_own_of r b z [] p g i = absurd i
right_own_of r b z (h ∷ hs) p g (inl e) = subst (RightOwn r) (sym e) p.1
right_own_of r b z (h ∷ hs) p g (inr i) = right_own_of r (suc h.last) z hs p.2 g i

pub own_from : (r : Round) (b z : ℕ) (gs : List Segment) → DrawnOwn r b z gs → (g : Segment) → Among g gs → b ≤ g.first
own_from r b z [] p g i = absurd i
own_from r b z (h ∷ hs) p g (inl e) = omega (arith, p.0, ap (λ (k : Segment). k.first) e)
own_from r b z (h ∷ hs) p g (inr i) = omega (arith, p.0, p.1.spans.by, own_from r (suc h.last) z hs p.2 g i)

-- each has a slot of its own
pub own_long : (r : Round) (b z : ℕ) (gs : List Segment) → DrawnOwn r b z gs → b + length gs ≤ z
own_long r b z [] p = omega (arith, p)
own_long r b z (g ∷ gs) p = omega (arith, p.0, p.1.spans.by, own_long r (suc g.last) z gs p.2)

pub numbered_among : (g : Segment) (k : ℕ) (gs : List Segment) → Numbered g k gs → Among g gs
numbered_among g k [] i = i
numbered_among g k (h ∷ hs) (inl e) = inl e.0
numbered_among g k (h ∷ hs) (inr i) = inr (numbered_among g k hs i)

module _ (r : Round) (f : Fine r) where
  -- THE SUBSTITUTE is the same: the first segment's own lightest is the lightest by its end
  pub own_low : (g : Segment) → RightOwn r g → g.first ≡ r.slot → Lightest (By (plan r) g.last) g.low
  own_low g w e = low_start r f g.last g.low (subst (λ v. Lightest (Within (plan r) v g.last) g.low) e w.low)

  pub stand_in_own : (g : Segment) → RightOwn r g → stand_in r (whole r g) ≡ stand_in r g
  unfolding segment
  stand_in_own g w =
      let v = whole_right r f g w in
      elim (eqb? g.first r.slot) [
        | inl a ↦
            let l = own_low g w a.1 in
            stand_in_first r (whole r g) a.1
            ∙ one r f (whole r g).low g.low (member_known r f (whole r g).low v.low.of.0) (member_known r f g.low l.of.0)
            (v.low.least g.low l.of) (l.least (whole r g).low v.low.of)
            ∙ sym (stand_in_first r g a.1)
        | inr a ↦
            let n = a.1 in
            let h : r.slot < g.first = omega (arith, w.spans.from) in
            stand_in_later r (whole r g) h ∙ sym (stand_in_later r g h)
      ]

  pub score_whole : (g : Segment) → RightOwn r g → top_score r (whole r g) ≡ top_score r g
  unfolding segment
  score_whole g w = ap (λ (x : Row). score g.top.weight x.weight) (stand_in_own g w)

  pub score_own : (g : Segment) → RightOwn r g → score_of r g.top ≡ top_score r g
  unfolding segment
  score_own g w = score_top r f (whole r g) (whole_right r f g w) ∙ score_whole g w

  -- ONE SEGMENT MORE, before the others: it leads from an equal score on
  pub leads_own : (b z : ℕ) (h : Segment) (gs : List Segment) → DrawnOwn r b z (h ∷ gs) → (g : Segment) → Leads r gs g →
      Leads r (h ∷ gs) (cond (leb (top_score r g) (top_score r h)) h g)
  leads_own b z h gs p g l =
      let w = right_own_of r (suc h.last) z gs p.2 g l.among in
      let d = own_from r (suc h.last) z gs p.2 g l.among in
      elim (leb? (top_score r g) (top_score r h)) [
        | inl a ↦ rw a.0 (leads_next r h g gs l (earlier_beaten r g.top h.top (omega (arith, d, p.1.top.of.2, w.top.of.1))
            (omega (arith, a.1, score_own g w, score_own h p.1))))
        | inr a ↦ rw a.0 (leads_still r h g gs l (inl (omega (arith, a.1, score_own g w, score_own h p.1))))
      ]

  -- THE LEADER of the picture
  among_whole : (g : Segment) (gs : List Segment) → Among g gs → Among (whole r g) (map (whole r) gs)
  among_whole g [] i = i
  among_whole g (h ∷ hs) (inl e) = inl (ap (whole r) e)
  among_whole g (h ∷ hs) (inr i) = inr (among_whole g hs i)

  whole_among : (h : Segment) (gs : List Segment) → Among h (map (whole r) gs) → (g : Segment) × Among g gs × (h ≡ whole r g)
  whole_among h [] i = absurd i
  whole_among h (g ∷ gs) (inl e) = (g, inl refl, e)
  whole_among h (g ∷ gs) (inr i) = let q = whole_among h gs i in (q.0, inr q.1, q.2)

  pub leads_whole : (gs : List Segment) (g : Segment) → Leads r gs g → Leads r (map (whole r) gs) (whole r g)
  unfolding segment
  leads_whole gs g l =
      record {
        among = among_whole g gs l.among;
        over = λ h i.
            let q = whole_among h gs i in
            subst (λ (k : Segment). Beaten r k.top g.top) (sym q.2) (l.over q.0 q.1);
      }

  -- WHO GOES: the leader, unless the heaviest far row scores more
  module _ (o : r.slot ≤ r.last) (rs : List Row) (c : RowsOfPlan r rs) (z : ℕ) (k : Near r z) (gs : List Segment)
      (p : DrawnOwn r r.slot z gs) (g : Segment) (l : Leads r gs g) where
    pub own_leader : ((x : Row) → Heaviest (Far rs z) x → x.weight * 39088169 ≤ top_score r g) → best r (plan r) ≡ g.top
    unfolding segment
    own_leader h =
        let w = right_own_of r r.slot z gs p g l.among in
        pick_leader r f o rs c z k (map (whole r) gs) (whole_drawn r f r.slot z gs p) (whole r g) (leads_whole gs g l)
        (λ x y. omega (arith, h x y, score_whole g w))

    pub own_far : (x : Row) → Heaviest (Far rs z) x → top_score r g < x.weight * 39088169 → best r (plan r) ≡ x
    own_far x y h =
        pick_far r f o rs c z k (map (whole r) gs) (whole_drawn r f r.slot z gs p) x y (λ j i.
        let q = whole_among j gs i in
        let w = right_own_of r r.slot z gs p in
        omega (
          arith,
          h,
          ap (top_score r) q.2,
          score_whole q.0 (w q.0 q.1),
          score_own q.0 (w q.0 q.1),
          score_own g (w g l.among),
          beaten_score r q.0.top g.top (l.over q.0 q.1),
        ))
