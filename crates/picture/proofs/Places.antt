-- Where a slot lies: its segment, and that segment's ends as tight slots. Assumes nothing.
use Rattle.std.specs.Prelude.{◌≡◌, refl, ◌⊎◌, List, [], ◌∷◌, ◌++◌}
use Rattle.std.proofs.Common.{sym, ap, inl, inr, arith}
use Rattle.std.proofs.Math.Path.{subst}
use Prim.Native.Nat.{ℕ, suc, ◌-◌, ◌≤◌, ◌<◌}
use Rattle.rules.specs.Rows.{Row, Round, In}
use Rattle.rules.specs.Plan.{plan, tight_after, segment_start, first_end}
use Rattle.theory.specs.Tests.{leb?, ltb?}
use Rattle.theory.specs.All.{all_in}
use Rattle.theory.specs.Feas.{num}
use Rattle.theory.specs.Full.{Fine, plan_feas, plan_full, plan_due}
use Rattle.theory.specs.Marks.{TightIn, next, start}
use Rattle.theory.specs.Send.{next_by}
use Rattle.theory.specs.Near.{start_same}
use Rattle.picture.specs.Picture.{Segment, Spans, Right, Drawn, Picture, Among}
use Rattle.picture.specs.Places.{Holds, First}

pub holds : (r : Round) (b z : ℕ) (gs : List Segment) → Drawn r b z gs → (s : ℕ) → b ≤ s → s < z → Holds r gs s
holds r b z [] p s h k = absurd (omega (arith, p))
holds r b z (g ∷ gs) p s h k = elim (leb? s g.last) [
  | inl a ↦ record { of = g; among = inl refl; right = p.1; from = omega (arith, p.0); by = a.1 }
  | inr a ↦
      let q = holds r (suc g.last) z gs p.2 s a.1 k in
      record { of = q.of; among = inr q.among; right = q.right; from = q.from; by = q.by }
]

-- each segment of a picture has its right fields, and lies where the picture does
pub right_of : (r : Round) (b z : ℕ) (gs : List Segment) → Drawn r b z gs → (g : Segment) → Among g gs → Right r g
right_of r b z [] p g i = absurd i
right_of r b z (h ∷ hs) p g (inl e) = subst (Right r) (sym e) p.1
right_of r b z (h ∷ hs) p g (inr i) = right_of r (suc h.last) z hs p.2 g i

pub lies : (r : Round) (b z : ℕ) (gs : List Segment) → Drawn r b z gs → b ≤ z
lies r b z [] p = omega (arith, p)
lies r b z (g ∷ gs) p = omega (arith, p.0, p.1.spans.by, lies r (suc g.last) z gs p.2)

pub first_of : (r : Round) (z : ℕ) (gs : List Segment) → Drawn r r.slot z gs → r.slot < z → First r gs
first_of r z [] p h = absurd (omega (arith, p))
first_of r z (g ∷ gs) p h = record { of = g; among = inl refl; right = p.1; now = p.0 }

module _ (r : Round) (f : Fine r) (b e : ℕ) (s : Spans r b e) where
  -- ITS ENDS
  pub ends_at : (d : ℕ) → b ≤ d → d ≤ e → tight_after r (plan r) d ≡ e
  ends_at d h i =
      let n = next r (plan r) d (omega (arith, i, s.ahead)) (plan_full r f) in
      let a = next_by r (plan r) d (tight_after r (plan r) d) e n i s.tight in
      elim (ltb? (tight_after r (plan r) d) e) [
        | inl k ↦ absurd (s.none (tight_after r (plan r) d) (omega (arith, h, n.from)) k.1 n.tight)
        | inr k ↦ omega (arith, a, k.1)
      ]

  pub starts_at : (d : ℕ) → b ≤ d → d ≤ e → segment_start r (plan r) d ≡ b
  starts_at d h i =
      start_same r (plan r) d (segment_start r (plan r) d) b (start r (plan r) d (plan_feas r f) f.time (omega (arith, h, s.from)))
      (record { low = s.from; by = h; edge = s.edge; none = λ u a v t. s.none u a (omega (arith, v, i)) t })

  -- the first segment's last slot is the first end; later ones lie after it
  pub first_ends : b ≡ r.slot → first_end r (plan r) ≡ e
  unfolding first_end
  first_ends h = ends_at r.slot (omega (arith, h)) (omega (arith, h, s.by))

  pub later_starts : r.slot < b → first_end r (plan r) < b
  unfolding first_end
  later_starts h =
      let d : suc (b - 1) ≡ b = omega (arith, h) in
      let n = next r (plan r) r.slot (omega (arith, s.from, s.by, s.ahead)) (plan_full r f) in
      let t : TightIn r (plan r) (b - 1) = subst (λ v. num 0 v (plan r) ≡ v - r.slot) (sym d) s.edge in
      omega (arith, h, next_by r (plan r) r.slot (tight_after r (plan r) r.slot) (b - 1) n (omega (arith, h)) t)

  -- a tight slot lies before a segment or not before its end
  pub tight_outside : (u : ℕ) → TightIn r (plan r) u → (u < b) ⊎ (e ≤ u)
  tight_outside u t = elim (ltb? u b) [
    | inl a ↦ inl a.1
    | inr a ↦ elim (ltb? u e) [ inl k ↦ absurd (s.none u a.1 k.1 t) | inr k ↦ inr k.1 ]
  ]

-- THE PLACE of a slot
pub place : (r : Round) → Fine r → (z : ℕ) (gs : List Segment) → Drawn r r.slot z gs → (s : ℕ) → r.slot ≤ s → s < z →
    (h : Holds r gs s) × (tight_after r (plan r) s ≡ h.of.last) × (segment_start r (plan r) s ≡ h.of.first)
place r f z gs p s a b =
    let h = holds r r.slot z gs p s a b in (
      h,
      ends_at r f h.of.first h.of.last h.right.spans s h.from h.by,
      starts_at r f h.of.first h.of.last h.right.spans s h.from h.by,
    )

pub first_end_is : (r : Round) → Fine r → (z : ℕ) (g : Segment) (gs : List Segment) → Drawn r r.slot z (g ∷ gs) → first_end r (plan r) ≡ g.last
first_end_is r f z g gs p = first_ends r f g.first g.last p.1.spans p.0

-- A MEMBER's segment
pub member_at : (r : Round) → Fine r → (z : ℕ) (gs : List Segment) → Drawn r r.slot z gs → (x : Row) → In x (plan r) → x.due < z → Holds r gs x.due
member_at r f z gs p x i k =
    holds r r.slot z gs p x.due (all_in (λ x. (r.slot ≤ x.due) × (x.due ≤ r.last)) x (plan r) (plan_due r f) i).0 k

pub member_in : (r : Round) → Fine r → (gs : List Segment) → Picture r gs → (x : Row) → In x (plan r) → Holds r gs x.due
member_in r f gs p x i =
    let u = all_in (λ x. (r.slot ≤ x.due) × (x.due ≤ r.last)) x (plan r) (plan_due r f) i in
    member_at r f (suc r.last) gs p x i (omega (arith, u.1))

-- segments follow one another
pub last_by : (r : Round) (b z : ℕ) (gs : List Segment) → Drawn r b z gs → (g : Segment) → Among g gs → g.last < z
last_by r b z [] p g i = absurd i
last_by r b z (h ∷ hs) p g (inl e) = omega (arith, lies r (suc h.last) z hs p.2, ap (λ (k : Segment). k.last) e)
last_by r b z (h ∷ hs) p g (inr i) = last_by r (suc h.last) z hs p.2 g i

pub first_from : (r : Round) (b z : ℕ) (gs : List Segment) → Drawn r b z gs → (g : Segment) → Among g gs → b ≤ g.first
first_from r b z [] p g i = absurd i
first_from r b z (h ∷ hs) p g (inl e) = omega (arith, p.0, ap (λ (k : Segment). k.first) e)
first_from r b z (h ∷ hs) p g (inr i) = omega (arith, p.0, p.1.spans.by, first_from r (suc h.last) z hs p.2 g i)

-- a picture in two parts, and two parts joined
pub drawn_parts : (r : Round) (b z : ℕ) (gs hs : List Segment) → Drawn r b z (gs ++ hs) → (m : ℕ) × Drawn r b m gs × Drawn r m z hs
drawn_parts r b z [] hs p = (b, refl, p)
drawn_parts r b z (g ∷ gs) hs p =
    let q = drawn_parts r (suc g.last) z gs hs p.2 in
    (q.0, (p.0, p.1, q.1), q.2)

pub drawn_joined : (r : Round) (b m z : ℕ) (gs hs : List Segment) → Drawn r b m gs → Drawn r m z hs → Drawn r b z (gs ++ hs)
drawn_joined r b m z [] hs p q = subst (λ v. Drawn r v z hs) (sym p) q
drawn_joined r b m z (g ∷ gs) hs p q = (p.0, p.1, drawn_joined r (suc g.last) m z gs hs p.2 q)
