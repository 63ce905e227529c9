-- What the segments in arrays tell: each by its number, and who goes.
use mathlib.Core.Path.{◌≡◌, refl, sym, ap, ◌∙◌, subst}
use mathlib.Core.Logic.{inl, inr}
use mathlib.Core.List.{List, [], ◌∷◌}
use Prim.Native.Nat.{ℕ, suc, ◌+◌, ◌*◌, ◌≤◌, ◌<◌}
use native.Mathlib.Omega.{arith}
use lib.ListN.{length, get_or}
use Rattle.rules.specs.Rows.{Row, Round}
use Rattle.rules.specs.Plan.{plan, best}
use Rattle.theory.specs.Tests.{eqb?}
use Rattle.theory.specs.Full.{Fine}
use Rattle.theory.specs.Members.{RowsOfPlan}
use Rattle.theory.specs.Near.{Near}
use Rattle.picture.specs.Picture.{Segment, Heaviest}
use Rattle.picture.proofs.Substitutes.{stand_in_later}
use Rattle.picture.specs.Far.{Far}
use Rattle.picture.specs.Own.{RightOwn, DrawnOwn, Numbered}
use Rattle.picture.proofs.OwnPick.{right_own_of, numbered_among, own_leader, own_far}
use Rattle.lead.specs.declared.Lead.{Lead}
use Rattle.segments.specs.Segmented.{Named, HoldsSegment, Stored, Segmented}

-- SEGMENT k of those from slot b on: the first has the greatest number, each other begins behind the end with the next number
pub record NumberedAt (r : Round) (es ts ls : List ℕ) (b : ℕ) (gs : List Segment) (k : ℕ) : Type 0 where
  pub of : Segment
  pub numbered : Numbered of k gs
  pub right : RightOwn r of
  pub holds : HoldsSegment r es ts ls of k
  pub first : suc k ≡ length gs → of.first ≡ b
  pub later : suc k < length gs → of.first ≡ suc (get_or es (suc k) 0)

pub numbered_at : (r : Round) (es ts ls : List ℕ) (b z : ℕ) (gs : List Segment) → DrawnOwn r b z gs → Stored r es ts ls gs → (k : ℕ) → k < length gs →
    NumberedAt r es ts ls b gs k
numbered_at r es ts ls b z [] p s k h = absurd (omega arith)
numbered_at r es ts ls b z (g ∷ gs) p s k h = elim (eqb? k (length gs)) [
  | inl a ↦ record {
    of = g;
    numbered = inl (refl, a.1);
    right = p.1;
    holds = subst (HoldsSegment r es ts ls g) (sym a.1) s.0;
    first = λ e. p.0;
    later = λ l. absurd (omega (arith, a.1, l));
  }
  | inr a ↦
      let m = a.1 in
      behind (numbered_at r es ts ls (suc g.last) z gs p.2 s.1 k (omega (arith, h))) m
]
  where
    behind : NumberedAt r es ts ls (suc g.last) gs k → (k ≡ length gs → ⊥) → NumberedAt r es ts ls b (g ∷ gs) k
    behind q m =
        record {
          of = q.of;
          numbered = inr q.numbered;
          right = q.right;
          holds = q.holds;
          first = λ e. absurd (m (omega (arith, e)));
          later = λ l. elim (eqb? (suc k) (length gs)) [
            | inl a ↦ q.first a.1 ∙ ap suc (sym (ap (λ (j : ℕ). get_or es j 0) a.1 ∙ s.0.end))
            | inr a ↦ let n = a.1 in q.later (omega (arith, l))
          ];
        }

-- a number has one segment
pub numbered_below : (g : Segment) (k : ℕ) (gs : List Segment) → Numbered g k gs → k < length gs
numbered_below g k [] i = absurd i
numbered_below g k (h ∷ hs) (inl e) = omega (arith, e.1)
numbered_below g k (h ∷ hs) (inr i) = omega (arith, numbered_below g k hs i)

pub numbered_one : (g h : Segment) (k : ℕ) (gs : List Segment) → Numbered g k gs → Numbered h k gs → g ≡ h
numbered_one g h k [] i j = absurd i
numbered_one g h k (x ∷ xs) (inl d) (inl e) = d.0 ∙ sym e.0
numbered_one g h k (x ∷ xs) (inl d) (inr j) = absurd (omega (arith, d.1, numbered_below h k xs j))
numbered_one g h k (x ∷ xs) (inr i) (inl e) = absurd (omega (arith, e.1, numbered_below g k xs i))
numbered_one g h k (x ∷ xs) (inr i) (inr j) = numbered_one g h k xs i j

module _ (r : Round) (n : ℕ) (es ts ls : List ℕ) (l : Lead) (s : Segmented r n es ts ls l) where
  -- THE SEGMENT WITH A NUMBER
  pub segment_at : (k : ℕ) → k < l.count → NumberedAt r es ts ls r.slot s.segments k
  segment_at k h = numbered_at r es ts ls r.slot (r.slot + n) s.segments s.drawn s.stored k (omega (arith, h, s.count))

  pub count_some : 1 ≤ l.count
  count_some = omega (arith, s.count, numbered_below s.leader.of l.segment s.segments s.leader.numbered)

  -- THE LEADER is the one with its number: the first, or a later one
  pub lead_below : l.segment < l.count
  lead_below = omega (arith, s.count, numbered_below s.leader.of l.segment s.segments s.leader.numbered)

  pub lead_right : RightOwn r s.leader.of
  lead_right =
      right_own_of r r.slot (r.slot + n) s.segments s.drawn s.leader.of
      (numbered_among s.leader.of l.segment s.segments s.leader.numbered)

  lead_is : (segment_at l.segment lead_below).of ≡ s.leader.of
  lead_is =
      let q = segment_at l.segment lead_below in
      numbered_one q.of s.leader.of l.segment s.segments q.numbered s.leader.numbered

  pub lead_first : suc l.segment ≡ l.count → s.leader.of.first ≡ r.slot
  lead_first e =
      ap (λ (g : Segment). g.first) (sym lead_is) ∙ (segment_at l.segment lead_below).first (e ∙ s.count)

  pub lead_later : suc l.segment < l.count → s.leader.of.first ≡ suc (get_or es (suc l.segment) 0)
  lead_later h =
      ap (λ (g : Segment). g.first) (sym lead_is) ∙ (segment_at l.segment lead_below).later (omega (arith, h, s.count))

  pub lead_end : get_or es l.segment 0 ≡ s.leader.of.last
  lead_end = (segment_at l.segment lead_below).holds.end ∙ ap (λ (g : Segment). g.last) lead_is

  -- its substitute, behind the first one: who is outside
  pub lead_out : r.slot < s.leader.of.first → Named r s.leader.of.first s.leader.of.out l.other
  lead_out h =
      subst (λ (x : Row). Named r s.leader.of.first x l.other) (stand_in_later r s.leader.of h) s.leader.other

  module _ (f : Fine r) where
    -- WHO GOES: the leader's top, unless the heaviest far row scores more
    module _ (o : r.slot ≤ r.last) (rs : List Row) (c : RowsOfPlan r rs) (k : Near r (r.slot + n)) where
      pub lead_goes : ((x : Row) → Heaviest (Far rs (r.slot + n)) x → x.weight * 39088169 ≤ l.score) → best r (plan r) ≡ s.leader.of.top
      lead_goes h =
          own_leader r f o rs c (r.slot + n) k s.segments s.drawn s.leader.of s.leader.leads
          (λ x y. omega (arith, h x y, s.leader.score))

      pub far_goes : (x : Row) → Heaviest (Far rs (r.slot + n)) x → l.score < x.weight * 39088169 → best r (plan r) ≡ x
      far_goes x y h =
          own_far r f o rs c (r.slot + n) k s.segments s.drawn s.leader.of s.leader.leads x y (omega (arith, h, s.leader.score))
