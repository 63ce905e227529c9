-- The segments behind the open one, and one more of them.
use mathlib.Core.Path.{◌≡◌, refl, sym, ap, ◌∙◌, subst}
use mathlib.Core.Logic.{◌⊎◌, inl, inr}
use mathlib.Core.Bool.{Bool, true, false, cond}
use mathlib.Core.List.{List, [], ◌∷◌}
use Prim.Native.Nat.{ℕ, suc, ◌≤◌, ◌<◌}
use native.Mathlib.Omega.{arith}
use lib.Dec.{leb}
use lib.ListN.{length, get_or, set}
use lib.Seq.{get_or-set_same, get_or-set_other}
use borrow.Author.Tests.{leb-true, leb-false}
use Rattle.rules.specs.Rows.{Row, Round, blank}
use Rattle.rules.specs.PlanM.{score}
use Rattle.theory.specs.Tests.{leb?, both_ways}
use Rattle.theory.specs.All.{blank_weight, blank_is}
use Rattle.theory.specs.Full.{Fine}
use Rattle.keys.specs.Key.{weight_of}
use Rattle.keys.proofs.KeyLaws.{weight_is}
use Rattle.picture.specs.Picture.{Segment}
use Rattle.picture.specs.Substitutes.{stand_in}
use Rattle.picture.specs.Pick.{top_score}
use Rattle.picture.specs.Leads.{Leads}
use Rattle.picture.proofs.Leads.{leads_one}
use Rattle.picture.specs.Own.{DrawnOwn}
use Rattle.picture.proofs.OwnPick.{leads_own}
use Rattle.lead.specs.Closed.{closed}
use Rattle.lead.specs.declared.Lead.{Lead}
use Rattle.segments.specs.Segmented.{Keyed, Named, Stored, Leader}
use Rattle.segments.proofs.MadeLaws.{Made}

-- THE SEGMENTS of the slots from b on and before z; none leads where there are none
pub record Behind (r : Round) (b z : ℕ) (es ts ls : List ℕ) (l : Lead) : Type 0 where
  pub segments : List Segment
  pub drawn : DrawnOwn r b z segments
  pub count : l.count ≡ length segments
  pub stored : Stored r es ts ls segments
  pub leader : ((segments ≡ []) × (l.score ≡ 0)) ⊎ Leader r segments l

-- the weight that a key tells
module _ (r : Round) (f : Fine r) (small : length r.rows ≤ 1024) (cap : r.last ≤ 4095) where
  pub keyed_weight : (x : Row) (k : ℕ) → Keyed r x k → weight_of k ≡ x.weight
  keyed_weight x k w =
      ap weight_of w.key ∙ weight_is r f small cap w.row w.there ∙ ap (λ (y : Row). y.weight) (sym w.is)

  pub named_weight : (b : ℕ) (x : Row) (k : ℕ) → Named r b x k → weight_of k ≡ x.weight
  named_weight b x k (inl w) = keyed_weight x k w
  named_weight b x k (inr (e, d)) =
      ap weight_of d ∙ sym (ap (λ (y : Row). y.weight) e ∙ blank_weight (blank b) (blank_is b))

  -- WHO LEADS with one segment more before them
  leads_first : (b z : ℕ) (h : Segment) (gs : List Segment) → DrawnOwn r b z (h ∷ gs) → (g : Segment) → Leads r gs g → top_score r g ≤ top_score r h →
      Leads r (h ∷ gs) h
  leads_first b z h gs p g l k = elim (leb? (top_score r g) (top_score r h)) [
    | inl a ↦ subst (λ (t : Bool). Leads r (h ∷ gs) (cond t h g)) a.0 (leads_own r f b z h gs p g l)
    | inr a ↦ absurd (omega (arith, k, a.1))
  ]

  leads_stay : (b z : ℕ) (h : Segment) (gs : List Segment) → DrawnOwn r b z (h ∷ gs) → (g : Segment) → Leads r gs g → top_score r h < top_score r g →
      Leads r (h ∷ gs) g
  leads_stay b z h gs p g l k = elim (leb? (top_score r g) (top_score r h)) [
    | inl a ↦ absurd (omega (arith, k, a.1))
    | inr a ↦ subst (λ (t : Bool). Leads r (h ∷ gs) (cond t h g)) a.0 (leads_own r f b z h gs p g l)
  ]

pub closed_count : (l : Lead) (heavy other : ℕ) → (closed l heavy other).count ≡ suc l.count
unfolding closed
closed_count l h o =
    both_ways (λ (v : Lead). v.count ≡ suc l.count) (leb l.score (score (weight_of h) (weight_of o)))
    (record { count = suc l.count; score = score (weight_of h) (weight_of o); key = h; segment = l.count; other = o })
    (record { count = suc l.count; score = l.score; key = l.key; segment = l.segment; other = l.other })
    (λ e. refl) (λ e. refl)

-- what is stored stays, below the next number
stored_set : (r : Round) (es ts ls : List ℕ) (gs : List Segment) (k a t w : ℕ) → length gs ≤ k → Stored r es ts ls gs →
    Stored r (set es k a) (set ts k t) (set ls k w) gs
stored_set r es ts ls [] k a t w h s = s
stored_set r es ts ls (g ∷ gs) k a t w h s =
    let n : length gs ≡ k → ⊥ = λ e. omega (arith, e, h) in (
      record {
        end = get_or-set_other es k (length gs) a 0 n ∙ s.0.end;
        top = subst (Keyed r g.top) (sym (get_or-set_other ts k (length gs) t 0 n)) s.0.top;
        low = get_or-set_other ls k (length gs) w 0 n ∙ s.0.low;
      },
      stored_set r es ts ls gs k a t w (omega (arith, h)) s.1,
    )

module _ (r : Round) (f : Fine r) (small : length r.rows ≤ 1024) (cap : r.last ≤ 4095) (z b end heavy light out other : ℕ)
    (m : Made r b end heavy light out) (es ts ls : List ℕ) (l : Lead) (w : Behind r (suc end) z es ts ls l) where
  next_drawn : DrawnOwn r b z (m.of ∷ w.segments)
  next_drawn = (m.first, m.right, subst (λ v. DrawnOwn r v z w.segments) (sym (ap suc m.last)) w.drawn)

  next_stored : l.count < length es → l.count < length ts → l.count < length ls →
      Stored r (set es l.count end) (set ts l.count heavy) (set ls l.count (weight_of light)) (m.of ∷ w.segments)
  next_stored a c d = (
    record {
      end = ap (λ k. get_or (set es l.count end) k 0) (sym w.count) ∙ get_or-set_same es l.count end 0 a ∙ sym m.last;
      top = subst (Keyed r m.of.top)
          (sym (ap (λ k. get_or (set ts l.count heavy) k 0) (sym w.count) ∙ get_or-set_same ts l.count heavy 0 c)) m.top;
      low = ap (λ k. get_or (set ls l.count (weight_of light)) k 0) (sym w.count) ∙ get_or-set_same ls l.count (weight_of light) 0 d
          ∙ keyed_weight r f small cap m.of.low light m.low;
    },
    stored_set r es ts ls w.segments l.count end heavy (weight_of light) (omega (arith, w.count)) w.stored,
  )

  -- ONE SEGMENT CLOSED
  module _ (o : Named r b (stand_in r m.of) other) where
    its_score : score (weight_of heavy) (weight_of other) ≡ top_score r m.of
    its_score =
        ap (λ (v : ℕ). score v (weight_of other)) (keyed_weight r f small cap m.of.top heavy m.top)
        ∙ ap (λ (v : ℕ). score m.of.top.weight v) (named_weight r f small cap b (stand_in r m.of) other o)

    its_name : Named r m.of.first (stand_in r m.of) other
    its_name = subst (λ v. Named r v (stand_in r m.of) other) (sym m.first) o

    next_leader : Leader r (m.of ∷ w.segments) (closed l heavy other)
    unfolding closed
    next_leader =
        both_ways (Leader r (m.of ∷ w.segments)) (leb l.score (score (weight_of heavy) (weight_of other)))
        (record { count = suc l.count; score = score (weight_of heavy) (weight_of other); key = heavy; segment = l.count; other = other })
        (record { count = suc l.count; score = l.score; key = l.key; segment = l.segment; other = l.other })
        taken stays
      where
        taken : leb l.score (score (weight_of heavy) (weight_of other)) ≡ true → Leader r (m.of ∷ w.segments)
            (record { count = suc l.count; score = score (weight_of heavy) (weight_of other); key = heavy; segment = l.count; other = other })
        taken e =
            record {
              of = m.of;
              numbered = inl (refl, w.count);
              leads = elim w.leader [
                | inl n ↦ subst (λ (gs : List Segment). Leads r (m.of ∷ gs) m.of) (sym n.0) (leads_one r m.of)
                | inr y ↦ leads_first r f small cap b z m.of w.segments next_drawn y.of y.leads
                    (omega (arith, leb-true l.score (score (weight_of heavy) (weight_of other)) e, y.score, its_score))
              ];
              score = its_score;
              key = m.top;
              other = its_name;
            }

        stays : leb l.score (score (weight_of heavy) (weight_of other)) ≡ false → Leader r (m.of ∷ w.segments)
            (record { count = suc l.count; score = l.score; key = l.key; segment = l.segment; other = l.other })
        stays e = elim w.leader [
          | inl n ↦ absurd (omega (arith, n.1, leb-false l.score (score (weight_of heavy) (weight_of other)) e))
          | inr y ↦ record {
            of = y.of;
            numbered = inr y.numbered;
            leads = leads_stay r f small cap b z m.of w.segments next_drawn y.of y.leads
                (omega (arith, leb-false l.score (score (weight_of heavy) (weight_of other)) e, y.score, its_score));
            score = y.score;
            key = y.key;
            other = y.other;
          }
        ]

    pub behind_next : l.count < length es → l.count < length ts → l.count < length ls →
        Behind r b z (set es l.count end) (set ts l.count heavy) (set ls l.count (weight_of light)) (closed l heavy other)
    behind_next a c d =
        record {
          segments = m.of ∷ w.segments;
          drawn = next_drawn;
          count = closed_count l heavy other ∙ ap suc w.count;
          stored = next_stored a c d;
          leader = inr next_leader;
        }
