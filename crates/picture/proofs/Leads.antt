-- The segment that leads: its top scores most, the earlier among equals. One pass from the last segment back keeps it. Assumes nothing.
use Rattle.std.specs.Prelude.{◌≡◌, refl, cond, List, [], ◌∷◌, ℕ, suc, ◌≤◌, ◌<◌, leb}
use Rattle.std.proofs.Common.{sym, subst, inl, inr, arith}
use Rattle.rules.specs.Rows.{Row, Round}
use Rattle.rules.specs.Plan.{plan, best}
use Rattle.theory.specs.Tests.{leb?, ltb?}
use Rattle.theory.specs.Order.{not_before_self}
use Rattle.theory.specs.Full.{Fine}
use Rattle.theory.specs.Score.{score_of}
use Rattle.theory.specs.Best.{Beaten, beaten_trans}
use Rattle.picture.specs.Picture.{Segment, Right, Drawn, Picture}
use Rattle.picture.proofs.Places.{member_in, right_of, first_from}
use Rattle.picture.proofs.Substitutes.{score_is}
use Rattle.picture.specs.Pick.{top_score}
use Rattle.picture.proofs.Pick.{top_first, unbeaten_best}
use Rattle.picture.specs.Leads.{Leads}

pub beaten_self : (r : Round) (x : Row) → Beaten r x x
beaten_self r x = inr (refl, not_before_self x)

pub earlier_beaten : (r : Round) (q p : Row) → p.due < q.due → score_of r q ≤ score_of r p → Beaten r q p
earlier_beaten r q p h k = elim (ltb? (score_of r q) (score_of r p)) [ inl a ↦ inl a.1 | inr a ↦ inr (omega (arith, a.1, k), inl h) ]

pub leads_one : (r : Round) (g : Segment) → Leads r (g ∷ []) g
leads_one r g =
    record {
      among = inl refl;
      over = λ h i. elim i [ inl e ↦ subst (λ (k : Segment). Beaten r k.top g.top) (sym e) (beaten_self r g.top) | inr j ↦ absurd j ];
    }

pub leads_next : (r : Round) (h g : Segment) (gs : List Segment) → Leads r gs g → Beaten r g.top h.top → Leads r (h ∷ gs) h
leads_next r h g gs l b =
    record {
      among = inl refl;
      over = λ k i. elim i [
        | inl e ↦ subst (λ (v : Segment). Beaten r v.top h.top) (sym e) (beaten_self r h.top)
        | inr j ↦ beaten_trans r k.top g.top h.top (l.over k j) b
      ];
    }

pub leads_still : (r : Round) (h g : Segment) (gs : List Segment) → Leads r gs g → Beaten r h.top g.top → Leads r (h ∷ gs) g
leads_still r h g gs l b =
    record {
      among = inr l.among;
      over = λ k i. elim i [ inl e ↦ subst (λ (v : Segment). Beaten r v.top g.top) (sym e) b | inr j ↦ l.over k j ];
    }

module _ (r : Round) (f : Fine r) where
  pub score_top : (g : Segment) → Right r g → score_of r g.top ≡ top_score r g
  score_top g w = let t = w.top.of in score_is r f g w g.top t.0 t.1 t.2

  -- ONE SEGMENT MORE, before the others: it leads from an equal score on
  pub leads_back : (b z : ℕ) (h : Segment) (gs : List Segment) → Drawn r b z (h ∷ gs) → (g : Segment) → Leads r gs g →
      Leads r (h ∷ gs) (cond (leb (top_score r g) (top_score r h)) h g)
  leads_back b z h gs p g l =
      let w = right_of r (suc h.last) z gs p.2 g l.among in
      let d = first_from r (suc h.last) z gs p.2 g l.among in
      elim (leb? (top_score r g) (top_score r h)) [
        | inl a ↦ rw a.0 (leads_next r h g gs l (earlier_beaten r g.top h.top (omega (arith, d, p.1.top.of.2, w.top.of.1))
            (omega (arith, a.1, score_top g w, score_top h p.1))))
        | inr a ↦ rw a.0 (leads_still r h g gs l (inl (omega (arith, a.1, score_top g w, score_top h p.1))))
      ]

  -- THE PICK is the top of the one that leads
  pub leads_pick : r.slot ≤ r.last → (gs : List Segment) → Picture r gs → (g : Segment) → Leads r gs g → best r (plan r) ≡ g.top
  leads_pick o gs p g l =
      unbeaten_best r f o g.top (right_of r r.slot _ gs p g l.among).top.of.0 (λ q j.
      let h = member_in r f gs p q j in
      beaten_trans r q h.of.top g.top (top_first r f h.of h.right q j h.from h.by) (l.over h.of h.among))
