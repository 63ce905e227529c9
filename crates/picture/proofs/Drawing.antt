-- Every plan has a picture: one segment after another, each field by one pass over the plan or the rows. Assumes nothing.
use Rattle.std.specs.Prelude.{◌≡◌, refl, Bool, true, ◌&&◌, cond, List, [], ◌∷◌, leb}
use Rattle.std.proofs.Common.{sym, subst, le-leb, leb-true}
use Rattle.std.proofs.Math.Logic.{inl, inr}
use Prim.Native.Nat.{ℕ, zero, suc, ◌+◌, ◌-◌, ◌≤◌}
use native.Mathlib.Omega.{arith}
use Rattle.rules.specs.Rows.{Row, Round, blank, slots_left, heavier}
use Rattle.rules.specs.Plan.{plan, tight_after, lightest_by, heaviest_outside}
use Rattle.rules.specs.PlanM.{Outside}
use Rattle.theory.specs.Tests.{leb?, and_true}
use Rattle.theory.specs.All.{all_in, blank_is, due_of_blank}
use Rattle.theory.specs.Order.{NotOver, not_over_self, not_over_trans, over_not, over_absurd, heavier_yes, heavier_no}
use Rattle.theory.specs.Feas.{num}
use Rattle.theory.specs.Full.{Fine, plan_feas, plan_full}
use Rattle.theory.specs.Marks.{next}
use Rattle.theory.specs.Send.{between_count}
use Rattle.theory.specs.Top.{Top, top_pick, and_false, lightest, LeftFrom, outside_top}
use Rattle.theory.specs.Picks.{later_blank_lighter, earlier_over_blank}
use Rattle.picture.proofs.Alone.{drawn_same}
use Rattle.picture.specs.Picture.{Segment, segment, Spans, Heaviest, Lightest, Within, By, Right, Drawn, Picture}
use Rattle.picture.specs.Drawing.{heaviest_within, segment_at, picture_from, picture_of}

pub within_top : (b e : ℕ) (xs : List Row) (x : Row) → Top (λ y. (b ≤ y.due) × (y.due ≤ e)) NotOver x xs (heaviest_within b e xs x)
unfolding heaviest_within
within_top b e [] x = record { found = inl refl; first = not_over_self x; most = tt }
within_top b e (y ∷ ys) x =
    top_pick (λ y. (b ≤ y.due) × (y.due ≤ e)) NotOver not_over_trans ((leb b y.due && leb y.due e) && heavier y x) y x ys
    (heaviest_within b e ys (cond ((leb b y.due && leb y.due e) && heavier y x) y x))
    (λ q.
    let c = and_true (leb b y.due && leb y.due e) (heavier y x) q in
    let d = and_true (leb b y.due) (leb y.due e) c.0 in
    ((leb-true b y.due d.0, leb-true y.due e d.1), over_not y x (heavier_yes y x c.1)))
    (λ q h. heavier_no y x (and_false (leb b y.due && leb y.due e) (heavier y x) q (both (le-leb b y.due h.0) (le-leb y.due e h.1))))
    (within_top b e ys (cond ((leb b y.due && leb y.due e) && heavier y x) y x))
  where
    both : {c d : Bool} → c ≡ true → d ≡ true → (c && d) ≡ true
    both e g = rw (e, g)

pub first_is : (r : Round) (b : ℕ) → (segment_at r b).first ≡ b
unfolding segment_at segment
first_is r b = refl

module _ (r : Round) (f : Fine r) where
  pub top_found : (b e : ℕ) (y : Row) → Within (plan r) b e y → Heaviest (Within (plan r) b e) (heaviest_within b e (plan r) (blank (suc e)))
  top_found b e y w =
      let x = heaviest_within b e (plan r) (blank (suc e)) in
      let t = within_top b e (plan r) (blank (suc e)) in
      let n : (z : Row) → Within (plan r) b e z → NotOver z x = λ z v.
      all_in (λ z. (b ≤ z.due) × (z.due ≤ e) → NotOver z x) z (plan r) t.most v.0 (v.1, v.2) in
      record {
        of = elim t.found [
          | inl q ↦ absurd (over_absurd y (blank (suc e)) (earlier_over_blank (suc e) y (omega (arith, w.2))) (subst (λ (z : Row). NotOver y z) q (n y w)))
          | inr i ↦ (i.0, i.1.0, i.1.1)
        ];
        most = n;
      }

  pub low_found : (e : ℕ) (y : Row) → By (plan r) e y → Lightest (By (plan r) e) (lightest_by e (plan r) y)
  low_found e y w =
      let x = lightest_by e (plan r) y in
      let t = lightest e (plan r) y in
      record {
        of = elim t.found [ inl q ↦ subst (λ (z : Row). By (plan r) e z) (sym q) w | inr i ↦ i ];
        least = λ z v. all_in (λ z. z.due ≤ e → NotOver x z) z (plan r) t.most v.0 v.1;
      }

  pub out_found : (b : ℕ) → b ≤ r.last → Heaviest (Outside r b) (heaviest_outside b r.rows (plan r) (blank b))
  out_found b h =
      let x = heaviest_outside b r.rows (plan r) (blank b) in
      let t = outside_top b (plan r) r.rows (blank b) in
      record {
        of = elim t.found [
          | inl q ↦ subst (λ (z : Row). Outside r b z) (sym q) (omega (arith, due_of_blank b), inr (blank_is b, omega (arith, due_of_blank b, h)))
          | inr i ↦ (i.1.0, inl (i.0, i.1.1))
        ];
        most = λ z o. elim o.1 [
          | inl a ↦ all_in (λ y. LeftFrom b (plan r) y → NotOver y x) z r.rows t.most a.0 (o.0, a.1)
          | inr a ↦ not_over_trans z (blank b) x (later_blank_lighter b z a.0 o.0) t.first
        ];
      }

  pub spans_at : (b : ℕ) → r.slot ≤ b → b ≤ r.last → num 0 b (plan r) ≡ b - r.slot → Spans r b (tight_after r (plan r) b)
  spans_at b h k e =
      let n = next r (plan r) b k (plan_full r f) in
      record { from = h; by = n.from; ahead = n.by; edge = e; tight = n.tight; none = n.first }

  pub right_at : (b : ℕ) → r.slot ≤ b → b ≤ r.last → num 0 b (plan r) ≡ b - r.slot → Right r (segment_at r b)
  unfolding segment_at segment
  right_at b h k q =
      let e = tight_after r (plan r) b in
      let s = spans_at b h k q in
      let y = between_count b (suc e) (plan r) (omega (arith, q, s.tight, s.by, h)) in
      let t = top_found b e y.0 (y.1, y.2, omega (arith, y.3)) in
      record {
        spans = s;
        top = t;
        low = low_found e (heaviest_within b e (plan r) (blank (suc e))) (t.of.0, t.of.2);
        out = out_found b k;
      }

  pub drawn_right : (n b : ℕ) → r.slot ≤ b → b ≤ suc r.last → suc r.last ≤ b + n → num 0 b (plan r) ≡ b - r.slot →
      Drawn r b (suc r.last) (picture_from n r b)
  unfolding picture_from
  drawn_right zero b h k l e = omega arith
  drawn_right (suc n) b h k l e = elim (leb? b r.last) [
    | inl a ↦
        let w = right_at b h a.1 e in
        let s = w.spans in
        rw a.0 (
          first_at,
          w,
          drawn_right n (suc (segment_at r b).last) (omega (arith, s.from, s.by)) (omega (arith, s.ahead)) (omega (arith, l, first_at, s.by)) s.tight,
        )
    | inr a ↦ rw a.0 (omega (arith, a.1, k))
  ]
    where
      first_at : (segment_at r b).first ≡ b
      first_at = first_is r b

  -- THERE IS A PICTURE
  pub picture_right : Picture r (picture_of r)
  unfolding picture_of slots_left
  picture_right =
      drawn_right (suc r.last - r.slot) r.slot (omega arith) f.time (omega (arith, f.time))
      (omega (arith, plan_feas r f r.slot (omega arith) f.time))

  -- and no other
  pub picture_alone : (gs : List Segment) → Picture r gs → gs ≡ picture_of r
  picture_alone gs p = drawn_same r f r.slot (suc r.last) gs (picture_of r) p picture_right
