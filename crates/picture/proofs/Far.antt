-- The pick from segments up to where rows fill every slot, and from the heaviest row due later: far rows have no substitute. Assumes nothing.
use Rattle.std.specs.Prelude.{◌≡◌, List, ℕ, ◌*◌, ◌≤◌, ◌<◌}
use Rattle.std.proofs.Common.{inl, inr, arith}
use Rattle.rules.specs.Rows.{Row, Round, In}
use Rattle.rules.specs.Plan.{plan, best}
use Rattle.theory.specs.Tests.{ltb?}
use Rattle.theory.specs.Order.{NotOver}
use Rattle.theory.specs.Full.{Fine}
use Rattle.theory.specs.Members.{RowsOfPlan, of_rows_in, of_rows_fine, found_member}
use Rattle.theory.specs.Near.{Near, far_score}
use Rattle.theory.specs.Best.{Beaten, beaten_trans, beaten_both, best_goes, best_row}
use Rattle.picture.specs.Picture.{Segment, Drawn, Among, Heaviest}
use Rattle.picture.proofs.One.{same_one, member_known}
use Rattle.picture.proofs.Places.{holds, right_of, last_by}
use Rattle.picture.proofs.Substitutes.{score_is}
use Rattle.picture.specs.Pick.{top_score}
use Rattle.picture.proofs.Pick.{beaten_due, under_beaten, top_first}
use Rattle.picture.specs.Leads.{Leads}
use Rattle.picture.proofs.Leads.{earlier_beaten}
use Rattle.picture.proofs.Near.{member_near}
use Rattle.picture.specs.Far.{Far}

module _ (r : Round) (f : Fine r) (o : r.slot ≤ r.last) (rs : List Row) (c : RowsOfPlan r rs) (z : ℕ) (k : Near r z) where
  -- among far rows to go first is to be the heaviest
  pub far_lighter : (q p : Row) → Far rs z q → Far rs z p → Beaten r q p → NotOver q p
  far_lighter q p i j (inl h) = inl (omega (arith, h, far_score r f rs c z k o q i.0 i.1, far_score r f rs c z k o p j.0 j.1))
  far_lighter q p i j (inr (e, inl h)) =
      inr (omega (arith, e, far_score r f rs c z k o q i.0 i.1, far_score r f rs c z k o p j.0 j.1), inl h)
  far_lighter q p i j (inr (e, inr h)) = h.1

  -- THE PICK: a row of the plan that no top goes before, nor the heaviest far row
  pub pick_near : (gs : List Segment) → Drawn r r.slot z gs → (t : Row) → In t rs → ((h : Segment) → Among h gs → Beaten r h.top t) →
      ((x : Row) → Heaviest (Far rs z) x → Beaten r x t) → best r (plan r) ≡ t
  pick_near gs p t i near far =
      let x = best r (plan r) in
      let g = best_goes r f o in
      let j = best_row r f o rs c t (of_rows_in r f rs c t i) in
      let m = found_member r f rs c t i in
      let b : Beaten r x t = elim (ltb? x.due z) [
        | inl a ↦
            let h = holds r r.slot z gs p x.due (of_rows_fine r f rs c x j).due_from a.1 in
            beaten_trans r x h.of.top t (top_first r f h.of h.right x g.inside h.from h.by) (near h.of h.among)
        | inr a ↦ far x (record {
          of = (j, a.1);
          most = λ q l. far_lighter q x l (j, a.1) (g.first q (found_member r f rs c q l.0));
        })
      ] in
      same_one r f x t (member_known r f x g.inside) (member_known r f t m) (beaten_both r x t b (g.first t m)) (beaten_due r x t b (g.first t m))

  pub far_under : (q x : Row) → Far rs z q → Far rs z x → NotOver q x → Beaten r q x
  far_under q x i j n =
      under_beaten r q x 0 (omega (arith, far_score r f rs c z k o q i.0 i.1)) (omega (arith, far_score r f rs c z k o x j.0 j.1)) n

  -- THE LEADER goes unless the heaviest far row scores more
  pub pick_leader : (gs : List Segment) → Drawn r r.slot z gs → (g : Segment) → Leads r gs g →
      ((x : Row) → Heaviest (Far rs z) x → x.weight * 39088169 ≤ top_score r g) → best r (plan r) ≡ g.top
  pick_leader gs p g l h =
      let w = right_of r r.slot z gs p g l.among in
      let t = w.top.of in
      let b = last_by r r.slot z gs p g l.among in
      let s = score_is r f g w g.top t.0 t.1 t.2 in
      pick_near gs p g.top (member_near r f rs c z k g.top t.0 (omega (arith, b, t.2))) l.over (λ x y.
      earlier_beaten r x g.top (omega (arith, b, t.2, y.of.1)) (omega (arith, h x y, s, far_score r f rs c z k o x y.of.0 y.of.1)))

  pub pick_far : (gs : List Segment) → Drawn r r.slot z gs → (x : Row) → Heaviest (Far rs z) x →
      ((h : Segment) → Among h gs → top_score r h < x.weight * 39088169) → best r (plan r) ≡ x
  pick_far gs p x y n =
      pick_near gs p x y.of.0
      (λ h i.
      let w = right_of r r.slot z gs p h i in
      let t = w.top.of in
      inl (omega (arith, n h i, score_is r f h w h.top t.0 t.1 t.2, far_score r f rs c z k o x y.of.0 y.of.1)))
      (λ q u. far_under q x u.of y.of (y.most q u.of))
