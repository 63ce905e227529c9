-- From the plan's segments and the heaviest far row: who goes, and how.
use mathlib.Core.Path.{◌≡◌, sym, ap, ◌∙◌, subst}
use mathlib.Core.Logic.{inl, inr, ◌≢◌}
use mathlib.Core.Bool.{true, false}
use mathlib.Core.List.{List, [], ◌∷◌}
use Prim.Native.Nat.{ℕ, suc, ◌+◌, ◌*◌, ◌≤◌, ◌<◌}
use native.Mathlib.Omega.{arith}
use lib.ListN.{length, get_or}
use Rattle.rules.specs.Rows.{Row, Round, blank, In}
use Rattle.rules.specs.Plan.{plan, planned}
use Rattle.rules.specs.PlanM.{Outside}
use Rattle.rules.specs.Steps.{goes}
use Rattle.rules.specs.Table.{round_in}
use Rattle.theory.specs.Tests.{eqb?}
use Rattle.theory.specs.All.{blank_weight}
use Rattle.theory.specs.Order.{NotOver, heavier_no}
use Rattle.theory.specs.Change.{rising_same}
use Rattle.theory.specs.Index.{each_row}
use Rattle.theory.specs.Keys.{getD_in}
use Rattle.theory.specs.Members.{RowsOfPlan, planned_rows, of_rows_in, of_rows_fine, in_plan_is}
use Rattle.theory.specs.Near.{near_out}
use Rattle.theory.specs.Same.{in_plan?}
use Rattle.theory.specs.Turn.{unsealed_goes}
use Rattle.picture.specs.Picture.{Segment, Heaviest, Among}
use Rattle.picture.specs.Far.{Far}
use Rattle.picture.proofs.Near.{member_near}
use Rattle.picture.specs.Own.{DrawnOwn}
use Rattle.picture.proofs.OwnPick.{own_long, numbered_among}
use Rattle.picture.proofs.LeapSends.{afar_sends, ordinary_sends}
use Rattle.sorts.specs.declared.Round.{Round as Head}
use Rattle.round.specs.Rows.{at}
use Rattle.round.proofs.ReadLaws.{Known, known}
use Rattle.keys.proofs.KeyLaws.{row_fine, weight_is, row_is, some_key, greater_key}
use Rattle.keys.specs.Key.{weight_of, row_of, blank_key}
use Rattle.lead.specs.declared.Lead.{Lead}
use Rattle.segments.specs.Segmented.{Stored}
use Rattle.segments.proofs.SegmentedLaws.{segment_at, count_some, lead_below, lead_right, lead_first, lead_later, lead_end, lead_out, lead_goes, far_goes}
use Rattle.chain.specs.Chain.{start_of, Piece, Pieces}
use Rattle.chain.proofs.MarkLaws.{start_first, start_later}
use Rattle.went.specs.Send.{LeavesAlone}
use Rattle.leap.specs.Leap.{Leaps, LeapsBlank, LeapsRow}
use Rattle.step.specs.Step.{PlannedStep}

-- segments end before z, the last of them just there
own_by : (r : Round) (b z : ℕ) (gs : List Segment) → DrawnOwn r b z gs → (g : Segment) → Among g gs → g.last < z
own_by r b z [] p g i = absurd i
own_by r b z (h ∷ hs) p g (inl e) = omega (arith, own_long r (suc h.last) z hs p.2, ap (λ (k : Segment). k.last) e)
own_by r b z (h ∷ hs) p g (inr i) = own_by r (suc h.last) z hs p.2 g i

end_at : (r : Round) (es ts ls : List ℕ) (b z : ℕ) (gs : List Segment) → DrawnOwn r b z gs → Stored r es ts ls gs → 1 ≤ length gs → suc (get_or es 0 0) ≡ z
end_at r es ts ls b z [] p s h = absurd (omega arith)
end_at r es ts ls b z (g ∷ []) p s h = ap suc s.0.end ∙ p.2
end_at r es ts ls b z (g ∷ k ∷ ks) p s h = end_at r es ts ls (suc g.last) z (k ∷ ks) p.2 s.1 (omega arith)

module _ {t : List ℕ} {h : Head} {es ts ls : List ℕ} {far : ℕ} {l : Lead} (w : PlannedStep t h es ts ls far l) where
  abbrev r : Round
  r = round_in t

  abbrev n : Known t h
  n = known t h w.ready

  abbrev z : ℕ
  z = r.slot + w.free

  abbrev rs : List Row
  rs = planned r

  c : RowsOfPlan (round_in t) (planned (round_in t))
  c = planned_rows r n.fine

  -- THE SEGMENTS by numbers
  begins : (k : ℕ) → (i : k < l.count) → (segment_at r w.free es ts ls l w.segments k i).of.first ≡ start_of r.slot l.count es k
  begins k i =
      let q = segment_at r w.free es ts ls l w.segments k i in
      elim (eqb? (suc k) l.count) [
        | inl a ↦ q.first (a.1 ∙ w.segments.count) ∙ sym (start_first r.slot l.count es k a.1)
        | inr a ↦
            let m = a.1 in
            let j : suc k < l.count = omega (arith, i) in
            q.later (omega (arith, j, w.segments.count)) ∙ sym (start_later r.slot l.count es k j)
      ]

  piece_at : (k : ℕ) → k < l.count → Piece (round_in t) (start_of (round_in t).slot l.count es k) (get_or es k 0) (get_or ts k 0) (get_or ls k 0)
  piece_at k i =
      let q = segment_at r w.free es ts ls l w.segments k i in
      let g = q.of in
      let b = begins k i in
      let e = sym q.holds.end in
      let o = own_by r r.slot z w.segments.segments w.segments.drawn g (numbered_among g k w.segments.segments q.numbered) in
      let m = member_near r n.fine rs c z w.near g.low q.right.low.of.0 (omega (arith, q.right.low.of.2, o)) in
      record {
        spans = rw (b, e) at q.right.spans;
        row = q.holds.top.row;
        below = q.holds.top.there;
        key = q.holds.top.key;
        top = rw (b, e, q.holds.top.is) at q.right.top;
        low = g.low;
        weight = q.holds.low;
        some = omega (arith, q.holds.low, (of_rows_fine r n.fine rs c g.low m).some);
        least = rw (b, e) at q.right.low;
      }

  pieces : Pieces (round_in t) l.count es ts ls
  pieces =
      record {
        some = count_some r w.free es ts ls l w.segments;
        ends = w.segments.ends;
        tops = w.segments.tops;
        lows = w.segments.lows;
        piece = piece_at;
      }

  pub lead_small : l.segment < length es
  lead_small = omega (arith, lead_below r w.free es ts ls l w.segments, w.segments.ends)

  -- FAR ROWS
  far_in : (i : ℕ) → i < length r.rows → z ≤ (at r i).due → In (at r i) rs
  far_in i k d =
      let x = at r i in
      let j = getD_in r.rows (blank 0) i k in
      elim (in_plan? x rs) [
        | inl a ↦ subst (λ (y : Row). In y rs) (rising_same 1 r.next a.1.0 x r.rows n.fine.rising
            (of_rows_in r n.fine rs c a.1.0 a.1.1) j a.1.2) a.1.1
        | inr a ↦ absurd (omega (arith, d, near_out r n.fine rs c z w.near x j a.0))
      ]

  pub far_fits : far ≤ blank_key
  far_fits = elim w.first_far.found [
    | inl a ↦ omega (arith, a)
    | inr a ↦ omega (arith, a.key, (some_key r n.fine n.small n.cap a.row a.below).1)
  ]

  module _ {x : ℕ} (e : x ≡ weight_of far * 39088169) where
    -- THE FAR ROW GOES
    pub far_alone : l.score < x → {j : ℕ} → j ≡ row_of far → LeavesAlone t h true j
    far_alone d {j} q = elim w.first_far.found [
      | inl a ↦ absurd (omega (arith, a, d, e))
      | inr a ↦
          let v = at r a.row in
          let i = far_in a.row a.below a.far in
          let u : Heaviest (Far rs z) v = record {
            of = (i, a.far);
            most = λ y k. each_row (λ y. z ≤ y.due → NotOver y v) (blank 0) r.rows
                (λ m b o. heavier_no (at r m) v (greater_key r n.fine n.small n.cap m a.row b a.below
                (omega (arith, w.first_far.least m b o, a.key))))
                y (of_rows_in r n.fine rs c y k.0) k.1;
          } in
          let wt = ap weight_of a.key ∙ weight_is r n.fine n.small n.cap a.row a.below in
          let b = unsealed_goes r w.unsealed ∙ far_goes r w.free es ts ls l w.segments n.fine n.time rs c w.near v u
          (omega (arith, d, e, ap (λ (k : ℕ). k * 39088169) wt)) in
          let o : j ≡ a.row = q ∙ ap row_of a.key ∙ row_is r n.fine n.small n.cap a.row a.below in
          record {
            ready = w.ready;
            below = omega (arith, o, a.below, n.used);
            sends = rw o (afar_sends r n.fine n.time rs c z w.near v b i a.far);
          }
    ]

    module _ (d : x ≤ l.score) where
      -- THE LEADER GOES
      leader_goes : goes r ≡ w.segments.leader.of.top
      leader_goes =
          unsealed_goes r w.unsealed ∙ lead_goes r w.free es ts ls l w.segments n.fine n.time rs c w.near (λ y k.
          each_row (λ y. z ≤ y.due → y.weight * 39088169 ≤ l.score) (blank 0) r.rows
          (λ m b o.
          let wt = weight_is r n.fine n.small n.cap m b in
          let u : (at r m).weight ≤ weight_of far = omega (arith, w.first_far.least m b o, wt) in
          omega (arith, u, e, d))
          y (of_rows_in r n.fine rs c y k.of.0) k.of.1)

      row_goes : goes r ≡ at r w.segments.leader.key.row
      row_goes = leader_goes ∙ w.segments.leader.key.is

      pub first_alone : l.segment + 1 ≡ l.count → {j : ℕ} → j ≡ row_of l.key → LeavesAlone t h false j
      first_alone q {j} a =
          let k = w.segments.leader.key in
          let v = lead_right r w.free es ts ls l w.segments in
          let g = w.segments.leader.of in
          let i : suc l.segment ≡ l.count = omega (arith, q) in
          let o : j ≡ k.row = a ∙ ap row_of k.key ∙ row_is r n.fine n.small n.cap k.row k.there in
          record {
            ready = w.ready;
            below = omega (arith, o, k.there, n.used);
            sends =
                rw (o, ← k.is) (ordinary_sends r n.fine n.time rs c g.first g.last v.spans g.top leader_goes v.top.of.0 v.top.of.1
                v.top.of.2 (lead_first r w.free es ts ls l w.segments i));
          }

      module _ (q : l.segment + 1 ≢ l.count) where
        is_later : suc l.segment < l.count
        is_later = let b = lead_below r w.free es ts ls l w.segments in omega (arith, b, q)

        first_is : w.segments.leader.of.first ≡ suc (get_or es (suc l.segment) 0)
        first_is = lead_later r w.free es ts ls l w.segments is_later

        leaping : Leaps t h es ts ls l
        leaping =
            let k = w.segments.leader.key in
            let v = (lead_right r w.free es ts ls l w.segments).top.of in
            record {
              ready = w.ready;
              pieces = pieces;
              later = is_later;
              row = k.row;
              below = k.there;
              key = k.key;
              goes = row_goes;
              member = subst (λ (y : Row). In y (plan r)) k.is v.0;
              from = omega (arith, first_is, v.1, ap (λ (y : Row). y.due) k.is);
              by = omega (arith, lead_end r w.free es ts ls l w.segments, v.2, ap (λ (y : Row). y.due) k.is);
            }

        past_now : r.slot < w.segments.leader.of.first
        past_now = let s = (pieces.piece (suc l.segment) is_later).spans in omega (arith, first_is, s.from, s.by)

        pub blank_leaps : l.other ≡ blank_key → LeapsBlank t h es ts ls l
        blank_leaps a =
            let v = (lead_right r w.free es ts ls l w.segments).out in
            record {
              leaps = leaping;
              none = elim (lead_out r w.free es ts ls l w.segments past_now) [
                | inl k ↦ absurd (omega (arith, a, k.key, (some_key r n.fine n.small n.cap k.row k.there).1))
                | inr k ↦ rw (k.0, first_is) at v
              ];
            }

        pub row_leaps : l.other ≢ blank_key → LeapsRow t h es ts ls l
        row_leaps a =
            let v = (lead_right r w.free es ts ls l w.segments).out in
            elim (lead_out r w.free es ts ls l w.segments past_now) [
              | inl k ↦
                  let u : Heaviest (Outside r (suc (get_or es (suc l.segment) 0))) (at r k.row) = rw (k.is, first_is) at v in
                  let y = at r k.row in
                  let j = getD_in r.rows (blank 0) k.row k.there in
                  let s = w.segments in
                  let e0 = end_at r es ts ls r.slot z s.segments s.drawn s.stored (omega (arith, s.count, is_later)) in
                  record {
                    leaps = leaping;
                    row = k.row;
                    below = k.there;
                    key = k.key;
                    left = u;
                    near = elim u.of.1 [
                      | inl o ↦ omega (arith, e0, near_out r n.fine rs c z w.near y j (sym (in_plan_is r n.fine rs c y j) ∙ o.1))
                      | inr o ↦ absurd (omega (arith, blank_weight y o.0, (row_fine r n.fine n.small n.cap k.row k.there).some))
                    ];
                  }
              | inr k ↦ absurd (a k.1)
            ]
