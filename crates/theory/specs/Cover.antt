-- Four ways cover every unsealed round, since what each asks for can be found: some_sweep, some_lead, some_segment, some_sends.
use Rattle.std.specs.Prelude.{◌≡◌, ◌≢◌, Bool, true, false, List, ℕ, zero, suc, ◌+◌, ◌-◌, ◌≤◌, ◌<◌}
use Rattle.std.proofs.Common.{sym, ap, ◌∙◌, subst, inl, inr, arith}
use Rattle.rules.specs.Rows.{Row, Round, blank, In}
use Rattle.rules.specs.Plan.{plan, in_plan, tight_after, segment_start, first_end, substitute, best, heaviest_outside, lightest_by}
use Rattle.theory.specs.Tests.{ltb?}
use Rattle.theory.specs.All.{all_in, blank_weight, blank_is}
use Rattle.theory.specs.Order.{NotOver, not_over_weight, not_before_canonical}
use Rattle.theory.specs.Feas.{num}
use Rattle.theory.specs.Bounds.{RowFine}
use Rattle.theory.specs.Full.{Fine, plan_feas, plan_full}
use Rattle.theory.specs.Marks.{TightIn, next, Start, start}
use Rattle.theory.specs.Members.{RowsOfPlan, of_rows_fine, found_member, in_plan_is}
use Rattle.theory.specs.Top.{lightest, LeftFrom, outside_top}
use Rattle.theory.specs.Substitute.{later_is, later?, LaterSub}
use Rattle.theory.specs.Best.{Beaten, IsBest, best_goes, best_row}
use Rattle.theory.specs.Chain.{some_chain}
use Rattle.theory.specs.Near.{Near, near_out, near_after, near_tight_is, near_is_tight, rows_feas}
use Rattle.theory.specs.Count.{Sweep, sweep_start, sweep_more, sweep_idle}
use Rattle.theory.specs.Segments.{Segment, later_segment}
use Rattle.theory.specs.Lead.{Behind, Leads}
use Rattle.theory.specs.Whole.{Sends, sends_first, sends_far, sends_kept, sends_row}

-- the sweep always ends
pub some_sweep : (F : ℕ → ℕ) → ((s : ℕ) → F s ≤ F (suc s)) → (m n s : ℕ) → s + n ≡ m → (q : ℕ) × (z : ℕ) × Sweep F m s q z
some_sweep F h m zero s e = let d : m ≡ s = omega (arith, e) in (0, m, subst (λ (v : ℕ). Sweep F m v 0 m) d (sweep_start F m))
some_sweep F h m (suc n) s e =
    let w = some_sweep F h m n (suc s) (omega (arith, e)) in
    let g : F (suc s) ≡ F s + (F (suc s) - F s) = omega (arith, h s) in
    elim (ltb? 0 (w.0 + (F (suc s) - F s))) [
      | inl a ↦ (w.0 + (F (suc s) - F s) - 1, w.1, sweep_more F m s w.0 w.1 (F (suc s) - F s) w.2 g a.1)
      | inr a ↦ (0, s, sweep_idle F m s w.0 w.1 (F (suc s) - F s) w.2 g (omega (arith, a.1)))
    ]

module _ (r : Round) (f : Fine r) (o : r.slot ≤ r.last) (rs : List Row) (c : RowsOfPlan r rs) where
  -- a leader
  pub some_lead : (x : Row) → In x r.rows → Leads r rs r.slot (best r (plan r))
  some_lead x i =
      let g : IsBest r (best r (plan r)) = best_goes r f o in
      let j = best_row r f o rs c x i in
      record {
        inside = j;
        from = (of_rows_fine r f rs c (best r (plan r)) j).due_from;
        ahead = λ q k _. behind q (g.first q (found_member r f rs c q k));
      }
    where
      behind : (q : Row) → Beaten r q (best r (plan r)) → Behind r q (best r (plan r))
      behind q (inl a) = inl a
      behind q (inr a) = inr (a.0, not_before_canonical q (best r (plan r)) a.1)

  -- a lightest row due by a slot
  pub some_least : (e : ℕ) (y : Row) → In y rs → y.due ≤ e → (x : Row) × (In x rs) × (x.due ≤ e) × ((w : Row) → In w rs → w.due ≤ e → x.weight ≤ w.weight)
  some_least e y i h =
      let t = lightest e rs y in
      let x = lightest_by e rs y in (
        x,
        elim t.found [ inl d ↦ subst (λ (v : Row). In v rs) (sym d) i | inr d ↦ d.0 ],
        elim t.found [ inl d ↦ omega (arith, h, ap (λ (v : Row). v.due) d) | inr d ↦ d.1 ],
        λ w j k. not_over_weight x w (all_in (λ y. y.due ≤ e → NotOver x y) w rs t.most j k),
      )

  -- a blank for substitute: no row outside is due from the start on
  pub blank_alone : (p : Row) → first_end r (plan r) < p.due → substitute r (plan r) p ≡ blank (segment_start r (plan r) p.due) →
      (y : Row) → In y r.rows → in_plan y rs ≡ false → y.due < segment_start r (plan r) p.due
  blank_alone p h e y i n =
      let b = segment_start r (plan r) p.due in
      let v = heaviest_outside b r.rows (plan r) (blank b) in
      let t = outside_top b (plan r) r.rows (blank b) in
      elim (ltb? y.due b) [
        | inl a ↦ a.1
        | inr a ↦ absurd (omega (
          arith,
          (all_in (RowFine r) y r.rows f.fine i).some,
          not_over_weight y v (all_in (λ y. LeftFrom b (plan r) y → NotOver y v) y r.rows t.most i (a.1, in_plan_is r f rs c y i ∙ n)),
          ap (λ (x : Row). x.weight) (sym (later_is r p h) ∙ e),
          blank_weight (blank b) (blank_is b),
        ))
      ]

  module _ (z : ℕ) (k : Near r z) where
    -- the segment of a slot before z
    pub some_segment : (d : ℕ) → r.slot ≤ d → d < z → Segment r rs (segment_start r (plan r) d) (tight_after r (plan r) d)
    some_segment d h i =
        let b = segment_start r (plan r) d in
        let e = tight_after r (plan r) d in
        let st = start r (plan r) d (plan_feas r f) f.time h in
        let n = next r (plan r) d (omega (arith, i, k.by)) (plan_full r f) in
        let a = near_after r f rs c z k d h i in
        record {
          low = st.low;
          by = omega (arith, st.by, n.from);
          edge = elim (ltb? r.slot b) [
            | inl g ↦
                let q : suc (b - 1) ≡ b = omega (arith, g.1) in
                let t : TightIn r (plan r) (b - 1) = omega (arith, st.edge, q, ap (λ v. num 0 v (plan r)) q) in
                omega (arith, near_tight_is r f rs c z k (b - 1) (omega (arith, g.1)) (omega (arith, g.1, st.by, i)) t, q, ap (λ v. num 0 v rs) q)
            | inr g ↦ omega (arith, g.1, st.low, rows_feas r f rs c b st.low (omega (arith, st.by, i, k.by)))
          ];
          end = a.1.tight;
          none = λ u v w t. elim (ltb? u d) [
            | inl g ↦ st.none u v g.1 (near_is_tight r f rs c z k u (omega (arith, st.low, v)) (omega (arith, g.1, i)) t)
            | inr g ↦ n.first u g.1 w (near_is_tight r f rs c z k u (omega (arith, st.low, v)) (omega (arith, w, a.0)) t)
          ];
        }

    -- ONE OF THE WAYS, where there are rows and the round is unsealed
    pub some_sends : r.tail.sealed ≢ 1 → (x : Row) → In x r.rows → (plain : Bool) × (gone : ℕ) × (xs : List Row) × Sends r (best r (plan r)) plain gone xs
    some_sends un x i =
        let p = best r (plan r) in
        let l = some_lead x i in
        let u = of_rows_fine r f rs c p l.inside in
        elim (ltb? p.due z) [
          | inr h ↦ (false, p.ticket, r.rows, sends_far r f o rs c un z k p l h.1)
          | inl h ↦ near_sends p l u.due_from h.1
        ]
      where
        near_sends : (p : Row) → Leads r rs r.slot p → r.slot ≤ p.due → p.due < z → (plain : Bool) × (gone : ℕ) × (xs : List Row)
            × Sends r p plain gone xs
        near_sends p l h n =
            let b = segment_start r (plan r) p.due in
            let e = tight_after r (plan r) p.due in
            let s = some_segment p.due h n in
            let st = start r (plan r) p.due (plan_feas r f) f.time h in
            let nx = next r (plan r) p.due (omega (arith, n, k.by)) (plan_full r f) in
            let en = near_after r f rs c z k p.due h n in
            elim (ltb? r.slot b) [
              | inr g ↦
                  let q : b ≡ r.slot = omega (arith, g.1, st.low) in
                  (true, p.ticket, r.rows, sends_first r f o rs c un z k p l e en.0 (subst (λ (v : ℕ). Segment r rs v e) q s) nx.from)
              | inl g ↦
                  let t : first_end r (plan r) < p.due = omega (arith, later_segment r f o rs c z k b e en.0 s g.1, st.by) in
                  elim (later? r f rs c p t) [
                    | inl d ↦
                        let m = some_least e p l.inside nx.from in
                        (false, 0, _, sends_kept r f o rs c un z k p l b e en.0 s g.1 st.by nx.from (blank_alone p t d) m.0 m.1 m.2 m.3)
                    | inr d ↦
                        let y = substitute r (plan r) p in
                        let v = all_in (RowFine r) y r.rows f.fine d.waiting in
                        let yz = near_out r f rs c z k y d.waiting d.outside in
                        let ny = next r (plan r) y.due v.due_by (plan_full r f) in
                        let ey = near_after r f rs c z k y.due v.due_from yz in
                        let sy = start r (plan r) y.due (plan_feas r f) f.time v.due_from in
                        let ch = some_chain r f rs c y d.waiting d.outside (suc r.last) e (omega (arith, h, nx.from)) nx.tight
                        (omega (arith, ny.by)) in
                        let m = some_least (tight_after r (plan r) y.due) p l.inside (far_end p y st d nx.from) in (
                          false,
                          p.ticket,
                          _,
                          sends_row r f o rs c un z k p l b e en.0 s g.1 st.by nx.from y d.waiting d.outside d.from d.most
                              (segment_start r (plan r) y.due) (tight_after r (plan r) y.due) ey.0 (some_segment y.due v.due_from yz)
                              sy.by ny.from ch.0 ch.1
                              m.0 m.1 m.2 m.3,
                        )
                  ]
            ]
          where
            far_end : (p y : Row) → Start r (plan r) p.due (segment_start r (plan r) p.due) → LaterSub r f rs c p y →
                p.due ≤ tight_after r (plan r) p.due →
                p.due ≤ tight_after r (plan r) y.due
            far_end p y st d q =
                let v = all_in (RowFine r) y r.rows f.fine d.waiting in
                let ny = next r (plan r) y.due v.due_by (plan_full r f) in
                elim (ltb? (tight_after r (plan r) y.due) p.due) [
                  | inl a ↦ absurd (st.none (tight_after r (plan r) y.due) (omega (arith, d.from, ny.from)) a.1 ny.tight)
                  | inr a ↦ a.1
                ]
