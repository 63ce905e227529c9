-- By counts alone: the far slots, where every row is in the plan and marks are 0, and the near ones: Near, near_next, far_mark, far_sent.
use Rattle.std.specs.Prelude.{◌≡◌, refl, ◌⊎◌, false, List, [], ◌∷◌, ℕ, zero, suc, ◌+◌, ◌*◌, ◌-◌, ◌≤◌, ◌<◌, length, replicate}
use Rattle.std.proofs.Common.{sym, ap, ◌∙◌, subst, true≢false, arith}
use Rattle.std.proofs.Math.Logic.{inl, inr}
use Rattle.std.proofs.Math.Bool.{true}
use Rattle.std.proofs.lemmas.List.{length-replicate}
use Rattle.std.proofs.lemmas.Bool.{lt-leb}
use Rattle.rules.specs.Rows.{Row, Round, blank, heavier, canonical, chosen, All, In}
use Rattle.rules.specs.Plan.{plan, in_plan, feasible, tight, tight_after, segment_start, least_weight, mark, first_end, substitute, flags, planned}
use Rattle.rules.specs.Steps.{is_ordinary, goes, sent}
use Rattle.theory.specs.Tests.{leb?, ltb?, eqb?}
use Rattle.theory.specs.Sum.{sum, sum_chosen}
use Rattle.theory.specs.All.{all_map, all_in, all_of_in, blank_weight, blank_is}
use Rattle.theory.specs.Feas.{below, num, below_yes, below_light, num_heavy, num_weight, due_below, feas_made}
use Rattle.theory.specs.Bounds.{RowFine}
use Rattle.theory.specs.Full.{Fine, plan_feas, plan_full}
use Rattle.theory.specs.Marks.{TightIn, tight?, NextTight, next, Start, start, box, box_num, spans, least_above, least_all}
use Rattle.theory.specs.Change.{in_sum}
use Rattle.theory.specs.Send.{next_by}
use Rattle.theory.specs.Same.{sum_none, planned_same}
use Rattle.theory.specs.Score.{score_of}
use Rattle.theory.specs.Unique.{LeftOut, Certified, unchosen, plan_out}
use Rattle.theory.specs.Slack.{slack, of_blanks, rows_num, slack_is, tight_least, least_tight, mark_idle, mark_rows}
use Rattle.theory.specs.Members.{RowsOfPlan, of_rows_ticket, of_rows_fine, found_member, member?, in_plan_is}
use Rattle.theory.specs.Substitute.{later_none, score_none}
use Rattle.theory.specs.Best.{heaviest_beats, ordinary_is}
use Rattle.theory.specs.Close.{after_slot, closed, sent_gone}

-- THE SLOT z, told by counts of all rows: before it, from any slot on, as many rows are due as there are slots; from it on, by any slot, fewer
pub record Near (r : Round) (z : ℕ) : Type 0 where
  pub from : r.slot ≤ z
  pub by : z ≤ suc r.last
  pub full : (v : ℕ) → r.slot ≤ v → v ≤ z → num 0 v r.rows + (z - v) ≤ num 0 z r.rows
  pub free : (u : ℕ) → z ≤ u → u ≤ r.last → num 0 (suc u) r.rows ≤ num 0 z r.rows + (u - z)

-- without rows it is the current slot
pub near_empty : (r : Round) → r.slot ≤ r.last → r.rows ≡ [] → Near r r.slot
near_empty r o e =
    record {
      from = omega arith;
      by = omega (arith, o);
      full = λ v h k. let d : v ≡ r.slot = omega (arith, h, k) in omega (arith, ap (λ (n : ℕ). num 0 n r.rows) d, d);
      free = λ u h k. omega (arith, ap (num 0 (suc u)) e);
    }

-- NOTHING LEFT OUT: all rows fit, so they are the plan's
pub all_true_chosen : (xs : List Row) → (chosen (replicate (length xs) true) xs ≡ xs) × (unchosen (replicate (length xs) true) xs ≡ [])
unfolding chosen unchosen
all_true_chosen [] = (refl, refl)
all_true_chosen (x ∷ xs) = (ap (λ (zs : List Row). x ∷ zs) (all_true_chosen xs).0, (all_true_chosen xs).1)

pub all_certified : (r : Round) → feasible r r.rows ≡ true → Certified r (replicate (length r.rows) true)
all_certified r h =
    record {
      long = length-replicate (length r.rows) true;
      fits = ap (feasible r) (all_true_chosen r.rows).0 ∙ h;
      out = subst (λ (zs : List Row). All (LeftOut r (chosen (replicate (length r.rows) true) r.rows)) zs) (sym (all_true_chosen r.rows).1) tt;
    }

pub near_all : (r : Round) (z : ℕ) → Near r z → num 0 z r.rows ≤ z - r.slot → feasible r r.rows ≡ true
near_all r z k h =
    feas_made r r.rows (λ e a b. elim (leb? e z) [
      | inl c ↦ omega (arith, k.full e a c.1, h, c.1)
      | inr c ↦ let d : suc (e - 1) ≡ e = omega (arith, c.1) in
          omega (arith, k.free (e - 1) (omega (arith, c.1)) (omega (arith, b, c.1)), ap (λ v. num 0 v r.rows) d, h, c.1, k.from)
    ])

pub idle_light : (w e : ℕ) (x : Row) → (x.ticket ≡ 0 → x.weight < w) → of_blanks (below w e) x ≡ 0
unfolding of_blanks
idle_light w e x h = elim (eqb? x.ticket 0) [ inl a ↦ rw a.0 (below_light w e x (h a.1)) | inr a ↦ rw a.0 ]

-- starts of segments are one
pub start_same : (r : Round) (ps : List Row) (d a b : ℕ) → Start r ps d a → Start r ps d b → a ≡ b
start_same r ps d a b s t = omega (arith, half a b s t, half b a t s)
  where
    half : (a b : ℕ) → Start r ps d a → Start r ps d b → b ≤ a
    half a zero s t = omega arith
    half a (suc u) s t = elim (leb? (suc u) a) [
      | inl h ↦ h.1
      | inr h ↦ absurd (s.none u (omega (arith, h.1)) (omega (arith, t.by)) t.edge)
    ]

module _ (r : Round) (f : Fine r) (rs : List Row) (c : RowsOfPlan r rs) where
  pub rows_le : (μ : Row → ℕ) → sum μ rs ≤ sum μ r.rows
  unfolding planned
  rows_le μ = omega (arith, c.same μ, planned_same r f μ, sum_chosen μ (flags (plan r) r.rows) r.rows)

  pub rows_feas : (e : ℕ) → r.slot ≤ e → e ≤ suc r.last → num 0 e rs ≤ e - r.slot
  rows_feas e h k = omega (arith, rows_num r f rs c.same 0 e, plan_feas r f e h k)

  -- rows of the plan fill it as far as weights of 1 do
  pub heavy_rows : (e : ℕ) → num 1 e (plan r) ≤ num 0 e rs
  heavy_rows e =
      omega (
        arith,
        rows_num r f rs c.same 1 e,
        num_weight 0 1 e (omega arith) rs,
        sum_none (of_blanks (below 1 e)) (plan r) (all_of_in (λ x. of_blanks (below 1 e) x ≡ 0) (plan r) (λ x i. light x i)),
      )
    where
      light : (x : Row) → In x (plan r) → of_blanks (below 1 e) x ≡ 0
      light x i = idle_light 1 e x (λ t. elim (member? r f rs c x i) [
        | inl a ↦ omega (arith, blank_weight x a)
        | inr a ↦ absurd (omega (arith, t, of_rows_ticket r f rs c x a))
      ])

module _ (r : Round) (f : Fine r) (rs : List Row) (c : RowsOfPlan r rs) (z : ℕ) (k : Near r z) where
  -- SLACK from it on
  pub near_slack : (u : ℕ) → z ≤ u → u ≤ r.last → 1 ≤ slack r rs u
  near_slack u h i =
      omega (
        arith,
        slack_is r f rs c.same u (omega (arith, k.from, h)) i,
        k.free u h i,
        k.from,
        rows_feas r f rs c z k.from k.by,
        rows_le r f rs c (box 0 z (suc u)),
        box_num 0 z (suc u) (omega (arith, h)) rs,
        box_num 0 z (suc u) (omega (arith, h)) r.rows,
      )

  -- NONE up to it
  pub near_edge : num 0 z rs ≡ z - r.slot
  near_edge =
      let w : All (λ x. 1 ≤ x.weight) r.rows = all_map {Q = λ x. 1 ≤ x.weight} (λ x (h : RowFine r x). h.some) r.rows f.fine in
      let s = spans r f 1 z (omega arith) k.from k.by (λ v a b. omega (arith, k.full v a b, num_heavy 1 v r.rows w, num_heavy 1 z r.rows w)) in
      let e = s.0 in
      elim (leb? e z) [
        | inl h ↦
            let d : e ≡ z = omega (arith, h.1, s.1) in
            omega (arith, rows_feas r f rs c z k.from k.by, heavy_rows r f rs c e, s.3, d, ap (λ v. num 0 v rs) d)
        | inr h ↦
            let d : suc (e - 1) ≡ e = omega (arith, h.1) in
            absurd (omega (
              arith,
              near_slack (e - 1) (omega (arith, h.1)) (omega (arith, h.1, s.2)),
              slack_is r f rs c.same (e - 1) (omega (arith, h.1, k.from)) (omega (arith, h.1, s.2)),
              heavy_rows r f rs c e,
              s.3,
              d,
              ap (λ v. num 0 v rs) d,
            ))
      ]

  -- rows left out are due before it
  pub near_out : (x : Row) → In x r.rows → in_plan x rs ≡ false → x.due < z
  near_out x i n =
      let l = plan_out r f x i (in_plan_is r f rs c x i ∙ n) in
      let g = all_in (RowFine r) x r.rows f.fine i in
      elim (ltb? x.due z) [
        | inl h ↦ h.1
        | inr h ↦ absurd (omega (
          arith,
          near_slack l.at (omega (arith, h.1, l.from)) l.by,
          slack_is r f rs c.same l.at (omega (arith, g.due_from, l.from)) l.by,
          l.full,
          due_below l.at (planned r),
          planned_same r f (below 0 (suc l.at)),
          c.same (below 0 (suc l.at)),
        ))
      ]

  -- BEFORE IT a slot is tight where no slack is
  pub near_last : r.slot < z → TightIn r (plan r) (z - 1)
  near_last h =
      let d : suc (z - 1) ≡ z = omega (arith, h) in
      omega (
        arith,
        h,
        ap (λ v. num 0 v rs) d,
        ap (λ v. num 0 v (plan r)) d,
        near_edge,
        rows_num r f rs c.same 0 z,
        plan_feas r f z k.from k.by,
      )

  pub near_tight_is : (s : ℕ) → r.slot ≤ s → s < z → TightIn r (plan r) s → TightIn r rs s
  near_tight_is s h i t =
      let d : suc (z - 1) ≡ z = omega (arith, i) in
      let y : tight r (plan r) s ≡ true = elim (tight? r (plan r) s) [ inl a ↦ a.0 | inr a ↦ absurd (a.1 t) ] in
      omega (
        arith,
        tight_least r f rs c.same s h (omega (arith, i, k.by)) y (z - 1) (omega (arith, i)) (omega (arith, i, k.by)),
        slack_is r f rs c.same (z - 1) (omega (arith, h, i)) (omega (arith, i, k.by)),
        slack_is r f rs c.same s h (omega (arith, i, k.by)),
        near_edge,
        d,
        ap (λ v. num 0 v rs) d,
      )

  pub near_is_tight : (s : ℕ) → r.slot ≤ s → s < z → TightIn r rs s → TightIn r (plan r) s
  near_is_tight s h i t =
      omega (arith, t, rows_num r f rs c.same 0 (suc s), plan_feas r f (suc s) (omega (arith, h)) (omega (arith, i, k.by)))

  -- THE NEXT TIGHT SLOT: the first without slack
  pub near_next : (s e : ℕ) → r.slot ≤ s → s ≤ e → e < z → TightIn r rs e → ((u : ℕ) → s ≤ u → u < e → TightIn r rs u → ⊥) → tight_after r (plan r) s ≡ e
  near_next s e h i j t g =
      let n = next r (plan r) s (omega (arith, i, j, k.by)) (plan_full r f) in
      let a = next_by r (plan r) s (tight_after r (plan r) s) e n i (near_is_tight e (omega (arith, h, i)) j t) in
      elim (ltb? (tight_after r (plan r) s) e) [
        | inl b ↦ absurd (g (tight_after r (plan r) s) n.from b.1
            (near_tight_is (tight_after r (plan r) s) (omega (arith, h, n.from)) (omega (arith, b.1, j)) n.tight))
        | inr b ↦ omega (arith, a, b.1)
      ]

  -- and there is one
  pub near_after : (s : ℕ) → r.slot ≤ s → s < z → (tight_after r (plan r) s < z) × NextTight r rs s (tight_after r (plan r) s)
  near_after s h i =
      let e = tight_after r (plan r) s in
      let n = next r (plan r) s (omega (arith, i, k.by)) (plan_full r f) in
      let a : e < z = omega (arith, i, next_by r (plan r) s e (z - 1) n (omega (arith, i)) (near_last (omega (arith, h, i)))) in (
        a,
        record {
          from = n.from;
          by = n.by;
          tight = near_tight_is e (omega (arith, h, n.from)) a n.tight;
          first = λ u b d t. n.first u b d (near_is_tight u (omega (arith, h, b)) (omega (arith, a, d)) t);
        },
      )

  -- THE START of a segment
  pub near_start : (d b : ℕ) → r.slot ≤ b → b ≤ d → d ≤ r.last → d ≤ z → num 0 b rs ≡ b - r.slot → ((u : ℕ) → b ≤ u → u < d → TightIn r rs u → ⊥) →
      segment_start r (plan r) d ≡ b
  near_start d b h i l j e g =
      start_same r (plan r) d (segment_start r (plan r) d) b (start r (plan r) d (plan_feas r f) f.time (omega (arith, h, i)))
      (record {
        low = h;
        by = i;
        edge = omega (arith, e, rows_num r f rs c.same 0 b, plan_feas r f b h (omega (arith, i, l)));
        none = λ u a v t. g u a v (near_tight_is u (omega (arith, h, a)) (omega (arith, v, j)) t);
      })

  -- MARKS
  pub far_mark : (s : ℕ) → z ≤ s → s ≤ r.last → mark r s ≡ 0
  far_mark s h i = mark_idle r f rs c.same s (omega (arith, h, k.from)) i (λ u a b. near_slack u (omega (arith, h, a)) b)

  pub near_mark : (s : ℕ) → r.slot ≤ s → s < z → mark r s ≡ least_weight (tight_after r (plan r) s) rs 16777216
  near_mark s h i =
      let e = tight_after r (plan r) s in
      let a = near_after s h i in
      let n = a.1 in
      mark_rows r f rs c.same s e h n.from n.by
      (omega (arith, n.tight, slack_is r f rs c.same e (omega (arith, h, n.from)) n.by))
      (λ u b d. some u (omega (arith, h, b)) (omega (arith, d, n.by)) (n.first u b d))
    where
      some : (u : ℕ) → r.slot ≤ u → u ≤ r.last → (TightIn r rs u → ⊥) → 1 ≤ slack r rs u
      some u a b t = elim (eqb? (slack r rs u) 0) [
        | inl d ↦ absurd (t (omega (arith, d.1, slack_is r f rs c.same u a b)))
        | inr d ↦ let n = d.1 in omega arith
      ]

  -- as the weight of a lightest row due by the next tight slot
  pub near_mark_least : (s : ℕ) → r.slot ≤ s → s < z → (x : Row) → In x rs → x.due ≤ tight_after r (plan r) s →
      ((y : Row) → In y rs → y.due ≤ tight_after r (plan r) s → x.weight ≤ y.weight) → mark r s ≡ x.weight
  near_mark_least s h i x j a g =
      let e = tight_after r (plan r) s in
      omega (
        arith,
        near_mark s h i,
        all_in (λ y. y.due ≤ e → least_weight e rs 16777216 ≤ y.weight) x rs (least_all e rs 16777216) j a,
        least_above x.weight e rs 16777216 (of_rows_fine r f rs c x j).most (all_of_in (λ y. y.due ≤ e → x.weight ≤ y.weight) rs g),
      )

  -- FAR ROWS: due from z on, none is due by the first end, each has a blank for substitute
  pub first_near : r.slot < z → first_end r (plan r) < z
  unfolding first_end
  first_near h = (near_after r.slot (omega arith) h).0

  pub first_now : z ≡ r.slot → r.slot ≤ r.last → first_end r (plan r) ≡ r.slot
  unfolding first_end
  first_now e o =
      let n = next r (plan r) r.slot o (plan_full r f) in
      let a = near_slack r.slot (omega (arith, e)) o in
      let q : tight r (plan r) r.slot ≡ true = least_tight r f rs c.same r.slot (omega arith) o (λ u b d.
      omega (arith, near_slack u (omega (arith, e, b)) d, slack_is r f rs c.same r.slot (omega arith) o)) in
      elim (tight? r (plan r) r.slot) [
        | inl t ↦ omega (arith, n.from, next_by r (plan r) r.slot (tight_after r (plan r) r.slot) r.slot n (omega arith) t.1)
        | inr t ↦ absurd (true≢false (sym q ∙ t.0))
      ]

  pub far_later : r.slot ≤ r.last → (p : Row) → In p rs → z ≤ p.due → first_end r (plan r) < p.due
  far_later o p i h = elim (ltb? r.slot z) [
    | inl a ↦ omega (arith, h, first_near a.1)
    | inr a ↦
        let e : z ≡ r.slot = omega (arith, a.1, k.from) in
        omega (arith, first_now e o, not_now p i e o)
  ]
    where
      not_now : (p : Row) → In p rs → z ≡ r.slot → r.slot ≤ r.last → r.slot < p.due
      not_now p i e o = elim (ltb? r.slot p.due) [
        | inl a ↦ a.1
        | inr a ↦ absurd (omega (
          arith,
          near_slack r.slot (omega (arith, e)) o,
          slack_is r f rs c.same r.slot (omega arith) o,
          in_sum (below 0 (suc r.slot)) p rs i,
          below_yes 0 (suc r.slot) p (omega arith) (omega (arith, a.1)),
        ))
      ]

  pub far_start : (p : Row) → In p rs → z ≤ p.due → z ≤ segment_start r (plan r) p.due
  far_start p i h =
      let u = of_rows_fine r f rs c p i in
      let st = start r (plan r) p.due (plan_feas r f) f.time u.due_from in
      elim (leb? z (segment_start r (plan r) p.due)) [
        | inl a ↦ a.1
        | inr a ↦ absurd (st.none (z - 1) (omega (arith, a.1)) (omega (arith, a.1, h)) (near_last (omega (arith, a.1, st.low))))
      ]

  pub far_sub : r.slot ≤ r.last → (p : Row) → In p rs → z ≤ p.due → substitute r (plan r) p ≡ blank (segment_start r (plan r) p.due)
  far_sub o p i h = later_none r f rs c p (far_later o p i h) (λ y j n. omega (arith, near_out y j n, far_start p i h))

  pub far_score : r.slot ≤ r.last → (p : Row) → In p rs → z ≤ p.due → score_of r p ≡ p.weight * 39088169
  far_score o p i h = score_none r f rs c p (segment_start r (plan r) p.due) (far_sub o p i h)

  -- of far rows the heaviest counts
  pub far_beats : (o : r.slot ≤ r.last) (p q : Row) → In p rs → In q rs → z ≤ p.due → z ≤ q.due → heavier q p ≡ false →
      (score_of r q < score_of r p) ⊎ ((score_of r q ≡ score_of r p) × (canonical q p ≡ false))
  far_beats o p q i j h l n =
      heaviest_beats r f o rs c p q
      (omega (
        arith,
        ap (λ (x : Row). x.weight) (far_sub o p i h),
        ap (λ (x : Row). x.weight) (far_sub o q j l),
        blank_weight (blank (segment_start r (plan r) p.due)) (blank_is (segment_start r (plan r) p.due)),
        blank_weight (blank (segment_start r (plan r) q.due)) (blank_is (segment_start r (plan r) q.due)),
      ))
      n

  -- and it leaves nothing behind
  pub far_sent : r.slot ≤ r.last → (p : Row) → goes r ≡ p → In p rs → z ≤ p.due →
      (is_ordinary r ≡ false) × (sent r ≡ after_slot r (closed (suc r.slot) p.ticket r.rows))
  far_sent o p e i h = (
    ordinary_is r f o rs c p e ∙ lt-leb p.due (first_end r (plan r)) (far_later o p i h),
    sent_gone r f rs c p e (found_member r f rs c p i) (far_later o p i h) (far_sub o p i h) (far_mark p.due h (of_rows_fine r f rs c p i).due_by),
  )
