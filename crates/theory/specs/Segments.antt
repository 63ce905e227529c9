-- Segments of near slots, by counts of the plan's rows: Segment, segment_made, segment_end, segment_begin, segment_mark, segment_beats.
use Rattle.std.specs.Prelude.{◌≡◌, ◌⊎◌, ◌≢◌, false, List, length}
use Rattle.std.proofs.Common.{sym, ◌∙◌, inl, inr, arith}
use Rattle.std.proofs.Math.Path.{ap}
use Prim.Native.Nat.{ℕ, suc, ◌+◌, ◌*◌, ◌-◌, ◌≤◌, ◌<◌}
use Rattle.rules.specs.Rows.{Row, Round, blank, heavier, canonical, In}
use Rattle.rules.specs.Plan.{plan, in_plan, tight_after, segment_start, mark, first_end, substitute}
use Rattle.theory.specs.Tests.{ltb?}
use Rattle.theory.specs.Sum.{sum}
use Rattle.theory.specs.Feas.{num}
use Rattle.theory.specs.Full.{Fine, plan_full}
use Rattle.theory.specs.Marks.{TightIn, next}
use Rattle.theory.specs.Send.{next_by, between_count}
use Rattle.theory.specs.Score.{score_of}
use Rattle.theory.specs.Members.{RowsOfPlan, found_member}
use Rattle.theory.specs.Substitute.{later_row, later_none, score_first}
use Rattle.theory.specs.Best.{first_same, later_same, heaviest_beats}
use Rattle.theory.specs.Near.{Near, near_is_tight, near_next, near_start, near_mark_least}
use Rattle.theory.specs.Count.{under, Sweep, kept_counts}

-- A SEGMENT from b to e: no slack before b and by e, some by each slot between
pub record Segment (r : Round) (rs : List Row) (b e : ℕ) : Type 0 where
  pub low : r.slot ≤ b
  pub by : b ≤ e
  pub edge : num 0 b rs ≡ b - r.slot
  pub end : num 0 (suc e) rs ≡ suc e - r.slot
  pub none : (u : ℕ) → b ≤ u → u < e → num 0 (suc u) rs ≢ suc u - r.slot

module _ (r : Round) (f : Fine r) (o : r.slot ≤ r.last) (rs : List Row) (c : RowsOfPlan r rs) (z : ℕ) (k : Near r z) (b e : ℕ) (near : e < z)
    (s : Segment r rs b e) where
  pub segment_end : (d : ℕ) → b ≤ d → d ≤ e → tight_after r (plan r) d ≡ e
  segment_end d h i = near_next r f rs c z k d e (omega (arith, s.low, h)) i near s.end (λ u a v t. s.none u (omega (arith, h, a)) v t)

  pub segment_begin : (d : ℕ) → b ≤ d → d ≤ e → segment_start r (plan r) d ≡ b
  segment_begin d h i =
      near_start r f rs c z k d b s.low h (omega (arith, i, near, k.by)) (omega (arith, i, near)) s.edge (λ u a v t. s.none u a (omega (arith, v, i)) t)

  -- the first, and the later ones
  pub first_segment : b ≡ r.slot → first_end r (plan r) ≡ e
  unfolding first_end
  first_segment h = segment_end r.slot (omega (arith, h)) (omega (arith, h, s.by))

  pub later_segment : r.slot < b → first_end r (plan r) < b
  unfolding first_end
  later_segment h =
      let n = next r (plan r) r.slot o (plan_full r f) in
      let d : suc (b - 1) ≡ b = omega (arith, h) in
      let t : TightIn r (plan r) (b - 1) =
      near_is_tight r f rs c z k (b - 1) (omega (arith, h)) (omega (arith, h, s.by, near)) (omega (arith, s.edge, d, ap (λ v. num 0 v rs) d)) in
      omega (arith, h, next_by r (plan r) r.slot (tight_after r (plan r) r.slot) (b - 1) n (omega (arith, h)) t)

  -- each has a row
  pub segment_has_row : (y : Row) × (In y rs) × (b ≤ y.due) × (y.due ≤ e)
  segment_has_row =
      let y = between_count b (suc e) rs (omega (arith, s.edge, s.end, s.low, s.by)) in
      (y.0, y.1, y.2, omega (arith, y.3))

  -- ONE SUBSTITUTE
  pub segment_same : (p q : Row) → In p rs → In q rs → b ≤ p.due → p.due ≤ e → b ≤ q.due → q.due ≤ e →
      (substitute r (plan r) q).weight ≡ (substitute r (plan r) p).weight
  segment_same p q i j h l m n = elim (ltb? r.slot b) [
    | inl a ↦
        let g = later_segment a.1 in
        ap (λ (x : Row). x.weight) (later_same r f o rs c p q (omega (arith, g, h)) (omega (arith, g, m))
        (segment_begin p.due h l ∙ sym (segment_begin q.due m n)))
    | inr a ↦
        let g = first_segment (omega (arith, a.1, s.low)) in
        first_same r f o rs c p q i j (omega (arith, g, l)) (omega (arith, g, n))
  ]

  -- so its heaviest row beats the others
  pub segment_beats : (p q : Row) → In p rs → In q rs → b ≤ p.due → p.due ≤ e → b ≤ q.due → q.due ≤ e → heavier q p ≡ false →
      (score_of r q < score_of r p) ⊎ ((score_of r q ≡ score_of r p) × (canonical q p ≡ false))
  segment_beats p q i j h l m n g = heaviest_beats r f o rs c p q (segment_same p q i j h l m n) g

  pub segment_row : r.slot < b → (p : Row) → b ≤ p.due → p.due ≤ e → (x : Row) → In x r.rows → in_plan x rs ≡ false → b ≤ x.due →
      ((y : Row) → In y r.rows → in_plan y rs ≡ false → b ≤ y.due → heavier y x ≡ false) → substitute r (plan r) p ≡ x
  segment_row a p h l x i n m g =
      let t = segment_begin p.due h l in
      later_row r f rs c p (omega (arith, later_segment a, h)) x i n (omega (arith, t, m)) (λ y j u v. g y j u (omega (arith, t, v)))

  pub segment_none : r.slot < b → (p : Row) → b ≤ p.due → p.due ≤ e → ((y : Row) → In y r.rows → in_plan y rs ≡ false → y.due < b) →
      substitute r (plan r) p ≡ blank b
  segment_none a p h l g =
      let t = segment_begin p.due h l in
      later_none r f rs c p (omega (arith, later_segment a, h)) (λ y j u. omega (arith, t, g y j u)) ∙ ap blank t

  -- SCORES
  pub segment_score_first : b ≡ r.slot → (p : Row) → In p rs → p.due ≤ e → score_of r p ≡ p.weight * 39088169 + mark r r.slot * 63245986
  segment_score_first h p i l = score_first r f rs c p (found_member r f rs c p i) (omega (arith, first_segment h, l))

  -- ONE MARK: the least weight of the rows due by its end
  pub segment_mark : (d : ℕ) → b ≤ d → d ≤ e → (x : Row) → In x rs → x.due ≤ e → ((y : Row) → In y rs → y.due ≤ e → x.weight ≤ y.weight) →
      mark r d ≡ x.weight
  segment_mark d h i x j a g =
      let t = segment_end d h i in
      near_mark_least r f rs c z k d (omega (arith, s.low, h)) (omega (arith, i, near)) x j (omega (arith, t, a)) (λ y l m. g y l (omega (arith, t, m)))

-- BY COUNTS of the plan's rows in buckets: b and e are slots from the current one on
pub segment_made : (r : Round) (f : Fine r) (top q z : ℕ) (span : r.slot + top ≤ r.last) (enough : (top ≡ length r.rows) ⊎ (r.slot + top ≡ r.last))
    (w : Sweep (λ s. sum (under r.slot top s) r.rows) (suc top) 0 q z) (rs : List Row) → RowsOfPlan r rs → (b e : ℕ) → b ≤ e → e < z →
    sum (under r.slot top b) rs ≡ b → sum (under r.slot top (suc e)) rs ≡ suc e →
    ((u : ℕ) → b ≤ u → u < e → sum (under r.slot top (suc u)) rs ≢ suc u) → Segment r rs (r.slot + b) (r.slot + e)
segment_made r f top q z span enough w rs c b e h k i j g =
    let d : suc (r.slot + e) ≡ r.slot + suc e = omega arith in
    record {
      low = omega arith;
      by = omega (arith, h);
      edge = omega (arith, i, kept_counts r f top q z span enough w rs c b (omega (arith, h, k)));
      end = omega (arith, j, kept_counts r f top q z span enough w rs c (suc e) k, d, ap (λ v. num 0 v rs) d);
      none = λ u a v t.
          let y : suc u ≡ r.slot + suc (u - r.slot) = omega (arith, a) in
          g (u - r.slot) (omega (arith, a)) (omega (arith, a, v))
          (omega (arith, t, kept_counts r f top q z span enough w rs c (suc (u - r.slot)) (omega (arith, v, k, a)), y, ap (λ v. num 0 v rs) y));
    }
