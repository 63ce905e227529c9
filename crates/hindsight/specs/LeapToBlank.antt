-- A leap whose substitute is a blank, at the start of its row's segment: no row is shifted.
use Rattle.std.specs.Prelude.{◌≡◌, refl, ◌⊎◌, ltb}
use Rattle.std.proofs.Math.Path.{ap}
use Rattle.std.proofs.Math.Logic.{inl, inr}
use mathlib.Core.List.{List, [], ◌∷◌}
use Prim.Native.Nat.{ℕ, suc, ◌+◌, ◌≤◌, ◌<◌}
use native.Mathlib.Omega.{arith}
use Rattle.std.proofs.Common.{ltb-true, ltb-false}
use Rattle.rules.specs.Limits.{most_weight}
use Rattle.rules.specs.Rows.{All, In, Round, Row, blank, row}
use Rattle.rules.specs.Plan.{mark, mark_in, plan, tight_after}
use Rattle.rules.specs.Steps.{changed, replaced, without, kept_at}
use Rattle.theory.specs.Tests.{both_ways, leb?}
use Rattle.theory.specs.Sum.{sum}
use Rattle.theory.specs.All.{all_in, all_map}
use Rattle.theory.specs.Bounds.{RowFine}
use Rattle.theory.specs.Full.{Fine, outside}
use Rattle.theory.specs.Marks.{box, box_back, box_lighter, mark_all}
use Rattle.theory.specs.Change.{changed_sum, rising_first, without_sum}
use Rattle.theory.specs.Send.{next_by}
use Rattle.theory.specs.Leap.{AfterLeap, ends_of, no_shift}
use Rattle.theory.specs.Totals.{plan_weights, sum_to_le}
use Rattle.theory.specs.MarksFall.{mark_reaches}
use Rattle.hindsight.specs.Occurs.{occurs_in, like, like_self, like?, pull, seen}
use Rattle.hindsight.specs.Worth.{Split, rank, rank_ge, rank_le, worth}
use Rattle.hindsight.specs.Stash.{StashEntry, Good, held}
use Rattle.hindsight.specs.LeapStage.{LeapStage}
use Rattle.hindsight.specs.LeapCases.{leap_worth}
use Rattle.hindsight.specs.Step.{lift}
use Rattle.hindsight.specs.LeapMade.{LeapMade, SegmentStart, held_later, made_from}

-- a blank counts for no weight
pub blank_light : (w v e b : ℕ) → 1 ≤ w → box w v e (blank b) ≡ 0
unfolding blank
blank_light w v e b a =
    elim (leb? v e) [ inl z ↦ box_lighter w v e (blank b) z.1 (omega arith) | inr z ↦ box_back w v e (omega arith) (blank b) ]

-- the row that a kept blank stands in
abbrev pub blank_row : Round → Row → ℕ → Row
blank_row r p b = kept_at b (mark_in r (plan r) b) p

-- the rows after the leap: with the kept blank in its row where the mark is above 0, else without the row
abbrev pub BlankRows : Round → Row → ℕ → List Row → Type 0
BlankRows r p b l =
    ((1 ≤ mark_in r (plan r) b) × ((μ : Row → ℕ) → sum μ l + μ p ≡ sum μ r.rows + μ (blank_row r p b)))
    ⊎ ((mark_in r (plan r) b ≤ 0) × ((μ : Row → ℕ) → sum μ l + μ p ≡ sum μ r.rows))

-- those are the rows
pub blank_rows : (r : Round) → Fine r → (p : Row) (b : ℕ) → SegmentStart r p b → BlankRows r p b (AfterLeap r p (blank b))
unfolding replaced blank row
blank_rows r f p b sp =
    let st = sp.start in
    let e = tight_after r (plan r) p.due in
    let en = ends_of r f p (blank b) b sp.by (omega (arith, st.low, st.by)) st (omega arith) (omega (arith, st.by, sp.by)) in
    let back : tight_after r (plan r) b ≤ e =
    next_by r (plan r) b (tight_after r (plan r) b) e en.last (omega (arith, st.by, en.first.from)) en.first.tight in
    let i = rising_first 1 r.next p r.rows f.rising sp.waits in
    rw (no_shift (suc r.last) r e (tight_after r (plan r) b) r.rows back)
    (both_ways (BlankRows r p b) (ltb 0 (mark_in r (plan r) b)) (changed p.ticket (blank_row r p b) r.rows)
    (without p.ticket r.rows)
    (λ a. inl (ltb-true 0 (mark_in r (plan r) b) a, λ μ. changed_sum μ p (blank_row r p b) r.rows i))
    (λ a. inr (ltb-false 0 (mark_in r (plan r) b) a, λ μ. without_sum μ p r.rows i)))

module _ (r : Round) (f : Fine r) (o : r.slot ≤ r.last) (p : Row) (b : ℕ) (sp : SegmentStart r p b) (fs : List Row) (es : List StashEntry)
    (sl : Split r fs (held es)) (gd : Good r (suc r.slot) es)
    (out : (w : ℕ) → 1 ≤ w → w ≤ most_weight → 0 < w → All (λ y. w ≤ y.weight → y.due < b) (outside r))
    (top : All (λ y. y.due ≤ tight_after r (plan r) b → y.weight ≤ p.weight) (plan r)) where
  -- the leap with its stash: its chain has one place
  pub blank_stage : LeapStage r f p (blank b) p (blank_row r p b) b (tight_after r (plan r) b) [] fs fs es
  unfolding blank row mark
  blank_stage =
      let st = sp.start in
      let g = tight_after r (plan r) b in
      let en = ends_of r f p (blank b) b sp.by (omega (arith, st.low, st.by)) st (omega arith) (omega (arith, st.by, sp.by)) in
      let pg : p.due ≤ g = omega (arith, en.first.from, en.order) in
      record {
        time = o;
        p_from = st.by;
        p_limit = (all_in (λ x. (x.weight ≤ most_weight) × (x.due < suc r.last)) p (plan r) (plan_weights r f) sp.inside).0;
        low = sp.low;
        edge = st.edge;
        after = omega arith;
        next = en.last;
        out = out;
        less = λ w v a. omega (arith, blank_light w v (suc r.last) b a);
        stands = λ a. absurd (omega arith);
        mark_s = omega arith;
        same = refl;
        comes = refl;
        final = record {
          inside = sp.inside;
          waits = sp.waits;
          low = omega (arith, st.low, st.by);
          by = pg;
          end = en.last.by;
          above = all_in (λ y. y.due ≤ g → mark_in r (plan r) b ≤ y.weight) p (plan r) (mark_all r (plan r) b) sp.inside pg;
          limit = (all_in (λ x. (x.weight ≤ most_weight) × (x.due < suc r.last)) p (plan r) (plan_weights r f) sp.inside).0;
          under = omega arith;
          marks = λ v a l. mark_reaches r f b v (omega (arith, st.by, sp.by)) a l;
          adjust = λ w v. omega arith;
        };
        chain = refl;
        begin = st.by;
        split = sl;
        good = gd;
        present = λ x ip ir. omega (arith, sl.whole (like x), seen x r.rows ir);
        lates = held_later r f fs es sl gd;
        top = top;
      }

  -- THE SUBSTITUTE IS A BLANK
  pub leap_to_blank : LeapMade r p (blank b) fs es
  unfolding blank row worth mark
  leap_to_blank =
      let g = tight_after r (plan r) b in
      let c = blank_row r p b in
      let e = suc r.last in
      let t = suc r.slot in
      let l = leap_worth r f p (blank b) p c b g [] fs fs es blank_stage in
      let u = l.walk in
      elim (blank_rows r f p b sp) [
        | inl q ↦ made_from r f p (blank b) p c b [] fs fs es sp l l.xs
            (λ μ. omega (arith, q.1 μ, u.swap μ, l.olds_are μ, l.news_are μ, sl.whole μ)) (omega arith)
            (λ κ fx. omega (arith, q.1 (lift κ), u.rises, l.olds_are (λ x. x.weight), l.news_are (λ x. x.weight)))
        | inr q ↦
            let inx : In c l.xs = occurs_in c l.xs (omega (
              arith,
              u.swap (like c),
              l.olds_are (like c),
              l.news_are (like c),
              like_self c,
              sl.whole (like c),
              u.kept (like c),
              u.stayed_some c (omega (arith, q.0)),
              u.gone_in (like c),
              no_like r.rows (all_map {Q = λ x. 1 ≤ x.weight} (λ x (k : RowFine r x). k.some) r.rows f.fine) q.0,
              light_like p (all_in (RowFine r) p r.rows f.fine sp.waits).some q.0,
            )) in
            let pu = pull c l.xs inx in
            made_from r f p (blank b) p c b [] fs fs es sp l pu.0
            (λ μ. omega (arith, q.1 μ, u.swap μ, l.olds_are μ, l.news_are μ, sl.whole μ, pu.1 μ))
            (sum_to_le most_weight (λ w. rank w t e l.xs) (λ w. rank w t e pu.0) (λ w a z.
            rank_ge w t e pu.0 (rank w t e l.xs) (omega arith) (λ v i j.
            omega (arith, rank_le w t e l.xs v i j, pu.1 (box w v e), no_box w v a j q.0))))
            (λ κ fx. omega (arith, q.1 (lift κ)))
      ]
    where
      light_like : (x : Row) → 1 ≤ x.weight → (mark_in r (plan r) b ≤ 0 → like (blank_row r p b) x ≡ 0)
      light_like x h z = elim (like? (blank_row r p b) x) [ inl a ↦ absurd (omega (arith, ap (λ (y : Row). y.weight) a.1)) | inr a ↦ a ]

      no_like : (xs : List Row) → All (λ x. 1 ≤ x.weight) xs → (mark_in r (plan r) b ≤ 0 → sum (like (blank_row r p b)) xs ≡ 0)
      no_like [] a z = refl
      no_like (x ∷ xs) a z = omega (arith, light_like x a.0 z, no_like xs a.1 z)

      no_box : (w v : ℕ) → 1 ≤ w → v ≤ suc r.last → mark_in r (plan r) b ≤ 0 → box w v (suc r.last) (blank_row r p b) ≡ 0
      no_box w v a j z = box_lighter w v (suc r.last) (blank_row r p b) j (omega arith)
