-- Which rows of the stash a leap meets: none by the end of its stretch, one in it, or one before. What it is worth in each case.
--
use Rattle.std.specs.Prelude.{◌≡◌, List, [], ◌∷◌, leb}
use Rattle.std.proofs.Common.{sym, subst, inl, inr}
use Prim.Native.Nat.{ℕ, suc, ◌+◌, ◌-◌, ◌≤◌, ◌<◌}
use native.Mathlib.Omega.{arith}
use Rattle.rules.specs.Limits.{most_weight}
use Rattle.rules.specs.Rows.{All, In, Round, Row}
use Rattle.rules.specs.Plan.{mark, plan}
use Rattle.theory.specs.Tests.{leb?, ltb?, one_if}
use Rattle.theory.specs.Sum.{sum}
use Rattle.theory.specs.All.{all_in, all_map}
use Rattle.theory.specs.Full.{Fine}
use Rattle.theory.specs.Marks.{box, box_yes, box?}
use Rattle.theory.specs.Totals.{sum_to_add, sum_to_le}
use Rattle.theory.specs.MarksFall.{member_mark}
use Rattle.hindsight.specs.Tails.{LatestBy, latest, tail}
use Rattle.hindsight.specs.Occurs.{occurs_in, like, part_all, part_in}
use Rattle.hindsight.specs.Worth.{rank, rank_ge, worth}
use Rattle.hindsight.specs.Stash.{StashEntry, held}
use Rattle.hindsight.specs.Places.{ChainPlace, Walk, news, olds, comes_for, missed_besides}
use Rattle.hindsight.specs.PlaceSteps.{give_up_extra}
use Rattle.hindsight.specs.ChainEnd.{start_free, start_gone}
use Rattle.hindsight.specs.ChainWalk.{Walked, walk_all, walk_none}
use Rattle.hindsight.specs.ChainGives.{walk_gives}
use Rattle.hindsight.specs.LeapStage.{LeapStage, gone_above, gone_above_low, gone_above_sum, rank_none_held, rank_before, rank_above, rank_up_to, Blocked, Useful, blocked?, useful_past}

-- WHAT A LEAP IS WORTH: where the walk ends, and that the free rows then are worth no less than before, up to what was gained and lost
pub record LeapWorth (r : Round) (f : Fine r) (p s h c : Row) (ds : List ChainPlace) (fs ys : List Row) (es : List StashEntry) : Type 0 where
  pub mh : ℕ
  pub gs : List Row
  pub xs : List Row
  pub zs : List StashEntry
  pub done : List ChainPlace
  pub walk : Walk r f s.weight ys es (missed_besides r h c) p mh gs xs zs done
  pub worthy : worth (suc r.slot) (suc r.last) fs + sum (λ x. x.weight - s.weight) gs
      ≤ worth (suc r.slot) (suc r.last) xs + walk.given
  pub olds_are : (μ : Row → ℕ) → olds μ done ≡ μ h + olds μ ds
  pub news_are : (μ : Row → ℕ) → news μ done ≡ μ c + news μ ds

module _ (r : Round) (f : Fine r) (p s h c : Row) (b g : ℕ) (ds : List ChainPlace) (fs ys : List Row) (es : List StashEntry)
    (k : LeapStage r f p s h c b g ds fs ys es) where
  -- summed over the weights
  leap_worth_of : (mh : ℕ) (gs xs : List Row) (zs : List StashEntry) (done : List ChainPlace)
      (u : Walk r f s.weight ys es (missed_besides r h c) p mh gs xs zs done) →
      ((w : ℕ) → 1 ≤ w → w ≤ most_weight →
      rank w (suc r.slot) (suc r.last) fs + gone_above s.weight gs w ≤ rank w (suc r.slot) (suc r.last) xs + u.lost w) →
      ((μ : Row → ℕ) → olds μ done ≡ μ h + olds μ ds) → ((μ : Row → ℕ) → news μ done ≡ μ c + news μ ds) → LeapWorth r f p s h c ds fs ys es
  unfolding worth
  leap_worth_of mh gs xs zs done u each oa na =
      let e = suc r.last in
      let t = suc r.slot in
      record {
        mh = mh;
        gs = gs;
        xs = xs;
        zs = zs;
        done = done;
        walk = u;
        worthy = omega (
          arith,
          sum_to_le most_weight (λ w. rank w t e fs + gone_above s.weight gs w) (λ w. rank w t e xs + u.lost w) each,
          sum_to_add most_weight (λ w. rank w t e fs) (gone_above s.weight gs),
          sum_to_add most_weight (λ w. rank w t e xs) u.lost,
          gone_above_sum s.weight gs u.gone_all,
          u.lost_sum,
        );
        olds_are = oa;
        news_are = na;
      }

  -- rows gone from the stash are due by the last slot
  gone_due : (mh : ℕ) (gs xs : List Row) (zs : List StashEntry) (done : List ChainPlace) (u : Walk r f s.weight ys es (missed_besides r h c) p mh gs xs zs done) →
      All (λ y. y.due < suc r.last) gs
  gone_due mh gs xs zs done u =
      all_map {Q = λ y. y.due < suc r.last} (λ y (i : In y (held es)).
      omega (arith, (all_in (λ x. (suc r.slot ≤ x.due) × (x.due ≤ r.last)) y (held es) k.lates i).1))
      gs (part_all gs (held es) (λ μ. omega (arith, u.gone_in μ)))

  -- the substitute against what comes for the last place, up to its weight
  same_to_weight : (w v : ℕ) → 1 ≤ w → w ≤ s.weight → v ≤ suc r.last → box w v (suc r.last) c ≡ box w v (suc r.last) s
  same_to_weight w v a l j =
      elim (leb? v s.due) [
        | inl q ↦ omega (
          arith,
          box_yes w v (suc r.last) s l q.1 (omega (arith, k.next.from, k.next.by)),
          box_yes w v (suc r.last) c (omega (arith, k.comes, k.mark_s)) (omega (arith, k.same)) (omega (arith, k.same, k.next.from, k.next.by)),
        )
        | inr q ↦ elim (box? w v (suc r.last) s j) [
          | inl z ↦ absurd (omega arith)
          | inr z ↦ elim (box? w v (suc r.last) c j) [ inl y ↦ absurd (omega (arith, k.same)) | inr y ↦ omega arith ]
        ]
      ]

  -- an answer counts 1 at most
  one_most : (v : ℕ) → one_if (leb v g) ≤ 1
  one_most v = elim (leb? v g) [ inl q ↦ rw q.0 (omega arith) | inr q ↦ rw q.0 (omega arith) ]

  -- the last place is due by g
  last_place_late : (w v : ℕ) → v ≤ suc r.last → box w v (suc r.last) h ≤ one_if (leb v g)
  last_place_late w v j =
      elim (leb? v g) [
        | inl q ↦ rw q.0 (elim (box? w v (suc r.last) h j) [ inl z ↦ omega arith | inr z ↦ omega arith ])
        | inr q ↦ rw q.0 (elim (box? w v (suc r.last) h j) [ inl z ↦ absurd (omega (arith, k.final.by)) | inr z ↦ omega arith ])
      ]

  -- where the latest row held by g is before the stretch, none is in it
  none_between : (d : ℕ) → d < b → LatestBy g d (held es) → (x : Row) → b ≤ x.due → x.due ≤ g → sum (like x) (held es) ≡ 0
  none_between d db lat x i j =
      elim (leb? 1 (sum (like x) (held es))) [
        | inl q ↦ absurd (omega (arith, all_in (λ y. y.due ≤ g → y.due ≤ d) x (held es) lat (occurs_in x (held es) q.1) j))
        | inr q ↦ omega arith
      ]

  -- NOTHING HELD by g past d, which is before the stretch, and the substitute blocked
  none_held : (d : ℕ) → d < b → LatestBy g d (held es) →
      Blocked r s ys → LeapWorth r f p s h c ds fs ys es
  none_held d db lat blk =
      let hn = none_between d db lat in
      elim (leb? 1 (sum (like h) ys)) [
        | inl i ↦
            let t = start_free r f s.weight ys es (missed_besides r h c) g h c k.final k.good (occurs_in h ys i.1) in
            let z = walk_none r f s.weight ys es (missed_besides r h c) g b p h c.weight (c ∷ t.0) (comes_for h c ∷ []) ds k.present
            k.chain k.final.by hn
            t.1 t.3 t.4 in
            leap_worth_of z.mh [] z.xs es z.done z.walk
            (λ w a l. omega (arith, rank_none_held r f p s h c b g ds fs ys es k z.mh z.xs z.done z.walk d db lat blk w a))
            (λ μ. omega (arith, z.olds_are μ)) (λ μ. omega (arith, z.news_are μ))
        | inr i ↦ absurd (omega (arith, k.present h k.final.inside k.final.waits, hn h k.begin k.final.by))
      ]

  -- THE LATEST ROW HELD by g is before the stretch, and the substitute useful
  held_before : (x : Row) → In x (held es) → In x (plan r) → x.due < b → x.due ≤ g → r.slot ≤ x.due → LatestBy g x.due (held es) →
      Useful r s ys → LeapWorth r f p s h c ds fs ys es
  held_before x ih ip xb xg xl lat us =
      let e = suc r.last in
      let hn = none_between x.due xb lat in
      let xe : x.due ≤ r.last = (all_in (λ x. (suc r.slot ≤ x.due) × (x.due ≤ r.last)) x (held es) k.lates ih).1 in
      let wm : s.weight ≤ mark r x.due = omega (arith, k.final.marks x.due xl xg, k.final.under) in
      let mx = member_mark r f x ip xe in
      elim (leb? 1 (sum (like h) ys)) [
        | inl i ↦
            let t = start_free r f s.weight ys es (missed_besides r h c) g h c k.final k.good (occurs_in h ys i.1) in
            let z = walk_none r f s.weight ys es (missed_besides r h c) g b p h c.weight (c ∷ t.0) (comes_for h c ∷ []) ds k.present
            k.chain k.final.by hn
            t.1 t.3 t.4 in
            let u = give_up_extra r f s.weight ys es (missed_besides r h c) x p z.mh z.xs es z.done z.walk
            (subst (λ (l : List Row). In x l) (sym z.all_held) ih) z.unpaid
            (all_in (λ y. y.due ≤ g → y.weight ≤ p.weight) x (plan r) k.top ip xg) k.p_limit (omega (arith, wm, mx)) mx
            (z.walk.marks x.due xl (omega (arith, k.p_from))) wm xe in
            let low : (w v : ℕ) → 1 ≤ w → w ≤ s.weight → suc r.slot ≤ v → v ≤ e → tail w v e fs ≤ tail w v e z.xs + one_if (leb v g) = λ w v a l i j.
            omega (arith, z.mono w v a l i j, k.less w v a, t.2 (box w v e), same_to_weight w v a l j, last_place_late w v j) in
            leap_worth_of z.mh (x ∷ []) (x ∷ z.xs) u.0 z.done u.1
            (λ w a l. elim (ltb? s.weight w) [
              | inl q ↦ rank_before r f p s h c b g ds fs ys es k x z.mh (x ∷ z.xs) u.0 z.done u.1 xb us lat w a q.1
              | inr q ↦ omega (
                arith,
                gone_above_low s.weight (x ∷ []) w q.1,
                rank_up_to r f p s h c b g ds fs ys es k x.due (x ∷ z.xs) lat w a q.1
                    (λ v i j. omega (arith, low w v a q.1 i j))
                    (λ v i j y. omega (arith, low w v a q.1 i j, one_most v, box_yes w v e x (omega (arith, wm, mx)) y (omega (arith, xe)))),
              )
            ])
            (λ μ. omega (arith, z.olds_are μ)) (λ μ. omega (arith, z.news_are μ))
        | inr i ↦ absurd (omega (arith, k.present h k.final.inside k.final.waits, hn h k.begin k.final.by))
      ]

  -- A WALK along the chain, rows of the stretch given up on it; d is where the latest row held by g is due
  walk_worth : (d : ℕ) → LatestBy g d (held es) → (xs₀ : List Row) (u : Walked r f s.weight ys es (missed_besides r h c) b p xs₀ (comes_for h c ∷ []) ds) →
      ((w v : ℕ) → 1 ≤ w → w ≤ s.weight → suc r.slot ≤ v → v ≤ suc r.last →
      tail w v (suc r.last) fs ≤ tail w v (suc r.last) u.xs + one_if (leb v g)) →
      ((w v : ℕ) → 1 ≤ w → w ≤ s.weight → suc r.slot ≤ v → v ≤ suc r.last → v ≤ d →
      tail w v (suc r.last) fs ≤ tail w v (suc r.last) u.xs) → LeapWorth r f p s h c ds fs ys es
  walk_worth d lat xs₀ u low early =
      leap_worth_of u.mh u.gs u.xs u.zs u.done u.walk
      (λ w a l. elim (ltb? s.weight w) [
        | inl q ↦ rank_above r f p s h c b g ds fs ys es k u.mh u.gs u.xs u.zs u.done u.walk u.from
            (gone_due u.mh u.gs u.xs u.zs u.done u.walk) w a l q.1
        | inr q ↦ omega (
          arith,
          gone_above_low s.weight u.gs w q.1,
          rank_up_to r f p s h c b g ds fs ys es k d u.xs lat w a q.1 (λ v i j. low w v a q.1 i j) (λ v i j y. early w v a q.1 i j y),
        )
      ])
      (λ μ. omega (arith, u.olds_are μ)) (λ μ. omega (arith, u.news_are μ))

  -- THE LATEST ROW HELD by g is in the stretch, and the last place is free
  stretch_free : (x : Row) → In x (held es) → In x (plan r) → b ≤ x.due → x.due ≤ g → r.slot ≤ x.due → LatestBy g x.due (held es) → In h ys →
      LeapWorth r f p s h c ds fs ys es
  stretch_free x ih ip xb xg xl lat i =
      let e = suc r.last in
      let xe : x.due ≤ r.last = (all_in (λ x. (suc r.slot ≤ x.due) × (x.due ≤ r.last)) x (held es) k.lates ih).1 in
      let wm : (v : ℕ) → r.slot ≤ v → v ≤ g → s.weight ≤ mark r v = λ v i j. omega (arith, k.final.marks v i j, k.final.under) in
      let mx = member_mark r f x ip xe in
      let t = start_free r f s.weight ys es (missed_besides r h c) g h c k.final k.good i in
      let z = walk_gives r f s.weight ys es (missed_besides r h c) k.present g b p x (record {
        inside = ip;
        low = xl;
        by = xg;
        end = xe;
        from = xb;
        over = omega (arith, wm x.due xl xg, mx);
        marked = mx;
        under = all_in (λ y. y.due ≤ g → y.weight ≤ p.weight) x (plan r) k.top ip xg;
      }) wm h c.weight (c ∷ t.0) es (comes_for h c ∷ []) ds k.chain k.final.by k.final.limit (k.final.marks x.due xl xg)
      t.1 (subst (λ (l : List Row). In x l) (sym t.4) ih) t.3 in
      let base : (w v : ℕ) → 1 ≤ w → w ≤ s.weight → suc r.slot ≤ v → v ≤ e → tail w v e fs ≤ tail w v e (c ∷ t.0) + one_if (leb v g) = λ w v a l i j.
      omega (arith, k.less w v a, t.2 (box w v e), same_to_weight w v a l j, last_place_late w v j) in
      walk_worth x.due lat (c ∷ t.0) z.walked
      (λ w v a l i j. omega (arith, base w v a l i j, z.walked.mono w v a l i j))
      (λ w v a l i j y. omega (arith, base w v a l i j, one_most v, z.more w v a l i j y))

  -- or held itself
  stretch_held : (d : ℕ) → LatestBy g d (held es) → In h (held es) → LeapWorth r f p s h c ds fs ys es
  stretch_held d lat i =
      let e = suc r.last in
      let t = start_gone r f s.weight ys es (missed_besides r h c) g h c k.final k.good i in
      let u = walk_all r f s.weight ys es (missed_besides r h c) g b p h c.weight (h ∷ []) (c ∷ ys) t.0 (comes_for h c ∷ []) ds k.present k.chain
      (k.begin, tt) t.1 in
      let base : (w v : ℕ) → 1 ≤ w → w ≤ s.weight → suc r.slot ≤ v → v ≤ e → tail w v e fs ≤ tail w v e u.xs = λ w v a l i j.
      omega (arith, k.less w v a, same_to_weight w v a l j, u.mono w v a l i j) in
      walk_worth d lat (c ∷ ys) u (λ w v a l i j. omega (arith, base w v a l i j)) (λ w v a l i j y. base w v a l i j)

  -- in either case
  held_in_stretch : (x : Row) → In x (held es) → In x (plan r) → b ≤ x.due → x.due ≤ g → r.slot ≤ x.due → LatestBy g x.due (held es) →
      LeapWorth r f p s h c ds fs ys es
  held_in_stretch x ih ip xb xg xl lat =
      elim (leb? 1 (sum (like h) ys)) [
        | inl i ↦ stretch_free x ih ip xb xg xl lat (occurs_in h ys i.1)
        | inr i ↦ stretch_held x.due lat (occurs_in h (held es) (omega (arith, k.present h k.final.inside k.final.waits)))
      ]

  -- with nothing held by g the substitute is blocked
  bare_blocked : LatestBy g 0 (held es) → Useful r s ys → ⊥
  bare_blocked lat us =
      let e = suc r.last in
      let t = suc r.slot in
      let q = useful_past r f p s h c b g ds fs ys es k 0 (omega (arith, k.low)) us lat in
      omega (
        arith,
        rank_ge s.weight t e ys (rank s.weight t e ys + 1) (omega (arith, k.time)) (λ u i j. q u i (omega arith) j),
      )

  -- IN EVERY CASE
  pub leap_worth : LeapWorth r f p s h c ds fs ys es
  leap_worth =
      let sub = blocked? r s ys (omega (arith, k.next.from, k.next.by)) in
      elim (latest g (held es)) [
        | inl n ↦
            let lat : LatestBy g 0 (held es) = all_map {Q = λ y. y.due ≤ g → y.due ≤ 0}
            (λ y (q : g < y.due) (i : y.due ≤ g). absurd (omega arith)) (held es) n in
            elim sub [ inl z ↦ none_held 0 (omega (arith, k.low)) lat z | inr z ↦ absurd (bare_blocked lat z) ]
        | inr x ↦
            let ip = part_in (held es) (plan r) k.split.inside x.0 x.1 in
            let u = all_in (λ x. (suc r.slot ≤ x.due) × (x.due ≤ r.last)) x.0 (held es) k.lates x.1 in
            elim (ltb? x.0.due b) [
              | inl xb ↦ elim sub [
                | inl z ↦ none_held x.0.due xb.1 x.3 z
                | inr z ↦ held_before x.0 x.1 ip xb.1 x.2 (omega (arith, u.0)) x.3 z
              ]
              | inr xb ↦ held_in_stretch x.0 x.1 ip xb.1 x.2 (omega (arith, u.0)) x.3
            ]
      ]
