-- One place of a leap's chain: it is free, stays held, or is given up.
use Rattle.std.specs.Prelude.{◌≡◌, refl, ◌⊎◌, List, [], ◌∷◌, ℕ, suc, ◌+◌, ◌-◌, ◌≤◌, ◌<◌}
use Rattle.std.proofs.Common.{inl, inr, arith}
use Rattle.rules.specs.Limits.{most_weight}
use Rattle.rules.specs.Rows.{In, Round, Row}
use Rattle.rules.specs.Plan.{mark}
use Rattle.theory.specs.Tests.{leb?}
use Rattle.theory.specs.Sum.{sum}
use Rattle.theory.specs.Full.{Fine}
use Rattle.theory.specs.Marks.{box}
use Rattle.theory.specs.Totals.{sum_to, sum_to_add}
use Rattle.theory.specs.MarksFall.{mark_falls}
use Rattle.hindsight.specs.Tails.{tail}
use Rattle.hindsight.specs.Occurs.{occurs_in, like, like_late, like_some, pull, seen}
use Rattle.hindsight.specs.Worth.{up_to?}
use Rattle.hindsight.specs.Stash.{StashEntry, give_up, held, trade}
use Rattle.hindsight.specs.Places.{Link, ChainPlace, Unpaid, Walk, box_fall, fall, fall_sum, olds, comes_for}

module _ (r : Round) (f : Fine r) (wr : ℕ) (ys : List Row) (es : List StashEntry) (adj : ℕ → ℕ → ℕ) where
  module _ (g : ℕ) (o c h : Row) (mh : ℕ) (gs xs : List Row) (zs : List StashEntry) (done : List ChainPlace) (k : Link r g o c h)
      (u : Walk r f wr ys es adj h mh gs xs zs done) where
    -- a row that waits is free or held
    pub free_or_held : 1 ≤ sum (like o) ys + sum (like o) (held es) → In o xs ⊎ In o u.untouched
    free_or_held n =
        let z = u.done_late o (omega (arith, k.from, k.after)) in
        elim (leb? 1 (sum (like o) xs)) [
          | inl a ↦ inl (occurs_in o xs a.1)
          | inr a ↦ inr (occurs_in o u.untouched
              (omega (arith, u.swap (like o), u.kept (like o), u.stayed_late o (omega (arith, k.from, k.after)))))
        ]

    -- marks up to the place are no less than that of the slot to which c comes
    marks_back : (s : ℕ) → r.slot ≤ s → s ≤ o.due → mark r c.due ≤ mark r s
    marks_back s a b = mark_falls r f s c.due a (omega (arith, k.from)) (omega (arith, k.after, k.by))

    -- nor is that less than the last one
    mark_grows : mh ≤ mark r c.due
    mark_grows = u.marks c.due (omega (arith, k.low, k.from)) (omega (arith, k.after))

    -- rows due before this place are due before the last one
    no_stayed : (x : Row) → x.due < o.due → sum (like x) u.stayed ≡ 0
    no_stayed x a = u.stayed_late x (omega (arith, k.from, k.after))

    -- and left no place yet
    no_done : (x : Row) → x.due < o.due → like x o + olds (like x) done ≡ 0
    no_done x a = omega (arith, u.done_late x (omega (arith, k.from, k.after)), like_late x o a)

    -- what the place misses for each weight, and in all
    place_fall : (w v : ℕ) → v ≤ suc r.last → box w v (suc r.last) o ≤ box w v (suc r.last) c + fall o.weight c.weight w
    place_fall w v d = box_fall w v (suc r.last) o c d k.from (omega (arith, k.after, k.by))

    place_lost : sum_to most_weight (λ w. u.lost w + fall o.weight c.weight w) ≡ u.given + (o.weight - c.weight)
    place_lost =
        omega (
          arith,
          u.lost_sum,
          sum_to_add most_weight u.lost (fall o.weight c.weight),
          fall_sum o.weight c.weight (omega (arith, k.rises, k.falls, k.above)) k.limit,
        )

    -- nothing up to the substitute's weight
    no_fall : (w : ℕ) → w ≤ wr → fall o.weight c.weight w ≡ 0
    no_fall w a =
        elim (up_to? c.weight w) [
          | inl q ↦ elim (up_to? o.weight w) [ inl s ↦ omega arith | inr s ↦ omega arith ]
          | inr q ↦ absurd (omega (arith, k.rises, u.under, u.anchored))
        ]

    -- THE PLACE IS FREE: the row that comes is free
    pub step_free : In o xs → (xs' : List Row) × (u' : Walk r f wr ys es adj o (mark r c.due) gs xs' zs (comes_for o c ∷ done))
        × ((w v : ℕ) → 1 ≤ w → w ≤ wr → suc r.slot ≤ v → v ≤ suc r.last → tail w v (suc r.last) xs ≤ tail w v (suc r.last) xs')
        × (Unpaid r f wr ys es adj u → Unpaid r f wr ys es adj u') × (u'.untouched ≡ u.untouched)
    step_free i =
        let p = pull o xs i in
        let e = suc r.last in (
          c ∷ p.0,
          record {
            anchor = u.anchor;
            cost = u.cost;
            gain = u.gain;
            rise = u.rise;
            pending = u.pending + (c.weight - h.weight);
            given = u.given + (o.weight - c.weight);
            lost = λ w. u.lost w + fall o.weight c.weight w;
            untouched = u.untouched;
            stayed = u.stayed;
            change = λ w v a b d. omega (arith, u.change w v a b d, p.1 (box w v e), place_fall w v d);
            lost_sum = place_lost;
            balance = omega (arith, u.balance, k.rises, k.falls, k.above);
            gone_all = u.gone_all;
            gone_in = u.gone_in;
            kept = u.kept;
            stayed_late = no_stayed;
            stayed_some = u.stayed_some;
            done_late = no_done;
            anchored = u.anchored;
            rise_most = u.rise_most;
            under = omega (arith, u.under, k.falls);
            pending_most = omega (arith, u.pending_most, mark_grows, u.mark_under, u.under, k.rises);
            mark_under = k.above;
            marks = marks_back;
            swap = λ μ. omega (arith, u.swap μ, p.1 μ);
            rises = omega (arith, u.rises, k.rises);
            owed = u.owed;
            good = u.good;
            keeps = u.keeps;
          },
          λ w v a l b d. omega (arith, p.1 (box w v e), place_fall w v d, no_fall w l),
          λ z. z,
          refl,
        )

    -- HELD, and the mark is below the anchor: its entry takes the row that comes
    pub step_stay : In o u.untouched → mark r c.due < u.anchor → (zs' : List StashEntry) × Walk r f wr ys es adj o (mark r c.due) gs xs zs'
        (comes_for o c ∷ done)
    step_stay i n =
        let q = pull o u.untouched i in
        let inz : In o (held zs) = occurs_in o (held zs) (omega (arith, u.kept (like o), seen o u.untouched i)) in
        let z = trade r o c k.from (omega (arith, k.rises, k.falls, k.above)) (suc r.slot) zs (omega arith) inz u.good in
        let same : c.weight ≡ h.weight = omega (arith, k.rises, u.under) in (
          z.stash,
          record {
            anchor = o.weight;
            cost = u.cost + (o.weight - c.weight);
            gain = u.gain;
            rise = u.rise;
            pending = 0;
            given = u.given;
            lost = u.lost;
            untouched = q.0;
            stayed = c ∷ u.stayed;
            change = u.change;
            lost_sum = u.lost_sum;
            balance = omega (arith, u.balance, u.pending_most, mark_grows, k.falls);
            gone_all = u.gone_all;
            gone_in = λ μ. omega (arith, u.gone_in μ, q.1 μ);
            kept = λ μ. omega (arith, u.kept μ, q.1 μ, z.sums μ);
            stayed_late = λ x a. omega (arith, no_stayed x a, like_late x c (omega (arith, k.from)));
            stayed_some = λ x a. omega (arith, u.stayed_some x a, like_some x c a (omega (arith, u.under)));
            done_late = no_done;
            anchored = omega (arith, u.anchored, u.under, k.falls);
            rise_most = u.rise_most;
            under = omega arith;
            pending_most = omega arith;
            mark_under = k.above;
            marks = marks_back;
            swap = λ μ. omega (arith, u.swap μ, z.sums μ);
            rises = omega (arith, u.rises, u.pending_most, mark_grows);
            owed = omega (arith, u.owed, z.counts, k.falls);
            good = z.good;
            keeps = λ us d. z.keeps us (u.keeps us d);
          },
        )

    -- HELD, and the mark is the anchor or more: its entry is owed the mark, the row that comes is free
    pub step_gone : In o u.untouched → u.anchor ≤ mark r c.due →
        (zs' : List StashEntry) × Walk r f wr ys es adj o (mark r c.due) (o ∷ gs) (c ∷ xs) zs' (comes_for o c ∷ done)
    step_gone i n =
        let q = pull o u.untouched i in
        let inz : In o (held zs) = occurs_in o (held zs) (omega (arith, u.kept (like o), seen o u.untouched i)) in
        let z = give_up r f o (mark r c.due) (marks_back o.due k.low (omega arith)) k.above (omega (arith, k.from, k.after, k.by))
        (suc r.slot) zs (omega arith) inz u.good in (
          z.stash,
          record {
            anchor = o.weight;
            cost = u.cost + (o.weight - mark r c.due);
            gain = u.gain + (mark r c.due - wr);
            rise = u.rise + (u.pending + (c.weight - h.weight));
            pending = 0;
            given = u.given + (o.weight - c.weight);
            lost = λ w. u.lost w + fall o.weight c.weight w;
            untouched = q.0;
            stayed = u.stayed;
            change = λ w v a b d. omega (arith, u.change w v a b d, place_fall w v d);
            lost_sum = place_lost;
            balance = omega (arith, u.balance, k.rises, k.falls, k.above, u.anchored);
            gone_all = ((omega (arith, u.anchored, u.under, k.falls), k.limit), u.gone_all);
            gone_in = λ μ. omega (arith, u.gone_in μ, q.1 μ);
            kept = λ μ. omega (arith, u.kept μ, q.1 μ, z.sums μ);
            stayed_late = no_stayed;
            stayed_some = u.stayed_some;
            done_late = no_done;
            anchored = omega (arith, u.anchored, u.pending_most, mark_grows, u.mark_under, u.under, k.rises, k.above);
            rise_most = omega (arith, u.rise_most, u.anchored, u.pending_most, mark_grows, u.mark_under, u.under, k.rises);
            under = omega arith;
            pending_most = omega arith;
            mark_under = k.above;
            marks = marks_back;
            swap = λ μ. omega (arith, u.swap μ, z.sums μ);
            rises = omega (arith, u.rises, k.rises);
            owed = omega (arith, u.owed, z.counts, k.above);
            good = z.good;
            keeps = λ us d. z.keeps us (u.keeps us d);
          },
        )

  -- A HELD ROW that is no place, x, given up for its mark at the place h
  pub give_up_extra : (x h : Row) (mh : ℕ) (xs : List Row) (zs : List StashEntry) (done : List ChainPlace)
      (u : Walk r f wr ys es adj h mh [] xs zs done) → In x u.untouched →
      Unpaid r f wr ys es adj u → x.weight ≤ h.weight → h.weight ≤ most_weight → wr ≤ x.weight → mark r x.due ≤ x.weight →
      mh ≤ mark r x.due → wr ≤ mark r x.due → x.due ≤ r.last →
      (zs' : List StashEntry) × Walk r f wr ys es adj h mh (x ∷ []) (x ∷ xs) zs' done
  give_up_extra x h mh xs zs done u i (c0, g0, r0, a0) l lim wx mx mm wm dl =
      let q = pull x u.untouched i in
      let inz : In x (held zs) = occurs_in x (held zs) (omega (arith, u.kept (like x), seen x u.untouched i)) in
      let z = give_up r f x (mark r x.due) (omega arith) mx dl (suc r.slot) zs (omega arith) inz u.good in (
        z.stash,
        record {
          anchor = h.weight;
          cost = x.weight - mark r x.due;
          gain = mark r x.due - wr;
          rise = u.pending;
          pending = 0;
          given = u.given;
          lost = u.lost;
          untouched = q.0;
          stayed = u.stayed;
          change = λ w v a b d. omega (arith, u.change w v a b d);
          lost_sum = u.lost_sum;
          balance = omega (arith, u.balance);
          gone_all = ((wx, omega arith), tt);
          gone_in = λ μ. omega (arith, u.gone_in μ, q.1 μ);
          kept = λ μ. omega (arith, u.kept μ, q.1 μ, z.sums μ);
          stayed_late = u.stayed_late;
          stayed_some = u.stayed_some;
          done_late = u.done_late;
          anchored = omega (arith, u.pending_most);
          rise_most = omega (arith, u.pending_most);
          under = omega arith;
          pending_most = omega arith;
          mark_under = u.mark_under;
          marks = u.marks;
          swap = λ μ. omega (arith, u.swap μ, z.sums μ);
          rises = omega (arith, u.rises);
          owed = omega (arith, u.owed, z.counts);
          good = z.good;
          keeps = λ us d. z.keeps us (u.keeps us d);
        },
      )
