-- Along a leap's chain with a row of its stretch held: the latest one is given up on the way, or the row of a place before it.
use Rattle.std.proofs.Common.{sym, ap, subst, inl, inr, arith}
use Rattle.std.specs.Prelude.{List, [], ◌∷◌, ℕ, suc, ◌+◌, ◌≤◌, ◌<◌}
use Rattle.rules.specs.Limits.{most_weight}
use Rattle.rules.specs.Rows.{In, Round, Row}
use Rattle.rules.specs.Plan.{mark, plan}
use Rattle.theory.specs.Tests.{ltb?}
use Rattle.theory.specs.All.{all_in}
use Rattle.theory.specs.Full.{Fine}
use Rattle.theory.specs.Marks.{box_yes}
use Rattle.theory.specs.MarksFall.{mark_falls}
use Rattle.hindsight.specs.Tails.{tail}
use Rattle.hindsight.specs.Stash.{StashEntry}
use Rattle.hindsight.specs.Places.{PlaceChain, Link, ChainPlace, Unpaid, Walk, comes_for}
use Rattle.hindsight.specs.PlaceSteps.{give_up_extra, free_or_held, step_free, step_gone}
use Rattle.hindsight.specs.ChainWalk.{Present, Walked, place_more, walk_all}

-- A MEMBER OF THE STRETCH from b to g, no lighter than the substitute and no heavier than p
pub record InStretch (r : Round) (wr g b : ℕ) (p x : Row) : Type 0 where
  pub inside : In x (plan r)
  pub low : r.slot ≤ x.due
  pub by : x.due ≤ g
  pub end : x.due ≤ r.last
  pub from : b ≤ x.due
  pub over : wr ≤ x.weight
  pub marked : mark r x.due ≤ x.weight
  pub under : x.weight ≤ p.weight

module _ (r : Round) (f : Fine r) (wr : ℕ) (ys : List Row) (es : List StashEntry) (adj : ℕ → ℕ → ℕ) (n : Present r ys es) (g b : ℕ) (p x : Row)
    (k : InStretch r wr g b p x) (wm : (s : ℕ) → r.slot ≤ s → s ≤ g → wr ≤ mark r s) where
  -- where the walk ends, with a row more free up to x's due slot
  pub record Gives (xs : List Row) (done ds : List ChainPlace) : Type 0 where
    pub walked : Walked r f wr ys es adj b p xs done ds
    pub more : (w v : ℕ) → 1 ≤ w → w ≤ wr → suc r.slot ≤ v → v ≤ suc r.last → v ≤ x.due →
        tail w v (suc r.last) xs + 1 ≤ tail w v (suc r.last) walked.xs

  -- x is given up at the place h
  give_here : (h : Row) (mh : ℕ) (xs : List Row) (zs : List StashEntry) (done ds : List ChainPlace) → PlaceChain r g b p h ds →
      (u : Walk r f wr ys es adj h mh [] xs zs done) → In x u.untouched → Unpaid r f wr ys es adj u → x.weight ≤ h.weight → h.weight ≤ most_weight →
      mh ≤ mark r x.due → Gives xs done ds
  give_here h mh xs zs done ds q u i n0 l hl mm =
      let t = give_up_extra r f wr ys es adj x h mh xs zs done u i n0 l hl k.over k.marked mm (wm x.due k.low k.by) k.end in
      let z = walk_all r f wr ys es adj g b p h mh (x ∷ []) (x ∷ xs) t.0 done ds n q (k.from, tt) t.1 in
      record {
        walked = record {
          mh = z.mh;
          gs = z.gs;
          xs = z.xs;
          zs = z.zs;
          done = z.done;
          walk = z.walk;
          from = z.from;
          mono = λ w v a l i j. omega (arith, z.mono w v a l i j);
          olds_are = z.olds_are;
          news_are = z.news_are;
        };
        more = λ w v a l c d y. omega (arith, z.mono w v a l c d, box_yes w v (suc r.last) x (omega (arith, k.over)) y (omega (arith, k.end)));
      }

  -- the row of a place is given up, which is due no earlier than x
  give_place : (o c h : Row) (mh : ℕ) (xs : List Row) (zs : List StashEntry) (done ds : List ChainPlace) →
      (l : Link r g o c h) → b ≤ o.due → PlaceChain r g b p o ds →
      h.due ≤ g → x.due ≤ c.due → (u : Walk r f wr ys es adj h mh [] xs zs done) → In o u.untouched → Unpaid r f wr ys es adj u → Gives xs done (comes_for o c ∷ ds)
  give_place o c h mh xs zs done ds l ob q hg m u j n0 =
      let s = step_gone r f wr ys es adj g o c h mh [] xs zs done l u j
      (omega (arith, n0.3, wm c.due (omega (arith, l.low, l.from)) (omega (arith, l.after)))) in
      let z = walk_all r f wr ys es adj g b p o (mark r c.due) (o ∷ []) (c ∷ xs) s.0 (comes_for o c ∷ done) ds n q (ob, tt) s.1 in
      record {
        walked = place_more r f wr ys es adj b p o c xs (c ∷ xs) done ds (λ w v x y z t. omega arith) z;
        more = λ w v a i e t y. omega (
          arith,
          z.mono w v a i e t,
          box_yes w v (suc r.last) c (omega (arith, l.rises, u.under, u.anchored)) (omega arith) (omega (arith, l.after, l.by)),
        );
      }

  -- WITH x THE LATEST ROW HELD by g: it is given up at the place it stands in, or the row of a place before
  pub walk_gives : (h : Row) (mh : ℕ) (xs : List Row) (zs : List StashEntry) (done ds : List ChainPlace) → PlaceChain r g b p h ds → h.due ≤ g →
      h.weight ≤ most_weight →
      mh ≤ mark r x.due → (u : Walk r f wr ys es adj h mh [] xs zs done) → In x u.untouched → Unpaid r f wr ys es adj u → Gives xs done ds
  walk_gives h mh xs zs done [] q hg hl mm u i n0 =
      give_here h mh xs zs done [] q u i n0 (omega (arith, k.under, ap (λ (z : Row). z.weight) q)) hl mm
  walk_gives h mh xs zs done (d ∷ ds) q hg hl mm u i n0 =
      let o = d.old in
      let c = d.new in
      let l = q.0 in
      elim (ltb? c.due x.due) [
        | inl m ↦ give_here h mh xs zs done (d ∷ ds) q u i n0
            (all_in (λ y. c.due < y.due → y.due ≤ g → y.weight ≤ h.weight) x (plan r) l.top k.inside m.1 k.by) hl mm
        | inr m ↦ elim (free_or_held r f wr ys es adj g o c h mh [] xs zs done l u (n o l.inside l.waits)) [
          | inl j ↦
              let s = step_free r f wr ys es adj g o c h mh [] xs zs done l u j in
              let z = walk_gives o (mark r c.due) s.0 zs (comes_for o c ∷ done) ds q.2 (omega (arith, l.from, l.after)) l.limit
              (mark_falls r f x.due c.due k.low m.1 (omega (arith, l.after, l.by)))
              s.1 (subst (λ (t : List Row). In x t) (sym s.4) i) (s.3 n0) in
              record {
                walked = place_more r f wr ys es adj b p o c xs s.0 done ds s.2 z.walked;
                more = λ w v a t e y j. omega (arith, s.2 w v a t e y, z.more w v a t e y j);
              }
          | inr j ↦ give_place o c h mh xs zs done ds l q.1 q.2 hg m.1 u j n0
        ]
      ]
