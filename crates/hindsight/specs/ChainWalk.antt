-- Along a leap's chain, from its last place back to the row sent: each place as it is, or all of them free.
use Rattle.std.specs.Prelude.{◌≡◌, List, [], ◌∷◌, ℕ, suc, ◌+◌, ◌≤◌}
use Rattle.std.proofs.Common.{◌∙◌, subst, inl, inr, arith}
use Rattle.rules.specs.Rows.{All, In, Round, Row}
use Rattle.rules.specs.Plan.{mark, plan}
use Rattle.theory.specs.Tests.{ltb?}
use Rattle.theory.specs.Sum.{sum}
use Rattle.theory.specs.Full.{Fine}
use Rattle.hindsight.specs.Tails.{tail}
use Rattle.hindsight.specs.Occurs.{like, seen}
use Rattle.hindsight.specs.Stash.{StashEntry, held}
use Rattle.hindsight.specs.Places.{PlaceChain, ChainPlace, Unpaid, Walk, news, olds, comes_for}
use Rattle.hindsight.specs.PlaceSteps.{free_or_held, step_free, step_gone, step_stay}

-- members that wait are free or held
abbrev pub Present : Round → (ys : List Row) → List StashEntry → Type 0
Present r ys es = (x : Row) → In x (plan r) → In x r.rows → 1 ≤ sum (like x) ys + sum (like x) (held es)

module _ (r : Round) (f : Fine r) (wr : ℕ) (ys : List Row) (es : List StashEntry) (adj : ℕ → ℕ → ℕ) where
  -- WHERE A WALK ENDS, at p: started with free rows xs₀ and places done₀, along the places ds
  pub record Walked (b : ℕ) (p : Row) (xs₀ : List Row) (done₀ ds : List ChainPlace) : Type 0 where
    pub mh : ℕ
    pub gs : List Row
    pub xs : List Row
    pub zs : List StashEntry
    pub done : List ChainPlace
    pub walk : Walk r f wr ys es adj p mh gs xs zs done
    pub from : All (λ x. b ≤ x.due) gs
    pub mono : (w v : ℕ) → 1 ≤ w → w ≤ wr → suc r.slot ≤ v → v ≤ suc r.last → tail w v (suc r.last) xs₀ ≤ tail w v (suc r.last) xs
    pub olds_are : (μ : Row → ℕ) → olds μ done ≡ olds μ done₀ + olds μ ds
    pub news_are : (μ : Row → ℕ) → news μ done ≡ news μ done₀ + news μ ds

  -- one place more before it
  abbrev pub place_more : (b : ℕ) (p o c : Row) (xs xs' : List Row) (done ds : List ChainPlace) →
      ((w v : ℕ) → 1 ≤ w → w ≤ wr → suc r.slot ≤ v → v ≤ suc r.last → tail w v (suc r.last) xs ≤ tail w v (suc r.last) xs') →
      Walked b p xs' (comes_for o c ∷ done) ds → Walked b p xs done (comes_for o c ∷ ds)
  place_more b p o c xs xs' done ds m z =
      record {
        mh = z.mh;
        gs = z.gs;
        xs = z.xs;
        zs = z.zs;
        done = z.done;
        walk = z.walk;
        from = z.from;
        mono = λ w v a l i j. omega (arith, m w v a l i j, z.mono w v a l i j);
        olds_are = λ μ. omega (arith, z.olds_are μ);
        news_are = λ μ. omega (arith, z.news_are μ);
      }

  -- FROM ANY PLACE on: each as it is
  pub walk_all : (g b : ℕ) (p h : Row) (mh : ℕ) (gs xs : List Row) (zs : List StashEntry) (done ds : List ChainPlace) → Present r ys es → PlaceChain r g b p h ds →
      All (λ x. b ≤ x.due) gs → Walk r f wr ys es adj h mh gs xs zs done → Walked b p xs done ds
  walk_all g b p h mh gs xs zs done [] n q a u =
      record {
        mh = mh;
        gs = gs;
        xs = xs;
        zs = zs;
        done = done;
        walk = subst (λ (z : Row). Walk r f wr ys es adj z mh gs xs zs done) q u;
        from = a;
        mono = λ w v c l i j. omega arith;
        olds_are = λ μ. omega arith;
        news_are = λ μ. omega arith;
      }
  walk_all g b p h mh gs xs zs done (d ∷ ds) n q a u =
      let o = d.old in
      let c = d.new in
      let k = q.0 in
      elim (free_or_held r f wr ys es adj g o c h mh gs xs zs done k u (n o k.inside k.waits)) [
        | inl i ↦
            let s = step_free r f wr ys es adj g o c h mh gs xs zs done k u i in
            place_more b p o c xs s.0 done ds s.2 (walk_all g b p o (mark r c.due) gs s.0 zs (comes_for o c ∷ done) ds n q.2 a s.1)
        | inr i ↦ elim (ltb? (mark r c.due) u.anchor) [
          | inl m ↦
              let s = step_stay r f wr ys es adj g o c h mh gs xs zs done k u i m.1 in
              place_more b p o c xs xs done ds (λ w v x y z t. omega arith)
              (walk_all g b p o (mark r c.due) gs xs s.0 (comes_for o c ∷ done) ds n q.2 a s.1)
          | inr m ↦
              let s = step_gone r f wr ys es adj g o c h mh gs xs zs done k u i m.1 in
              place_more b p o c xs (c ∷ xs) done ds (λ w v x y z t. omega arith)
              (walk_all g b p o (mark r c.due) (o ∷ gs) (c ∷ xs) s.0 (comes_for o c ∷ done) ds n q.2 (q.1, a) s.1)
        ]
      ]

  -- where it ends if every place is free
  pub record WalkedFree (p : Row) (xs₀ : List Row) (done₀ ds : List ChainPlace) : Type 0 where
    pub mh : ℕ
    pub xs : List Row
    pub done : List ChainPlace
    pub walk : Walk r f wr ys es adj p mh [] xs es done
    pub olds_are : (μ : Row → ℕ) → olds μ done ≡ olds μ done₀ + olds μ ds
    pub news_are : (μ : Row → ℕ) → news μ done ≡ news μ done₀ + news μ ds
    pub mono : (w v : ℕ) → 1 ≤ w → w ≤ wr → suc r.slot ≤ v → v ≤ suc r.last → tail w v (suc r.last) xs₀ ≤ tail w v (suc r.last) xs
    pub unpaid : Unpaid r f wr ys es adj walk
    pub all_held : walk.untouched ≡ held es

  -- WITH NOTHING HELD in the stretch from b to g
  pub walk_none : (g b : ℕ) (p h : Row) (mh : ℕ) (xs : List Row) (done ds : List ChainPlace) → Present r ys es → PlaceChain r g b p h ds → h.due ≤ g →
      ((x : Row) → b ≤ x.due → x.due ≤ g → sum (like x) (held es) ≡ 0) → (u : Walk r f wr ys es adj h mh [] xs es done) → Unpaid r f wr ys es adj u →
      u.untouched ≡ held es → WalkedFree p xs done ds
  walk_none g b p h mh xs done [] n q hg none u n0 e5 = at_end p h q u n0 e5
    where
      at_end : (p h : Row) → h ≡ p → (u : Walk r f wr ys es adj h mh [] xs es done) → Unpaid r f wr ys es adj u → u.untouched ≡ held es → WalkedFree p xs done []
      at_end p h q u n0 e5 =
          subst (λ (z : Row). WalkedFree z xs done []) q (record {
            mh = mh;
            xs = xs;
            done = done;
            walk = u;
            olds_are = λ μ. omega arith;
            news_are = λ μ. omega arith;
            mono = λ w v a l i j. omega arith;
            unpaid = n0;
            all_held = e5;
          })
  walk_none g b p h mh xs done (d ∷ ds) n q hg none u n0 e5 =
      let o = d.old in
      let c = d.new in
      let k = q.0 in
      let og : o.due ≤ g = omega (arith, k.from, k.after) in
      elim (free_or_held r f wr ys es adj g o c h mh [] xs es done k u (n o k.inside k.waits)) [
        | inl i ↦
            let s = step_free r f wr ys es adj g o c h mh [] xs es done k u i in
            let z = walk_none g b p o (mark r c.due) s.0 (comes_for o c ∷ done) ds n q.2 og none s.1 (s.3 n0) (s.4 ∙ e5) in
            record {
              mh = z.mh;
              xs = z.xs;
              done = z.done;
              walk = z.walk;
              olds_are = λ μ. omega (arith, z.olds_are μ);
              news_are = λ μ. omega (arith, z.news_are μ);
              mono = λ w v a l i j. omega (arith, s.2 w v a l i j, z.mono w v a l i j);
              unpaid = z.unpaid;
              all_held = z.all_held;
            }
        | inr i ↦ absurd (omega (arith, none o q.1 og, u.gone_in (like o), seen o u.untouched i))
      ]
