-- The passes over the plan's keys that find the segment of a slot, or its end.
use mathlib.Core.Path.{◌≡◌, refl, sym, ap, ◌∙◌, subst}
use mathlib.Core.Logic.{inl, inr}
use mathlib.Core.List.{List}
use Prim.Native.Nat.{ℕ, suc, ◌+◌, ◌*◌, ◌-◌, ◌≤◌, ◌<◌, max}
use native.Mathlib.Omega.{arith}
use native.Mathlib.Numerals.{add-one}
use lib.ListN.{length, get_or}
use Rattle.rules.specs.Rows.{Round}
use Rattle.theory.specs.Tests.{leb?, ltb?, eqb?}
use Rattle.theory.specs.Feas.{num, num_mono}
use Rattle.theory.specs.Flags.{with_flag}
use Rattle.round.specs.Rows.{at}
use Rattle.keys.specs.Key.{due_of, row_of, key_at, blank_key}
use Rattle.keys.specs.Sorted.{placed}
use Rattle.keys.proofs.DueOrder.{placed_all, placed_rises}
use Rattle.keys.specs.DueSums.{each}
use Rattle.keys.proofs.DueSums.{each_more}
use Rattle.marks.specs.Given.{Asked, LentAsked}
use Rattle.marks.specs.Near.{Finds, Ends}
use Rattle.marks.proofs.KeptLaws.{flagged, flagged_yes, flagged_no, kept, kept_all, filled, fits, At, at_place, Read, key_read, from_slot}

-- a row of the plan among the first p places, by its key
pub record KeptAt (r : Round) (fs : List ℕ) (n p k : ℕ) : Type 0 where
  pub place : ℕ
  pub below : place < p
  pub flag : get_or fs (placed r n place) 0 ≡ 1
  pub is : key_at r (placed r n place) ≡ k

-- PASSING place p: the plan's rows before it would fill the slots before edge, and no segment ends between first and edge
pub record Passing (r : Round) (fs : List ℕ) (n asked first edge low p : ℕ) : Type 0 where
  pub level : edge ≡ r.slot + kept r fs n p
  pub from : r.slot ≤ first
  pub early : first ≤ asked
  pub under : first ≤ edge
  pub gap : (v : ℕ) → first < v → v ≤ edge → num 0 v (with_flag r fs) ≡ v - r.slot → ⊥
  pub most : (q : ℕ) → q < p → get_or fs (placed r n q) 0 ≡ 1 → key_at r (placed r n q) ≤ low
  pub some : 1 ≤ low → KeptAt r fs n p low

pub kept_one : (r : Round) (fs : List ℕ) (n p : ℕ) → kept r fs n (suc p) ≡ kept r fs n p + flagged fs (placed r n p)
unfolding each
kept_one r fs n p = refl

pub kept_none : (r : Round) (fs : List ℕ) (n : ℕ) → kept r fs n 0 ≡ 0
unfolding each
kept_none r fs n = refl

pub kept_more : (r : Round) (fs : List ℕ) (n p k : ℕ) → KeptAt r fs n p k → KeptAt r fs n (p + 1) k
kept_more r fs n p k x = record { place = x.place; below = omega (arith, x.below); flag = x.flag; is = x.is }

module _ (r : Round) (ks fs : List ℕ) (many slot n asked : ℕ) (a : Asked r ks fs many slot n asked) where
  pub pass_start : (first edge : ℕ) → first ≡ slot → edge ≡ slot → Passing r fs n asked first edge 0 0
  pass_start first edge e d =
      record {
        level = omega (arith, kept_none r fs n, d, a.given.now);
        from = omega (arith, e, a.given.now);
        early = omega (arith, e, a.from);
        under = omega (arith, d, e);
        gap = λ v h l. absurd (omega (arith, h, l, d, e));
        most = λ q h. absurd (omega (arith, h));
        some = λ h. absurd (omega (arith, h));
      }

  pub begun_start : (first : ℕ) → first ≡ slot → num 0 first (with_flag r fs) ≡ first - r.slot
  begun_start first e =
      let f = fits r ks fs many slot n a.given in
      let w : first ≡ r.slot = e ∙ a.given.now in
      omega (arith, w, ap (λ (v : ℕ). num 0 v (with_flag r fs)) w, f r.slot (omega arith) (omega arith))

  -- the edge stays among small numbers
  pub edge_small : (first edge low p : ℕ) → p ≤ many → Passing r fs n asked first edge low p → edge ≤ 8192
  edge_small first edge low p h w =
      omega (
        arith,
        w.level,
        each_more (λ q. flagged fs (placed r n q)) p many h,
        kept_all r ks fs many slot n a.given,
        a.given.near.by,
        a.given.cap,
      )

  module _ (first edge low p k : ℕ) (h : p < many) (e : k ≡ get_or ks p 0) (w : Passing r fs n asked first edge low p) where
    abbrev pub due : ℕ
    due = (at r (placed r n p)).due

    pub here : At r ks fs many slot n a.given p due
    here = at_place r ks fs many slot n a.given p h

    pub read : Read r ks fs many slot n a.given p k
    read = key_read r ks fs many slot n a.given p k h e

    -- of a row left out nothing comes
    pub pass_out : (i : ℕ) → i ≡ row_of k → (get_or fs i 0 ≡ 1 → ⊥) → Passing r fs n asked first edge low (p + 1)
    pass_out i d o =
        let u : i ≡ placed r n p = d ∙ read.row in
        let v : get_or fs (placed r n p) 0 ≡ 1 → ⊥ = λ y. o (ap (λ (b : ℕ). get_or fs b 0) u ∙ y) in
        let s = add-one p in
        record {
          level = rw s (omega (arith, w.level, kept_one r fs n p, flagged_no fs (placed r n p) v));
          from = w.from;
          early = w.early;
          under = w.under;
          gap = w.gap;
          most = λ q l f. elim (eqb? q p) [
            | inl y ↦ absurd (v (ap (λ (b : ℕ). get_or fs (placed r n b) 0) (sym y.1) ∙ f))
            | inr y ↦ let z = y.1 in w.most q (omega (arith, l)) f
          ];
          some = λ l. kept_more r fs n p low (w.some l);
        }

    -- the segment of an end, if it begins at first
    pub finds : (low2 : ℕ) → num 0 first (with_flag r fs) ≡ first - r.slot → Ends r fs n first asked low2 →
        Finds r fs n asked (record { first = first; low = low2 })
    finds low2 b v =
        record {
          end = v.end;
          near = v.near;
          from = w.early;
          by = v.by;
          segment = record { low = w.from; by = omega (arith, w.early, v.by); edge = b; end = v.full; none = v.none };
          row = v.row;
          there = v.there;
          kept = v.kept;
          due = v.due;
          low = v.low;
          most = v.most;
        }

    -- a row of the plan fills one more
    module _ (i : ℕ) (d : i ≡ row_of k) (o : get_or fs i 0 ≡ 1) where
      pub flag_here : get_or fs (placed r n p) 0 ≡ 1
      flag_here = ap (λ (b : ℕ). get_or fs b 0) (sym (d ∙ read.row)) ∙ o

      pub edge_next : edge + 1 ≡ r.slot + kept r fs n (suc p)
      edge_next = omega (arith, w.level, kept_one r fs n p, flagged_yes fs (placed r n p) flag_here)

      pub most_next : (low2 : ℕ) → low2 ≡ max low k → (q : ℕ) → q < p + 1 → get_or fs (placed r n q) 0 ≡ 1 → key_at r (placed r n q) ≤ low2
      most_next low2 m q l f = elim (eqb? q p) [
        | inl y ↦ omega (arith, m, read.key, ap (λ (b : ℕ). key_at r (placed r n b)) y.1)
        | inr y ↦ let z = y.1 in omega (arith, m, w.most q (omega (arith, l)) f)
      ]

      pub some_next : (low2 : ℕ) → low2 ≡ max low k → KeptAt r fs n (p + 1) low2
      some_next low2 m = elim (leb? low k) [
        | inl y ↦ record { place = p; below = omega arith; flag = flag_here; is = sym read.key ∙ omega (arith, m, y.1) }
        | inr y ↦ let z : low ≡ low2 = omega (arith, m, y.1) in
            subst (KeptAt r fs n (p + 1)) z (kept_more r fs n p low (w.some (omega (arith, y.1))))
      ]

      -- no segment ends there if the row is due later
      pub pass_on : (x low2 : ℕ) → x ≡ due_of k → edge + 1 ≤ x → low2 ≡ max low k → Passing r fs n asked first (edge + 1) low2 (p + 1)
      pass_on x low2 c l m =
          let s = add-one p in
          record {
            level = rw s edge_next;
            from = w.from;
            early = w.early;
            under = omega (arith, w.under);
            gap = λ v j z y. elim (leb? v edge) [
              | inl b ↦ w.gap v j b.1 y
              | inr b ↦
                  let t : v ≡ edge + 1 = omega (arith, b.1, z) in
                  omega (
                    arith,
                    y,
                    t,
                    num_mono 0 v due (omega (arith, t, l, c, read.due)) (with_flag r fs),
                    here.low,
                    w.level,
                  )
            ];
            most = most_next low2 m;
            some = λ b. some_next low2 m;
          }

      -- it ends there if the row is due by then
      pub tight : (x : ℕ) → x ≡ due_of k → x < edge + 1 → (edge ≡ due) × (num 0 (edge + 1) (with_flag r fs) ≡ edge + 1 - r.slot)
      tight x c l =
          let f = fits r ks fs many slot n a.given in
          let z : edge ≡ due =
          omega (arith, edge_next, here.high, f (suc due) (omega (arith, here.from)) here.by, c, read.due, l, here.from) in
          let y : suc due ≡ edge + 1 = omega (arith, z) in (
            z,
            omega (
              arith,
              ap (λ (v : ℕ). num 0 v (with_flag r fs)) y,
              here.high,
              edge_next,
              f (suc due) (omega (arith, here.from)) here.by,
              z,
            ),
          )

      -- an end before the slot asked about does not count
      pub pass_cut : (low2 : ℕ) → edge + 1 ≤ asked → low2 ≡ max low k → Passing r fs n asked (edge + 1) (edge + 1) low2 (p + 1)
      pass_cut low2 b m =
          let s = add-one p in
          record {
            level = rw s edge_next;
            from = omega (arith, w.level);
            early = b;
            under = omega arith;
            gap = λ v j z. absurd (omega (arith, j, z));
            most = most_next low2 m;
            some = λ y. some_next low2 m;
          }

      -- all the plan's rows due by its end are passed
      pub all_passed : edge ≡ due → num 0 (edge + 1) (with_flag r fs) ≡ edge + 1 - r.slot → (j q : ℕ) → q < many → placed r n q ≡ j →
          get_or fs j 0 ≡ 1 → (at r j).due ≤ edge → q < p + 1
      all_passed z y j q l b f t = elim (ltb? q (p + 1)) [
        | inl u ↦ u.1
        | inr u ↦
            let v = at_place r ks fs many slot n a.given q l in
            let x = kept_one r fs n q in
            let s : suc edge ≡ edge + 1 = omega arith in
            absurd (omega (
              arith,
              x,
              flagged_yes fs (placed r n q) (ap (λ (c : ℕ). get_or fs c 0) b ∙ f),
              v.high,
              num_mono 0 (suc (at r (placed r n q)).due) (suc edge) (omega (arith, t, ap (λ (c : ℕ). (at r c).due) b)) (with_flag r fs),
              ap (λ (c : ℕ). num 0 c (with_flag r fs)) s,
              y,
              edge_next,
              each_more (λ c. flagged fs (placed r n c)) (suc p) q (omega (arith, u.1)),
            ))
      ]

      pub pass_found : (x low2 : ℕ) → x ≡ due_of k → x < edge + 1 → asked < edge + 1 → low2 ≡ max low k → Ends r fs n first asked low2
      pass_found x low2 c l b m =
          let t = tight x c l in
          let s : suc edge ≡ edge + 1 = omega arith in
          let v = some_next low2 m in
          let u : v.place ≤ p = omega (arith, v.below) in
          let y = at_place r ks fs many slot n a.given v.place (omega (arith, u, h)) in
          record {
            end = edge;
            near = omega (arith, t.0, here.by);
            by = omega (arith, b);
            full = ap (λ (c : ℕ). num 0 c (with_flag r fs)) s ∙ t.1 ∙ omega arith;
            none = λ z j o q. w.gap (suc z) (omega (arith, j)) (omega (arith, o)) q;
            row = placed r n v.place;
            there = y.row;
            kept = v.flag;
            due = due_by v.place u (omega (arith, h)) (omega (arith, t.0));
            low = v.is;
            most = λ j o f z.
                let q = placed_all r n j o (from_slot r ks fs many slot n a.given j o) (omega (arith, z, t.0, here.by)) in
                let i = all_passed t.0 t.1 j q.0 (omega (arith, q.1, a.given.all)) q.2 f z in
                omega (arith, most_next low2 m q.0 i (ap (λ (c : ℕ). get_or fs c 0) q.2 ∙ f), ap (key_at r) q.2);
          }
        where
          due_by : (q : ℕ) → q ≤ p → p < many → due ≤ edge → (at r (placed r n q)).due ≤ edge
          due_by q u l z = omega (arith, placed_rises r n q p u (omega (arith, l, a.given.all)), z)

  -- the plan's rows at all places fill the n slots
  edge_last : (first edge low p : ℕ) → many ≤ p → p ≤ many → Passing r fs n asked first edge low p → edge ≡ r.slot + n
  edge_last first edge low p h l w =
      let e : p ≡ many = omega (arith, h, l) in
      omega (arith, w.level, ap (λ (q : ℕ). kept r fs n q) e, kept_all r ks fs many slot n a.given)

  -- so keys are left before the slot asked about
  pub keys_left : (first edge low p : ℕ) → edge ≤ asked → p ≤ many → Passing r fs n asked first edge low p → p < many
  keys_left first edge low p h l w = elim (ltb? p many) [
    | inl b ↦ b.1
    | inr b ↦ absurd (omega (arith, h, edge_last first edge low p b.1 l w, a.by, a.given.now))
  ]

  -- and its segment's end is found before they end
  pub pass_end : (first edge low p : ℕ) → many ≤ p → p ≤ many → Passing r fs n asked first edge low p → ⊥
  pass_end first edge low p h l w =
      let g = a.given in
      let d = edge_last first edge low p h l w in
      w.gap edge (omega (arith, d, w.early, a.by, g.now)) (omega arith)
      (ap (λ (v : ℕ). num 0 v (with_flag r fs)) d ∙ filled r ks fs many slot n g ∙ omega (arith, d))

  -- once the rows fill each slot before the one asked about, ends count from there on
  -- before the slot asked about a row counts by its flag
  pub pass_flag : (edge low p k : ℕ) → p < many → k ≡ get_or ks p 0 → Passing r fs n asked edge edge low p → edge + 1 ≤ asked →
      (i f : ℕ) → i ≡ row_of k → f ≡ get_or fs i 0 → (edge2 low2 : ℕ) → edge2 ≡ edge + f → low2 ≡ max low (k * f) →
      Passing r fs n asked edge2 edge2 low2 (p + 1)
  pass_flag edge low p k h e w b i f d q edge2 low2 u m =
      let z = m ∙ ap (λ (v : ℕ). max low (k * v)) q in
      elim (eqb? (get_or fs i 0) 1) [
        | inl x ↦
            let y : low2 ≡ max low k = z ∙ ap (λ (v : ℕ). max low (k * v)) x.1 ∙ omega arith in
            subst (λ (v : ℕ). Passing r fs n asked v v low2 (p + 1)) (omega (arith, u, q, x.1)) (pass_cut edge edge low p k h e w i d x.1 low2 b y)
        | inr x ↦
            let o : get_or fs i 0 ≡ 0 = none i (omega (arith, d, (key_read r ks fs many slot n a.given p k h e).fits)) x.1 in
            let y : low ≡ low2 = sym (z ∙ ap (λ (v : ℕ). max low (k * v)) o ∙ omega arith) in
            let t : edge ≡ edge2 = omega (arith, u, q, o) in
            subst (λ (v : ℕ). Passing r fs n asked v v low2 (p + 1)) t
            (subst (λ (v : ℕ). Passing r fs n asked edge edge v (p + 1)) y (pass_out edge edge low p k h e w i d x.1))
      ]
    where
      none : (i : ℕ) → i < length fs → (get_or fs i 0 ≡ 1 → ⊥) → get_or fs i 0 ≡ 0
      none i l o = omega (arith, a.given.chosen.bits i l, o)

  pub pass_asked : (edge low p : ℕ) → asked ≤ edge → Passing r fs n asked edge edge low p → Passing r fs n asked asked edge low p
  pass_asked edge low p h w =
      let e : edge ≡ asked = omega (arith, h, w.early) in subst (λ (v : ℕ). Passing r fs n asked v edge low p) e w

-- THE PASS of whatever round is given
abbrev pub Pass : (ks fs : List ℕ) (many slot asked first edge low p : ℕ) → Type 0
Pass ks fs many slot asked first edge low p = (r : Round) (n : ℕ) → Asked r ks fs many slot n asked → Passing r fs n asked first edge low p

-- and that a segment begins in a slot
abbrev pub Begun : (ks fs : List ℕ) (many slot asked first : ℕ) → Type 0
Begun ks fs many slot asked first = (r : Round) (n : ℕ) → Asked r ks fs many slot n asked → num 0 first (with_flag r fs) ≡ first - r.slot

-- what reading asks for
module _ (ks fs : List ℕ) (many slot asked : ℕ) (l : LentAsked ks fs many slot asked) where
  pub flag_there : (p k i : ℕ) → p < many → k ≡ get_or ks p 0 → i ≡ row_of k → i < length fs
  flag_there p k i h e d = omega (arith, d, (key_read l.of ks fs many slot l.n l.given.given p k h e).fits)

  pub flag_small : (p k i f : ℕ) → p < many → k ≡ get_or ks p 0 → i ≡ row_of k → f ≡ get_or fs i 0 → (k ≤ blank_key) × (f ≤ 1)
  flag_small p k i f h e d q =
      let o = key_read l.of ks fs many slot l.n l.given.given p k h e in
      (o.by, omega (arith, q, l.given.given.chosen.bits i (omega (arith, d, o.fits))))

  pub key_there : (first edge low p : ℕ) → edge ≤ asked → p ≤ many → Pass ks fs many slot asked first edge low p → p < many
  key_there first edge low p h k w = keys_left l.of ks fs many slot l.n asked l.given first edge low p h k (w l.of l.n l.given)

  pub edge_fits : (first edge low p : ℕ) → p ≤ many → Pass ks fs many slot asked first edge low p → edge ≤ 8192
  edge_fits first edge low p h w = edge_small l.of ks fs many slot l.n asked l.given first edge low p h (w l.of l.n l.given)
