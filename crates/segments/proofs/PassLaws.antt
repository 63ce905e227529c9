-- The pass: the open segment and those behind it, of whatever round is given.
use mathlib.Core.Path.{◌≡◌, refl, sym, ap, ◌∙◌, subst}
use mathlib.Core.Logic.{inl, inr}
use mathlib.Core.Bool.{true, false, false≢true}
use mathlib.Core.List.{List, []}
use Prim.Native.Nat.{ℕ, suc, ◌+◌, ◌-◌, ◌≤◌, ◌<◌, min, max}
use native.Mathlib.Omega.{arith}
use lib.ListN.{length, get_or, set, length-set}
use borrow.Author.Tests.{ltb-true, ltb-false}
use Rattle.rules.specs.Rows.{Row, Round}
use Rattle.theory.specs.Tests.{eqb?}
use Rattle.theory.specs.All.{all_of_in}
use Rattle.theory.specs.Feas.{num_none}
use Rattle.theory.specs.Members.{of_rows_fine}
use Rattle.theory.specs.Flags.{with_flag}
use Rattle.keys.specs.Key.{weight_of, due_of, row_of, blank_key}
use Rattle.keys.proofs.KeyLaws.{some_key}
use Rattle.keys.specs.Sorted.{many_due, placed}
use Rattle.keys.proofs.DueOrder.{placed_row, placed_rises}
use Rattle.picture.specs.Substitutes.{stand_in}
use Rattle.picture.proofs.Substitutes.{stand_in_first, stand_in_later}
use Rattle.picture.specs.Own.{DrawnOwn}
use Rattle.picture.proofs.OwnPick.{own_long}
use Rattle.lead.specs.Closed.{ends_here, closed}
use Rattle.lead.specs.declared.Lead.{Lead}
use Rattle.segments.specs.Given.{Given}
use Rattle.segments.specs.Segmented.{Keyed, Named, Segmented}
use Rattle.segments.proofs.CountLaws.{kept_next, flag_yes}
use Rattle.segments.proofs.PlaceLaws.{due_at, rows_of_it, key_there, due_told, row_told}
use Rattle.segments.proofs.OpenLaws.{Open, Settled, key_of, open_start, open_next, open_kept, open_left, ends_full, later_due}
use Rattle.segments.proofs.MadeLaws.{Begins, Made, made}
use Rattle.segments.proofs.BehindLaws.{Behind, behind_next, closed_count}

pub record Pass (r : Round) (fs : List ℕ) (n : ℕ) (es ts ls : List ℕ) (l : Lead) (end heavy light out edge i : ℕ) : Type 0 where
  pub behind : Behind r (suc end) (r.slot + n) es ts ls l
  pub now : Open r n fs end heavy light out edge i

-- with i places to come
abbrev pub Passing : (ks fs : List ℕ) (many slot n : ℕ) (es ts ls : List ℕ) → Lead → (end heavy light out edge i : ℕ) → Type 0
Passing ks fs many slot n es ts ls l end heavy light out edge i =
    (r : Round) → Given r ks fs many slot n → Pass r fs n es ts ls l end heavy light out edge i

-- and with no new segment at the next of them
pub record Met (r : Round) (fs : List ℕ) (n : ℕ) (es ts ls : List ℕ) (l : Lead) (end heavy light out edge p : ℕ) : Type 0 where
  pub pass : Pass r fs n es ts ls l end heavy light out edge (suc p)
  pub settled : Settled r n end edge p

abbrev pub Meeting : (ks fs : List ℕ) (many slot n : ℕ) (es ts ls : List ℕ) → Lead → (end heavy light out edge p : ℕ) → Type 0
Meeting ks fs many slot n es ts ls l end heavy light out edge p =
    (r : Round) → Given r ks fs many slot n → Met r fs n es ts ls l end heavy light out edge p

-- all segments closed
segmented : (r : Round) (n : ℕ) → 1 ≤ n → (es ts ls : List ℕ) (l : Lead) → Behind r r.slot (r.slot + n) es ts ls l → l.count ≤ length es →
    l.count ≤ length ts → l.count ≤ length ls → Segmented r n es ts ls l
segmented r n h es ts ls l v a c d =
    record {
      segments = v.segments;
      drawn = v.drawn;
      count = v.count;
      stored = v.stored;
      leader = elim v.leader [
        | inl e ↦ absurd (nothing (subst (DrawnOwn r r.slot (r.slot + n)) e.0 v.drawn))
        | inr y ↦ y
      ];
      ends = a;
      tops = c;
      lows = d;
    }
  where
    nothing : r.slot ≡ r.slot + n → ⊥
    nothing e = omega (arith, e, h)

module _ (r : Round) (ks fs : List ℕ) (many slot n : ℕ) (g : Given r ks fs many slot n) where
  -- AT FIRST
  pub pass_first : (es ts ls : List ℕ) (l : Lead) → l.count ≡ 0 → l.score ≡ 0 → Pass r fs n es ts ls l (slot + n - 1) blank_key 0 blank_key (slot + n) many
  pass_first es ts ls l c s =
      let d : suc (slot + n - 1) ≡ r.slot + n = omega (arith, g.now, g.some) in
      record {
        behind = record { segments = []; drawn = d; count = c; stored = tt; leader = inl (refl, s) };
        now = subst (λ v. Open r n fs (v + n - 1) blank_key 0 blank_key (v + n) many) (sym g.now)
            (subst (λ v. Open r n fs (r.slot + n - 1) blank_key 0 blank_key (r.slot + n) v) (sym g.all) (open_start r ks fs many slot n g));
      }

  module _ (es ts ls : List ℕ) (l : Lead) (end heavy light out edge : ℕ) where
    -- room for one segment more
    pub room : (i : ℕ) → Pass r fs n es ts ls l end heavy light out edge i → l.count < n
    room i w = omega (arith, w.behind.count, own_long r (suc end) (r.slot + n) w.behind.segments w.behind.drawn, w.now.from)

    -- keys are no greater than a blank's
    near_key : (q : ℕ) → q < many_due r n → key_of r n q ≤ blank_key
    near_key q h = omega (arith, (some_key r g.fine g.small g.cap (placed r n q) (placed_row r n q h).0).1)

    pub fair_keys : (i : ℕ) → Pass r fs n es ts ls l end heavy light out edge i → (heavy ≤ blank_key) × (light ≤ blank_key) × (out ≤ blank_key)
    fair_keys i w = (
      elim w.now.top.of [ inl e ↦ omega (arith, e) | inr (q, c, e) ↦ omega (arith, e, near_key q c.1) ],
      elim w.now.low.of [ inl e ↦ omega (arith, e) | inr (q, c, e) ↦ omega (arith, e, near_key q c.1) ],
      elim w.now.left.of [ inl e ↦ omega (arith, e) | inr (q, c, e) ↦ omega (arith, e, near_key q c.1) ],
    )

    -- A SEGMENT ENDS at the next place
    module _ (p : ℕ) (w : Pass r fs n es ts ls l end heavy light out edge (suc p)) where
      begins : due_at r n p < edge → (due_at r n p ≡ end → ⊥) → Begins r n fs end (suc p) (suc (due_at r n p))
      begins t m =
          record {
            from = omega (arith, (placed_row r n p w.now.seen).1);
            by = omega (arith, w.now.behind p (omega arith));
            edge = ends_full r ks fs many slot n g end heavy light out edge p w.now t;
            before = λ q h. omega (arith, placed_rises r n q p (omega (arith, h)) w.now.seen);
            after = λ q h k. later_due r ks fs many slot n g end heavy light out edge p w.now t m q h k;
          }

      other_later : (b : ℕ) → r.slot < b → (m : Made r b end heavy light out) → Named r b (stand_in r m.of) out
      other_later b h m =
          subst (λ (x : Row). Named r b x out) (sym (stand_in_later r m.of (omega (arith, h, m.first)))) m.out

      pub met_new : due_at r n p < edge → (due_at r n p ≡ end → ⊥) → l.count < length es → l.count < length ts → l.count < length ls →
          Met r fs n (set es l.count end) (set ts l.count heavy) (set ls l.count (weight_of light)) (closed l heavy out) (due_at r n p) blank_key 0 out
          edge p
      met_new t m a c d =
          let h = made r ks fs many slot n g end heavy light out edge (suc p) (suc (due_at r n p)) w.now (begins t m) in
          record {
            pass = record {
              behind = behind_next r g.fine g.small g.cap (r.slot + n) (suc (due_at r n p)) end heavy light out out h es ts ls l w.behind
                  (other_later (suc (due_at r n p)) (omega (arith, (placed_row r n p w.now.seen).1)) h) a c d;
              now = open_next r ks fs many slot n g end heavy light out edge p w.now t m;
            };
            settled = inl refl;
          }

    -- ONE PLACE FURTHER
    pub met_kept : (p : ℕ) → Met r fs n es ts ls l end heavy light out edge p → get_or fs (placed r n p) 0 ≡ 1 →
        Pass r fs n es ts ls l end (min heavy (key_of r n p)) (max light (key_of r n p)) out (edge - 1) p
    met_kept p w y =
        record { behind = w.pass.behind; now = open_kept r ks fs many slot n g end heavy light out edge p w.pass.now w.settled y }

    pub met_left : (p : ℕ) → Met r fs n es ts ls l end heavy light out edge p → (get_or fs (placed r n p) 0 ≡ 1 → ⊥) →
        Pass r fs n es ts ls l end heavy light (min out (key_of r n p)) edge p
    met_left p w y =
        record { behind = w.pass.behind; now = open_left r ks fs many slot n g end heavy light out edge p w.pass.now w.settled y }

    pub some_kept : (p : ℕ) → Met r fs n es ts ls l end heavy light out edge p → get_or fs (placed r n p) 0 ≡ 1 → 1 ≤ edge
    some_kept p w y = omega (arith, w.pass.now.count, kept_next r n fs p, flag_yes fs (placed r n p) y)

    -- AT LAST the first segment closes, its substitute its own lightest
    module _ (w : Pass r fs n es ts ls l end heavy light out edge 0) where
      begins_first : Begins r n fs end 0 r.slot
      begins_first =
          record {
            from = omega arith;
            by = w.now.from;
            edge = omega (
              arith,
              num_none 0 r.slot r.slot (omega arith) (with_flag r fs)
                  (all_of_in (λ x. r.slot ≤ x.due) (with_flag r fs) (λ x i. (of_rows_fine r g.fine (with_flag r fs) (rows_of_it r ks fs many slot n g) x i).due_from)),
            );
            before = λ q h. absurd (omega (arith, h));
            after = λ q h k. (placed_row r n q k).1;
          }

      pub pass_last : l.count < length es → l.count < length ts → l.count < length ls →
          Segmented r n (set es l.count end) (set ts l.count heavy) (set ls l.count (weight_of light)) (closed l heavy light)
      pass_last a c d =
          let h = made r ks fs many slot n g end heavy light out edge 0 r.slot w.now begins_first in
          let o : Named r r.slot (stand_in r h.of) light =
          inl (subst (λ (x : Row). Keyed r x light) (sym (stand_in_first r h.of h.first)) h.low) in
          let v = behind_next r g.fine g.small g.cap (r.slot + n) r.slot end heavy light out light h es ts ls l w.behind o a c d in
          segmented r n g.some (set es l.count end) (set ts l.count heavy) (set ls l.count (weight_of light)) (closed l heavy light) v
          (omega (arith, closed_count l heavy light, a, length-set es l.count end))
          (omega (arith, closed_count l heavy light, c, length-set ts l.count heavy))
          (omega (arith, closed_count l heavy light, d, length-set ls l.count (weight_of light)))

-- THE SAME as the code has it
module _ (ks fs : List ℕ) (many slot n : ℕ) (es ts ls : List ℕ) (l : Lead) (end heavy light out edge i : ℕ) where
  -- no new segment
  pub passing_on : Passing ks fs many slot n es ts ls l end heavy light out edge i → 0 < i → (due : ℕ) → due ≡ due_of (get_or ks (i - 1) 0) →
      ends_here due edge end ≡ false → Meeting ks fs many slot n es ts ls l end heavy light out edge (i - 1)
  unfolding ends_here
  passing_on w h due d t r g =
      let e : i ≡ suc (i - 1) = omega (arith, h) in
      let v = subst (Pass r fs n es ts ls l end heavy light out edge) e (w r g) in
      let q : due ≡ due_at r n (i - 1) = d ∙ due_told r ks fs many slot n g (i - 1) v.now.seen in
      record {
        pass = v;
        settled = elim (eqb? due end) [
          | inl a ↦ inl (sym q ∙ a.1)
          | inr a ↦ inr (omega (arith, ltb-false due edge (rw a.0 at t), q))
        ];
      }

  -- a new one
  pub passing_new : Passing ks fs many slot n es ts ls l end heavy light out edge i → 0 < i → (due : ℕ) → due ≡ due_of (get_or ks (i - 1) 0) →
      ends_here due edge end ≡ true → l.count < length es → l.count < length ts → l.count < length ls →
      Meeting ks fs many slot n (set es l.count end) (set ts l.count heavy) (set ls l.count (weight_of light)) (closed l heavy out) due blank_key 0 out
      edge (i - 1)
  unfolding ends_here
  passing_new w h due d t a b c r g =
      let e : i ≡ suc (i - 1) = omega (arith, h) in
      let v = subst (Pass r fs n es ts ls l end heavy light out edge) e (w r g) in
      let q : due ≡ due_at r n (i - 1) = d ∙ due_told r ks fs many slot n g (i - 1) v.now.seen in
      let f = ends_facts due t in
      subst (λ u. Met r fs n (set es l.count end) (set ts l.count heavy) (set ls l.count (weight_of light)) (closed l heavy out) u blank_key 0 out edge
      (i - 1)) (sym q)
      (met_new r ks fs many slot n g es ts ls l end heavy light out edge (i - 1) v (omega (arith, f.1, q)) (λ k. f.0 (q ∙ k)) a b c)
    where
      ends_facts : (due : ℕ) → ends_here due edge end ≡ true → (due ≡ end → ⊥) × (due < edge)
      ends_facts due t = elim (eqb? due end) [
        | inl a ↦ absurd (false≢true (rw a.0 at t))
        | inr a ↦ (a.1, ltb-true due edge (rw a.0 at t))
      ]

-- THE NEXT PLACE, in the plan or left out
module _ (ks fs : List ℕ) (many slot n : ℕ) (es ts ls : List ℕ) (l : Lead) (end heavy light out edge p : ℕ)
    (w : Meeting ks fs many slot n es ts ls l end heavy light out edge p) (key row flag : ℕ) (k : key ≡ get_or ks p 0)
    (j : row ≡ row_of key) (f : flag ≡ get_or fs row 0) where
  its_row : (r : Round) (g : Given r ks fs many slot n) → flag ≡ get_or fs (placed r n p) 0
  its_row r g =
      f ∙ ap (λ (v : ℕ). get_or fs v 0) (j ∙ ap row_of k ∙ row_told r ks fs many slot n g p (w r g).pass.now.seen)

  its_key : (r : Round) (g : Given r ks fs many slot n) → key_of r n p ≡ key
  its_key r g = sym (k ∙ key_there r ks fs many slot n g p (w r g).pass.now.seen)

  pub passing_kept : flag ≡ 1 → Passing ks fs many slot n es ts ls l end (min heavy key) (max light key) out (edge - 1) p
  passing_kept y r g =
      subst (λ v. Pass r fs n es ts ls l end (min heavy v) (max light v) out (edge - 1) p) (its_key r g)
      (met_kept r ks fs many slot n g es ts ls l end heavy light out edge p (w r g) (sym (its_row r g) ∙ y))

  pub passing_left : (flag ≡ 1 → ⊥) → Passing ks fs many slot n es ts ls l end heavy light (min out key) edge p
  passing_left y r g =
      subst (λ v. Pass r fs n es ts ls l end heavy light (min out v) edge p) (its_key r g)
      (met_left r ks fs many slot n g es ts ls l end heavy light out edge p (w r g) (λ e. y (its_row r g ∙ e)))

  pub passing_some : (r : Round) → Given r ks fs many slot n → flag ≡ 1 → 1 ≤ edge
  passing_some r g y = some_kept r ks fs many slot n g es ts ls l end heavy light out edge p (w r g) (sym (its_row r g) ∙ y)
