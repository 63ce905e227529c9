-- The open segment: what the pass has of it at a place, and one place further.
use mathlib.Core.Path.{◌≡◌, sym, ap, subst}
use mathlib.Core.Logic.{◌⊎◌, inl, inr}
use mathlib.Core.List.{List}
use Prim.Native.Nat.{ℕ, suc, ◌+◌, ◌-◌, ◌≤◌, ◌<◌, min, max}
use native.Mathlib.Omega.{arith}
use lib.ListN.{get_or}
use Rattle.rules.specs.Rows.{Round}
use Rattle.theory.specs.Tests.{ltb?}
use Rattle.theory.specs.Feas.{num}
use Rattle.theory.specs.Near.{near_edge}
use Rattle.theory.specs.Flags.{with_flag}
use Rattle.keys.specs.Key.{blank_key, key_at}
use Rattle.keys.specs.Sorted.{many_due, placed}
use Rattle.keys.proofs.DueOrder.{placed_row, placed_rises}
use Rattle.segments.specs.Given.{Given}
use Rattle.segments.proofs.CountLaws.{kept_to, kept_next, flag_yes, flag_no}
use Rattle.segments.proofs.PlaceLaws.{due_at, FullBy, rows_of_it, kept_all, full_here, not_full_here}
use Rattle.segments.proofs.LeastLaws.{Least, Greatest, least_none, greatest_none, least_same, greatest_same, least_more, greatest_more}

-- places from one on: with rows in the plan due by the open segment's end, and with rows left out
abbrev pub Inside : Round → (n : ℕ) → List ℕ → (i end : ℕ) → (place : ℕ) → Type 0
Inside r n fs i e q = (i ≤ q) × (q < many_due r n) × (get_or fs (placed r n q) 0 ≡ 1) × (due_at r n q ≤ e)

abbrev pub Left : Round → (n : ℕ) → List ℕ → (i : ℕ) → (place : ℕ) → Type 0
Left r n fs i q = (i ≤ q) × (q < many_due r n) × (get_or fs (placed r n q) 0 ≡ 1 → ⊥)

abbrev pub key_of : Round → (n place : ℕ) → ℕ
key_of r n q = key_at r (placed r n q)

-- THE OPEN SEGMENT with i places to come: its end is full, no slot seen before it is; the heaviest and the lightest of its members so far,
-- and the heaviest row left out so far
pub record Open (r : Round) (n : ℕ) (fs : List ℕ) (end heavy light out edge i : ℕ) : Type 0 where
  pub seen : i ≤ many_due r n
  pub from : r.slot ≤ end
  pub near : end < r.slot + n
  pub full : FullBy r fs end
  pub behind : (q : ℕ) → q < i → due_at r n q ≤ end
  pub none : (q : ℕ) → i ≤ q → q < many_due r n → due_at r n q < end → FullBy r fs (due_at r n q) → ⊥
  pub count : edge ≡ r.slot + kept_to r n fs i
  pub top : Least (key_of r n) (Inside r n fs i end) heavy
  pub low : Greatest (key_of r n) (Inside r n fs i end) light
  pub left : Least (key_of r n) (Left r n fs i) out

-- no segment ends at a place but the open one
abbrev pub Settled : Round → (n end edge place : ℕ) → Type 0
Settled r n e k p = (due_at r n p ≡ e) ⊎ (k ≤ due_at r n p)

module _ (r : Round) (ks fs : List ℕ) (many slot n : ℕ) (g : Given r ks fs many slot n) where
  -- AT FIRST all places are to come
  pub open_start : Open r n fs (r.slot + n - 1) blank_key 0 blank_key (r.slot + n) (many_due r n)
  open_start =
      let d : suc (r.slot + n - 1) ≡ r.slot + n = omega (arith, g.some) in
      record {
        seen = omega arith;
        from = omega (arith, g.some);
        near = omega (arith, g.some);
        full = omega (
          arith,
          near_edge r g.fine (with_flag r fs) (rows_of_it r ks fs many slot n g) (r.slot + n) g.near,
          ap (λ v. num 0 v (with_flag r fs)) d,
          d,
        );
        behind = λ q h. omega (arith, (placed_row r n q h).2);
        none = λ q h k l f. omega (arith, h, k);
        count = omega (arith, kept_all r ks fs many slot n g);
        top = least_none (key_of r n) (Inside r n fs (many_due r n) (r.slot + n - 1)) (λ q c. omega (arith, c.0, c.1));
        low = greatest_none (key_of r n) (Inside r n fs (many_due r n) (r.slot + n - 1)) (λ q c. omega (arith, c.0, c.1));
        left = least_none (key_of r n) (Left r n fs (many_due r n)) (λ q c. omega (arith, c.0, c.1));
      }

  module _ (end heavy light out edge p : ℕ) (o : Open r n fs end heavy light out edge (suc p)) where
    -- A NEW SEGMENT opens where one ends
    pub ends_full : due_at r n p < edge → FullBy r fs (due_at r n p)
    ends_full t = full_here r ks fs many slot n g p o.seen (omega (arith, t, o.count))

    pub later_due : due_at r n p < edge → (due_at r n p ≡ end → ⊥) → (q : ℕ) → suc p ≤ q → q < many_due r n → due_at r n p < due_at r n q
    later_due t m q h k =
        let u = placed_rises r n p q (omega (arith, h)) k in
        let b = o.behind p (omega arith) in
        elim (ltb? (due_at r n p) (due_at r n q)) [
          | inl a ↦ a.1
          | inr a ↦
              let e : due_at r n p ≡ due_at r n q = omega (arith, u, a.1) in
              absurd (o.none q h k (omega (arith, e, b)) (subst (FullBy r fs) e (ends_full t)))
        ]

    pub open_next : due_at r n p < edge → (due_at r n p ≡ end → ⊥) → Open r n fs (due_at r n p) blank_key 0 out edge (suc p)
    open_next t m =
        let d = placed_row r n p o.seen in
        record {
          seen = o.seen;
          from = d.1;
          near = d.2;
          full = ends_full t;
          behind = λ q h. placed_rises r n q p (omega (arith, h)) o.seen;
          none = λ q h k l f. omega (arith, l, later_due t m q h k);
          count = o.count;
          top = least_none (key_of r n) (Inside r n fs (suc p) (due_at r n p)) (λ q c. omega (arith, c.3, later_due t m q c.0 c.1));
          low = greatest_none (key_of r n) (Inside r n fs (suc p) (due_at r n p)) (λ q c. omega (arith, c.3, later_due t m q c.0 c.1));
          left = o.left;
        }

    -- ONE PLACE FURTHER: what holds of every place from here on
    none_here : Settled r n end edge p → (q : ℕ) → p ≤ q → q < many_due r n → due_at r n q < end → FullBy r fs (due_at r n q) → ⊥
    none_here s q h k l f = elim (ltb? p q) [
      | inl a ↦ o.none q a.1 k l f
      | inr a ↦
          let e : q ≡ p = omega (arith, h, a.1) in
          here (omega (arith, l, ap (due_at r n) e)) (subst (λ v. FullBy r fs (due_at r n v)) e f)
    ]
      where
        here : due_at r n p < end → FullBy r fs (due_at r n p) → ⊥
        here l f = elim s [
          | inl e ↦ omega (arith, e, l)
          | inr t ↦ not_full_here r ks fs many slot n g p o.seen (omega (arith, t, o.count))
              (λ k e. o.none (suc p) (omega arith) k (omega (arith, e, l)) (subst (FullBy r fs) (sym e) f)) f
        ]

    pub open_kept : Settled r n end edge p → get_or fs (placed r n p) 0 ≡ 1 →
        Open r n fs end (min heavy (key_of r n p)) (max light (key_of r n p)) out (edge - 1) p
    open_kept s y =
        let b = o.behind p (omega arith) in
        record {
          seen = omega (arith, o.seen);
          from = o.from;
          near = o.near;
          full = o.full;
          behind = λ q h. o.behind q (omega (arith, h));
          none = none_here s;
          count = omega (arith, o.count, kept_next r n fs p, flag_yes fs (placed r n p) y);
          top = least_more (key_of r n) (Inside r n fs (suc p) end) (Inside r n fs p end) wider p (omega arith, o.seen, y, b) parts heavy o.top;
          low = greatest_more (key_of r n) (Inside r n fs (suc p) end) (Inside r n fs p end) wider p (omega arith, o.seen, y, b) parts light o.low;
          left = least_same (key_of r n) (Left r n fs (suc p)) (Left r n fs p) (λ q c. (omega (arith, c.0), c.1, c.2)) others out o.left;
        }
      where
        wider : (q : ℕ) → Inside r n fs (suc p) end q → Inside r n fs p end q
        wider q c = (omega (arith, c.0), c.1, c.2, c.3)

        parts : (q : ℕ) → Inside r n fs p end q → Inside r n fs (suc p) end q ⊎ (q ≡ p)
        parts q c = elim (ltb? p q) [ inl a ↦ inl (a.1, c.1, c.2, c.3) | inr a ↦ inr (omega (arith, c.0, a.1)) ]

        others : (q : ℕ) → Left r n fs p q → Left r n fs (suc p) q
        others q c = elim (ltb? p q) [
          | inl a ↦ (a.1, c.1, c.2)
          | inr a ↦ let e : p ≡ q = omega (arith, c.0, a.1) in absurd (c.2 (subst (λ v. get_or fs (placed r n v) 0 ≡ 1) e y))
        ]

    pub open_left : Settled r n end edge p → (get_or fs (placed r n p) 0 ≡ 1 → ⊥) → Open r n fs end heavy light (min out (key_of r n p)) edge p
    open_left s m =
        record {
          seen = omega (arith, o.seen);
          from = o.from;
          near = o.near;
          full = o.full;
          behind = λ q h. o.behind q (omega (arith, h));
          none = none_here s;
          count = omega (arith, o.count, kept_next r n fs p, flag_no fs (placed r n p) m);
          top = least_same (key_of r n) (Inside r n fs (suc p) end) (Inside r n fs p end) (λ q c. (omega (arith, c.0), c.1, c.2, c.3)) others heavy o.top;
          low = greatest_same (key_of r n) (Inside r n fs (suc p) end) (Inside r n fs p end) (λ q c. (omega (arith, c.0), c.1, c.2, c.3)) others light
              o.low;
          left = least_more (key_of r n) (Left r n fs (suc p)) (Left r n fs p) (λ q c. (omega (arith, c.0), c.1, c.2)) p (omega arith, o.seen, m) parts out
              o.left;
        }
      where
        parts : (q : ℕ) → Left r n fs p q → Left r n fs (suc p) q ⊎ (q ≡ p)
        parts q c = elim (ltb? p q) [ inl a ↦ inl (a.1, c.1, c.2) | inr a ↦ inr (omega (arith, c.0, a.1)) ]

        others : (q : ℕ) → Inside r n fs p end q → Inside r n fs (suc p) end q
        others q c = elim (ltb? p q) [
          | inl a ↦ (a.1, c.1, c.2, c.3)
          | inr a ↦ let e : q ≡ p = omega (arith, c.0, a.1) in absurd (m (subst (λ v. get_or fs (placed r n v) 0 ≡ 1) e c.2))
        ]
