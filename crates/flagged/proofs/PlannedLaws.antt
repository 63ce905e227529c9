-- The first of the plan's rows, by their places in due order.
use mathlib.Core.Path.{◌≡◌, sym, ap, ◌∙◌, subst}
use mathlib.Core.Logic.{◌⊎◌, inl, inr}
use mathlib.Core.List.{List}
use Prim.Native.Nat.{ℕ, ◌+◌, ◌-◌, ◌≤◌, ◌<◌, min}
use native.Mathlib.Omega.{arith}
use lib.ListN.{length, get_or}
use Rattle.rules.specs.Rows.{Row, Round}
use Rattle.theory.specs.Tests.{eqb?, leb?, ltb?}
use Rattle.theory.specs.Order.{NotBefore, heavier_no}
use Rattle.theory.specs.Flags.{with_flag}
use Rattle.theory.specs.Near.{near_edge}
use Rattle.theory.specs.Picks.{with_due}
use Rattle.round.specs.Rows.{at}
use Rattle.keys.specs.Key.{due_of, row_of}
use Rattle.keys.proofs.KeyLaws.{greater_key}
use Rattle.keys.specs.Sorted.{many_due, placed}
use Rattle.keys.proofs.DueOrder.{placed_row, placed_rises}
use Rattle.segments.specs.Given.{Given}
use Rattle.segments.proofs.PlaceLaws as places
use Rattle.segments.proofs.PlaceLaws.{rows_of_it, due_told, row_told, member_there, member_place}
use Rattle.first.specs.First.{IsFirst}
use Rattle.flagged.specs.Planned.{Lent, FirstSays, flag_at, SomeFlagged, FirstFlagged}

-- WHAT THE PASS GOES BY: each key's row has a flag or not, and due slots rise
pub record Placed (ks fs : List ℕ) (many : ℕ) : Type 0 where
  pub there : many ≤ length ks
  pub rows : (p : ℕ) → p < many → row_of (get_or ks p 0) < length fs
  pub rises : (p q : ℕ) → p ≤ q → q < many → due_of (get_or ks p 0) ≤ due_of (get_or ks q 0)
  pub some : ℕ
  pub within : some < many
  pub flag : flag_at ks fs some ≡ 1

module _ (r : Round) (ks fs : List ℕ) (many slot n : ℕ) (g : Given r ks fs many slot n) where
  by_places : (p : ℕ) → p < many → p < many_due r n
  by_places p h = omega (arith, h, g.all)

  pub placed_of : Placed ks fs many
  placed_of =
      let e = near_edge r g.fine (with_flag r fs) (rows_of_it r ks fs many slot n g) (r.slot + n) g.near in
      let y = with_due (r.slot + n) (with_flag r fs) (omega (arith, e, g.some)) in
      let m = member_place r ks fs many slot n g y.0 y.1 y.2 in
      record {
        there = omega (arith, g.all, g.sorted.enough);
        rows = λ p h. let q = by_places p h in
            omega (arith, row_told r ks fs many slot n g p q, (placed_row r n p q).0, g.chosen.long);
        rises = λ p q h k. let l = by_places q k in
            omega (
              arith,
              due_told r ks fs many slot n g p (omega (arith, h, l)),
              due_told r ks fs many slot n g q l,
              placed_rises r n p q h l,
            );
        some = m.0;
        within = omega (arith, m.1, g.all);
        flag = ap (λ (i : ℕ). get_or fs i 0) (row_told r ks fs many slot n g m.0 m.1) ∙ m.2;
      }

pub lent_placed : {ks fs : List ℕ} {many : ℕ} → Lent ks fs many → Placed ks fs many
lent_placed {ks} {fs} {many} l = placed_of l.of ks fs many l.slot l.free l.given

pub lent_flagged : {ks fs : List ℕ} {many : ℕ} → Lent ks fs many → SomeFlagged ks fs
lent_flagged l =
    let d = lent_placed l in
    record { place = d.some; there = omega (arith, d.within, d.there); rows = λ p h. d.rows p (omega (arith, h, d.within)); flag = d.flag }

-- a flag as the code reads it
pub flag_there : (fs : List ℕ) {i j : ℕ} → j ≡ i → get_or fs j 0 ≡ 1 → get_or fs i 0 ≡ 1
flag_there fs e f = ap (λ (k : ℕ). get_or fs k 0) (sym e) ∙ f

pub flag_not : (fs : List ℕ) {i j : ℕ} → j ≡ i → (get_or fs j 0 ≡ 1 → ⊥) → get_or fs i 0 ≡ 1 → ⊥
flag_not fs e n f = n (ap (λ (k : ℕ). get_or fs k 0) e ∙ f)

-- THE FIRST FLAG: none before place i has one
pub record Looking (ks fs : List ℕ) (i : ℕ) : Type 0 where
  pub by : SomeFlagged ks fs
  pub here : i ≤ by.place
  pub before : (p : ℕ) → p < i → flag_at ks fs p ≡ 1 → ⊥

module _ {ks fs : List ℕ} where
  pub looking_start : SomeFlagged ks fs → Looking ks fs 0
  looking_start s = record { by = s; here = omega arith; before = λ p h. absurd (omega (arith, h)) }

  pub looking_there : {i : ℕ} → Looking ks fs i → (i < length ks) × (row_of (get_or ks i 0) < length fs)
  looking_there l = (omega (arith, l.here, l.by.there), l.by.rows _ l.here)

  -- a place without a flag is passed
  pub looking_less : {i : ℕ} → (l : Looking ks fs i) → (flag_at ks fs i ≡ 1 → ⊥) → i < l.by.place
  looking_less {i} l n = elim (eqb? i l.by.place) [
    | inl e ↦ absurd (n (ap (flag_at ks fs) e.1 ∙ l.by.flag))
    | inr e ↦ let m = e.1 in omega (arith, m, l.here)
  ]

  pub looking_on : {i : ℕ} → Looking ks fs i → (flag_at ks fs i ≡ 1 → ⊥) → Looking ks fs (i + 1)
  looking_on {i} l n =
      record {
        by = l.by;
        here = omega (arith, looking_less l n);
        before = λ p h e. elim (eqb? p i) [
          | inl q ↦ n (ap (flag_at ks fs) (sym q.1) ∙ e)
          | inr q ↦ let m = q.1 in l.before p (omega (arith, m, h)) e
        ];
      }

  pub looking_found : {i : ℕ} → Looking ks fs i → flag_at ks fs i ≡ 1 → FirstFlagged ks fs i
  looking_found l e = record { flag = e; before = l.before }

-- THE LEAST KEY with a flag among the first i, all due in one slot
pub record Choosing (ks fs : List ℕ) (many due i first : ℕ) : Type 0 where
  pub place : ℕ
  pub here : place < i
  pub by : i ≤ many
  pub key : first ≡ get_or ks place 0
  pub flag : flag_at ks fs place ≡ 1
  pub slot : due_of first ≡ due
  pub least : (p : ℕ) → p < i → flag_at ks fs p ≡ 1 → (due_of (get_or ks p 0) ≡ due) × (first ≤ get_or ks p 0)

-- and among all: those of later slots are behind
pub record LeastKey (ks fs : List ℕ) (many place : ℕ) : Type 0 where
  pub below : place < many
  pub flag : flag_at ks fs place ≡ 1
  pub first : (p : ℕ) → p < many → flag_at ks fs p ≡ 1 →
      (due_of (get_or ks place 0) < due_of (get_or ks p 0)) ⊎ ((due_of (get_or ks p 0) ≡ due_of (get_or ks place 0)) × (get_or ks place 0 ≤ get_or ks p 0))

module _ {ks fs : List ℕ} {many : ℕ} (d : Placed ks fs many) where
  -- a place of a near row is one of the keys', and its row one of the flags'
  pub key_there : {i : ℕ} → i < many → i < length ks
  key_there h = omega (arith, h, d.there)

  pub flag_within : {i j : ℕ} → j ≡ row_of (get_or ks i 0) → i < many → j < length fs
  flag_within {i} e h = omega (arith, e, d.rows i h)

  pub found_by : {i : ℕ} → FirstFlagged ks fs i → i < many
  found_by {i} w = elim (ltb? i many) [
    | inl h ↦ h.1
    | inr h ↦ absurd (w.before d.some (omega (arith, h.1, d.within)) d.flag)
  ]

  pub choosing_start : {i : ℕ} → FirstFlagged ks fs i → {k e : ℕ} → k ≡ get_or ks i 0 → e ≡ due_of k → Choosing ks fs many e (i + 1) k
  choosing_start {i} w {k} {e} a b =
      record {
        place = i;
        here = omega arith;
        by = omega (arith, found_by w);
        key = a;
        flag = w.flag;
        slot = sym b;
        least = λ p h u. elim (eqb? p i) [
          | inl q ↦
              let x : get_or ks p 0 ≡ k = ap (λ (j : ℕ). get_or ks j 0) q.1 ∙ sym a in
              (ap due_of x ∙ sym b, omega (arith, x))
          | inr q ↦ let m = q.1 in absurd (w.before p (omega (arith, m, h)) u)
        ];
      }

  module _ {e i k : ℕ} (c : Choosing ks fs many e i k) where
    -- a key of a later slot: all from there on are
    pub choosing_later : i < many → e < due_of (get_or ks i 0) → LeastKey ks fs many c.place
    choosing_later h l =
        record {
          below = omega (arith, c.here, c.by);
          flag = c.flag;
          first = λ p q u. elim (ltb? p i) [
            | inl m ↦ let w = c.least p m.1 u in inr (w.0 ∙ sym c.slot ∙ ap due_of c.key, omega (arith, w.1, c.key))
            | inr m ↦ inl (omega (arith, ap due_of c.key, c.slot, l, d.rises i p m.1 q))
          ];
        }

    pub choosing_end : many ≤ i → LeastKey ks fs many c.place
    choosing_end h =
        record {
          below = omega (arith, c.here, c.by);
          flag = c.flag;
          first = λ p q u.
              let w = c.least p (omega (arith, q, h)) u in inr (w.0 ∙ sym c.slot ∙ ap due_of c.key, omega (arith, w.1, c.key));
        }

    module _ (h : i < many) (l : due_of (get_or ks i 0) ≤ e) where
      same : due_of (get_or ks i 0) ≡ e
      same = omega (arith, l, ap due_of c.key, c.slot, d.rises c.place i (omega (arith, c.here)) h)

      -- a key with a flag is compared, one without is passed
      pub choosing_sees : flag_at ks fs i ≡ 1 → {m : ℕ} → m ≡ min k (get_or ks i 0) → Choosing ks fs many e (i + 1) m
      choosing_sees f {m} q = elim (leb? k (get_or ks i 0)) [
        | inl a ↦ kept (omega (arith, q, a.1)) (omega (arith, a.1))
        | inr a ↦ taken (omega (arith, q, a.1)) (omega (arith, a.1))
      ]
        where
          all : m ≤ k → m ≤ get_or ks i 0 → (p : ℕ) → p < i + 1 → flag_at ks fs p ≡ 1 → (due_of (get_or ks p 0) ≡ e) × (m ≤ get_or ks p 0)
          all u v p w x = elim (eqb? p i) [
            | inl y ↦ let z = ap (λ (j : ℕ). get_or ks j 0) y.1 in (ap due_of z ∙ same, omega (arith, v, z))
            | inr y ↦ let z = y.1 in let s = c.least p (omega (arith, z, w)) x in (s.0, omega (arith, u, s.1))
          ]

          kept : m ≡ k → k ≤ get_or ks i 0 → Choosing ks fs many e (i + 1) m
          kept y z =
              record {
                place = c.place;
                here = omega (arith, c.here);
                by = omega (arith, h);
                key = y ∙ c.key;
                flag = c.flag;
                slot = ap due_of y ∙ c.slot;
                least = all (omega (arith, y)) (omega (arith, y, z));
              }

          taken : m ≡ get_or ks i 0 → get_or ks i 0 ≤ k → Choosing ks fs many e (i + 1) m
          taken y z =
              record {
                place = i;
                here = omega arith;
                by = omega (arith, h);
                key = y;
                flag = f;
                slot = ap due_of y ∙ same;
                least = all (omega (arith, y, z)) (omega (arith, y));
              }

      pub choosing_passes : (flag_at ks fs i ≡ 1 → ⊥) → Choosing ks fs many e (i + 1) k
      choosing_passes f =
          record {
            place = c.place;
            here = omega (arith, c.here);
            by = omega (arith, h);
            key = c.key;
            flag = c.flag;
            slot = c.slot;
            least = λ p w x. elim (eqb? p i) [
              | inl y ↦ absurd (f (ap (flag_at ks fs) (sym y.1) ∙ x))
              | inr y ↦ let z = y.1 in c.least p (omega (arith, z, w)) x
            ];
          }

-- IT IS THE PLAN'S FIRST
module _ (r : Round) (ks fs : List ℕ) (many slot n : ℕ) (g : Given r ks fs many slot n) where
  -- a plan's row of a later slot, or of the same with no lesser key
  behind : (p q : ℕ) → p < many_due r n → q < many_due r n →
      (due_of (get_or ks p 0) < due_of (get_or ks q 0)) ⊎ ((due_of (get_or ks q 0) ≡ due_of (get_or ks p 0)) × (get_or ks p 0 ≤ get_or ks q 0)) →
      NotBefore (at r (placed r n q)) (at r (placed r n p))
  behind p q h k (inl l) = inl (omega (arith, l, due_told r ks fs many slot n g p h, due_told r ks fs many slot n g q k))
  behind p q h k (inr l) =
      inr (
        omega (arith, l.0, due_told r ks fs many slot n g p h, due_told r ks fs many slot n g q k),
        heavier_no (at r (placed r n q)) (at r (placed r n p)) (greater_key r g.fine g.small g.cap (placed r n q) (placed r n p)
            (placed_row r n q k).0 (placed_row r n p h).0
            (omega (arith, l.1, places.key_there r ks fs many slot n g p h, places.key_there r ks fs many slot n g q k))),
      )

  pub least_first : (p : ℕ) → LeastKey ks fs many p → IsFirst r (with_flag r fs) (row_of (get_or ks p 0))
  least_first p w =
      let h = by_places r ks fs many slot n g p w.below in
      let e = row_told r ks fs many slot n g p h in
      let b = placed_row r n p h in
      subst (λ (i : ℕ). IsFirst r (with_flag r fs) i) (sym e) (record {
        below = b.0;
        inside = member_there r ks fs many slot n g (placed r n p) b.0 (ap (λ (i : ℕ). get_or fs i 0) (sym e) ∙ w.flag);
        first = λ y i. elim (ltb? y.due (r.slot + n)) [
          | inr l ↦ inl (omega (arith, l.1, b.2))
          | inl l ↦
              let m = member_place r ks fs many slot n g y i l.1 in
              let u = w.first m.0 (omega (arith, m.1, g.all)) (ap (λ (j : ℕ). get_or fs j 0) (row_told r ks fs many slot n g m.0 m.1) ∙ m.2) in
              subst (λ (x : Row). NotBefore x (at r (placed r n p))) (sym m.3) (behind p m.0 h m.1 u)
        ];
      })

pub says_first : {ks fs : List ℕ} {many p i k : ℕ} → LeastKey ks fs many p → k ≡ get_or ks p 0 → i ≡ row_of k → FirstSays ks fs many i
says_first {ks} {fs} {many} {p} w e q r slot n g =
    subst (λ (j : ℕ). IsFirst r (with_flag r fs) j) (sym (q ∙ ap row_of e)) (least_first r ks fs many slot n g p w)
