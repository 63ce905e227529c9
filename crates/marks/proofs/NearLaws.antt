-- Marks and substitutes by the segment that a pass over the plan's keys finds.
use mathlib.Core.Path.{◌≡◌, sym, ap, ◌∙◌, subst}
use mathlib.Core.Logic.{inl, inr}
use mathlib.Core.Bool.{true, false, true≢false}
use mathlib.Core.List.{List}
use Prim.Native.Nat.{ℕ, suc, ◌+◌, ◌-◌, ◌≤◌, ◌<◌, min}
use native.Mathlib.Omega.{arith}
use lib.ListN.{length, get_or}
use Rattle.rules.specs.Rows.{Row, Round, blank, heavier, In}
use Rattle.rules.specs.Plan.{plan, in_plan, tight_after, mark, first_end}
use Rattle.theory.specs.Tests.{ltb?, eqb?}
use Rattle.theory.specs.Order.{not_over_weight, heavier_no}
use Rattle.theory.specs.Keys.{getD_in}
use Rattle.theory.specs.Index.{flag_in, each_row, each_chosen, at_flag}
use Rattle.theory.specs.Members.{found_member}
use Rattle.theory.specs.Near.{near_out, near_next, near_mark_least}
use Rattle.theory.specs.Segments.{segment_row, segment_none, first_segment}
use Rattle.theory.specs.Substitute.{first_row}
use Rattle.theory.specs.Flags.{raised, with_flag}
use Rattle.round.specs.Rows.{at}
use Rattle.keys.specs.Key.{weight_of, due_of, row_of, blank_key, key_at}
use Rattle.keys.proofs.KeyLaws.{row_is, weight_is, some_key, greater_key}
use Rattle.keys.specs.Sorted.{placed}
use Rattle.keys.proofs.DueOrder.{placed_all, placed_rises}
use Rattle.sub.specs.Substitute.{Substitutes}
use Rattle.sub.specs.declared.Sub.TheVariants.{Row as Row-at, Blank}
use Rattle.marks.specs.Given.{Given, Asked, Lent}
use Rattle.marks.specs.Near.{Finds, Ends, LeftRow, Left}
use Rattle.marks.specs.declared.find.Found.{Found}
use Rattle.marks.proofs.KeptLaws.{flag_on, flag_off, plan_rows, from_slot, at_place, Read, key_read}

module _ (r : Round) (ks fs : List ℕ) (many slot n : ℕ) (g : Given r ks fs many slot n) where
  abbrev pub ours : List Row
  ours = with_flag r fs

  -- A ROW'S FLAG says whether it is in the plan
  pub flag_kept : (i : ℕ) → i < length r.rows → get_or (raised fs) i false ≡ true → get_or fs i 0 ≡ 1
  flag_kept i h e = elim (eqb? (get_or fs i 0) 1) [
    | inl a ↦ a.1
    | inr a ↦ absurd (true≢false (sym e ∙ flag_off r fs i g.chosen h a.1))
  ]

  pub kept_in : (i : ℕ) → i < length r.rows → get_or fs i 0 ≡ 1 → In (at r i) ours
  kept_in i h e = flag_in (blank 0) (raised fs) r.rows i h (flag_on r fs i g.chosen h e)

  pub out_flag : (i : ℕ) → i < length r.rows → in_plan (at r i) ours ≡ false → get_or fs i 0 ≡ 1 → ⊥
  out_flag i h e d =
      true≢false (sym (at_flag r g.fine (raised fs) g.chosen.certified g.small g.cap (blank 0) i h ∙ flag_on r fs i g.chosen h d) ∙ e)

  pub flag_out : (i : ℕ) → i < length r.rows → (get_or fs i 0 ≡ 1 → ⊥) → in_plan (at r i) ours ≡ false
  flag_out i h n = at_flag r g.fine (raised fs) g.chosen.certified g.small g.cap (blank 0) i h ∙ flag_off r fs i g.chosen h n

  -- a greater key is no heavier row's
  key_weighs : (i j : ℕ) → i < length r.rows → j < length r.rows → key_at r j ≤ key_at r i → (at r i).weight ≤ (at r j).weight
  key_weighs i j h k l = not_over_weight (at r i) (at r j) (heavier_no (at r i) (at r j) (greater_key r g.fine g.small g.cap i j h k l))

  -- BACK over the places: the heaviest row left out of those from place p on, all due from a slot on
  pub record Backing (from k p : ℕ) : Type 0 where
    pub high : k ≤ blank_key
    pub due : (q : ℕ) → p ≤ q → q < many → from ≤ (at r (placed r n q)).due
    pub least : (q : ℕ) → p ≤ q → q < many → (get_or fs (placed r n q) 0 ≡ 1 → ⊥) → k ≤ key_at r (placed r n q)
    pub some : k < blank_key → LeftRow r fs from k

  -- all rows left out have been passed where the places end, or where rows are due too early
  pub back_end : (from k p : ℕ) → ((q : ℕ) → q < p → (at r (placed r n q)).due < from) → Backing from k p → Left r fs from k
  back_end from k p e b =
      record {
        by = b.high;
        least = λ i h o d.
            let z = near_out r g.fine ours (plan_rows r ks fs many slot n g) (r.slot + n) g.near (at r i) (getD_in r.rows (blank 0) i h)
            (flag_out i h o) in
            let q = placed_all r n i h (from_slot r ks fs many slot n g i h) z in
            elim (ltb? q.0 p) [
              | inl y ↦ absurd (omega (arith, d, e q.0 y.1, ap (λ (c : ℕ). (at r c).due) q.2))
              | inr y ↦ omega (
                arith,
                b.least q.0 y.1 (omega (arith, q.1, g.all)) (λ c. o (ap (λ (j : ℕ). get_or fs j 0) (sym q.2) ∙ c)),
                ap (key_at r) q.2,
              )
            ];
        some = b.some;
      }

  module _ (from k p x : ℕ) (h : p < many) (e : x ≡ get_or ks p 0) (b : Backing from k (suc p)) where
    pub red : Read r ks fs many slot n g p x
    red = key_read r ks fs many slot n g p x h e

    pub back_stop : (d : ℕ) → d ≡ due_of x → d < from → Left r fs from k
    back_stop d c l =
        back_end from k (suc p)
        (λ q y. omega (arith, placed_rises r n q p (omega (arith, y)) (omega (arith, h, g.all)), red.due, c, l)) b

    module _ (d : ℕ) (c : d ≡ due_of x) (l : from ≤ d) where
      pub due_back : (q : ℕ) → p ≤ q → q < many → from ≤ (at r (placed r n q)).due
      due_back q y z = elim (eqb? q p) [
        | inl a ↦ omega (arith, ap (λ (j : ℕ). (at r (placed r n j)).due) a.1, red.due, c, l)
        | inr a ↦ let o = a.1 in b.due q (omega (arith, y)) z
      ]

      pub back_kept : (i : ℕ) → i ≡ row_of x → get_or fs i 0 ≡ 1 → Backing from k p
      back_kept i m o =
          let u : get_or fs (placed r n p) 0 ≡ 1 = ap (λ (j : ℕ). get_or fs j 0) (sym (m ∙ red.row)) ∙ o in
          record {
            high = b.high;
            due = due_back;
            least = λ q y z v. elim (eqb? q p) [
              | inl a ↦ absurd (v (ap (λ (j : ℕ). get_or fs (placed r n j) 0) a.1 ∙ u))
              | inr a ↦ let w = a.1 in b.least q (omega (arith, y)) z v
            ];
            some = b.some;
          }

      pub back_left : (i y : ℕ) → i ≡ row_of x → (get_or fs i 0 ≡ 1 → ⊥) → y ≡ min k x → Backing from y p
      back_left i y m o f =
          let u : get_or fs (placed r n p) 0 ≡ 1 → ⊥ = λ w. o (ap (λ (j : ℕ). get_or fs j 0) (m ∙ red.row) ∙ w) in
          record {
            high = omega (arith, f, b.high);
            due = due_back;
            least = λ q s z v. elim (eqb? q p) [
              | inl a ↦ omega (arith, f, red.key, ap (λ (j : ℕ). key_at r (placed r n j)) a.1)
              | inr a ↦ let w = a.1 in omega (arith, f, b.least q (omega (arith, s)) z v)
            ];
            some = λ s. elim (ltb? x k) [
              | inl a ↦ record {
                row = placed r n p;
                there = (at_place r ks fs many slot n g p h).row;
                out = u;
                due = omega (arith, red.due, c, l);
                is = sym red.key ∙ omega (arith, f, a.1);
              }
              | inr a ↦ let z : k ≡ y = omega (arith, f, a.1) in subst (LeftRow r fs from) z (b.some (omega (arith, z, s)))
            ];
          }

-- THE MARK, by the end found from the slot on
module _ (r : Round) (ks fs : List ℕ) (many slot n asked : ℕ) (a : Asked r ks fs many slot n asked) (low : ℕ) (w : Ends r fs n asked asked low) where
  pub low_fine : low ≤ blank_key
  low_fine = let g = a.given in omega (arith, w.low, (some_key r g.fine g.small g.cap w.row w.there).1)

  pub mark_found : (m : ℕ) → m ≡ weight_of low → m ≡ mark r asked
  mark_found m e =
      let g = a.given in
      let c = plan_rows r ks fs many slot n g in
      let t : tight_after r (plan r) asked ≡ w.end =
      near_next r g.fine (with_flag r fs) c (r.slot + n) g.near asked w.end (omega (arith, a.from, g.now)) w.by w.near w.full w.none in
      e ∙ ap weight_of (sym w.low) ∙ weight_is r g.fine g.small g.cap w.row w.there
      ∙ sym (near_mark_least r g.fine (with_flag r fs) c (r.slot + n) g.near asked (omega (arith, a.from, g.now)) (omega (arith, a.by, g.now))
      (at r w.row) (kept_in r ks fs many slot n g w.row w.there w.kept) (omega (arith, t, w.due))
      (each_chosen (λ y. y.due ≤ tight_after r (plan r) asked → (at r w.row).weight ≤ y.weight) (blank 0) (raised fs) r.rows
      (λ j l b d. key_weighs r ks fs many slot n g w.row j w.there l
      (omega (arith, w.low, w.most j l (flag_kept r ks fs many slot n g j l b) (omega (arith, t, d)))))))

-- THE SUBSTITUTE, by the segment found
module _ (r : Round) (ks fs : List ℕ) (many slot n asked : ℕ) (a : Asked r ks fs many slot n asked) (x : Found) (w : Finds r fs n asked x) where
  abbrev pub g : Given r ks fs many slot n
  g = a.given

  -- of a row of the plan that is due then
  module _ (i : ℕ) (h : i < length r.rows) (on : get_or fs i 0 ≡ 1) (d : (at r i).due ≡ asked) where
    -- of the first segment
    pub row_first : (j : ℕ) → x.first ≡ slot → j ≡ row_of x.low → Substitutes r i (Row-at j)
    row_first j e p =
        let c = plan_rows r ks fs many slot n g in
        let z : first_end r (plan r) ≡ w.end =
        first_segment r g.fine g.time (with_flag r fs) c (r.slot + n) g.near x.first w.end w.near w.segment (e ∙ g.now) in
        let u : j ≡ w.row = p ∙ ap row_of (sym w.low) ∙ row_is r g.fine g.small g.cap w.row w.there in (
          omega (arith, u, w.there),
          first_row r g.fine (with_flag r fs) c g.time (at r i)
              (found_member r g.fine (with_flag r fs) c (at r i) (kept_in r ks fs many slot n g i h on)) (omega (arith, z, d, w.by))
              (at r w.row) (kept_in r ks fs many slot n g w.row w.there w.kept) (omega (arith, z, w.due))
              (each_chosen (λ y. y.due ≤ first_end r (plan r) → heavier (at r w.row) y ≡ false) (blank 0) (raised fs) r.rows
              (λ v l b t. greater_key r g.fine g.small g.cap w.row v w.there l
              (omega (arith, w.low, w.most v l (flag_kept r ks fs many slot n g v l b) (omega (arith, t, z))))))
              ∙ ap (at r) (sym u),
        )

    -- of a later one
    module _ (later : x.first ≡ slot → ⊥) (from k : ℕ) (l : Left r fs from k) (e : from ≡ x.first) where
      pub b : Left r fs x.first k
      b = subst (λ (v : ℕ). Left r fs v k) e l

      pub after_first : r.slot < x.first
      after_first = let o = later in omega (arith, w.segment.low, g.now, o)

      pub row_left : (j : ℕ) → (k ≡ blank_key → ⊥) → j ≡ row_of k → Substitutes r i (Row-at j)
      row_left j o p =
          let q = o in
          let s = b.some (omega (arith, b.by, q)) in
          let u : j ≡ s.row = p ∙ ap row_of (sym s.is) ∙ row_is r g.fine g.small g.cap s.row s.there in (
            omega (arith, u, s.there),
            segment_row r g.fine g.time (with_flag r fs) (plan_rows r ks fs many slot n g) (r.slot + n) g.near x.first w.end w.near
                w.segment after_first (at r i) (omega (arith, d, w.from)) (omega (arith, d, w.by)) (at r s.row)
                (getD_in r.rows (blank 0) s.row s.there) (flag_out r ks fs many slot n g s.row s.there s.out) s.due
                (each_row (λ y. in_plan y (with_flag r fs) ≡ false → x.first ≤ y.due → heavier y (at r s.row) ≡ false) (blank 0) r.rows
                (λ v l f t. greater_key r g.fine g.small g.cap v s.row l s.there
                (omega (arith, s.is, b.least v l (out_flag r ks fs many slot n g v l f) t))))
                ∙ ap (at r) (sym u),
          )

      pub blank_left : k ≡ blank_key → Substitutes r i (Blank (record { 0 = x.first }))
      blank_left o =
          segment_none r g.fine g.time (with_flag r fs) (plan_rows r ks fs many slot n g) (r.slot + n) g.near x.first w.end w.near
          w.segment after_first (at r i) (omega (arith, d, w.from)) (omega (arith, d, w.by))
          (each_row (λ y. in_plan y (with_flag r fs) ≡ false → y.due < x.first) (blank 0) r.rows
          (λ v l f. elim (ltb? (at r v).due x.first) [
            | inl y ↦ y.1
            | inr y ↦ absurd (omega (
              arith,
              o,
              b.least v l (out_flag r ks fs many slot n g v l f) y.1,
              (some_key r g.fine g.small g.cap v l).1,
            ))
          ]))

-- THE WAY BACK of whatever round is given
abbrev pub Back : (ks fs : List ℕ) (many from k p : ℕ) → Type 0
Back ks fs many from k p = (r : Round) (slot n : ℕ) (g : Given r ks fs many slot n) → Backing r ks fs many slot n g from k p

pub left_there : (ks fs : List ℕ) (many : ℕ) → Lent ks fs many → (p k i : ℕ) → p < many → k ≡ get_or ks p 0 → i ≡ row_of k → i < length fs
left_there ks fs many l p k i h e d = omega (arith, d, (key_read l.of ks fs many l.slot l.n l.given p k h e).fits)

module _ (r : Round) (ks fs : List ℕ) (many slot n : ℕ) (g : Given r ks fs many slot n) (from k p x : ℕ) (o : 0 < p) (h : p ≤ many) (e : x ≡ get_or ks (p - 1) 0)
    (b : Backing r ks fs many slot n g from k p) where
  pub before_p : Backing r ks fs many slot n g from k (suc (p - 1))
  before_p = let d : p ≡ suc (p - 1) = omega (arith, o) in subst (Backing r ks fs many slot n g from k) d b

  pub stops : (d : ℕ) → d ≡ due_of x → d < from → Left r fs from k
  stops = back_stop r ks fs many slot n g from k (p - 1) x (omega (arith, o, h)) e before_p

  pub stays : (d i : ℕ) → d ≡ due_of x → from ≤ d → i ≡ row_of x → get_or fs i 0 ≡ 1 → Backing r ks fs many slot n g from k (p - 1)
  stays d i c l = back_kept r ks fs many slot n g from k (p - 1) x (omega (arith, o, h)) e before_p d c l i

  pub takes : (d i y : ℕ) → d ≡ due_of x → from ≤ d → i ≡ row_of x → (get_or fs i 0 ≡ 1 → ⊥) → y ≡ min k x →
      Backing r ks fs many slot n g from y (p - 1)
  takes d i y c l = back_left r ks fs many slot n g from k (p - 1) x (omega (arith, o, h)) e before_p d c l i y

pub back_over : (r : Round) (ks fs : List ℕ) (many slot n : ℕ) (g : Given r ks fs many slot n) (from k p : ℕ) → p ≤ 0 →
    Backing r ks fs many slot n g from k p → Left r fs from k
back_over r ks fs many slot n g from k p h b = back_end r ks fs many slot n g from k p (λ q l. absurd (omega (arith, h, l))) b
