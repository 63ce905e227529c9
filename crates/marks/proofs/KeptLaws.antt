-- The plan's rows among the first places in due order, and those due before a slot.
use mathlib.Core.Path.{◌≡◌, refl, sym, ap, ◌∙◌}
use mathlib.Core.Logic.{inl, inr}
use mathlib.Core.Bool.{true, false, cond}
use mathlib.Core.List.{List}
use Prim.Native.Nat.{ℕ, zero, suc, ◌+◌, ◌-◌, ◌≤◌, ◌<◌}
use native.Mathlib.Omega.{arith}
use lib.Dec.{eqb}
use lib.ListN.{length, get_or, take}
use lib.Seq.{take-length}
use borrow.Author.Tests.{eq-eqb, ne_eqb}
use Rattle.rules.specs.Rows.{Row, Round, blank, chosen}
use Rattle.rules.specs.Table.{round_in}
use Rattle.theory.specs.Tests.{eqb?, ltb?, one_if}
use Rattle.theory.specs.Sum.{sum}
use Rattle.theory.specs.Feas.{below, num, below_yes, below_late}
use Rattle.theory.specs.Index.{chosen_next}
use Rattle.theory.specs.Members.{RowsOfPlan}
use Rattle.theory.specs.Near.{rows_feas, near_edge}
use Rattle.theory.specs.Flags.{raised, with_flag, Chosen, chosen_rows, raised_at, length_raised}
use Rattle.sorts.specs.declared.Round.{Round as Head}
use Rattle.round.specs.Rows.{Ready, at}
use Rattle.round.proofs.ReadLaws.{known}
use Rattle.keys.specs.Key.{due_of, row_of, blank_key, key_at}
use Rattle.keys.proofs.KeyLaws.{row_fine, row_is, due_is, some_key}
use Rattle.keys.specs.Sorted.{Sorted, many_due, placed}
use Rattle.keys.proofs.DueOrder.{place, placed_front}
use Rattle.keys.specs.DueSums.{each, before_slot}
use Rattle.keys.proofs.DueSums.{each_same, each_more, placed_sum}
use Rattle.buckets.specs.Reach.{Reaches}
use Rattle.buckets.specs.declared.Reach.{Reach}
use Rattle.marks.specs.Given.{Given}

-- FROM A PLAN
pub given : (t ks fs : List ℕ) (h : Head) (x : Reach) (many : ℕ) → Ready t h → Reaches (round_in t) x → Sorted (round_in t) x.free ks →
    Chosen (round_in t) fs → many ≡ many_due (round_in t) x.free → Given (round_in t) ks fs many h.slot.0 x.free
given t ks fs h x many k w s c m =
    let n = known t h k in
    record {
      fine = n.fine;
      time = n.time;
      cap = n.cap;
      small = n.small;
      chosen = c;
      sorted = s;
      near = w.near;
      now = n.slot;
      all = m;
    }

-- 1 for a row of the plan
unfoldable pub flagged : List ℕ → (row : ℕ) → ℕ
flagged fs i = one_if (eqb (get_or fs i 0) 1)

pub flagged_yes : (fs : List ℕ) (i : ℕ) → get_or fs i 0 ≡ 1 → flagged fs i ≡ 1
unfolding flagged
flagged_yes fs i e = rw (eq-eqb (get_or fs i 0) 1 e)

pub flagged_no : (fs : List ℕ) (i : ℕ) → (get_or fs i 0 ≡ 1 → ⊥) → flagged fs i ≡ 0
unfolding flagged
flagged_no fs i n = rw (ne_eqb (get_or fs i 0) 1 n)

pub flag_on : (r : Round) (fs : List ℕ) (i : ℕ) → Chosen r fs → i < length r.rows → get_or fs i 0 ≡ 1 → get_or (raised fs) i false ≡ true
flag_on r fs i c h e = raised_at fs i (omega (arith, h, c.long)) ∙ eq-eqb (get_or fs i 0) 1 e

pub flag_off : (r : Round) (fs : List ℕ) (i : ℕ) → Chosen r fs → i < length r.rows → (get_or fs i 0 ≡ 1 → ⊥) → get_or (raised fs) i false ≡ false
flag_off r fs i c h n = raised_at fs i (omega (arith, h, c.long)) ∙ ne_eqb (get_or fs i 0) 1 n

-- THE PLAN'S ROWS due before a slot, by index
kept_next : (r : Round) (fs : List ℕ) (e i : ℕ) → Chosen r fs → i < length r.rows →
    before_slot (flagged fs) r e i ≡ cond (get_or (raised fs) i false) (below 0 e (at r i)) 0
kept_next r fs e i c h = elim (eqb? (get_or fs i 0) 1) [
  | inl a ↦ rw (flag_on r fs i c h a.1, flagged_yes fs i a.1) (elim (ltb? (at r i).due e) [
    | inl b ↦ rw b.0 (sym (below_yes 0 e (at r i) (omega arith) b.1))
    | inr b ↦ rw b.0 (sym (below_late 0 e (at r i) b.1))
  ])
  | inr a ↦ rw (flag_off r fs i c h a.1, flagged_no fs i a.1) (elim (ltb? (at r i).due e) [
    | inl b ↦ rw b.0
    | inr b ↦ rw b.0
  ])
]

kept_upto : (r : Round) (fs : List ℕ) (e i : ℕ) → Chosen r fs → i ≤ length r.rows →
    each (before_slot (flagged fs) r e) i ≡ sum (below 0 e) (chosen (take i (raised fs)) (take i r.rows))
unfolding each chosen
kept_upto r fs e zero c h = refl
kept_upto r fs e (suc i) c h =
    omega (
      arith,
      kept_upto r fs e i c (omega arith),
      kept_next r fs e i c (omega arith),
      chosen_next (below 0 e) (blank 0) (raised fs) r.rows i (omega arith) (length_raised fs ∙ c.long),
    )

pub kept_rows : (r : Round) (fs : List ℕ) (e : ℕ) → Chosen r fs → each (before_slot (flagged fs) r e) (length r.rows) ≡ num 0 e (with_flag r fs)
kept_rows r fs e c =
    let a : take (length r.rows) (raised fs) ≡ raised fs =
    ap (λ (n : ℕ). take n (raised fs)) (sym (length_raised fs ∙ c.long)) ∙ take-length (raised fs) in
    let b = take-length r.rows in
    kept_upto r fs e (length r.rows) c (omega arith) ∙ rw (a, b) refl

-- and those among the first p places
abbrev pub kept : Round → (flags : List ℕ) → (n p : ℕ) → ℕ
kept r fs n p = each (λ q. flagged fs (placed r n q)) p

module _ (r : Round) (ks fs : List ℕ) (many slot n : ℕ) (g : Given r ks fs many slot n) where
  abbrev pub mine : List Row
  mine = with_flag r fs

  pub plan_rows : RowsOfPlan r mine
  plan_rows = chosen_rows r g.fine fs g.chosen

  pub from_slot : (i : ℕ) → i < length r.rows → r.slot ≤ (at r i).due
  from_slot i h = (row_fine r g.fine g.small g.cap i h).due_from

  pub kept_many : (m : ℕ) → m ≤ n → kept r fs n (many_due r m) ≡ num 0 (r.slot + m) mine
  kept_many m h =
      each_same (λ q. flagged fs (placed r n q)) (λ q. flagged fs (placed r m q)) (many_due r m) (λ q l. ap (flagged fs) (placed_front r m n q h l))
      ∙ placed_sum (flagged fs) r m from_slot ∙ kept_rows r fs (r.slot + m) g.chosen

  -- all n slots are filled, none more than once
  pub filled : num 0 (r.slot + n) mine ≡ n
  filled = omega (arith, near_edge r g.fine mine plan_rows (r.slot + n) g.near)

  pub kept_all : kept r fs n many ≡ n
  kept_all = ap (λ (p : ℕ). kept r fs n p) g.all ∙ kept_many n (omega arith) ∙ filled

  pub fits : (e : ℕ) → r.slot ≤ e → e ≤ r.slot + n → num 0 e mine ≤ e - r.slot
  fits e h k = rows_feas r g.fine mine plan_rows e h (omega (arith, k, g.near.by))

  -- A PLACE: its row, and the plan's rows before it
  pub record At (p d : ℕ) : Type 0 where
    pub row : placed r n p < length r.rows
    pub due : (at r (placed r n p)).due ≡ d
    pub from : r.slot ≤ d
    pub by : d < r.slot + n
    pub low : num 0 d mine ≤ kept r fs n p
    pub high : kept r fs n (suc p) ≤ num 0 (suc d) mine

  pub at_place : (p : ℕ) → p < many → At p (at r (placed r n p)).due
  at_place p h =
      let x = place r n p (omega (arith, h, g.all)) in
      let e : r.slot + suc x.ahead ≡ suc (at r (placed r n p)).due = omega (arith, x.due) in
      record {
        row = x.within;
        due = refl;
        from = omega (arith, x.due);
        by = omega (arith, x.due, x.early);
        low = omega (
          arith,
          kept_many x.ahead (omega (arith, x.early)),
          ap (λ (v : ℕ). num 0 v mine) x.due,
          each_more (λ q. flagged fs (placed r n q)) (many_due r x.ahead) p x.from,
        );
        high = omega (
          arith,
          kept_many (suc x.ahead) x.early,
          ap (λ (v : ℕ). num 0 v mine) e,
          each_more (λ q. flagged fs (placed r n q)) (suc p) (many_due r (suc x.ahead)) x.by,
        );
      }

  -- WHAT A KEY READ THERE TELLS
  pub record Read (p k : ℕ) : Type 0 where
    pub key : k ≡ key_at r (placed r n p)
    pub row : row_of k ≡ placed r n p
    pub due : due_of k ≡ (at r (placed r n p)).due
    pub some : 1 ≤ k
    pub by : k ≤ blank_key
    pub fits : row_of k < length fs

  pub key_read : (p k : ℕ) → p < many → k ≡ get_or ks p 0 → Read p k
  key_read p k h e =
      let w = (at_place p h).row in
      let q : k ≡ key_at r (placed r n p) = e ∙ g.sorted.is p (omega (arith, h, g.all)) in
      let i = ap row_of q ∙ row_is r g.fine g.small g.cap (placed r n p) w in
      record {
        key = q;
        row = i;
        due = ap due_of q ∙ due_is r g.fine g.small g.cap (placed r n p) w;
        some = omega (arith, q, (some_key r g.fine g.small g.cap (placed r n p) w).0);
        by = omega (arith, q, (some_key r g.fine g.small g.cap (placed r n p) w).1);
        fits = omega (arith, i, w, g.chosen.long);
      }
