-- What is at each place of the due order: its key, its row, and whether the slots by it are full.
use mathlib.Core.Path.{◌≡◌, sym, ap, ◌∙◌, subst}
use mathlib.Core.Logic.{inl, inr}
use mathlib.Core.Bool.{false, true≢false}
use mathlib.Core.List.{List}
use Prim.Native.Nat.{ℕ, suc, ◌+◌, ◌-◌, ◌≤◌, ◌<◌}
use native.Mathlib.Omega.{arith}
use lib.Dec.{eqb}
use lib.ListN.{length, get_or}
use Rattle.rules.specs.Rows.{Row, Round, blank, In}
use Rattle.rules.specs.Plan.{in_plan}
use Rattle.theory.specs.Tests.{eqb?, leb?, ltb?}
use Rattle.theory.specs.Feas.{num}
use Rattle.theory.specs.Send.{between_count}
use Rattle.theory.specs.Members.{RowsOfPlan, not_found}
use Rattle.theory.specs.Near.{near_edge, near_out, rows_feas}
use Rattle.theory.specs.Index.{index_of, flag_in, chosen_index, at_flag}
use Rattle.theory.specs.Flags.{raised, raised_at, with_flag, chosen_rows}
use Rattle.round.specs.Rows.{at}
use Rattle.keys.specs.Key.{due_of, row_of, key_at}
use Rattle.keys.proofs.KeyLaws.{row_fine, due_is, row_is}
use Rattle.keys.specs.Sorted.{many_due, placed}
use Rattle.keys.proofs.DueOrder.{many_mono, place, placed_row, placed_rises, placed_all, placed_from}
use Rattle.segments.specs.Given.{Given}
use Rattle.segments.proofs.CountLaws.{kept_to, kept_slot, kept_more}

-- the due slot of the row at a place
abbrev pub due_at : Round → (n place : ℕ) → ℕ
due_at r n p = (at r (placed r n p)).due

-- A SLOT THAT IS FULL with all before it, by the plan's rows
abbrev pub FullBy : Round → List ℕ → (slot : ℕ) → Type 0
FullBy r fs d = num 0 (suc d) (with_flag r fs) ≡ suc d - r.slot

module _ (r : Round) (ks fs : List ℕ) (many slot n : ℕ) (g : Given r ks fs many slot n) where
  pub rows_of_it : RowsOfPlan r (with_flag r fs)
  rows_of_it = chosen_rows r g.fine fs g.chosen

  pub due_from : (i : ℕ) → i < length r.rows → r.slot ≤ (at r i).due
  due_from i h = (row_fine r g.fine g.small g.cap i h).due_from

  -- WHAT A KEY TELLS of its place
  pub key_there : (p : ℕ) → p < many_due r n → get_or ks p 0 ≡ key_at r (placed r n p)
  key_there p h = g.sorted.is p h

  pub due_told : (p : ℕ) → p < many_due r n → due_of (get_or ks p 0) ≡ due_at r n p
  due_told p h =
      ap due_of (key_there p h) ∙ due_is r g.fine g.small g.cap (placed r n p) (placed_row r n p h).0

  pub row_told : (p : ℕ) → p < many_due r n → row_of (get_or ks p 0) ≡ placed r n p
  row_told p h = ap row_of (key_there p h) ∙ row_is r g.fine g.small g.cap (placed r n p) (placed_row r n p h).0

  -- MEMBERS by index: rows with a flag
  pub flag_told : (i : ℕ) → i < length r.rows → get_or (raised fs) i false ≡ eqb (get_or fs i 0) 1
  flag_told i h = raised_at fs i (omega (arith, g.chosen.long, h))

  pub member_there : (i : ℕ) → i < length r.rows → get_or fs i 0 ≡ 1 → In (at r i) (with_flag r fs)
  member_there i h e = elim (eqb? (get_or fs i 0) 1) [
    | inl a ↦ flag_in (blank 0) (raised fs) r.rows i h (flag_told i h ∙ a.0)
    | inr a ↦ absurd (a.1 e)
  ]

  pub member_place : (x : Row) → In x (with_flag r fs) → x.due < r.slot + n →
      (p : ℕ) × (p < many_due r n) × (get_or fs (placed r n p) 0 ≡ 1) × (x ≡ at r (placed r n p))
  member_place x i h =
      let w = chosen_index (blank 0) x (raised fs) r.rows i in
      let d = ap (λ (y : Row). y.due) w.3 in
      let q = placed_all r n w.0 w.1 (due_from w.0 w.1) (omega (arith, d, h)) in
      let o : get_or fs w.0 0 ≡ 1 = elim (eqb? (get_or fs w.0 0) 1) [
        | inl a ↦ a.1
        | inr a ↦ absurd (true≢false (sym w.2 ∙ flag_told w.0 w.1 ∙ a.0))
      ] in
      (q.0, q.1, ap (λ (j : ℕ). get_or fs j 0) q.2 ∙ o, sym w.3 ∙ ap (at r) (sym q.2))

  -- and rows left out
  pub left_there : (i : ℕ) → i < length r.rows → (get_or fs i 0 ≡ 1 → ⊥) → in_plan (at r i) (with_flag r fs) ≡ false
  left_there i h n = elim (eqb? (get_or fs i 0) 1) [
    | inl a ↦ absurd (n a.1)
    | inr a ↦ at_flag r g.fine (raised fs) g.chosen.certified g.small g.cap (blank 0) i h ∙ flag_told i h ∙ a.0
  ]

  pub left_place : (x : Row) → In x r.rows → in_plan x (with_flag r fs) ≡ false →
      (p : ℕ) × (p < many_due r n) × (get_or fs (placed r n p) 0 ≡ 1 → ⊥) × (x ≡ at r (placed r n p))
  left_place x i l =
      let w = index_of (blank 0) x r.rows i in
      let d = ap (λ (y : Row). y.due) w.2 in
      let q = placed_all r n w.0 w.1 (due_from w.0 w.1)
      (omega (arith, d, near_out r g.fine (with_flag r fs) rows_of_it (r.slot + n) g.near x i l)) in
      let e : x ≡ at r (placed r n q.0) = sym w.2 ∙ ap (at r) (sym q.2) in (
        q.0,
        q.1,
        (λ o. not_found r g.fine (with_flag r fs) rows_of_it x i l
            (subst (λ (y : Row). In y (with_flag r fs)) (sym e) (member_there (placed r n q.0) (placed_row r n q.0 q.1).0 o))),
        e,
      )

  -- COUNTS: the plan's rows fit, and fill the n slots
  pub rows_fit : (s : ℕ) → s ≤ n → num 0 (r.slot + s) (with_flag r fs) ≤ s
  rows_fit s h =
      omega (
        arith,
        rows_feas r g.fine (with_flag r fs) rows_of_it (r.slot + s) (omega arith) (omega (arith, h, g.near.by)),
      )

  pub kept_all : kept_to r n fs (many_due r n) ≡ n
  kept_all =
      omega (
        arith,
        kept_slot r n n fs g.chosen.long due_from (omega arith),
        near_edge r g.fine (with_flag r fs) rows_of_it (r.slot + n) g.near,
      )

  -- those at places by one are due by its slot, and are all of them where it is the last of its slot
  pub kept_under : (p : ℕ) → p < many_due r n → kept_to r n fs (suc p) ≤ num 0 (suc (due_at r n p)) (with_flag r fs)
  kept_under p h =
      let x = place r n p h in
      let e : r.slot + suc x.ahead ≡ suc (due_at r n p) = omega (arith, x.due) in
      omega (
        arith,
        kept_more r n fs (suc p) (many_due r (suc x.ahead)) x.by,
        kept_slot r n (suc x.ahead) fs g.chosen.long due_from x.early,
        ap (λ v. num 0 v (with_flag r fs)) e,
      )

  pub kept_last : (p : ℕ) → p < many_due r n → (suc p < many_due r n → due_at r n (suc p) ≡ due_at r n p → ⊥) →
      kept_to r n fs (suc p) ≡ num 0 (suc (due_at r n p)) (with_flag r fs)
  kept_last p h last =
      let x = place r n p h in
      let e : r.slot + suc x.ahead ≡ suc (due_at r n p) = omega (arith, x.due) in
      let m = many_mono r (suc x.ahead) n x.early in
      elim (ltb? (suc p) (many_due r (suc x.ahead))) [
        | inl a ↦
            let k : suc p < many_due r n = omega (arith, a.1, m) in
            elim (leb? (r.slot + suc x.ahead) (due_at r n (suc p))) [
              | inl b ↦ absurd (omega (arith, a.1, placed_from r n (suc x.ahead) (suc p) k b.1))
              | inr b ↦ absurd (last k (omega (arith, b.1, e, placed_rises r n p (suc p) (omega arith) k)))
            ]
        | inr a ↦
            let q : suc p ≡ many_due r (suc x.ahead) = omega (arith, a.1, x.by) in
            ap (kept_to r n fs) q ∙ kept_slot r n (suc x.ahead) fs g.chosen.long due_from x.early ∙ ap (λ v. num 0 v (with_flag r fs)) e
      ]

  -- THE TEST for a segment's end, at a place
  pub full_here : (p : ℕ) → p < many_due r n → due_at r n p < r.slot + kept_to r n fs (suc p) → FullBy r fs (due_at r n p)
  full_here p h t =
      let x = place r n p h in
      let e : r.slot + suc x.ahead ≡ suc (due_at r n p) = omega (arith, x.due) in
      omega (arith, t, kept_under p h, rows_fit (suc x.ahead) x.early, e, x.due, ap (λ v. num 0 v (with_flag r fs)) e)

  pub not_full_here : (p : ℕ) → p < many_due r n → r.slot + kept_to r n fs (suc p) ≤ due_at r n p →
      (suc p < many_due r n → due_at r n (suc p) ≡ due_at r n p → ⊥) → FullBy r fs (due_at r n p) → ⊥
  not_full_here p h t last f = omega (arith, t, kept_last p h last, f, (placed_row r n p h).1)

  -- a full slot has a row due in it
  row_place : (d : ℕ) (y : Row) → In y (with_flag r fs) → d ≤ y.due → y.due < suc d → d < r.slot + n →
      (p : ℕ) × (p < many_due r n) × (due_at r n p ≡ d)
  row_place d y i h k l =
      let w = member_place y i (omega (arith, k, l)) in
      (w.0, w.1, omega (arith, ap (λ (x : Row). x.due) {y = at r (placed r n w.0)} w.3, h, k))

  pub full_place : (d : ℕ) → r.slot ≤ d → d < r.slot + n → FullBy r fs d → (p : ℕ) × (p < many_due r n) × (due_at r n p ≡ d)
  full_place d h k f =
      let e : r.slot + (d - r.slot) ≡ d = omega (arith, h) in
      let y = between_count d (suc d) (with_flag r fs)
      (omega (arith, f, h, rows_fit (d - r.slot) (omega (arith, k, h)), ap (λ v. num 0 v (with_flag r fs)) e)) in
      row_place d y.0 y.1 y.2 y.3 k
