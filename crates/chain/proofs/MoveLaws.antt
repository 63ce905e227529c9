-- Shifts in any order, and in a table's bytes.
use mathlib.Core.Path.{◌≡◌, refl, sym, ap, ◌∙◌}
use mathlib.Core.Logic.{inl, inr, ◌≢◌}
use mathlib.Core.List.{List, [], ◌∷◌, ◌++◌}
use Prim.Native.Nat.{ℕ, ◌+◌, ◌*◌, ◌-◌, ◌≤◌, ◌<◌}
use native.Mathlib.Omega.{arith}
use lib.Dec.{eqb}
use borrow.Author.Tests.{ne_eqb}
use lib.ListN.{length, get_or, replicate}
use lib.Seq.{sets}
use Rattle.rules.specs.Limits.{head_size, row_size, due_at, weight_at, slot_bytes, wide_bytes, most_class}
use Rattle.rules.specs.Rows.{Row, Round, round, blank, All}
use Rattle.rules.specs.Plan.{plan, tight_after}
use Rattle.rules.specs.Steps.{set_to, kept_at, changed}
use Rattle.rules.specs.Conditions.{row_at}
use Rattle.rules.specs.Table.{low, head_bytes, rows_bytes, table}
use Rattle.theory.specs.Tests.{eqb?}
use Rattle.theory.specs.Full.{Fine, Rising}
use Rattle.theory.specs.Back.{length_changed, length_head, table_is, length_table}
use Rattle.theory.specs.Members.{RowsOfPlan}
use Rattle.theory.specs.Chain.{Linked, shifted_to_end, moves}
use Rattle.theory.specs.Leaping.{final_row, final_other, moves_each, each_at, moved_ticket}
use Rattle.theory.specs.Write.{shift_bytes, weight_bytes, kept_bytes}
use Rattle.chain.specs.Chain.{having}

-- CHANGES of two tickets, in either order
pub changed_comm : (j k : ℕ) (x y : Row) → j ≢ k → x.ticket ≡ j → y.ticket ≡ k → (zs : List Row) → changed j x (changed k y zs) ≡ changed k y (changed j x zs)
unfolding changed
changed_comm j k x y n e f [] = refl
changed_comm j k x y n e f (z ∷ zs) = elim (eqb? z.ticket k) [
  | inl a ↦
      let b : eqb z.ticket j ≡ _ = ne_eqb z.ticket j (λ q. n (sym q ∙ a.1)) in
      let c : eqb y.ticket j ≡ _ = ne_eqb y.ticket j (λ q. n (sym q ∙ f)) in
      rw (a.0, b, c, a.0)
  | inr a ↦ elim (eqb? z.ticket j) [
    | inl b ↦
        let c : eqb x.ticket k ≡ _ = ne_eqb x.ticket k (λ q. n (sym e ∙ q)) in
        rw (a.0, b.0, c)
    | inr b ↦ rw (a.0, b.0, a.0) (ap (λ (ws : List Row). z ∷ ws) (changed_comm j k x y n e f zs))
  ]
]

-- a change before the shifts of others is one after them
pub moves_changed : (r : Round) (k : ℕ) (y : Row) → y.ticket ≡ k → (e : ℕ) (hs xs : List Row) → All (λ h. k ≢ h.ticket) hs →
    changed k y (moves r e hs xs) ≡ moves r e hs (changed k y xs)
unfolding moves
moves_changed r k y q e [] xs a = refl
moves_changed r k y q e (h ∷ hs) xs a =
    moves_changed r k y q (tight_after r (plan r) h.due) hs (changed h.ticket (shifted_to_end r e h) xs) a.1
    ∙ ap (moves r (tight_after r (plan r) h.due) hs) (changed_comm k h.ticket y (shifted_to_end r e h) a.0 q (moved_ticket r e h) xs)

-- the row of another ticket stays
pub moves_other : (r : Round) (f : Fine r) (rs : List Row) (c : RowsOfPlan r rs) (e g : ℕ) (hs : List Row) (i : ℕ) → Linked r rs e g hs → i < length r.rows →
    All (λ h. h.ticket ≢ (get_or r.rows i (blank 0)).ticket) hs → get_or (moves r e hs r.rows) i (blank 0) ≡ get_or r.rows i (blank 0)
moves_other r f rs c e g hs i k h a =
    ap (λ (xs : List Row). get_or xs i (blank 0)) (moves_each r f rs c 1 r.next e g hs r.rows f.rising k)
    ∙ each_at (final_row r e hs) r.rows i (blank 0) h
    ∙ final_other r e hs (get_or r.rows i (blank 0)) a

-- as many rows make as long a table
pub length_having : (r : Round) (xs : List Row) → length xs ≡ length r.rows → length r.rows ≤ r.room →
    length (table (having r xs)) ≡ head_size + row_size * r.room
unfolding round
length_having r xs e h = length_table (having r xs) (omega arith)

-- ROWS CHANGED IN THE TABLE: a due slot and a weight; a weight; a due slot, a weight, and a kept blank's kind and class
module _ (r : Round) (xs : List Row) (a i : ℕ) (s : Rising a r.next xs) (h : i < length xs) where
  abbrev x : Row
  x = get_or xs i (blank 0)

  abbrev hd : List ℕ
  hd = head_bytes r.slot r.last r.next (length xs) r.tail

  abbrev zs : List ℕ
  zs = replicate (row_size * (r.room - length xs)) 0

  with_same : (y : Row) → table (having r (changed x.ticket y xs)) ≡ hd ++ (rows_bytes (changed x.ticket y xs) ++ zs)
  unfolding round
  with_same y =
      let ys = changed x.ticket y xs in
      table_is (having r ys)
      ∙ ap (λ (n : ℕ). head_bytes r.slot r.last r.next n r.tail ++ (rows_bytes ys ++ replicate (row_size * (r.room - n)) 0))
      (length_changed x.ticket y xs)

  same_table : hd ++ (rows_bytes xs ++ zs) ≡ table (having r xs)
  unfolding round
  same_table = sym (table_is (having r xs))

  hd_long : length hd ≡ head_size
  hd_long = length_head r.slot r.last r.next (length xs) r.tail

  pub table_shift : (d w : ℕ) → table (having r (changed x.ticket (set_to d w x) xs))
      ≡ sets (table (having r xs)) (row_at i + due_at) (low slot_bytes d ++ low wide_bytes w)
  table_shift d w =
      with_same (set_to d w x)
      ∙ shift_bytes a r.next hd zs xs i (blank 0) d w s h hd_long
      ∙ ap (λ (bs : List ℕ). sets bs (row_at i + due_at) (low slot_bytes d ++ low wide_bytes w)) same_table

  pub table_weight : (w : ℕ) → table (having r (changed x.ticket (set_to x.due w x) xs))
      ≡ sets (table (having r xs)) (row_at i + weight_at) (low wide_bytes w)
  table_weight w =
      with_same (set_to x.due w x)
      ∙ weight_bytes a r.next hd zs xs i (blank 0) w s h hd_long
      ∙ ap (λ (bs : List ℕ). sets bs (row_at i + weight_at) (low wide_bytes w)) same_table

  pub table_kept : (d w : ℕ) → table (having r (changed x.ticket (kept_at d w x) xs))
      ≡ sets (table (having r xs)) (row_at i + due_at) ((low slot_bytes d ++ low wide_bytes w) ++ (1 ∷ most_class ∷ []))
  table_kept d w =
      with_same (kept_at d w x)
      ∙ kept_bytes a r.next hd zs xs i (blank 0) d w s h hd_long
      ∙ ap (λ (bs : List ℕ). sets bs (row_at i + due_at) ((low slot_bytes d ++ low wide_bytes w) ++ (1 ∷ most_class ∷ []))) same_table
