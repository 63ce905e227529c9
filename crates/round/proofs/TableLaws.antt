-- Tables opened, taken into and sealed, as the writers leave them.
use mathlib.Core.Path.{◌≡◌, refl, sym, ap, ap₂, ◌∙◌}
use mathlib.Core.Bool.{true}
use mathlib.Core.List.{List, [], ◌∷◌, ◌++◌, append_assoc}
use Prim.Native.Nat.{ℕ, suc, ◌+◌, ◌*◌, ◌-◌, ◌/◌, ◌<◌}
use native.Mathlib.Omega.{arith}
use native.Mathlib.Numerals.{add-one}
use lib.ListN.{length, set, take, drop, replicate, length-append, replicate-append-replicate}
use lib.Seq.{sets, length-take-le, drop_at}
use Rattle.rules.specs.Limits.{head_size, row_size, sealed_at, head_zeros_at}
use Rattle.rules.specs.Rows.{Frame, Setup, Row, HeadTail, row, round, unsealed_tail, sealed_tail}
use Rattle.rules.specs.Steps.{opened, taken_row, taken, sealed}
use Rattle.rules.specs.Table.{low, put, head_bytes, head_tail_in, table, rows_of, rows_bytes, row_bytes, round_in, length_good, table_refusal}
use Rattle.rules.specs.Conditions.{slot_in, last_in, next_in, used_in, row_at}
use Rattle.theory.specs.Back.{length_head, length_rows}
use Rattle.theory.specs.Close.{rows_append, rows_one}
use Rattle.theory.specs.Write.{sets_mid}
use Rattle.theory.specs.Sender.{table_parts}
use Rattle.theory.specs.Clauses.{rows_count}
use Rattle.sorts.specs.declared.Round.{Round}
use Rattle.sorts.specs.Tail.{tail_of}
use Rattle.head.specs.Head.{HeadOf}
use Rattle.row.specs.Numbers.{row_numbers}
use Rattle.head.specs.Numbers.{head_numbers}
use Rattle.head.proofs.WriteLaws.{head_over}
use Rattle.round.proofs.JudgeLaws.{good_long}

abbrev zeros : ℕ
zeros = head_size - head_zeros_at

-- a head's numbers and its zeros are a head
zeros_behind : (s l n c : ℕ) (m : HeadTail) (bs : List ℕ) → head_numbers s l n c m ++ (replicate zeros 0 ++ bs) ≡ head_bytes s l n c m ++ bs
unfolding low put head_numbers head_bytes
zeros_behind s l n c m bs = refl

-- OPENED: all but the head's numbers cleared, and those of a new round written
pub opened_table : (x : Setup) (t u v : List ℕ) → length_good (length t) ≡ true → u ≡ take head_zeros_at t ++ replicate (length t - head_zeros_at) 0 →
    v ≡ head_numbers 0 x.last 1 0 unsealed_tail ++ drop head_zeros_at u → v ≡ table (opened x (rows_of t))
unfolding opened round table rows_bytes rows_of
opened_table x t u v g e f =
    let h = good_long (length t) g in
    let l = x.last in
    let k = (length t - head_size) / row_size in
    let n : length t - head_zeros_at ≡ zeros + row_size * (k - 0) = omega (arith, h.0, h.1) in
    f
    ∙ ap (λ (bs : List ℕ). head_numbers 0 l 1 0 unsealed_tail ++ drop head_zeros_at bs) e
    ∙ ap (λ (bs : List ℕ). head_numbers 0 l 1 0 unsealed_tail ++ bs)
    (drop_at (take head_zeros_at t) (replicate (length t - head_zeros_at) 0) head_zeros_at (length-take-le head_zeros_at t (omega (arith, h.0))))
    ∙ ap (λ (m : ℕ). head_numbers 0 l 1 0 unsealed_tail ++ replicate m 0) n
    ∙ ap (λ (bs : List ℕ). head_numbers 0 l 1 0 unsealed_tail ++ bs) (sym (replicate-append-replicate zeros (row_size * (k - 0)) 0))
    ∙ zeros_behind 0 l 1 0 unsealed_tail (replicate (row_size * (k - 0)) 0)

-- a row's numbers over zeros are the row
row_over : (k : ℕ) (f : Frame) → sets (replicate row_size 0) 0 (row_numbers k f) ≡ row_bytes (taken_row k f)
unfolding row_numbers low put row_bytes row
row_over k f = refl

-- TAKEN: a row's numbers over the first unused row, and the head written
module _ (s l n room : ℕ) (a : HeadTail) (xs : List Row) (f : Frame) (h : length xs < room) where
  front : List ℕ
  front = head_bytes s l n (length xs) a ++ rows_bytes xs

  behind : List ℕ
  behind = replicate (row_size * (room - (length xs + 1))) 0

  front_long : length front ≡ row_at (length xs)
  unfolding front
  front_long =
      omega (arith, length-append (head_bytes s l n (length xs) a) (rows_bytes xs), length_head s l n (length xs) a, length_rows xs)

  unused : head_bytes s l n (length xs) a ++ (rows_bytes xs ++ replicate (row_size * (room - length xs)) 0) ≡ front ++ (replicate row_size 0 ++ behind)
  unfolding front behind
  unused =
      let e : row_size + row_size * (room - (length xs + 1)) ≡ row_size * (room - length xs) = omega arith in
      sym (append_assoc (head_bytes s l n (length xs) a) (rows_bytes xs) (replicate (row_size * (room - length xs)) 0))
      ∙ ap (λ (bs : List ℕ). front ++ bs)
      (ap (λ (k : ℕ). replicate k 0) (sym e) ∙ sym (replicate-append-replicate row_size (row_size * (room - (length xs + 1))) 0))

  filled : sets (head_bytes s l n (length xs) a ++ (rows_bytes xs ++ replicate (row_size * (room - length xs)) 0)) (row_at (length xs)) (row_numbers n f)
      ≡ front ++ (row_bytes (taken_row n f) ++ behind)
  unfolding row_numbers put low
  filled =
      let e : row_at (length xs) ≡ length front + 0 = omega (arith, front_long) in
      ap₂ (λ (bs : List ℕ) (k : ℕ). sets bs k (row_numbers n f)) unused e
      ∙ sets_mid front (replicate row_size 0) behind (row_numbers n f) 0 (omega arith)
      ∙ ap (λ (bs : List ℕ). front ++ (bs ++ behind)) (row_over n f)

  grown : head_numbers s l (n + 1) (length xs + 1) a ++ drop head_zeros_at (front ++ (row_bytes (taken_row n f) ++ behind))
      ≡ table (round s l (suc n) room (xs ++ (taken_row n f ∷ [])) a)
  unfolding front behind table round
  grown =
      let y = taken_row n f in
      let hd = head_bytes s l n (length xs) a in
      let rest = row_bytes y ++ behind in
      let e : length (xs ++ (y ∷ [])) ≡ length xs + 1 = length-append xs (y ∷ []) in
      let g : rows_bytes (xs ++ (y ∷ [])) ++ behind ≡ rows_bytes xs ++ rest =
      ap (λ (bs : List ℕ). bs ++ behind) (rows_append xs (y ∷ []) ∙ ap (λ (bs : List ℕ). rows_bytes xs ++ bs) (rows_one y))
      ∙ append_assoc (rows_bytes xs) (row_bytes y) behind in
      ap (λ (bs : List ℕ). head_numbers s l (n + 1) (length xs + 1) a ++ drop head_zeros_at bs) (append_assoc hd (rows_bytes xs) rest)
      ∙ head_over s l (n + 1) (length xs + 1) s l n (length xs) a a (rows_bytes xs ++ rest)
      ∙ ap₂ (λ (k : ℕ) (bs : List ℕ). head_bytes s l k (length xs + 1) a ++ bs) (add-one n) (sym g)
      ∙ ap (λ (k : ℕ). head_bytes s l (suc n) k a ++ (rows_bytes (xs ++ (y ∷ [])) ++ replicate (row_size * (room - k)) 0)) (sym e)

pub taken_table : (t : List ℕ) (h : Round) (f : Frame) (u v : List ℕ) → table_refusal t ≡ 0 → HeadOf t h → h.used < h.room →
    u ≡ sets t (row_at h.used) (row_numbers h.next.0 f) →
    v ≡ head_numbers h.slot.0 h.last.0 (h.next.0 + 1) (h.used + 1) (tail_of h) ++ drop head_zeros_at u → v ≡ table (taken (round_in t) f)
unfolding taken round_in round
taken_table t h f u v e k o p g =
    let xs = (round_in t).rows in
    let c : length xs ≡ h.used = rows_count (used_in t) (drop head_size t) ∙ sym k.used in
    let i : length xs < rows_of t = omega (arith, c, o, k.room) in
    let w : u ≡ sets t (row_at (length xs)) (row_numbers (next_in t) f) = rw (c, ← k.next) p in
    let x : v ≡ head_numbers (slot_in t) (last_in t) (next_in t + 1) (length xs + 1) (head_tail_in t) ++ drop head_zeros_at u = rw (c, ← k.slot, ← k.last, ← k.next, ← k.sealed) g in
    x
    ∙ ap (λ (bs : List ℕ). head_numbers (slot_in t) (last_in t) (next_in t + 1) (length xs + 1) (head_tail_in t) ++ drop head_zeros_at bs)
    (w ∙ ap (λ (bs : List ℕ). sets bs (row_at (length xs)) (row_numbers (next_in t) f)) (table_parts t e)
    ∙ filled (slot_in t) (last_in t) (next_in t) (rows_of t) (head_tail_in t) xs f i)
    ∙ grown (slot_in t) (last_in t) (next_in t) (rows_of t) (head_tail_in t) xs f i

-- SEALED: one byte of the head
head_sealed : (s l n c : ℕ) (m : HeadTail) (bs : List ℕ) → set (head_bytes s l n c m ++ bs) sealed_at 1 ≡ head_bytes s l n c sealed_tail ++ bs
unfolding low put head_bytes
head_sealed s l n c m bs = refl

pub sealed_table : (t u : List ℕ) → table_refusal t ≡ 0 → u ≡ set t sealed_at 1 → u ≡ table (sealed (round_in t))
unfolding sealed round table
sealed_table t u e f =
    let r = round_in t in
    f
    ∙ ap (λ (bs : List ℕ). set bs sealed_at 1) (table_parts t e)
    ∙ head_sealed r.slot r.last r.next (length r.rows) r.tail (rows_bytes r.rows ++ replicate (row_size * (r.room - length r.rows)) 0)
