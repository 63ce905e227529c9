-- A sound table's clauses in the judge's order; accepted exactly where they hold: Clauses, clauses_accepted, accepted_clauses.
use Rattle.std.specs.Prelude.{◌≡◌, refl, true, ◌&&◌, not, List, [], ◌++◌, ℕ, zero, suc, ◌+◌, ◌*◌, ◌-◌, ◌/◌, ◌%◌, ◌≤◌, ◌<◌, leb, eqb, length, drop}
use Rattle.std.proofs.Common.{sym, ◌∙◌, inl, inr, append_assoc, append-nil, arith, leb-true, eqb-true, length-drop, drop_of_length-le, drop-drop, drop_at}
use Rattle.std.proofs.Math.Path.{ap}
use Rattle.std.proofs.lemmas.Bool.{not-false}
use Rattle.std.proofs.Math.ListN.{replicate}
use Rattle.rules.specs.Limits.{head_size, row_size, most_rows, most_last, ticket_limit, row_widths, head_widths}
use Rattle.rules.specs.Limits.{head_zeros_at, ticket_at, row_zeros_at, wide_bytes}
use Rattle.rules.specs.Rows.{Row, Round, row, round, All}
use Rattle.rules.specs.Table.{field, put, row_values, front_row, head_values, head_bytes, head_tail_in, row_bytes, rows_bytes, table, rows_in, rows_of, round_in, length_good, round_good, same, table_refusal, low}
use Rattle.rules.specs.Conditions.{Bytes, slot_in, last_in, next_in, used_in}
use Rattle.theory.specs.Tests.{either, and_true}
use Rattle.theory.specs.Bounds.{RowFine, RowRight, TailFine, HeadTailRight}
use Rattle.theory.specs.Full.{Rising}
use Rattle.theory.specs.Calls.{no_refusal}
use Rattle.theory.specs.Back.{good, same_same, rising_le, length_row, length_rows, rest_is}
use Rattle.theory.specs.Layout.{got, put_got}
use Rattle.theory.specs.Sane.{StandsFor, sound}
use Rattle.theory.specs.Fields.{Zeros, bytes_drop, zeros_bytes, bytes_zeros}

-- the rows' clauses: each row on its own bytes, with the ticket of the row before
abbrev pub RowsRight : (left : ℕ) → (s l n b : ℕ) → List ℕ → Type 0
RowsRight zero s l n b bs = Unit {0}
RowsRight (suc k) s l n b bs =
    RowRight s l n b (front_row bs) × Zeros row_zeros_at row_size bs × RowsRight k s l n (field ticket_at wide_bytes bs) (drop row_size bs)

-- THE CLAUSES of a sound table, as the judge reads it
pub record Clauses (t : List ℕ) : Type 0 where
  pub fit : used_in t ≤ rows_of t
  pub last_most : last_in t ≤ most_last
  pub slot_most : slot_in t ≤ suc (last_in t)
  pub next_least : 1 ≤ next_in t
  pub next_most : next_in t ≤ ticket_limit
  pub tail : HeadTailRight (head_tail_in t)
  pub head_zeros : Zeros head_zeros_at head_size t
  pub rows : RowsRight (used_in t) (slot_in t) (last_in t) (next_in t) 0 (drop head_size t)
  pub rest_zeros : Zeros (head_size + row_size * used_in t) (length t) t

-- A ROUND'S TABLE exactly where every clause holds: the rows
pub rows_stand : (r : Round) (k b : ℕ) (bs : List ℕ) → b < r.next → RowsRight k r.slot r.last r.next b bs →
    All (RowFine r) (rows_in k bs) × All TailFine (rows_in k bs) × Rising (suc b) r.next (rows_in k bs)
unfolding rows_in row
rows_stand r zero b bs h c = (tt, tt, h)
rows_stand r (suc k) b bs h c =
    let x = c.0 in
    let q = rows_stand r k (field ticket_at wide_bytes bs) (drop row_size bs) x.below c.2 in
    ((x.bounds, q.0), (x.tail, q.1), (x.from, q.2))

pub row_bytes_are : (bs : List ℕ) → Bytes bs → row_size ≤ length bs → Zeros row_zeros_at row_size bs → bs ≡ row_bytes (front_row bs) ++ drop row_size bs
unfolding row_bytes row got
row_bytes_are bs h l z =
    let vs = row_values (front_row bs) in
    let n = row_size - row_zeros_at in
    put_got row_widths 0 bs h (omega arith)
    ∙ ap (λ (cs : List ℕ). put row_widths vs ++ cs) (zeros_bytes row_zeros_at n bs z l)
    ∙ sym (append_assoc (put row_widths vs) (replicate n 0) (drop row_size bs))

-- behind a row's numbers stand its zeros
pub row_behind : (x : Row) (bs : List ℕ) → drop row_zeros_at (row_bytes x ++ bs) ≡ replicate (row_size - row_zeros_at) 0 ++ bs
unfolding row_bytes put low
row_behind x bs = refl

pub rows_bytes_are : (k s l n b : ℕ) (bs : List ℕ) → Bytes bs → row_size * k ≤ length bs → RowsRight k s l n b bs →
    bs ≡ rows_bytes (rows_in k bs) ++ drop (row_size * k) bs
unfolding rows_in rows_bytes row
rows_bytes_are zero s l n b bs h m c = refl
rows_bytes_are (suc k) s l n b bs h m c =
    let ds = drop row_size bs in
    let xs = rows_bytes (rows_in k ds) in
    let e : row_size + row_size * k ≡ row_size * suc k = omega arith in
    row_bytes_are bs h (omega arith) c.1
    ∙ ap (λ (cs : List ℕ). row_bytes (front_row bs) ++ cs)
    (rows_bytes_are k s l n (field ticket_at wide_bytes bs) ds (bytes_drop row_size bs h) (omega (arith, length-drop row_size bs)) c.2
    ∙ ap (λ (cs : List ℕ). xs ++ cs) (drop-drop (row_size * k) row_size bs ∙ ap (λ (j : ℕ). drop j bs) e))
    ∙ sym (append_assoc (row_bytes (front_row bs)) xs (drop (row_size * suc k) bs))

pub rows_count : (k : ℕ) (bs : List ℕ) → length (rows_in k bs) ≡ k
unfolding rows_in
rows_count zero bs = refl
rows_count (suc k) bs = ap suc (rows_count k (drop row_size bs))

-- the whole, of a length of a head and rows
abbrev pub TableLong : List ℕ → Type 0
TableLong t = (length t ≡ head_size + row_size * rows_of t) × (1 ≤ rows_of t) × (rows_of t ≤ most_rows)

pub length_long : (t : List ℕ) → length_good (length t) ≡ true → TableLong t
unfolding length_good rows_of
length_long t e =
    let a = and_true (leb (head_size + row_size) (length t)) (eqb ((length t - head_size) % row_size) 0 && leb ((length t - head_size) / row_size) most_rows) e in
    let b = and_true (eqb ((length t - head_size) % row_size) 0) (leb ((length t - head_size) / row_size) most_rows) a.1 in
    let h = leb-true (head_size + row_size) (length t) a.0 in
    let m = eqb-true ((length t - head_size) % row_size) 0 b.0 in
    (omega arith, omega arith, leb-true ((length t - head_size) / row_size) most_rows b.1)

pub rest_bytes_are : (t : List ℕ) → TableLong t → Clauses t →
    drop (head_size + row_size * used_in t) t ≡ replicate (row_size * (rows_of t - used_in t)) 0
rest_bytes_are t h c =
    let m = head_size + row_size * used_in t in
    let n = row_size * (rows_of t - used_in t) in
    let e : m + n ≡ length t = omega (arith, h.0, c.fit) in
    zeros_bytes m n t (λ i p q. c.rest_zeros i p (omega arith)) (omega arith)
    ∙ ap (λ (cs : List ℕ). replicate n 0 ++ cs) (drop_of_length-le t {i = m + n} (omega arith))
    ∙ append-nil (replicate n 0)

pub head_bytes_are : (t : List ℕ) → Bytes t → head_size ≤ length t → Zeros head_zeros_at head_size t →
    t ≡ head_bytes (slot_in t) (last_in t) (next_in t) (used_in t) (head_tail_in t) ++ drop head_size t
unfolding head_bytes got
head_bytes_are t h l z =
    let vs = head_values (slot_in t) (last_in t) (next_in t) (used_in t) (head_tail_in t) in
    let n = head_size - head_zeros_at in
    put_got head_widths 0 t h (omega arith)
    ∙ ap (λ (cs : List ℕ). put head_widths vs ++ cs) (zeros_bytes head_zeros_at n t z l)
    ∙ sym (append_assoc (put head_widths vs) (replicate n 0) (drop head_size t))

pub bytes_are : (t : List ℕ) → Bytes t → TableLong t → Clauses t → table (round_in t) ≡ t
unfolding table round_in round
bytes_are t h g c =
    let u = used_in t in
    let xs = rows_in u (drop head_size t) in
    let e : length xs ≡ u = rows_count u (drop head_size t) in
    let hd = head_bytes (slot_in t) (last_in t) (next_in t) u (head_tail_in t) in
    rw e (sym (head_bytes_are t h (omega (arith, g.0)) c.head_zeros
    ∙ ap (λ (cs : List ℕ). hd ++ cs) (rows_bytes_are u (slot_in t) (last_in t) (next_in t) 0 (drop head_size t) (bytes_drop head_size t h)
    (omega (arith, length-drop head_size t, g.0, c.fit)) c.rows
    ∙ ap (λ (cs : List ℕ). rows_bytes xs ++ cs) (drop-drop (row_size * u) head_size t ∙ rest_bytes_are t g c))))

-- every clause holds: accepted
pub clauses_good : (t : List ℕ) → TableLong t → Clauses t → round_good (round_in t) ≡ true
unfolding round_in round
clauses_good t h c =
    let q = rows_stand (round_in t) (used_in t) 0 (drop head_size t) c.next_least c.rows in
    good (round_in t) (record { time = c.slot_most; fine = q.0; rising = q.2 })
    (record {
      last = c.last_most;
      room = h.2;
      next = c.next_most;
      long = omega (arith, rows_count (used_in t) (drop head_size t), c.fit);
      tails = q.1;
      tail = c.tail;
    })

pub clauses_accepted : (t : List ℕ) → Bytes t → length_good (length t) ≡ true → Clauses t → table_refusal t ≡ 0
unfolding table_refusal
clauses_accepted t h g c =
    let l = length_long t g in rw (g, clauses_good t l c, bytes_are t h l c, same_same t)

-- accepted: every clause holds
pub rows_clauses : (r : Round) (k b : ℕ) (bs zs : List ℕ) → All (RowFine r) (rows_in k bs) → All TailFine (rows_in k bs) →
    Rising (suc b) r.next (rows_in k bs) → bs ≡ rows_bytes (rows_in k bs) ++ zs → RowsRight k r.slot r.last r.next b bs
unfolding rows_in row rows_bytes
rows_clauses r zero b bs zs f k s e = tt
rows_clauses r (suc k) b bs zs f h s e =
    let x = front_row bs in
    let xs = rows_in k (drop row_size bs) in
    let ds = rows_bytes xs ++ zs in
    let d : bs ≡ row_bytes x ++ ds = e ∙ append_assoc (row_bytes x) (rows_bytes xs) zs in (
      record { from = s.0; below = rising_le (suc x.ticket) r.next xs s.1; bounds = f.0; tail = h.0 },
      bytes_zeros row_zeros_at (row_size - row_zeros_at) bs ds (ap (drop row_zeros_at) d ∙ row_behind x ds),
      rows_clauses r k x.ticket (drop row_size bs) zs f.1 h.1 s.1 (ap (drop row_size) d ∙ drop_at (row_bytes x) ds row_size (length_row x)),
    )

-- behind a head's numbers stand its zeros
pub head_behind : (r : Round) → drop head_zeros_at (table r) ≡ replicate (head_size - head_zeros_at) 0 ++ drop head_size (table r)
unfolding table head_bytes put low
head_behind r = refl

module _ (t : List ℕ) (s : StandsFor t) where
  stands_count : length (round_in t).rows ≡ used_in t
  unfolding round_in round
  stands_count = rows_count (used_in t) (drop head_size t)

  stands_rest : drop head_size t ≡ rows_bytes (round_in t).rows ++ replicate (row_size * (rows_of t - used_in t)) 0
  unfolding round_in round
  stands_rest =
      ap (drop head_size) (sym s.bytes) ∙ rest_is (round_in t)
      ∙ ap (λ (n : ℕ). rows_bytes (round_in t).rows ++ replicate (row_size * (rows_of t - n)) 0) stands_count

  stands_head : Zeros head_zeros_at head_size t
  stands_head =
      bytes_zeros head_zeros_at (head_size - head_zeros_at) t (drop head_size (table (round_in t)))
      (ap (drop head_zeros_at) (sym s.bytes) ∙ head_behind (round_in t))

  stands_behind : length t ≡ head_size + row_size * rows_of t → Zeros (head_size + row_size * used_in t) (length t) t
  stands_behind l i h k =
      let m = row_size * used_in t in
      let n = row_size * (rows_of t - used_in t) in
      let xs = (round_in t).rows in
      bytes_zeros (head_size + m) n t []
      (sym (drop-drop m head_size t) ∙ ap (λ (cs : List ℕ). drop m cs) stands_rest
      ∙ drop_at (rows_bytes xs) (replicate n 0) m (length_rows xs ∙ ap (λ (j : ℕ). row_size * j) stands_count)
      ∙ sym (append-nil (replicate n 0)))
      i h (omega arith)

  pub stands_clauses : length t ≡ head_size + row_size * rows_of t → Clauses t
  unfolding round_in round
  stands_clauses l =
      let r = round_in t in
      let f = s.sane.fine in
      let z = s.sane.size in
      record {
        fit = omega (arith, z.long, stands_count);
        last_most = z.last;
        slot_most = f.time;
        next_least = rising_le 1 r.next r.rows f.rising;
        next_most = z.next;
        tail = z.tail;
        head_zeros = stands_head;
        rows = rows_clauses r (used_in t) 0 (drop head_size t) _ f.fine z.tails f.rising stands_rest;
        rest_zeros = stands_behind l;
      }

pub accepted_length : (t : List ℕ) → table_refusal t ≡ 0 → length_good (length t) ≡ true
unfolding table_refusal
accepted_length t e = not-false (length_good (length t)) (no_refusal (not (length_good (length t))) 1 _ e).0

pub accepted_clauses : (t : List ℕ) → table_refusal t ≡ 0 → Clauses t
accepted_clauses t e = stands_clauses t (sound t e) (length_long t (accepted_length t e)).0

pub refusal_three : (t : List ℕ) → length_good (length t) ≡ true → (table_refusal t ≡ 0 → ⊥) → table_refusal t ≡ 3
unfolding table_refusal
refusal_three t g n =
    elim (either (round_good (round_in t) && same (table (round_in t)) t)) [ inl e ↦ absurd (n (rw (g, e))) | inr e ↦ rw (g, e) ]
