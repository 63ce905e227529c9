-- SOUND IS DOCUMENT 01'S SOUND, clause by clause and by its length: sound_accepted, accepted_sound, soundness.
use Rattle.std.specs.Prelude.{◌≡◌, true, false, List, ℕ, zero, suc, ◌+◌, ◌≤◌, ◌<◌, length, drop}
use Rattle.std.proofs.Math.Path.{sym}
use Rattle.std.proofs.Common.{ap, ◌∙◌, inl, inr, true≢false, arith, drop-drop}
use Rattle.std.proofs.Math.Seq.{get_or-drop}
use Rattle.rules.specs.Limits.{row_size, ticket_at, due_at, weight_at, kind_at, class_at, row_zeros_at, slot_bytes, wide_bytes, kind_bytes, class_bytes}
use Rattle.rules.specs.Rows.{Tail, Row, row, until}
use Rattle.rules.specs.Table.{field, tail_in, front_row, rows_of, length_good, table_refusal}
use Rattle.rules.specs.Conditions.{Bytes, Sound, LengthBad, slot_in, last_in, next_in, used_in, row_at, ticket_in, due_in, weight_in, kind_in, class_in}
use Rattle.rules.specs.Demands.{Soundness}
use Rattle.theory.specs.Tests.{either, eqb?}
use Rattle.theory.specs.Third.{length_fits}
use Rattle.theory.specs.Fields.{Zeros, field_drop}
use Rattle.theory.specs.Bounds.{RowRight}
use Rattle.theory.specs.Clauses.{RowsRight, Clauses, length_long, clauses_accepted, accepted_length, accepted_clauses}

-- THE LENGTH
pub length_not_bad : (t : List ℕ) → length_good (length t) ≡ true → LengthBad t → ⊥
length_not_bad t g b = let l = length_long t g in b (rows_of t) l.1 l.2 l.0

pub length_bad : (t : List ℕ) → length_good (length t) ≡ false → LengthBad t
length_bad t e k a b h = true≢false (sym (length_fits t k (until 0) h a b (omega arith)) ∙ e)

-- ROW i of a table: its numbers by their places, the ticket before it, and its clauses
abbrev pub tail_of : List ℕ → (row : ℕ) → Tail
tail_of t i = record { kind = kind_in t i; class = class_in t i }

abbrev pub row_in : List ℕ → (row : ℕ) → Row
row_in t i = row (ticket_in t i) (due_in t i) (weight_in t i) (tail_of t i)

abbrev pub ticket_before : List ℕ → (row : ℕ) → ℕ
ticket_before t zero = 0
ticket_before t (suc i) = ticket_in t i

abbrev pub RowGood : List ℕ → (row : ℕ) → Type 0
RowGood t i = RowRight (slot_in t) (last_in t) (next_in t) (ticket_before t i) (row_in t i) × Zeros row_zeros_at row_size (drop (row_at i) t)

-- the clauses of k rows from row i on
abbrev pub RowsFrom : List ℕ → (left row : ℕ) → Type 0
RowsFrom t k i = RowsRight k (slot_in t) (last_in t) (next_in t) (ticket_before t i) (drop (row_at i) t)

pub row_there : (t : List ℕ) (i : ℕ) → front_row (drop (row_at i) t) ≡ row_in t i
unfolding row
row_there t i j =
    record { ticket = there ticket_at wide_bytes j; due = there due_at slot_bytes j; weight = there weight_at wide_bytes j; tail = tail_there j }
  where
    there : (a n : ℕ) → field a n (drop (row_at i) t) ≡ field (row_at i + a) n t
    there a n = field_drop (row_at i) a n t

    tail_there : tail_in (drop (row_at i) t) ≡ tail_of t i
    tail_there j = record { kind = field_drop (row_at i) kind_at kind_bytes t j; class = field_drop (row_at i) class_at class_bytes t j }

pub row_next : (t : List ℕ) (i : ℕ) → drop row_size (drop (row_at i) t) ≡ drop (row_at (suc i)) t
row_next t i = let e : row_at i + row_size ≡ row_at (suc i) = omega arith in drop-drop row_size (row_at i) t ∙ ap (λ (j : ℕ). drop j t) e

pub rows_each : (t : List ℕ) (k i : ℕ) → RowsFrom t k i → (j : ℕ) → i ≤ j → j < i + k → RowGood t j
rows_each t zero i c j a b = absurd (omega arith)
rows_each t (suc k) i c j a b =
    elim (eqb? i j) [
      | inl e ↦ rw (← e.1) ((rw (row_there t i) at c).0, c.1)
      | inr e ↦ let n = e.1 in
          rows_each t k (suc i) (rw (field_drop (row_at i) ticket_at wide_bytes t, row_next t i) at c).2 j (omega arith) (omega arith)
    ]

pub rows_all : (t : List ℕ) (k i : ℕ) → ((j : ℕ) → i ≤ j → j < i + k → RowGood t j) → RowsFrom t k i
rows_all t zero i c = tt
rows_all t (suc k) i c =
    let x = c i (omega arith) (omega arith) in
    let r : RowsFrom t k (suc i) = rows_all t k (suc i) (λ j a b. c j (omega arith) (omega arith)) in (
      rw (row_there t i) x.0,
      x.1,
      rw (field_drop (row_at i) ticket_at wide_bytes t, row_next t i) r,
    )

-- THE CLAUSES are document 01's
module _ (t : List ℕ) (c : Clauses t) where
  each : (i : ℕ) → i < used_in t → RowGood t i
  each i h = rows_each t (used_in t) 0 c.rows i (omega arith) (omega arith)

  pub clauses_sound : Sound t
  unfolding row
  clauses_sound =
      record {
        head_zeros = c.head_zeros;
        row_zeros = λ i j h a b. sym (get_or-drop (row_at i) t j 0) ∙ (each i h).1 j a b;
        kinds = λ i h. (each i h).0.tail.kinds;
        classes = λ i h. (each i h).0.tail.classes;
        kept_class = λ i h. (each i h).0.tail.kept;
        rows_fit = c.fit;
        last_most = c.last_most;
        slot_most = c.slot_most;
        next_least = c.next_least;
        next_most = c.next_most;
        sealed_flag = c.tail.sealed_flag;
        tickets_from = λ i h. omega (arith, (each i h).0.from);
        tickets_rise = λ i h. (each (suc i) h).0.from;
        tickets_below = λ i h. (each i h).0.below;
        dues_from = λ i h. (each i h).0.bounds.due_from;
        dues_by = λ i h. (each i h).0.bounds.due_by;
        weights_least = λ i h. (each i h).0.bounds.some;
        weights_most = λ i h. (each i h).0.bounds.most;
        unused_zeros = c.rest_zeros;
      }

module _ (t : List ℕ) (s : Sound t) where
  after_before : (i : ℕ) → i < used_in t → ticket_before t i < ticket_in t i
  after_before zero h = s.tickets_from 0 h
  after_before (suc i) h = s.tickets_rise i h

  row_good : (i : ℕ) → i < used_in t → RowGood t i
  unfolding row
  row_good i h = (
    record {
      from = after_before i h;
      below = s.tickets_below i h;
      bounds = record {
        due_from = s.dues_from i h;
        due_by = s.dues_by i h;
        some = s.weights_least i h;
        most = s.weights_most i h;
        class = s.classes i h;
      };
      tail = record { kinds = s.kinds i h; classes = s.classes i h; kept = s.kept_class i h };
    },
    λ j a b. get_or-drop (row_at i) t j 0 ∙ s.row_zeros i j h a b,
  )

  pub sound_clauses : Clauses t
  sound_clauses =
      record {
        fit = s.rows_fit;
        last_most = s.last_most;
        slot_most = s.slot_most;
        next_least = s.next_least;
        next_most = s.next_most;
        tail = record { sealed_flag = s.sealed_flag };
        head_zeros = s.head_zeros;
        rows = rows_all t (used_in t) 0 (λ i a b. row_good i (omega arith));
        rest_zeros = s.unused_zeros;
      }

pub sound_accepted : (t : List ℕ) → Bytes t → length_good (length t) ≡ true → Sound t → table_refusal t ≡ 0
sound_accepted t h g s = clauses_accepted t h g (sound_clauses t s)

pub accepted_sound : (t : List ℕ) → table_refusal t ≡ 0 → Sound t
accepted_sound t e = clauses_sound t (accepted_clauses t e)

pub soundness : Soundness
unfolding Soundness
soundness t h = (
  λ e. (length_not_bad t (accepted_length t e), accepted_sound t e),
  λ s. elim (either (length_good (length t))) [
    | inl g ↦ sound_accepted t h g s.1
    | inr g ↦ absurd (s.0 (length_bad t g))
  ],
)
