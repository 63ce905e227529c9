-- A sound table's rows by index, as the code reads them.
use mathlib.Core.Path.{◌≡◌, sym, ap, ◌∙◌}
use mathlib.Core.List.{List}
use Prim.Native.Nat.{ℕ, zero, suc, ◌+◌, ◌≤◌, ◌<◌}
use native.Mathlib.Omega.{arith}
use lib.ListN.{length, get_or, drop}
use Rattle.rules.specs.Limits.{head_size}
use Rattle.rules.specs.Rows.{Row, row, round, blank}
use Rattle.rules.specs.Table.{rows_in, round_in}
use Rattle.rules.specs.Conditions.{row_at, used_in, ticket_in, due_in, weight_in, kind_in, class_in}
use mathlib.Core.Logic.{inl, inr}
use lib.Dec.{eqb}
use Rattle.theory.specs.Tests.{eqb?}
use Rattle.theory.specs.All.{all_in}
use Rattle.theory.specs.Bounds.{RowFine, TailFine}
use Rattle.theory.specs.Full.{Fine}
use Rattle.theory.specs.Same.{row_ticket}
use Rattle.theory.specs.Keys.{getD_in}
use Rattle.theory.specs.Sane.{sound}
use Rattle.theory.specs.Clauses.{rows_count, length_long, accepted_length}
use Rattle.theory.specs.Soundness.{row_in, row_there, row_next}
use Rattle.sorts.specs.declared.Round.{Round as Head}
use Rattle.round.specs.Rows.{Ready, TicketAt, DueAt, WeightAt, KeptAt, ClassAt, at}

-- WHAT A READY TABLE IS: its round is sound and small, and the head's numbers are the round's
pub record Known (t : List ℕ) (h : Head) : Type 0 where
  pub fine : Fine (round_in t)
  pub time : (round_in t).slot ≤ (round_in t).last
  pub small : length (round_in t).rows ≤ 1024
  pub cap : (round_in t).last ≤ 4095
  pub used : h.used ≡ length (round_in t).rows
  pub slot : h.slot.0 ≡ (round_in t).slot
  pub last : h.last.0 ≡ (round_in t).last
  pub sealed : h.sealed ≡ (round_in t).tail.sealed
  pub long : row_at h.used ≤ length t

pub known : (t : List ℕ) (h : Head) → Ready t h → Known t h
unfolding round_in round
known t h k =
    let s = (sound t k.sound).sane in
    let l = length_long t (accepted_length t k.sound) in
    let n = rows_count (used_in t) (drop head_size t) in
    record {
      fine = s.fine;
      time = omega (arith, k.time, k.head.slot, k.head.last);
      small = omega (arith, s.size.long, s.size.room);
      cap = s.size.last;
      used = k.head.used ∙ sym n;
      slot = k.head.slot;
      last = k.head.last;
      sealed = k.head.sealed;
      long = omega (arith, k.head.used, l.0, s.size.long, n);
    }

-- the rows by index are the bytes' rows
pub rows_there : (n : ℕ) (t : List ℕ) (i j : ℕ) → j < n → get_or (rows_in n (drop (row_at i) t)) j (blank 0) ≡ row_in t (i + j)
unfolding rows_in
rows_there zero t i j h = absurd (omega arith)
rows_there (suc n) t i zero h = let e : i ≡ i + 0 = omega arith in row_there t i ∙ ap (row_in t) e
rows_there (suc n) t i (suc j) h =
    let e : suc i + j ≡ i + suc j = omega arith in rw (row_next t i) (rows_there n t (suc i) j (omega arith) ∙ ap (row_in t) e)

pub at_held : (t : List ℕ) (i : ℕ) → i < used_in t → at (round_in t) i ≡ row_in t i
unfolding round_in round
at_held t i l = let e : 0 + i ≡ i = omega arith in rows_there (used_in t) t 0 i l ∙ ap (row_in t) e

pub at_is : (t : List ℕ) (h : Head) → Ready t h → (i : ℕ) → i < h.used → at (round_in t) i ≡ row_in t i
at_is t h k i l = at_held t i (omega (arith, l, k.head.used))

-- and keep the bounds of a sound round
pub at_fine : (t : List ℕ) (h : Head) → Ready t h → (i : ℕ) → i < h.used → RowFine (round_in t) (at (round_in t) i)
at_fine t h k i l =
    let n = known t h k in
    all_in (RowFine (round_in t)) (at (round_in t) i) (round_in t).rows n.fine.fine (getD_in (round_in t).rows (blank 0) i (omega (arith, l, n.used)))

-- READING a due slot and a weight
pub reads_within : (t : List ℕ) (h : Head) → Ready t h → (i : ℕ) → i < h.used → (i < 1024) × (row_at (suc i) ≤ length t)
reads_within t h k i l = let n = known t h k in (omega (arith, n.used, n.small, l), omega (arith, n.long, l))

pub due_read : (t : List ℕ) (h : Head) (i d : ℕ) → Ready t h → i < h.used → d ≡ due_in t i → DueAt (round_in t) i d
unfolding row
due_read t h i d k l e =
    let is : d ≡ (at (round_in t) i).due = e ∙ sym (ap (λ (x : Row). x.due) (at_is t h k i l)) in
    let f = at_fine t h k i l in
    let n = known t h k in
    record {
      is = is;
      from = omega (arith, is, f.due_from);
      by = omega (arith, is, f.due_by);
      small = omega (arith, is, f.due_by, n.cap);
    }

pub weight_read : (t : List ℕ) (h : Head) (i w : ℕ) → Ready t h → i < h.used → w ≡ weight_in t i → WeightAt (round_in t) i w
unfolding row
weight_read t h i w k l e =
    let is : w ≡ (at (round_in t) i).weight = e ∙ sym (ap (λ (x : Row). x.weight) (at_is t h k i l)) in
    let f = at_fine t h k i l in
    record { is = is; some = omega (arith, is, f.some); most = omega (arith, is, f.most) }

-- and a ticket, a kind and a class
pub ticket_read : (t : List ℕ) (h : Head) (i k : ℕ) → Ready t h → i < h.used → k ≡ ticket_in t i → TicketAt (round_in t) i k
unfolding row
ticket_read t h i k r l e =
    let n = known t h r in
    let is : k ≡ (at (round_in t) i).ticket = e ∙ sym (ap (λ (x : Row). x.ticket) (at_is t h r i l)) in
    let some = all_in (λ y. 1 ≤ y.ticket) (at (round_in t) i) (round_in t).rows (row_ticket (round_in t) n.fine)
    (getD_in (round_in t).rows (blank 0) i (omega (arith, l, n.used))) in
    record { is = is; some = omega (arith, is, some) }

tails_fine : (t : List ℕ) (h : Head) (i : ℕ) → Ready t h → i < h.used → TailFine (at (round_in t) i)
tails_fine t h i r l =
    all_in TailFine (at (round_in t) i) (round_in t).rows (sound t r.sound).sane.size.tails
    (getD_in (round_in t).rows (blank 0) i (omega (arith, l, (known t h r).used)))

pub kept_read : (t : List ℕ) (h : Head) (i k : ℕ) → Ready t h → i < h.used → k ≡ kind_in t i → KeptAt (round_in t) i (eqb k 1)
unfolding row
kept_read t h i k r l e =
    let is : k ≡ (at (round_in t) i).tail.kind = e ∙ sym (ap (λ (x : Row). x.tail.kind) (at_is t h r i l)) in
    let kinds = (tails_fine t h i r l).kinds in
    elim (eqb? k 1) [
      | inl a ↦ rw a.0 (omega (arith, is, a.1))
      | inr a ↦ let n = a.1 in rw a.0 (omega (arith, is, n, kinds))
    ]

pub class_read : (t : List ℕ) (h : Head) (i c : ℕ) → Ready t h → i < h.used → c ≡ class_in t i → ClassAt (round_in t) i c
unfolding row
class_read t h i c r l e =
    let is : c ≡ (at (round_in t) i).tail.class = e ∙ sym (ap (λ (x : Row). x.tail.class) (at_is t h r i l)) in
    record { is = is; most = omega (arith, is, (tails_fine t h i r l).classes) }
