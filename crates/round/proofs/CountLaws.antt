-- Rows counted by bucket, so far.
use mathlib.Core.Path.{◌≡◌, sym, ap, ◌∙◌}
use mathlib.Core.Logic.{inl, inr}
use mathlib.Core.List.{List}
use Prim.Native.Nat.{ℕ, ◌+◌, ◌*◌, ◌≤◌, ◌<◌}
use native.Mathlib.Omega.{arith}
use native.Mathlib.Numerals.{add-one}
use borrow.Author.Tests.{eq-eqb, ne_eqb}
use lib.ListN.{length, get_or, set, take, drop, length-set, length-take, get_or-replicate}
use lib.Seq.{get_or-set_same, get_or-set_other, take-length}
use Rattle.rules.specs.Limits.{head_size}
use Rattle.rules.specs.Rows.{Row, Round, round, blank}
use Rattle.rules.specs.Table.{round_in}
use Rattle.rules.specs.Conditions.{used_in}
use Rattle.theory.specs.Tests.{eqb?}
use Rattle.theory.specs.Sum.{sum, sum_le, length_sum}
use Rattle.theory.specs.Count.{bucket, in_bucket}
use Rattle.theory.specs.Index.{sum_next}
use Rattle.theory.specs.Clauses.{rows_count}
use Rattle.sorts.specs.declared.Round.{Round as Head}
use Rattle.round.specs.Rows.{at, top_of, place}
use Rattle.round.specs.Buckets.{Counted, LentCounts}
use Rattle.round.specs.Scan.{RowsLent}

-- COUNTED SO FAR: 2,048 for each of the first i rows in its bucket
pub record Counting (r : Round) (i : ℕ) (cs : List ℕ) : Type 0 where
  pub enough : top_of r < length cs
  pub count : (v : ℕ) → v ≤ top_of r → get_or cs v 0 ≡ 2048 * sum (in_bucket r.slot (top_of r) v) (take i r.rows)

-- a row counts in its own bucket alone
in_own : (t top v : ℕ) (x : Row) → bucket t top x ≡ v → in_bucket t top v x ≡ 1
unfolding in_bucket
in_own t top v x e = rw (eq-eqb (bucket t top x) v e)

in_other : (t top v : ℕ) (x : Row) → (bucket t top x ≡ v → ⊥) → in_bucket t top v x ≡ 0
unfolding in_bucket
in_other t top v x n = rw (ne_eqb (bucket t top x) v n)

in_1 : (t top v : ℕ) (x : Row) → in_bucket t top v x ≤ 1
in_1 t top v x = elim (eqb? (bucket t top x) v) [ inl e ↦ omega (arith, in_own t top v x e.1) | inr e ↦ omega (arith, in_other t top v x e.1) ]

pub count_bound : (r : Round) (i : ℕ) (cs : List ℕ) (b : ℕ) → Counting r i cs → b ≤ top_of r → get_or cs b 0 ≤ 2048 * length r.rows
count_bound r i cs b c h =
    omega (
      arith,
      c.count b h,
      length-take i r.rows,
      length_sum (take i r.rows),
      sum_le (in_bucket r.slot (top_of r) b) (λ x. 1) (in_1 r.slot (top_of r) b) (take i r.rows),
    )

pub count_more : (r : Round) (i : ℕ) (cs : List ℕ) (b : ℕ) → i < length r.rows → b ≡ place r i → b ≤ top_of r → Counting r i cs →
    Counting r (i + 1) (set cs b (get_or cs b 0 + 2048))
count_more r i cs b h e w c =
    record {
      enough = omega (arith, length-set cs b (get_or cs b 0 + 2048), c.enough);
      count = λ v k.
          let m = add-one i in
          let g = sum_next (in_bucket r.slot (top_of r) v) (blank 0) r.rows i h in
          rw m (elim (eqb? b v) [
            | inl q ↦ omega (
              arith,
              ap (λ (n : ℕ). get_or (set cs b (get_or cs b 0 + 2048)) n 0) (sym q.1),
              get_or-set_same cs b (get_or cs b 0 + 2048) 0 (omega (arith, w, c.enough)),
              ap (λ (n : ℕ). get_or cs n 0) q.1,
              c.count v k,
              g,
              in_own r.slot (top_of r) v (at r i) (sym e ∙ q.1),
            )
            | inr q ↦ omega (
              arith,
              get_or-set_other cs b v (get_or cs b 0 + 2048) 0 (λ y. q.1 (sym y)),
              c.count v k,
              g,
              in_other r.slot (top_of r) v (at r i) (λ y. q.1 (e ∙ y)),
            )
          ]);
    }

-- THE ROUND by its head
pub record RoundIs (t : List ℕ) (h : Head) : Type 0 where
  pub rows : length (round_in t).rows ≡ h.used
  pub slot : (round_in t).slot ≡ h.slot.0
  pub last : (round_in t).last ≡ h.last.0

pub round_is : (t : List ℕ) (h : Head) → RowsLent t h → RoundIs t h
unfolding round_in round
round_is t h k = record { rows = rows_count (used_in t) (drop head_size t) ∙ sym k.head.used; slot = sym k.head.slot; last = sym k.head.last }

pub counting_start : (t : List ℕ) (h : Head) (cs : List ℕ) → RowsLent t h → LentCounts t cs → Counting (round_in t) 0 cs
counting_start t h cs k l =
    let n = round_is t h k in
    record {
      enough = omega (arith, n.rows, k.room, l.enough);
      count = λ v g. ap (λ (xs : List ℕ). get_or xs v 0) l.none ∙ get_or-replicate (length cs) v 0 0 (omega (arith, g, n.rows, k.room, l.enough));
    }

pub counting_end : (t : List ℕ) (h : Head) (i : ℕ) (cs : List ℕ) → RowsLent t h → i ≤ h.used → h.used ≤ i → Counting (round_in t) i cs → Counted (round_in t) cs
counting_end t h i cs k p q c =
    let r = round_in t in
    let e : i ≡ length r.rows = omega (arith, p, q, (round_is t h k).rows) in
    record {
      enough = c.enough;
      count = λ v g. c.count v g
          ∙ ap (λ (xs : List Row). 2048 * sum (in_bucket r.slot (top_of r) v) xs) (ap (λ (n : ℕ). take n r.rows) e ∙ take-length r.rows);
    }
