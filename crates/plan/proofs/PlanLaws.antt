-- From what is lent to the plan, step by step.
use mathlib.Core.Path.{◌≡◌, sym, ap, ◌∙◌}
use mathlib.Core.Logic.{◌⊎◌, inl, inr}
use mathlib.Core.Bool.{Bool, true}
use mathlib.Core.List.{List}
use Prim.Native.Nat.{ℕ, zero, suc, ◌+◌, ◌-◌, ◌≤◌}
use native.Mathlib.Omega.{arith}
use lib.ListN.{length, get_or, replicate, length-replicate}
use Rattle.rules.specs.Rows.{Round}
use Rattle.rules.specs.Table.{round_in}
use Rattle.theory.specs.Tests.{leb?}
use Rattle.theory.specs.Sum.{sum}
use Rattle.theory.specs.Count.{under, Sweep, counts_next, counts_below, counts_none, sweep_at, sweep_left}
use Rattle.sorts.specs.declared.Round.{Round as Head}
use Rattle.round.specs.Rows.{top_of}
use Rattle.round.proofs.ReadLaws.{known}
use Rattle.keys.specs.Key.{blank_key}
use Rattle.keys.specs.Sorted.{many_due, placed, Sorted}
use Rattle.keys.proofs.DueOrder.{many_is, place}
use Rattle.buckets.specs.declared.Reach.{Reach}
use Rattle.plan.specs.declared.Planned.{Planned}
use Rattle.plan.specs.Plans.{Lent, HeaviestFrom, Plans}
use Rattle.queue.specs.Sorting.{upto, Startable, Started, Sorting}
use Rattle.leaving.specs.Sweep.{EmptyHeap, Crowd, Parted}
use Rattle.plan.proofs.QueueLaws.{rows_from, many_rows, in_rows, row_on_is, queue}
use Rattle.plan.proofs.ChosenLaws.{chosen_left, lost_is}

module _ (t cs ks fs hs : List ℕ) (h : Head) (x : Reach) (L : Lent t cs ks fs hs h x) where
  abbrev r : Round
  r = round_in t

  abbrev n : ℕ
  n = x.free

  abbrev top : ℕ
  top = top_of (round_in t)

  abbrev rows : ℕ
  rows = length (round_in t).rows

  abbrev sweep : Sweep (λ s. sum (under (round_in t).slot (top_of (round_in t)) s) (round_in t).rows) (suc (top_of (round_in t))) 0 x.over x.free
  sweep = L.reaches.sweep

  span : r.slot + top ≤ r.last
  span = omega (arith, (known t h L.ready).time)

  enough : (top ≡ length r.rows) ⊎ (r.slot + top ≡ r.last)
  enough = elim (leb? (length r.rows) (r.last - r.slot)) [
    | inl a ↦ inl (omega (arith, a.1))
    | inr a ↦ inr (omega (arith, a.1, (known t h L.ready).time))
  ]

  -- BUCKETS before the first free one are slots
  under_is : (s : ℕ) → s ≤ x.free → sum (under r.slot top s) r.rows ≡ many_due r s
  under_is s b = elim (leb? s top) [
    | inl a ↦ counts_below r.slot top s r.rows a.1 (rows_from r (known t h L.ready).fine) ∙ sym (many_is r s (rows_from r (known t h L.ready).fine))
    | inr a ↦
        let e : s ≡ x.free = omega (arith, a.1, b, sweep.high) in
        ap (λ (v : ℕ). sum (under r.slot top v) r.rows) e
        ∙ sweep_at r (known t h L.ready).fine top x.over x.free span enough sweep
        ∙ sym (many_is r x.free (rows_from r (known t h L.ready).fine))
        ∙ ap (many_due r) (sym e)
  ]

  upto_is : (s : ℕ) → s ≤ x.free → upto s cs ≡ many_due r s
  unfolding upto
  upto_is zero b = sym (omega (arith, under_is 0 b, counts_none r.slot top r.rows))
  upto_is (suc s) b =
      omega (
        arith,
        upto_is s (omega (arith, b)),
        under_is s (omega (arith, b)),
        under_is (suc s) b,
        counts_next r.slot top s r.rows,
        L.counted.count s (omega (arith, b, sweep.high)),
      )

  many_near : x.free + x.over ≡ many_due r x.free
  many_near =
      omega (
        arith,
        sweep_left r (known t h L.ready).fine top x.over x.free span enough sweep,
        many_is r x.free (rows_from r (known t h L.ready).fine),
      )

  few : many_due r x.free ≤ length r.rows
  few = many_rows r x.free (known t h L.ready).fine

  pub startable : Startable cs x.free
  startable =
      record {
        within = omega (arith, sweep.high, L.counted.enough);
        small = omega (arith, sweep.high, (known t h L.ready).small);
        few = omega (arith, upto_is x.free (omega arith), few, (known t h L.ready).small);
      }

  -- NO ROW IS SORTED yet
  pub unsorted : (asked : Bool) (ds : List ℕ) (m : ℕ) → Started cs ds x.free m → length ds ≡ length cs → Sorting (round_in t) x.free asked ds ks 0 blank_key
  unsorted asked ds m S l =
      record {
        few = few;
        wide = omega (arith, L.keys, (known t h L.ready).used);
        long = omega (arith, l, startable.within);
        small = startable.small;
        next = λ s a. omega (arith, S.places s a, upto_is s (omega (arith, a)));
        put = λ s j a b. absurd (omega (arith, b));
        by = omega arith;
        least = λ f j a. absurd (omega (arith, a));
        named = λ a. absurd (omega (arith, a));
      }

  -- ALL ROWS ARE
  module _ (asked : Bool) (ds us : List ℕ) (far : ℕ) (S : Sorting (round_in t) x.free asked ds us h.used far) where
    pub sorted : Sorted (round_in t) x.free us
    sorted =
        record {
          enough = omega (arith, S.few, S.wide);
          is = λ p a.
              let y = place r x.free p a in
              ap (λ (v : ℕ). get_or us v 0) y.is
              ∙ S.put y.ahead (placed r x.free p) y.early (omega (arith, y.within, (known t h L.ready).used)) y.due;
        }

    far_is : asked ≡ true → HeaviestFrom (round_in t) ((round_in t).slot + x.free) far
    far_is f =
        record {
          by = S.by;
          least = λ i a b. S.least f i (omega (arith, a, (known t h L.ready).used)) b;
          named = λ a. let y = S.named a in (omega (arith, y.0, (known t h L.ready).used), y.1, y.2);
        }

    flags_long : length fs ≡ length (round_in t).rows
    flags_long = ap length L.flags ∙ length-replicate h.used 1 ∙ (known t h L.ready).used

    -- SOME CROWD
    pub crowd : (slot : ℕ) → slot ≡ h.slot.0 → Crowd us fs slot x.free x.over × EmptyHeap hs (x.free + x.over)
    crowd slot e =
        let k = known t h L.ready in
        let z : slot ≡ (round_in t).slot = e ∙ k.slot in
        rw z (
          record {
            queue = queue r k.fine k.small k.cap x.free us sorted (x.free + x.over) many_near;
            some = L.some;
            rows = λ q a.
                omega (
                  arith,
                  row_on_is r k.fine k.small k.cap x.free us sorted (x.free + x.over) many_near q a,
                  in_rows r k.fine k.small k.cap x.free us sorted (x.free + x.over) many_near q a,
                  flags_long,
                );
            flags = L.flags ∙ ap (λ (v : ℕ). replicate v 1) (k.used ∙ sym flags_long);
          },
          record { none = L.heap; room = omega (arith, many_near, few, L.room, k.used) },
        )

    -- AND ARE LEFT OUT
    pub plans : (gs es : List ℕ) (slot m lost : ℕ) (p : Planned) → slot ≡ h.slot.0 → length gs ≡ length fs → Parted us gs slot x.free x.over lost →
        Started cs es x.free m → p.many ≡ m → p.far ≡ far → p.lost ≡ lost → Plans (round_in t) x asked us gs p
    plans gs es slot m lost p e l P A em ef el =
        let k = known t h L.ready in
        let z : slot ≡ (round_in t).slot = e ∙ k.slot in
        let Q : Parted us gs (round_in t).slot x.free x.over lost = (rw z at P) in
        let g = l ∙ flags_long in
        record {
          sorted = sorted;
          chosen = chosen_left r k.fine k.small k.cap x.free x.over us sorted many_near L.reaches.near L.some gs g lost Q;
          many = em ∙ A.many_is ∙ upto_is x.free (omega arith);
          far = λ f. rw ef (far_is f);
          lost = rw el (lost_is r k.fine k.small k.cap x.free x.over us sorted many_near L.reaches.near L.some gs g lost Q);
        }
