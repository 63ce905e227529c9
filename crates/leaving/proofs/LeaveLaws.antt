-- What the code of the sweep asks for at each step.
use mathlib.Core.Path.{◌≡◌, refl, ap, ◌∙◌}
use mathlib.Core.List.{List}
use Prim.Native.Nat.{ℕ, ◌+◌, ◌-◌, ◌≤◌, ◌<◌}
use native.Mathlib.Omega.{arith}
use lib.ListN.{length, set}
use Rattle.keys.specs.Key.{weight_of, lack_of, due_of, row_of, blank_key, Lacks}
use Rattle.keys.proofs.KeyLaws.{lacks_none, lacks_more}
use Rattle.heap.specs.Heap.{Heap, Grown}
use Rattle.leaving.specs.Sweep.{Queue, Leaves, FirstCrowded, Filled, EmptyHeap, Crowd}
use Rattle.leaving.specs.Sweep.{key_on, ahead_on}
use Rattle.leaving.proofs.GoingLaws.{Going, going_count, going_joins, going_leaves, out_row, out_most, going_start}

-- THE SWEEP with so many rows left to leave; those gone lack light together
pub record Sweeping (ks gs hs : List ℕ) (slot free over p count left light : ℕ) : Type 0 where
  pub queue : Queue ks slot free (free + over)
  pub gone : ℕ
  pub lost : ℕ
  pub going : Going ks hs gs slot free over p count lost
  pub places : p ≡ count + gone
  pub leavers : gone + left ≡ over
  pub lacks : Lacks gone light lost

pub sweeping_start : (ks gs hs us : List ℕ) (slot free over c : ℕ) → Crowd ks gs slot free over → FirstCrowded ks slot c → EmptyHeap hs (free + over) →
    Filled ks us c → length us ≡ length hs → Sweeping ks gs us slot free over c c over 0
sweeping_start ks gs hs us slot free over c C F E X l =
    record {
      queue = C.queue;
      gone = 0;
      lost = 0;
      going = going_start ks gs hs us slot free over c C F E X l;
      places = omega arith;
      leavers = omega arith;
      lacks = lacks_none;
    }

module _ (ks gs hs : List ℕ) (slot free over p count left light : ℕ) (S : Sweeping ks gs hs slot free over p count left light) where
  kept : (count ≤ free) × (count ≤ p)
  kept = going_count ks hs gs slot free over p count S.lost S.queue S.going

  few : S.gone ≤ 1024
  few = omega (arith, S.leavers, S.queue.small)

  -- one has to leave: there is a place more
  module _ (some : 0 < left) where
    here : p < free + over
    here = omega (arith, some, S.places, S.leavers, kept.0)

    pub sweeping_in : (p < length ks) × (p < free + over) × (p < 1024) × (count < 1024)
    sweeping_in =
        let m = S.queue.small in (omega (arith, here, S.queue.long), here, omega (arith, here, m), omega (arith, here, m, kept.1))

    module _ (k : ℕ) (e : k ≡ key_on ks p) where
      pub sweeping_from : slot ≤ due_of k
      sweeping_from = omega (arith, ap due_of e, S.queue.from p here)

      pub sweeping_rise : (count + 2 ≤ length hs) × (count ≤ 1024) × (1 ≤ k) × Heap count hs
      sweeping_rise = (
        omega (arith, kept.0, S.going.room),
        omega (arith, sweeping_in.3),
        omega (arith, e, S.queue.some p here),
        S.going.heaped.ordered,
      )

      module _ (a : ℕ) (d : a ≡ due_of k - slot) where
        ahead : a ≡ ahead_on ks slot p
        ahead = d ∙ ap (λ (v : ℕ). due_of v - slot) e

        pub sweeping_joins : (us : List ℕ) → count ≤ a → Grown count k hs us → Sweeping ks gs us slot free over (p + 1) (count + 1) left light
        sweeping_joins us f R =
            record {
              queue = S.queue;
              gone = S.gone;
              lost = S.lost;
              going = going_joins ks hs gs slot free over p count S.lost S.queue S.going here k e us (omega (arith, f, ahead)) R;
              places = omega (arith, S.places);
              leavers = S.leavers;
              lacks = S.lacks;
            }

        -- no slot is free
        module _ (full : a < count) where
          pub sweeping_leaver : (1 ≤ count) × (count + 2 ≤ length hs) × (count ≤ 1024) × (1 ≤ k) × Heap count hs
          sweeping_leaver = let r = sweeping_rise in (omega (arith, full), r.0, r.1, r.2, r.3)

          module _ (us : List ℕ) (out : ℕ) (L : Leaves count k hs us out) where
            past : ahead_on ks slot p < count
            past = omega (arith, full, ahead)

            most : out ≤ blank_key
            most = out_most ks hs gs slot free over p count S.lost S.queue S.going here k e us out past L

            pub sweeping_row : (i : ℕ) → i ≡ row_of out → i < length gs
            sweeping_row i q =
                omega (arith, q, out_row ks hs gs slot free over p count S.lost S.queue S.going here k e us out past L)

            pub sweeping_leaves : (i v rest : ℕ) → length us ≡ length hs → i ≡ row_of out → v ≡ lack_of out → rest ≡ left - 1 →
                Sweeping ks (set gs i 0) us slot free over (p + 1) count rest (light + v)
            sweeping_leaves i v rest g q r s =
                record {
                  queue = S.queue;
                  gone = S.gone + 1;
                  lost = S.lost + weight_of out;
                  going =
                      going_leaves ks hs gs slot free over p count S.lost S.queue S.going here k e us out past L g i (weight_of out) q refl;
                  places = omega (arith, S.places);
                  leavers = omega (arith, S.leavers, some, s);
                  lacks = rw r (lacks_more S.gone light S.lost out most S.lacks);
                }
