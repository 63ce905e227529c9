-- What a listing is to do: refused, or the rows that its view shows, in their order.
use mathlib.Core.Path.{◌≡◌, refl, sym, ◌∙◌}
use mathlib.Core.List.{List, [], ◌∷◌}
use Prim.Native.Nat.{ℕ, ◌≤◌, ◌<◌}
use native.Mathlib.Omega.{arith}
use borrow.Author.Tests.{lt-ltb, le-ltb, ne_eqb}
use lib.ListN.{length, get_or}
use Rattle.rules.specs.Table.{round_in, table_refusal}
use Rattle.rules.specs.Calls.{first, first_of, over}
use Rattle.rules.specs.Looking.{View, the_plan, shows, list_refusal, list_answer, list_left}
use Rattle.sorts.specs.declared.Round.{Round}
use Rattle.head.specs.Head.{HeadOf}
use Rattle.round.specs.Rows.{Ready}
use Rattle.round.proofs.ReadLaws.{Known, known, at_is, reads_within}
use Rattle.round.proofs.ByHead.{sending_number, slot_left_by}
use Rattle.order.specs.declared.Order.{Order}
use Rattle.order.specs.Ordered.{Ordered}
use Rattle.listing.specs.declared.View.{View as Asked}
use Rattle.listing.specs.declared.View.TheVariants as asked
use Rattle.listing.specs.Entries.{of_view}
use Rattle.listing.specs.Listing.{RowsListed, NothingListed, RowsShown}
use Rattle.listing.proofs.ListFilled.{filled_all}

-- BY VIEW: past the last slot nothing is shown; else nothing is refused beside 12; and the rows
pub early_over : (v : View) (t : List ℕ) (n : ℕ) → first_of (over (round_in t).slot (round_in t).last ∷ []) ≡ n → first_of (shows v (round_in t)).early ≡ n
unfolding shows
early_over the_plan t n e = e

pub early_none : (v : View) (t : List ℕ) → (round_in t).slot ≤ (round_in t).last → first_of (shows v (round_in t)).early ≡ 0
unfolding shows
early_none the_plan t h = rw (le-ltb (round_in t).last (round_in t).slot h)

pub late_none : (v : View) (t : List ℕ) → first_of (shows v (round_in t)).late ≡ 0
unfolding shows
late_none the_plan t = refl

pub rows_shown : (v : Asked) (t : List ℕ) (o : Order) → Ordered (round_in t) o → RowsShown (round_in t) (shows (of_view v) (round_in t)).items o
unfolding shows
rows_shown asked.Plan t o d = record { count = d.count; few = d.few; within = d.within; is = d.is }

-- THE NUMBER: 2 or 3, then the early one, then 12
module _ (v : View) (t : List ℕ) (room : ℕ) where
  pub list_table : (n : ℕ) → n ≡ table_refusal t → (n ≡ 0 → ⊥) → list_refusal (shows v) t room ≡ n
  unfolding list_refusal first
  list_table n e h = let f = ne_eqb (table_refusal t) 0 (λ z. h (e ∙ z)) in rw f (sym e)

  module _ (sound : table_refusal t ≡ 0) where
    pub list_over : (n : ℕ) → first_of (over (round_in t).slot (round_in t).last ∷ []) ≡ n → (n ≡ 0 → ⊥) → list_refusal (shows v) t room ≡ n
    unfolding list_refusal first
    list_over n e h = rw (sound, early_over v t n e, ne_eqb n 0 h)

    module _ (time : (round_in t).slot ≤ (round_in t).last) where
      pub list_short : room < length (shows v (round_in t)).items → list_refusal (shows v) t room ≡ 12
      unfolding list_refusal first
      list_short h = rw (sound, early_none v t time, lt-ltb room (length (shows v (round_in t)).items) h)

      pub list_fits : length (shows v (round_in t)).items ≤ room → list_refusal (shows v) t room ≡ 0
      unfolding list_refusal first
      list_fits h = rw (sound, early_none v t time, le-ltb room (length (shows v (round_in t)).items) h, late_none v t)

-- REFUSED: the number alone, and nothing to list
pub refused_says : (v : View) (t : List ℕ) (room n : ℕ) → list_refusal (shows v) t room ≡ n → (n ≡ 0 → ⊥) → NothingListed v t room n
unfolding list_answer list_left
refused_says v t room n e h =
    let f = ne_eqb (list_refusal (shows v) t room) 0 (λ z. h (sym e ∙ z)) in record { reply = rw (f, e); left = λ es a. rw (a, f) }

pub table_says : (v : View) (t : List ℕ) (room n : ℕ) → (n ≡ table_refusal t) × (n ≡ 0 → ⊥) → NothingListed v t room n
table_says v t room n j = refused_says v t room n (list_table v t room n j.0 j.1) j.1

pub over_says : (v : View) (t : List ℕ) (h : Round) (room n : ℕ) → table_refusal t ≡ 0 → HeadOf t h → n ≡ sending_number h → (n ≡ 0 → ⊥) →
    NothingListed v t room n
over_says v t h room n s k e g = refused_says v t room n (list_over v t room s n (slot_left_by t h s k ∙ sym e) g) g

pub ready : (t : List ℕ) (h : Round) → table_refusal t ≡ 0 → HeadOf t h → h.slot.0 ≤ h.last.0 → Ready t h
ready t h sound head e = record { sound = sound; head = head; time = e }

module _ (v : View) (t : List ℕ) (h : Round) (room : ℕ) (o : Order) (k : Ready t h) (d : RowsShown (round_in t) (shows v (round_in t)).items o) where
  pub short_says : room < o.count → NothingListed v t room 12
  short_says e = refused_says v t room 12 (list_short v t room k.sound (known t h k).time (omega (arith, d.count))) (λ z. omega (arith, z))

  -- ACCEPTED: the rows in their order
  pub accepted_says : o.count ≤ room → RowsListed v t room o
  unfolding list_answer list_left
  accepted_says fit =
      record {
        reply = rw (f, ← d.count);
        fits = fit;
        few = d.few;
        row = λ i a. reads_within t h k (get_or o.at i 0) (omega (arith, d.within i a, n.used));
        left = λ es a.
            rw (a, f, d.count)
            (filled_all v t o.at (shows v (round_in t)).items es (omega (arith, d.count))
            (λ i b. sym (at_is t h k (get_or o.at i 0) (omega (arith, d.within i (omega (arith, d.count)), n.used))) ∙ d.is i (omega (arith, d.count))));
      }
    where
      n : Known t h
      n = known t h k

      f : list_refusal (shows v) t room ≡ 0
      f = list_fits v t room k.sound n.time (omega (arith, d.count))
