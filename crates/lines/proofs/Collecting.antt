-- A line's numbers read one behind the other, as a loop does it.
use mathlib.Core.Path.{◌≡◌, refl, sym, ap, ◌∙◌}
use mathlib.Core.Logic.{inl, inr}
use mathlib.Core.Bool.{true, false, false≢true}
use mathlib.Core.List.{List, [], ◌∷◌}
use Prim.Native.Nat.{ℕ, zero, suc, ◌+◌, ◌-◌, ◌≤◌, ◌<◌}
use native.Mathlib.Omega.{arith}
use native.Mathlib.Numerals.{add-one}
use lib.ListN.{length, get_or, set, take, drop, replicate, length-set, length-replicate, length-drop}
use lib.Seq.{take_all, take-add, get_or-take, get_or-set_same, get_or-set_other, drop-drop}
use Rattle.rules.specs.Limits.{short_digits}
use Rattle.rules.specs.Lines.{number_from, all_digits, count_digits, number_at, numbers_at, command_of}
use Rattle.theory.specs.Tests.{either, eqb?}
use Rattle.theory.specs.Digits.{all_digits_join, all_digits_part}
use Rattle.theory.specs.Numerals.{length_numbers, count_more, count_least, number_in}
use Rattle.std.specs.Prelude.{Some, None}
use Rattle.digits.specs.Spelling.{spelt}
use Rattle.forms.specs.Small.{most_numbers}
use Rattle.lines.proofs.ReadLines.{spelt_number, spelt_nothing, part_of}

-- the first i numbers are read: clean, their values in the array, 0 past them
pub record Collected (ns line : List ℕ) (i from : ℕ) (at : List ℕ) : Type 0 where
  pub within : i ≤ length ns
  pub place : from ≡ short_digits + count_digits (take i ns)
  pub room : length at ≡ most_numbers
  pub clean : all_digits (take (count_digits (take i ns)) (drop short_digits line)) ≡ true
  pub values : (j : ℕ) → get_or at j 0 ≡ get_or (take i (numbers_at short_digits ns line)) j 0

zeros : (n j : ℕ) → get_or {A = ℕ} (replicate n 0) j 0 ≡ 0
zeros zero zero = refl
zeros zero (suc j) = refl
zeros (suc n) zero = refl
zeros (suc n) (suc j) = zeros n j

pub collected_none : (ns line : List ℕ) → Collected ns line 0 short_digits (replicate most_numbers 0)
unfolding count_digits all_digits
collected_none ns line =
    record { within = omega arith; place = refl; room = length-replicate {A = ℕ} most_numbers 0; clean = refl; values = zeros most_numbers }

-- a part of w bytes from a place on
pub part_long : (from w : ℕ) → from + w - from ≡ w
part_long from w = omega arith

pub part_short : (n m : ℕ) (l : List ℕ) → n ≤ m → length (take n l) ≤ m
part_short zero m l h = omega arith
part_short (suc n) m [] h = omega arith
part_short (suc n) m (x ∷ l) h = omega (arith, part_short n (m - 1) l (omega arith))

module _ {ns line : List ℕ} {i from w : ℕ} {at : List ℕ} (c : Collected ns line i from at) (more : i < length ns) (wide : get_or ns i 0 ≡ w) where
  -- the next number lies within the digits of all
  pub next_within : from + w ≤ short_digits + count_digits ns
  next_within = omega (arith, c.place, wide, count_more ns i more, count_least ns (suc i))

  part_at : take w (drop from line) ≡ take w (drop (count_digits (take i ns)) (drop short_digits line))
  part_at = ap (take w) (ap (λ (k : ℕ). drop k line) c.place ∙ sym (drop-drop (count_digits (take i ns)) short_digits line))

  pub collected_foul : short_digits + count_digits ns ≤ length line → spelt (take (from + w - from) (drop from line)) ≡ None →
      all_digits (take (count_digits ns) (drop short_digits line)) ≡ false
  collected_foul h s =
      let e = spelt_nothing (take w (drop from line)) (rw (part_long from w) at s) in
      let m = count_digits ns in
      let a = count_digits (take i ns) in
      let l = drop short_digits line in
      let p : take w (drop a (take m l)) ≡ take w (drop from line) =
      part_of a w m l (omega (arith, c.place, next_within)) (omega (arith, length-drop short_digits line)) ∙ sym part_at in
      elim (either (all_digits (take m l))) [
        | inl t ↦ absurd (false≢true (sym e ∙ sym (ap all_digits p) ∙ all_digits_part a w (take m l) t))
        | inr t ↦ t
      ]

  take_other : (vs : List ℕ) (k j : ℕ) → (j ≡ k → ⊥) → get_or (take k vs) j 0 ≡ get_or (take (suc k) vs) j 0
  take_other [] zero j h = refl
  take_other [] (suc k) j h = refl
  take_other (v ∷ vs) zero zero h = absurd (h refl)
  take_other (v ∷ vs) zero (suc j) h = refl
  take_other (v ∷ vs) (suc k) zero h = refl
  take_other (v ∷ vs) (suc k) (suc j) h = take_other vs k j (λ e. h (ap suc e))

  pub collected_more : {v : ℕ} → i < most_numbers → spelt (take (from + w - from) (drop from line)) ≡ Some v →
      Collected ns line (i + 1) (from + w) (set at i v)
  unfolding number_at
  collected_more {v} h e =
      let s = spelt_number (take w (drop from line)) (rw (part_long from w) at e) in
      let vs = numbers_at short_digits ns line in
      let a = count_digits (take i ns) in
      let m = count_more ns i more in
      let q : a + w ≡ count_digits (take (suc i) ns) = omega (arith, m, wide) in
      let n : get_or vs i 0 ≡ v =
      number_in ns short_digits line i more
      ∙ ap (λ (k : ℕ). number_from 0 (take k (drop (short_digits + a) line))) wide
      ∙ ap (λ (k : ℕ). number_from 0 (take w (drop k line))) (sym c.place)
      ∙ s.number in
      rw add-one record {
        within = omega arith;
        place = omega (arith, c.place, q);
        room = length-set at i v ∙ c.room;
        clean = rw (← q, take-add a w (drop short_digits line))
            (all_digits_join (take a (drop short_digits line)) (take w (drop a (drop short_digits line))) c.clean (sym (ap all_digits part_at) ∙ s.clean));
        values = λ j. elim (eqb? j i) [
          | inl e ↦
              rw e.1 (get_or-set_same at i v 0 (omega (arith, c.room)) ∙ sym n ∙ sym (get_or-take (suc i) vs i 0 (omega arith)))
          | inr e ↦ get_or-set_other at i j v 0 e.1 ∙ c.values j ∙ take_other vs i j e.1
        ];
      }

-- all are read
pub collected_all : {ns line : List ℕ} {i from : ℕ} {at : List ℕ} → Collected ns line i from at → length ns ≤ i →
    (all_digits (take (count_digits ns) (drop short_digits line)) ≡ true) × ((j : ℕ) → get_or at j 0 ≡ get_or (numbers_at short_digits ns line) j 0)
collected_all {ns} {line} {i} c h =
    let t = take_all i ns h in
    let vs = numbers_at short_digits ns line in
    let u = take_all i vs (omega (arith, length_numbers short_digits ns line)) in
    (rw t at c.clean, λ j. c.values j ∙ ap (λ (xs : List ℕ). get_or xs j 0) u)

-- values that are the same one by one make the same command
pub command_same : (k : ℕ) (vs ws : List ℕ) → ((i : ℕ) → get_or vs i 0 ≡ get_or ws i 0) → command_of k vs ≡ command_of k ws
unfolding command_of
command_same k vs ws h = rw (h 0, h 1, h 2)
