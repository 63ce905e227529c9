-- Digits, byte by byte: what a digit's value tells, numbers as a loop reads and writes them.
use mathlib.Core.Path.{◌≡◌, refl, sym, ◌∙◌}
use mathlib.Core.Logic.{inl, inr}
use mathlib.Core.Bool.{true, false, cond}
use mathlib.Core.List.{List, [], ◌∷◌, ◌++◌, append-nil}
use Prim.Native.Nat.{ℕ, suc, ◌+◌, ◌*◌, ◌-◌, ◌/◌, ◌%◌, ◌^◌, ◌≤◌, ◌<◌}
use native.Mathlib.Omega.{arith}
use native.Mathlib.Nat.{pow-suc, pow-le-pow_right}
use native.Mathlib.Numerals.{add-one}
use lib.ListN.{length, get_or, set, drop, drop_of_length-le, length-set}
use lib.Seq.{drop-cons, drop-set-lt, get_or-set_same}
use Rattle.rules.specs.Lines.{digit, is_digit, digit_value, digits, number_from, all_digits}
use Rattle.theory.specs.Tests.{either}
use Rattle.theory.specs.Digits.{digit_valued, digits_step}
use Rattle.std.specs.Prelude.{Some, None, is_some}
use Rattle.std.specs.List.{list_all}
use Rattle.digits.specs.Spelling.{value_of, spelt}

-- A DIGIT'S VALUE
pub none : (b : ℕ) → value_of b ≡ None → is_digit b ≡ false
unfolding value_of
none b e = elim (either (is_digit b)) [ inl d ↦ let f : Some (digit_value b) ≡ None = rw d at e in cc | inr d ↦ d ]

pub some : {v : ℕ} (b : ℕ) → value_of b ≡ Some v → (is_digit b ≡ true) × (v ≡ digit_value b)
unfolding value_of
some {v} b e =
    elim (either (is_digit b)) [
      | inl d ↦ (d, let f : Some (digit_value b) ≡ Some v = rw d at e in cc)
      | inr d ↦ let f : None ≡ Some v = rw d at e in cc
    ]

pub valued : (b : ℕ) → is_some (value_of b) ≡ is_digit b
unfolding value_of
valued b = elim (either (is_digit b)) [ inl d ↦ rw d | inr d ↦ rw d ]

-- ALL DIGITS
pub all_listed : (ds : List ℕ) → list_all is_digit ds ≡ all_digits ds
unfolding all_digits
all_listed [] = refl
all_listed (d ∷ ds) = rw (all_listed ds)

-- A NUMBER READ, the digits before i in the sum
pub record NumberRead (ds : List ℕ) (sum i : ℕ) : Type 0 where
  pub within : i ≤ length ds
  pub left : spelt ds ≡ cond (all_digits (drop i ds)) (Some (number_from sum (drop i ds))) None
  pub small : sum < 16 ^ i

pub read_none : (ds : List ℕ) → NumberRead ds 0 0
unfolding spelt
read_none ds = record { within = omega arith; left = refl; small = omega arith }

-- one digit more fits a u32
pub sum_fits : {ds : List ℕ} {sum i : ℕ} → NumberRead ds sum i → i < 8 → 16 * sum + 15 < 2 ^ 32
sum_fits {i = i} r h = omega (arith, pow-suc 16 i, r.small, pow-le-pow_right {n = 16} (omega arith) h)

module _ {ds : List ℕ} {sum i : ℕ} (r : NumberRead ds sum i) (within : i < length ds) where
  pub value_small : {v : ℕ} → value_of (get_or ds i 0) ≡ Some v → v < 16
  value_small e = let d = some (get_or ds i 0) e in omega (arith, d.1, (digit_valued (get_or ds i 0) d.0).below)

  pub read_more : {v : ℕ} → value_of (get_or ds i 0) ≡ Some v → NumberRead ds (16 * sum + v) (i + 1)
  unfolding number_from all_digits
  read_more e =
      let d = some (get_or ds i 0) e in
      record {
        within = omega arith;
        left = r.left ∙ rw (d.1, add-one, drop-cons ds i 0, d.0);
        small = rw add-one (omega (arith, pow-suc 16 i, r.small, value_small e));
      }

  pub read_foul : value_of (get_or ds i 0) ≡ None → spelt ds ≡ None
  unfolding all_digits
  read_foul e = r.left ∙ rw (drop-cons ds i 0, none (get_or ds i 0) e)

pub read_whole : {ds : List ℕ} {sum i : ℕ} → NumberRead ds sum i → length ds ≤ i → spelt ds ≡ Some sum
unfolding number_from all_digits
read_whole {ds} {i = i} r h = r.left ∙ rw (drop_of_length-le ds {i = i} h)

-- A NUMBER WRITTEN from its last digit on: what stands from i on, and what is left for the digits before
pub record NumberPut (value : ℕ) (before part : List ℕ) (rest i : ℕ) : Type 0 where
  pub most : i ≤ length part
  pub long : length part ≡ length before
  pub stands : digits i rest ++ drop i part ≡ digits (length before) value

pub put_none : (value : ℕ) (z : List ℕ) → NumberPut value z z value (length z)
put_none v z =
    record { most = omega arith; long = refl; stands = rw (drop_of_length-le z {i = length z} (omega arith)) (append-nil (digits (length z) v)) }

drop_set : (l : List ℕ) (i a : ℕ) → i < length l → drop i (set l i a) ≡ a ∷ drop (suc i) l
drop_set l i a h =
    drop-cons (set l i a) i 0 (omega (arith, length-set l i a)) ∙ rw (get_or-set_same l i a 0 h, drop-set-lt (suc i) l i a (omega arith))

pub put_more : {value : ℕ} {z b : List ℕ} {rest i d next : ℕ} → NumberPut value z b rest i → 0 < i → d ≡ digit (rest % 16) → next ≡ rest / 16 →
    NumberPut value z (set b (i - 1) d) next (i - 1)
put_more {b = b} {rest = rest} {i = i} {d = d} p h e q =
    let j = i - 1 in
    let s : suc j ≡ i = omega arith in
    let g : digits j (rest / 16) ++ digit (rest % 16) ∷ drop i b ≡ digits i rest ++ drop i b = sym (digits_step j rest (drop i b)) ∙ rw s in
    record {
      most = omega (arith, length-set b j d, p.most);
      long = length-set b j d ∙ p.long;
      stands = rw (drop_set b j d (omega (arith, p.most)), s, q, e) (g ∙ p.stands);
    }

pub put_whole : {value : ℕ} {z b : List ℕ} {rest i : ℕ} → NumberPut value z b rest i → i ≤ 0 → b ≡ digits (length z) value
unfolding digits
put_whole {i = i} p h = let s : i ≡ 0 = omega arith in rw s at p.stands
