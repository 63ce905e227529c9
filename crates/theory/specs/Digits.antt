-- Digits, and numbers in digits, each read back from the other: digits_of_number, number_of_digits, number_placed, number_stands.
use Rattle.std.specs.Prelude.{◌≡◌, refl, ◌⊎◌, true, List, [], ◌∷◌, ◌++◌, ℕ, zero, suc, ◌+◌, ◌*◌, ◌-◌, ◌/◌, ◌%◌, ◌^◌, ◌≤◌, ◌<◌, leb, length, take, drop}
use Rattle.std.proofs.Common.{sym, ap, ◌∙◌, inl, inr, append-nil, arith, pow-suc, length-append, length-drop, take-append-drop, length-take-le, take_at, drop-drop, leb-true, le-leb, lt-ltb, le-ltb}
use Rattle.std.proofs.Math.Seq.{append_snoc}
use Rattle.std.proofs.lemmas.Bool.{lt-leb}
use Rattle.rules.specs.Lines.{digit, is_digit, digit_value, digits, number_from, all_digits, number_at}
use Rattle.theory.specs.Tests.{ltb?, and?, and_true}

-- ONE DIGIT and its value
pub digit_range : (b : ℕ) → is_digit b ≡ true → ((48 ≤ b) × (b ≤ 57)) ⊎ ((65 ≤ b) × (b ≤ 70))
unfolding is_digit
digit_range b e =
    elim (and? (leb 48 b) (leb b 57)) [
      | inl a ↦ inl (leb-true 48 b a.0, leb-true b 57 a.1)
      | inr a ↦ let h = and_true (leb 65 b) (leb b 70) (rw a at e) in inr (leb-true 65 b h.0, leb-true b 70 h.1)
    ]

pub record Valued (b : ℕ) : Type 0 where
  pub back : digit (digit_value b) ≡ b
  pub below : digit_value b < 16

pub digit_valued : (b : ℕ) → is_digit b ≡ true → Valued b
unfolding digit digit_value
digit_valued b e =
    elim (digit_range b e) [
      | inl h ↦
          let s = le-leb b 57 h.1 in
          record { back = rw (s, lt-ltb (b - 48) 10 (omega arith)) (omega arith); below = rw s (omega arith) }
      | inr h ↦
          let s = lt-leb b 57 (omega arith) in
          record { back = rw (s, le-ltb (b - 55) 10 (omega arith)) (omega arith); below = rw s (omega arith) }
    ]

pub value_of_digit : (v : ℕ) → v < 16 → digit_value (digit v) ≡ v
unfolding digit digit_value
value_of_digit v h =
    elim (ltb? v 10) [
      | inl a ↦ rw (a.0, le-leb (48 + v) 57 (omega arith)) (omega arith)
      | inr a ↦ rw (a.0, lt-leb (55 + v) 57 (omega arith)) (omega arith)
    ]

pub digit_is : (v : ℕ) → v < 16 → is_digit (digit v) ≡ true
unfolding digit is_digit
digit_is v h =
    elim (ltb? v 10) [
      | inl a ↦ rw (a.0, le-leb 48 (48 + v) (omega arith), le-leb (48 + v) 57 (omega arith))
      | inr a ↦
          rw (a.0, le-leb 48 (55 + v) (omega arith), lt-leb (55 + v) 57 (omega arith), le-leb 65 (55 + v) (omega arith), le-leb (55 + v) 70 (omega arith))
    ]

-- ALL DIGITS: of the whole where of both parts
pub all_digits_join : (xs ys : List ℕ) → all_digits xs ≡ true → all_digits ys ≡ true → all_digits (xs ++ ys) ≡ true
unfolding all_digits
all_digits_join [] ys e f = f
all_digits_join (x ∷ xs) ys e f = let h = and_true (is_digit x) (all_digits xs) e in rw h.0 (all_digits_join xs ys h.1 f)

pub all_digits_split : (xs ys : List ℕ) → all_digits (xs ++ ys) ≡ true → (all_digits xs ≡ true) × (all_digits ys ≡ true)
unfolding all_digits
all_digits_split [] ys e = (refl, e)
all_digits_split (x ∷ xs) ys e =
    let h = and_true (is_digit x) (all_digits (xs ++ ys)) e in
    let r = all_digits_split xs ys h.1 in
    (rw h.0 r.0, r.1)

pub all_digits_part : (a n : ℕ) (ds : List ℕ) → all_digits ds ≡ true → all_digits (take n (drop a ds)) ≡ true
all_digits_part a n ds e =
    let h = all_digits_split (take a ds) (drop a ds) (rw take-append-drop e) in
    (all_digits_split (take n (drop a ds)) (drop n (drop a ds)) (rw take-append-drop h.1)).0

-- A NUMBER IN n DIGITS: they are n, they are digits, and the number is read back
pub length_digits : (n v : ℕ) → length (digits n v) ≡ n
unfolding digits
length_digits zero v = refl
length_digits (suc n) v = omega (arith, length-append (digits n (v / 16)) (digit (v % 16) ∷ []), length_digits n (v / 16))

pub digits_are : (n v : ℕ) → all_digits (digits n v) ≡ true
unfolding digits all_digits
digits_are zero v = refl
digits_are (suc n) v = all_digits_join (digits n (v / 16)) (digit (v % 16) ∷ []) (digits_are n (v / 16)) (rw (digit_is (v % 16) (omega arith)))

pub number_append : (a : ℕ) (xs ys : List ℕ) → number_from a (xs ++ ys) ≡ number_from (number_from a xs) ys
unfolding number_from
number_append a [] ys = refl
number_append a (x ∷ xs) ys = number_append (16 * a + digit_value x) xs ys

pub number_of_digits : (n v : ℕ) → v < 16 ^ n → number_from 0 (digits n v) ≡ v
unfolding digits number_from
number_of_digits zero v h = omega arith
number_of_digits (suc n) v h =
    let e = number_append 0 (digits n (v / 16)) (digit (v % 16) ∷ []) in
    let r = number_of_digits n (v / 16) (omega (arith, pow-suc 16 n)) in
    let d = value_of_digit (v % 16) (omega arith) in
    rw (e, r, d) (omega arith)

-- THE NUMBER OF DIGITS ds, read on from a: its digits are those of a and ds, and it fits them
pub digits_step : (n v : ℕ) (xs : List ℕ) → digits (suc n) v ++ xs ≡ digits n (v / 16) ++ digit (v % 16) ∷ xs
unfolding digits
digits_step n v xs = append_snoc (digits n (v / 16)) (digit (v % 16)) xs

pub digits_on : (n a : ℕ) (ds : List ℕ) → all_digits ds ≡ true → digits (n + length ds) (number_from a ds) ≡ digits n a ++ ds
unfolding number_from all_digits
digits_on n a [] e = let m : n + 0 ≡ n = omega arith in rw (m, append-nil)
digits_on n a (d ∷ ds) e =
    let h = and_true (is_digit d) (all_digits ds) e in
    let v = digit_valued d h.0 in
    let b = 16 * a + digit_value d in
    let m : n + suc (length ds) ≡ suc n + length ds = omega arith in
    let q : b / 16 ≡ a = omega arith in
    let r : b % 16 ≡ digit_value d = omega arith in
    rw m (digits_on (suc n) b ds h.1 ∙ digits_step n b ds ∙ rw (q, r, v.back))

pub number_on : (n a : ℕ) (ds : List ℕ) → all_digits ds ≡ true → a < 16 ^ n → number_from a ds < 16 ^ (n + length ds)
unfolding number_from all_digits
number_on n a [] e h = let m : n + 0 ≡ n = omega arith in rw m h
number_on n a (d ∷ ds) e h =
    let b = and_true (is_digit d) (all_digits ds) e in
    let v = digit_valued d b.0 in
    let m : n + suc (length ds) ≡ suc n + length ds = omega arith in
    rw m (number_on (suc n) (16 * a + digit_value d) ds b.1 (omega (arith, pow-suc 16 n)))

pub digits_of_number : (ds : List ℕ) → all_digits ds ≡ true → digits (length ds) (number_from 0 ds) ≡ ds
unfolding digits
digits_of_number ds e = let m : 0 + length ds ≡ length ds = omega arith in rw m at (digits_on 0 0 ds e)

pub number_below : (ds : List ℕ) → all_digits ds ≡ true → number_from 0 ds < 16 ^ length ds
number_below ds e = let m : 0 + length ds ≡ length ds = omega arith in rw m at (number_on 0 0 ds e (omega arith))

-- A NUMBER AT A PLACE: what stands there is read, and what is read stands there
pub number_placed : (a n v : ℕ) (ds : List ℕ) → drop a ds ≡ digits n v ++ drop (a + n) ds → v < 16 ^ n → number_at a n ds ≡ v
unfolding number_at
number_placed a n v ds e h =
    ap (λ (bs : List ℕ). number_from 0 (take n bs)) e
    ∙ ap (number_from 0) (take_at (digits n v) (drop (a + n) ds) n (length_digits n v))
    ∙ number_of_digits n v h

pub record NumberStands (a n v : ℕ) (ds : List ℕ) : Type 0 where
  pub stand : drop a ds ≡ digits n v ++ drop (a + n) ds
  pub fits : v < 16 ^ n

pub number_stands : (a n v : ℕ) (ds : List ℕ) → all_digits ds ≡ true → a + n ≤ length ds → number_at a n ds ≡ v → NumberStands a n v ds
unfolding number_at
number_stands a n v ds e h q =
    let bs = take n (drop a ds) in
    let l : length bs ≡ n = length-take-le n (drop a ds) (omega (arith, length-drop a ds)) in
    let d = all_digits_part a n ds e in
    let s : digits n v ≡ bs = rw (l, q) at (digits_of_number bs d) in
    record {
      stand = rw (s, ← drop-drop n a ds) (sym (take-append-drop n (drop a ds)));
      fits = rw (l, q) at (number_below bs d);
    }
