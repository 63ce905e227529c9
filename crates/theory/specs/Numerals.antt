-- Numbers side by side in digits: what stands there is read, and what is read stands there: numbers_read, numbers_stand.
use Rattle.std.specs.Prelude.{◌≡◌, refl, true, ◌&&◌, List, [], ◌∷◌, ◌++◌, ℕ, zero, suc, ◌+◌, ◌^◌, ◌≤◌, ◌<◌, ltb, length, get_or, take, drop}
use Rattle.std.proofs.Common.{sym, ap, ap₂, ◌∙◌, append_assoc, append-nil, arith, length-append, drop_of_length-le, drop_at, drop-drop, drop-cons, ltb-true, lt-ltb}
use Rattle.std.proofs.lemmas.Bool.{false≢true}
use Rattle.rules.specs.Lines.{digits, all_digits, count_digits, numerals, fit_digits, number_at, numbers_at}
use Rattle.theory.specs.Tests.{and_true}
use Rattle.theory.specs.Digits.{length_digits, digits_are, all_digits_join, number_placed, number_stands}

-- HOW MANY: as many values as widths where they fit; a value's digits are as many as its width says
pub length_numbers : (a : ℕ) (ns ds : List ℕ) → length (numbers_at a ns ds) ≡ length ns
unfolding numbers_at
length_numbers a [] ds = refl
length_numbers a (n ∷ ns) ds = ap suc (length_numbers (a + n) ns ds)

pub length_fit : (ns vs : List ℕ) → fit_digits ns vs ≡ true → length vs ≡ length ns
unfolding fit_digits
length_fit [] [] e = refl
length_fit [] (v ∷ vs) e = absurd (false≢true e)
length_fit (n ∷ ns) [] e = absurd (false≢true e)
length_fit (n ∷ ns) (v ∷ vs) e = ap suc (length_fit ns vs (and_true (ltb v (16 ^ n)) (fit_digits ns vs) e).1)

pub length_numerals : (ns vs : List ℕ) → length vs ≡ length ns → length (numerals ns vs) ≡ count_digits ns
unfolding numerals count_digits
length_numerals [] vs e = refl
length_numerals (n ∷ ns) [] e = absurd (omega arith)
length_numerals (n ∷ ns) (v ∷ vs) e = omega (arith, length-append (digits n v) (numerals ns vs), length_digits n v, length_numerals ns vs (omega arith))

pub numerals_digits : (ns vs : List ℕ) → all_digits (numerals ns vs) ≡ true
unfolding numerals all_digits
numerals_digits [] vs = refl
numerals_digits (n ∷ ns) [] = refl
numerals_digits (n ∷ ns) (v ∷ vs) = all_digits_join (digits n v) (numerals ns vs) (digits_are n v) (numerals_digits ns vs)

-- a list value by value
unfoldable pub got_from : (at n : ℕ) → List ℕ → List ℕ
got_from i zero vs = []
got_from i (suc n) vs = get_or vs i 0 ∷ got_from (suc i) n vs

pub got_all : (i n : ℕ) (vs : List ℕ) → i + n ≡ length vs → got_from i n vs ≡ drop i vs
unfolding got_from
got_all i zero vs e = sym (drop_of_length-le vs {i = i} (omega arith))
got_all i (suc n) vs e =
    ap (λ (xs : List ℕ). get_or vs i 0 ∷ xs) (got_all (suc i) n vs (omega arith)) ∙ sym (drop-cons vs i 0 (omega arith))

-- WHAT STANDS THERE IS READ
pub numbers_read : (ns vs : List ℕ) (a : ℕ) (ds zs : List ℕ) → fit_digits ns vs ≡ true → drop a ds ≡ numerals ns vs ++ zs → numbers_at a ns ds ≡ vs
unfolding fit_digits numerals numbers_at
numbers_read [] [] a ds zs f e = refl
numbers_read [] (v ∷ vs) a ds zs f e = absurd (false≢true f)
numbers_read (n ∷ ns) [] a ds zs f e = absurd (false≢true f)
numbers_read (n ∷ ns) (v ∷ vs) a ds zs f e =
    let h = and_true (ltb v (16 ^ n)) (fit_digits ns vs) f in
    let d : drop a ds ≡ digits n v ++ (numerals ns vs ++ zs) = e ∙ append_assoc (digits n v) (numerals ns vs) zs in
    let g : drop (a + n) ds ≡ numerals ns vs ++ zs =
    sym (drop-drop n a ds) ∙ ap (drop n) d ∙ drop_at (digits n v) (numerals ns vs ++ zs) n (length_digits n v) in
    ap₂ (λ (x : ℕ) (xs : List ℕ). x ∷ xs)
    (number_placed a n v ds (d ∙ ap (λ (bs : List ℕ). digits n v ++ bs) (sym g)) (ltb-true v (16 ^ n) h.0))
    (numbers_read ns vs (a + n) ds zs h.1 g)

-- WHAT IS READ STANDS THERE
pub record NumbersStand (ns : List ℕ) (a : ℕ) (ds : List ℕ) : Type 0 where
  pub stand : drop a ds ≡ numerals ns (numbers_at a ns ds) ++ drop (a + count_digits ns) ds
  pub fit : fit_digits ns (numbers_at a ns ds) ≡ true

pub numbers_stand : (ns : List ℕ) (a : ℕ) (ds : List ℕ) → all_digits ds ≡ true → a + count_digits ns ≤ length ds → NumbersStand ns a ds
unfolding fit_digits numerals numbers_at count_digits
numbers_stand [] a ds e h = let m : a ≡ a + 0 = omega arith in record { stand = ap (λ (k : ℕ). drop k ds) m; fit = refl }
numbers_stand (n ∷ ns) a ds e h =
    let v = number_at a n ds in
    let p = number_stands a n v ds e (omega arith) refl in
    let r = numbers_stand ns (a + n) ds e (omega arith) in
    let m : a + n + count_digits ns ≡ a + (n + count_digits ns) = omega arith in
    let rest = numerals ns (numbers_at (a + n) ns ds) in
    record {
      stand = p.stand ∙ ap (λ (bs : List ℕ). digits n v ++ bs) (r.stand ∙ ap (λ (k : ℕ). rest ++ drop k ds) m)
          ∙ sym (append_assoc (digits n v) rest (drop (a + (n + count_digits ns)) ds));
      fit = rw (lt-ltb v (16 ^ n) p.fits) r.fit;
    }

-- ONE NUMBER MORE: the digits so far, the digits written, the number read, and whether the rest fits
pub count_more : (ns : List ℕ) (i : ℕ) → i < length ns → count_digits (take (suc i) ns) ≡ count_digits (take i ns) + get_or ns i 0
unfolding count_digits
count_more [] i h = absurd (omega arith)
count_more (n ∷ ns) zero h = omega arith
count_more (n ∷ ns) (suc i) h = omega (arith, count_more ns i (omega arith))

pub count_least : (ns : List ℕ) (i : ℕ) → count_digits (take i ns) ≤ count_digits ns
unfolding count_digits
count_least [] zero = omega arith
count_least [] (suc i) = omega arith
count_least (n ∷ ns) zero = omega arith
count_least (n ∷ ns) (suc i) = omega (arith, count_least ns i)

pub numerals_more : (ns vs : List ℕ) (i : ℕ) → i < length ns → length vs ≡ length ns →
    numerals (take (suc i) ns) (take (suc i) vs) ≡ numerals (take i ns) (take i vs) ++ digits (get_or ns i 0) (get_or vs i 0)
unfolding numerals
numerals_more [] vs i h e = absurd (omega arith)
numerals_more (n ∷ ns) [] i h e = absurd (omega arith)
numerals_more (n ∷ ns) (v ∷ vs) zero h e = append-nil (digits n v)
numerals_more (n ∷ ns) (v ∷ vs) (suc i) h e =
    ap (λ (bs : List ℕ). digits n v ++ bs) (numerals_more ns vs i (omega arith) (omega arith))
    ∙ sym (append_assoc (digits n v) (numerals (take i ns) (take i vs)) (digits (get_or ns i 0) (get_or vs i 0)))

pub number_in : (ns : List ℕ) (a : ℕ) (ds : List ℕ) (i : ℕ) → i < length ns →
    get_or (numbers_at a ns ds) i 0 ≡ number_at (a + count_digits (take i ns)) (get_or ns i 0) ds
unfolding numbers_at count_digits
number_in [] a ds i h = absurd (omega arith)
number_in (n ∷ ns) a ds zero h = let m : a ≡ a + 0 = omega arith in ap (λ (k : ℕ). number_at k n ds) m
number_in (n ∷ ns) a ds (suc i) h =
    let m : a + n + count_digits (take i ns) ≡ a + (n + count_digits (take i ns)) = omega arith in
    number_in ns (a + n) ds i (omega arith) ∙ ap (λ (k : ℕ). number_at k (get_or ns i 0) ds) m

pub fit_more : (ns vs : List ℕ) (i : ℕ) → i < length ns → i < length vs →
    fit_digits (drop i ns) (drop i vs) ≡ ltb (get_or vs i 0) (16 ^ get_or ns i 0) && fit_digits (drop (suc i) ns) (drop (suc i) vs)
unfolding fit_digits
fit_more ns vs i h g = rw (drop-cons ns i 0 h, drop-cons vs i 0 g)
