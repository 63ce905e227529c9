-- Numbers and zeros in bytes: low_field, field_drop, field_take, zeros_bytes, taken_zeros, field_zeros, word_zero.
use Rattle.std.specs.Prelude.{◌≡◌, refl, true, List, [], ◌∷◌, ◌++◌, ℕ, zero, suc, ◌+◌, ◌*◌, ◌-◌, ◌/◌, ◌%◌, ◌^◌, ◌≤◌, ◌<◌, eqb, length, get_or, take, drop, replicate}
use Rattle.std.proofs.Common.{sym, ap, ap₂, ◌∙◌, inl, inr, pow-suc, arith, eqb-true, eq-eqb, length-take, length-drop, get_or-take, get_or-drop, take-take, drop-drop}
use Rattle.std.proofs.lemmas.List.{length-replicate, get_or-replicate}
use Rattle.std.proofs.Math.ListN.{get_or-append}
use Rattle.rules.specs.Table.{low, value, field}
use Rattle.rules.specs.Conditions.{◌⟺◌, Bytes}
use Rattle.rules.specs.Demands.{WordZero}
use Rattle.theory.specs.Tests.{either, eqb?, and_true}
use Rattle.theory.specs.Judge.{zeros}

pub bytes_drop : (k : ℕ) (bs : List ℕ) → Bytes bs → Bytes (drop k bs)
bytes_drop k bs h i = rw (get_or-drop k bs i 0) (h (k + i))

-- A NUMBER's bytes, and back
pub value_low : (n v : ℕ) → v < 256 ^ n → value (low n v) ≡ v
unfolding value low
value_low zero v h = omega arith
value_low (suc n) v h = omega (arith, value_low n (v / 256) (omega (arith, pow-suc 256 n)))

pub length_low : (n v : ℕ) → length (low n v) ≡ n
unfolding low
length_low zero v = refl
length_low (suc n) v = omega (arith, length_low n (v / 256))

-- BYTES OF A NUMBER: the first n bytes are the low bytes of the number they make
pub low_value : (n : ℕ) (bs : List ℕ) → Bytes bs → n ≤ length bs → bs ≡ low n (value (take n bs)) ++ drop n bs
unfolding low value
low_value zero bs h l = refl
low_value (suc n) [] h l = absurd (omega arith)
low_value (suc n) (b ∷ bs) h l =
    let v = value (take n bs) in
    let e : b ≡ (b + 256 * v) % 256 = omega (arith, h 0) in
    let f : v ≡ (b + 256 * v) / 256 = omega (arith, h 0) in
    ap (λ (cs : List ℕ). b ∷ cs) (low_value n bs (λ i. h (suc i)) (omega arith))
    ∙ ap₂ (λ (c u : ℕ). c ∷ (low n u ++ drop n bs)) e f

pub low_field : (a n : ℕ) (bs : List ℕ) → Bytes bs → a + n ≤ length bs → drop a bs ≡ low n (field a n bs) ++ drop (a + n) bs
unfolding field
low_field a n bs h l =
    low_value n (drop a bs) (bytes_drop a bs h) (omega (arith, length-drop a bs))
    ∙ ap (λ (cs : List ℕ). low n (value (take n (drop a bs))) ++ cs) (drop-drop n a bs)

-- FIELDS OF A PART are fields of the whole
pub field_drop : (k a n : ℕ) (bs : List ℕ) → field a n (drop k bs) ≡ field (k + a) n bs
unfolding field
field_drop k a n bs = ap (λ (cs : List ℕ). value (take n cs)) (drop-drop a k bs)

pub take_within : (a n k : ℕ) (bs : List ℕ) → a + n ≤ k → take n (drop a (take k bs)) ≡ take n (drop a bs)
take_within zero n k bs h = take-take n k bs (omega arith)
take_within (suc a) n zero bs h = absurd (omega arith)
take_within (suc a) n (suc k) [] h = refl
take_within (suc a) n (suc k) (b ∷ bs) h = take_within a n k bs (omega arith)

pub field_take : (a n k : ℕ) (bs : List ℕ) → a + n ≤ k → field a n (take k bs) ≡ field a n bs
unfolding field
field_take a n k bs h = ap value (take_within a n k bs h)

-- ZEROS from one place up to another
abbrev pub Zeros : (from end : ℕ) → List ℕ → Type 0
Zeros a e bs = (i : ℕ) → a ≤ i → i < e → get_or bs i 0 ≡ 0

pub zeros_front : (n : ℕ) (bs : List ℕ) → Zeros 0 n bs → n ≤ length bs → bs ≡ replicate n 0 ++ drop n bs
zeros_front zero bs z l = refl
zeros_front (suc n) [] z l = absurd (omega arith)
zeros_front (suc n) (b ∷ bs) z l =
    ap₂ (λ (c : ℕ) (cs : List ℕ). c ∷ cs) (z 0 (omega arith) (omega arith))
    (zeros_front n bs (λ i h k. z (suc i) (omega arith) (omega arith)) (omega arith))

-- as bytes
pub zeros_bytes : (a n : ℕ) (bs : List ℕ) → Zeros a (a + n) bs → a + n ≤ length bs → drop a bs ≡ replicate n 0 ++ drop (a + n) bs
zeros_bytes a n bs z l =
    zeros_front n (drop a bs) (λ i h k. get_or-drop a bs i 0 ∙ z (a + i) (omega arith) (omega arith)) (omega (arith, length-drop a bs))
    ∙ ap (λ (cs : List ℕ). replicate n 0 ++ cs) (drop-drop n a bs)

pub bytes_zeros : (a n : ℕ) (bs cs : List ℕ) → drop a bs ≡ replicate n 0 ++ cs → Zeros a (a + n) bs
bytes_zeros a n bs cs e i h k =
    let p : a + (i - a) ≡ i = omega arith in
    let q : i - a < n = omega arith in
    ap (λ (j : ℕ). get_or bs j 0) (sym p) ∙ sym (get_or-drop a bs (i - a) 0) ∙ ap (λ (ds : List ℕ). get_or ds (i - a) 0) e
    ∙ get_or-append (replicate n 0) cs 0 (i - a) (omega (arith, length-replicate {A = ℕ} n 0))
    ∙ get_or-replicate n (i - a) 0 0 q

-- as a test of a part
abbrev pub IsPart : (from end : ℕ) → (whole part : List ℕ) → Type 0
IsPart a e bs cs = (i : ℕ) → a + i < e → get_or cs i 0 ≡ get_or bs (a + i) 0

pub zeros_at : (cs : List ℕ) → zeros cs ≡ true → (i : ℕ) → get_or cs i 0 ≡ 0
unfolding zeros
zeros_at [] e i = refl
zeros_at (c ∷ cs) e zero = eqb-true c 0 (and_true (eqb c 0) (zeros cs) e).0
zeros_at (c ∷ cs) e (suc i) = zeros_at cs (and_true (eqb c 0) (zeros cs) e).1 i

pub zeros_all : (cs : List ℕ) → Zeros 0 (length cs) cs → zeros cs ≡ true
unfolding zeros
zeros_all [] z = refl
zeros_all (c ∷ cs) z =
    rw (eq-eqb c 0 (z 0 (omega arith) (omega arith))) (zeros_all cs (λ i h k. z (suc i) (omega arith) (omega arith)))

pub test_zeros : (a e : ℕ) (bs cs : List ℕ) → IsPart a e bs cs → zeros cs ≡ true → Zeros a e bs
test_zeros a e bs cs p z i h k =
    let q : a + (i - a) ≡ i = omega arith in
    ap (λ (j : ℕ). get_or bs j 0) (sym q) ∙ sym (p (i - a) (omega arith)) ∙ zeros_at cs z (i - a)

pub zeros_test : (a e : ℕ) (bs cs : List ℕ) → IsPart a e bs cs → length cs + a ≤ e → Zeros a e bs → zeros cs ≡ true
zeros_test a e bs cs p l z = zeros_all cs (λ i h k. p i (omega arith) ∙ z (a + i) (omega arith) (omega arith))

-- so many bytes from a place on
pub taken_zeros : (a n : ℕ) (bs : List ℕ) → (zeros (take n (drop a bs)) ≡ true) ⟺ Zeros a (a + n) bs
taken_zeros a n bs =
    let ws = take n (drop a bs) in (
      test_zeros a (a + n) bs ws part,
      zeros_test a (a + n) bs ws part (omega (arith, length-take n (drop a bs))),
    )
  where
    part : IsPart a (a + n) bs (take n (drop a bs))
    part i h = get_or-take n (drop a bs) i 0 (omega arith) ∙ get_or-drop a bs i 0

-- A WORD is 0 exactly when all its bytes are, however many it has
bytes_of_0 : (bs : List ℕ) → value bs ≡ 0 → (i : ℕ) → get_or bs i 0 ≡ 0
unfolding value
bytes_of_0 [] e i = refl
bytes_of_0 (b ∷ bs) e zero = omega arith
bytes_of_0 (b ∷ bs) e (suc i) = bytes_of_0 bs (omega arith) i

value_of_zeros : (bs : List ℕ) → ((i : ℕ) → get_or bs i 0 ≡ 0) → value bs ≡ 0
unfolding value
value_of_zeros [] h = refl
value_of_zeros (b ∷ bs) h = omega (arith, h 0, value_of_zeros bs (λ i. h (suc i)))

pub word_zero : WordZero
unfolding WordZero
word_zero bs = (bytes_of_0 bs, value_of_zeros bs)

-- as a test
pub zeros_value : (bs : List ℕ) → zeros bs ≡ eqb (value bs) 0
unfolding WordZero
zeros_value bs =
    elim (eqb? (value bs) 0) [
      | inl h ↦ zeros_all bs (λ i _ _. (word_zero bs).0 h.1 i) ∙ sym h.0
      | inr h ↦ elim (either (zeros bs)) [ inl e ↦ absurd (h.1 ((word_zero bs).1 (zeros_at bs e))) | inr e ↦ e ∙ sym h.0 ]
    ]

-- in a table
pub field_zeros : (a n : ℕ) (bs : List ℕ) → (field a n bs ≡ 0) ⟺ Zeros a (a + n) bs
unfolding field
field_zeros a n bs =
    let ws = take n (drop a bs) in (
      λ e. (taken_zeros a n bs).0 (zeros_value ws ∙ eq-eqb (value ws) 0 e),
      λ z. eqb-true (value ws) 0 (sym (zeros_value ws) ∙ (taken_zeros a n bs).1 z),
    )
