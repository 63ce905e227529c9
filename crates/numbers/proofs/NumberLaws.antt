-- Numbers in bytes, as the code reads and writes them.
use mathlib.Core.Path.{◌≡◌, refl, sym, ap, ap₂, ◌∙◌}
use mathlib.Core.List.{List, [], ◌∷◌, ◌++◌}
use Prim.Native.Nat.{ℕ, zero, suc, ◌+◌, ◌*◌, ◌-◌, ◌/◌, ◌%◌, ◌≤◌, ◌<◌}
use native.Mathlib.Omega.{arith}
use native.Mathlib.Numerals.{add-one}
use lib.ListN.{length, get_or, set, take, drop, length-drop}
use lib.Seq.{drop-cons, sets, take_all, get_or-drop}
use Rattle.std.proofs.lemmas.List.{length-take-le}
use Rattle.std.proofs.lemmas.List.Edits.{sets-eq}
use Rattle.std.proofs.lemmas.Slice.{put_mid-paste}
use Rattle.std.specs.Int.{w32, to_le_bytes, from_le_bytes}
use borrow.Rule.Slice.PartMut.{put_mid}
use Rattle.rules.specs.Table.{low, value, field}

-- a field of n + 1 bytes is its first byte and the field behind it
pub field_suc : (bs : List ℕ) (a n : ℕ) → a < length bs → field a (suc n) bs ≡ get_or bs a 0 + 256 * field (a + 1) n bs
unfolding field value
field_suc bs a n h = rw (add-one, drop-cons bs a 0)

pub field_zero : (bs : List ℕ) (a : ℕ) → field a 0 bs ≡ 0
unfolding field value
field_zero bs a = refl

pub field1 : (bs : List ℕ) (a : ℕ) → a + 1 ≤ length bs → field a 1 bs ≡ get_or bs a 0
field1 bs a h = omega (arith, field_suc bs a 0 (omega arith), field_zero bs (a + 1))

pub field2 : (bs : List ℕ) (a : ℕ) → a + 2 ≤ length bs → field a 2 bs ≡ get_or bs a 0 + 256 * get_or bs (a + 1) 0
field2 bs a h =
    omega (arith, field_suc bs a 1 (omega arith), field_suc bs (a + 1) 0 (omega arith), field_zero bs (a + 1 + 1))

-- four bytes, and whatever field follows them
pub field_four : (bs : List ℕ) (a n : ℕ) → a + 4 ≤ length bs →
    field a (4 + n) bs ≡ get_or bs a 0 + 256 * (get_or bs (a + 1) 0 + 256 * (get_or bs (a + 2) 0 + 256 * (get_or bs (a + 3) 0 + 256 * field (a + 4) n bs)))
field_four bs a n h =
    let e : 4 + n ≡ suc (suc (suc (suc n))) = omega arith in
    let p : a + 1 + 1 ≡ a + 2 = omega arith in
    let q : a + 2 + 1 ≡ a + 3 = omega arith in
    let r : a + 3 + 1 ≡ a + 4 = omega arith in
    let h₀ : a < length bs = omega arith in
    let h₁ : a + 1 < length bs = omega arith in
    let h₂ : a + 2 < length bs = omega arith in
    let h₃ : a + 3 < length bs = omega arith in
    rw (
      e,
      field_suc bs a (suc (suc (suc n))),
      field_suc bs (a + 1) (suc (suc n)),
      p,
      field_suc bs (a + 2) (suc n),
      q,
      field_suc bs (a + 3) n,
      r,
    )

pub field4 : (bs : List ℕ) (a : ℕ) → a + 4 ≤ length bs →
    field a 4 bs ≡ get_or bs a 0 + 256 * (get_or bs (a + 1) 0 + 256 * (get_or bs (a + 2) 0 + 256 * get_or bs (a + 3) 0))
field4 bs a h = omega (arith, field_four bs a 0 h, field_zero bs (a + 4))

pub field8 : (bs : List ℕ) (a : ℕ) → a + 8 ≤ length bs → field a 8 bs ≡ field a 4 bs + 4294967296 * field (a + 4) 4 bs
field8 bs a h = omega (arith, field_four bs a 4 (omega arith), field4 bs a (omega arith))

-- the first bytes of a word, the others 0, are a number
word : (xs : List ℕ) → length xs ≤ 4 → from_le_bytes w32 (xs ++ drop (length xs) (0 ∷ 0 ∷ 0 ∷ 0 ∷ [])) ≡ value xs
unfolding value
word [] h = refl
word (a ∷ []) h = omega arith
word (a ∷ b ∷ []) h = omega arith
word (a ∷ b ∷ c ∷ []) h = omega arith
word (a ∷ b ∷ c ∷ d ∷ []) h = omega arith
word (a ∷ b ∷ c ∷ d ∷ e ∷ xs) h = absurd (omega (arith, h))

length_low : (n v : ℕ) → length (low n v) ≡ n
unfolding low
length_low zero v = refl
length_low (suc n) v = ap suc (length_low n (v / 256))

low_firsts : (n v : ℕ) → n ≤ 4 → take n (v % 256 ∷ v / 256 % 256 ∷ v / 256 / 256 % 256 ∷ v / 256 / 256 / 256 % 256 ∷ []) ≡ low n v
unfolding low
low_firsts zero v h = refl
low_firsts (suc zero) v h = refl
low_firsts (suc (suc zero)) v h = refl
low_firsts (suc (suc (suc zero))) v h = refl
low_firsts (suc (suc (suc (suc zero)))) v h = refl
low_firsts (suc (suc (suc (suc (suc n))))) v h = absurd (omega (arith, h))

low_bytes : (n v : ℕ) → n ≤ 4 → take n (to_le_bytes w32 v) ≡ low n v
low_bytes n v h =
    let p : v / 65536 ≡ v / 256 / 256 = omega arith in
    let q : v / 16777216 ≡ v / 256 / 256 / 256 = omega arith in
    rw (p, q) (low_firsts n v h)

pub word_read : (bs xs : List ℕ) (a n m k : ℕ) → n ≤ 4 → a + n ≤ length bs → m ≡ n → xs ≡ take m (drop a bs) →
    k ≡ from_le_bytes w32 (xs ++ drop n (0 ∷ 0 ∷ 0 ∷ 0 ∷ [])) → k ≡ field a n bs
unfolding field
word_read bs xs a n m k s h e d f =
    let p : xs ≡ take n (drop a bs) = d ∙ ap (λ (j : ℕ). take j (drop a bs)) e in
    let l : length xs ≡ n = ap length p ∙ length-take-le n (drop a bs) (omega (arith, h, length-drop a bs)) in
    f ∙ ap (λ (j : ℕ). from_le_bytes w32 (xs ++ drop j (0 ∷ 0 ∷ 0 ∷ 0 ∷ []))) (sym l) ∙ word xs (omega (arith, l, s)) ∙ ap value p

-- eight bytes, one by one
pub eight_bytes : (bs : List ℕ) (a : ℕ) → a + 8 ≤ length bs →
    field a 8 bs ≡ get_or bs a 0 + get_or bs (a + 1) 0 * 256 + get_or bs (a + 2) 0 * 65536 + get_or bs (a + 3) 0 * 16777216 + get_or bs (a + 4) 0 * 4294967296
    + get_or bs (a + 5) 0 * 1099511627776 + get_or bs (a + 6) 0 * 281474976710656 + get_or bs (a + 7) 0 * 72057594037927936
unfolding field
eight_bytes bs a h =
    let l : length (drop a bs) ≡ length bs - a = length-drop a bs in
    let p : get_or (drop a bs) 0 0 ≡ get_or bs a 0 = get_or-drop a bs 0 0 ∙ ap (λ (i : ℕ). get_or bs i 0) (omega arith) in
    omega (
      arith,
      p,
      get_or-drop a bs 1 0,
      get_or-drop a bs 2 0,
      get_or-drop a bs 3 0,
      get_or-drop a bs 4 0,
      get_or-drop a bs 5 0,
      get_or-drop a bs 6 0,
      get_or-drop a bs 7 0,
      field_suc (drop a bs) 0 7 (omega (arith, h, l)),
      field_suc (drop a bs) 1 6 (omega (arith, h, l)),
      field_suc (drop a bs) 2 5 (omega (arith, h, l)),
      field_suc (drop a bs) 3 4 (omega (arith, h, l)),
      field_suc (drop a bs) 4 3 (omega (arith, h, l)),
      field_suc (drop a bs) 5 2 (omega (arith, h, l)),
      field_suc (drop a bs) 6 1 (omega (arith, h, l)),
      field_suc (drop a bs) 7 0 (omega (arith, h, l)),
      field_zero (drop a bs) 8,
    )

-- and back
pub low_written : (bs xs ys : List ℕ) (a n k v : ℕ) → n ≤ 4 → a + n ≤ length bs → k ≡ n → ys ≡ to_le_bytes w32 v → xs ≡ take n ys →
    put_mid a k bs xs ≡ sets bs a (low n v)
low_written bs xs ys a n k v s h e d f =
    let p : xs ≡ low n v = f ∙ ap (take n) d ∙ low_bytes n v s in
    let l = length_low n v in
    put_mid-paste a k bs xs (low n v) n p (sym e) (sym l)
    ∙ ap₂ (λ (zs : List ℕ) (j : ℕ). take a bs ++ zs ++ drop (a + j) bs) (take_all n (low n v) (omega (arith, l))) (sym l)
    ∙ sym (sets-eq (low n v) bs a (omega (arith, h, l)))

-- the lowest bytes of a number, stored one after another
pub sets1 : (bs : List ℕ) (a v : ℕ) → set bs a (v % 256) ≡ sets bs a (low 1 v)
unfolding low
sets1 bs a v = refl

pub sets2 : (bs : List ℕ) (a v : ℕ) → set (set bs a (v % 256)) (a + 1) (v / 256 % 256) ≡ sets bs a (low 2 v)
unfolding low
sets2 bs a v = rw add-one

pub sets4 : (bs : List ℕ) (a v : ℕ) →
    set (set (set (set bs a (v % 256)) (a + 1) (v / 256 % 256)) (a + 2) (v / 256 / 256 % 256)) (a + 3) (v / 256 / 256 / 256 % 256)
    ≡ sets bs a (low 4 v)
unfolding low
sets4 bs a v =
    let p : a + 2 ≡ suc (suc a) = omega arith in
    let q : a + 3 ≡ suc (suc (suc a)) = omega arith in
    rw (add-one, p, q)
