-- Bytes that are zero, as numbers.
use mathlib.Core.Path.{◌≡◌, refl, sym, ap, ◌∙◌}
use mathlib.Core.Logic.{inl, inr, ◌≢◌}
use mathlib.Core.Bool.{Bool, true, false, ◌&&◌, false≢true}
use mathlib.Core.List.{List, [], ◌∷◌, ◌++◌}
use Prim.Native.Nat.{ℕ, ◌+◌, ◌*◌, ◌≤◌, ◌<◌}
use native.Mathlib.Omega.{arith}
use lib.Dec.{ltb, leb, eqb}
use borrow.Author.Tests.{lt-ltb, le-ltb}
use lib.ListN.{length, take, drop, take-append-drop, drop_of_length-le}
use lib.Seq.{take-add, drop-drop}
use Rattle.rules.specs.Table.{value, field}
use Rattle.rules.specs.Conditions.{◌⟺◌}
use Rattle.theory.specs.Tests.{either, leb?, eqb?}
use Rattle.theory.specs.Judge.{zeros}
use Rattle.theory.specs.Fields.{Zeros, taken_zeros, zeros_value}
use Rattle.zeros.specs.Zeros.{zero_part}

-- both of three tests, grouped either way
pub and_assoc : (a b c : Bool) → (a && b) && c ≡ a && (b && c)
and_assoc true b c = refl
and_assoc false b c = refl

pub zeros_append : (xs ys : List ℕ) → zeros (xs ++ ys) ≡ zeros xs && zeros ys
unfolding zeros
zeros_append [] ys = refl
zeros_append (x ∷ xs) ys =
    ap (λ (t : Bool). eqb x 0 && t) (zeros_append xs ys) ∙ sym (and_assoc (eqb x 0) (zeros xs) (zeros ys))

pub zeros_by_number : (bs : List ℕ) (a n : ℕ) → zeros (take n (drop a bs)) ≡ eqb (field a n bs) 0
unfolding field
zeros_by_number bs a n = zeros_value (take n (drop a bs))

-- the first m of m + n bytes, as a number, and the rest
pub zeros_split : (bs : List ℕ) (a m n : ℕ) → zeros (take (m + n) (drop a bs)) ≡ eqb (field a m bs) 0 && zeros (take n (drop (a + m) bs))
zeros_split bs a m n =
    ap zeros (take-add m n (drop a bs))
    ∙ zeros_append (take m (drop a bs)) (take n (drop m (drop a bs)))
    ∙ rw (zeros_by_number bs a m, drop-drop m a bs)

-- A WORD that is 0 exactly when its eight bytes are
abbrev pub Word : (at word : ℕ) → List ℕ → Type 0
Word a w bs = (w ≡ 0) ⟺ Zeros a (a + 8) bs

-- A PART is zero where all its bytes are
part_zeros : (a n : ℕ) (bs : List ℕ) → (zero_part a n bs ≡ true) ⟺ Zeros a (a + n) bs
unfolding zero_part
part_zeros a n bs = taken_zeros a n bs

-- A ROW is not zero where a word in it is not; by three words without a gap it is where the last is
pub row_foul : (bs : List ℕ) (a b w : ℕ) → Word b w bs → w ≢ 0 → a ≤ b → b + 8 ≤ a + 24 → false ≡ zero_part a 24 bs
row_foul bs a b w e f h k =
    elim (either (zero_part a 24 bs)) [
      | inl z ↦ absurd (f (e.1 (λ i p q. (part_zeros a 24 bs).0 z i (omega arith) (omega arith))))
      | inr z ↦ sym z
    ]

pub row_last : (bs : List ℕ) (a b c u v w : ℕ) → Word a u bs → Word b v bs → Word c w bs → u ≡ 0 → v ≡ 0 → a ≤ c → b ≤ a + 8 → c ≤ b + 8 →
    c + 8 ≡ a + 24 → eqb w 0 ≡ zero_part a 24 bs
row_last bs a b c u v w d e f p q k l m n =
    elim (eqb? w 0) [
      | inl h ↦ h.0 ∙ sym ((part_zeros a 24 bs).1 (all h.1))
      | inr h ↦ h.0 ∙ row_foul bs a c w f h.1 k (omega arith)
    ]
  where
    all : w ≡ 0 → Zeros a (a + 24) bs
    all r i g h =
        elim (leb? (a + 8) i) [
          | inr x ↦ d.0 p i g x.1
          | inl x ↦ elim (leb? (b + 8) i) [ inr y ↦ e.0 q i (omega (arith, x.1)) y.1 | inl y ↦ f.0 r i (omega (arith, y.1)) (omega arith) ]
        ]

-- FOUR ROWS are not zero where one of them is not
pub four_foul : (bs : List ℕ) (a b : ℕ) (x : Bool) → x ≡ zero_part b 24 bs → x ≡ false → a ≤ b → b + 24 ≤ a + 96 → false ≡ zero_part a 96 bs
four_foul bs a b x e f h k =
    elim (either (zero_part a 96 bs)) [
      | inl z ↦ absurd (false≢true (sym f ∙ e ∙ (part_zeros b 24 bs).1 (λ i p q. (part_zeros a 96 bs).0 z i (omega arith) (omega arith))))
      | inr z ↦ sym z
    ]

-- and zero as far as they are looked at, one by one
pub rows_none : (bs : List ℕ) (a : ℕ) → zero_part a 0 bs ≡ true
rows_none bs a = (part_zeros a 0 bs).1 (λ i p q. absurd (omega (arith, p, q)))

pub rows_more : (bs : List ℕ) (a n b : ℕ) (x : Bool) → x ≡ zero_part b 24 bs → x ≡ true → b ≡ a + n → zero_part a n bs ≡ true → zero_part a (n + 24) bs ≡ true
rows_more bs a n b x e p d z = (part_zeros a (n + 24) bs).1 all
  where
    all : Zeros a (a + (n + 24)) bs
    all i g h =
        elim (leb? (a + n) i) [
          | inr u ↦ (part_zeros a n bs).0 z i g u.1
          | inl u ↦ (part_zeros b 24 bs).0 (sym e ∙ p) i (omega (arith, u.1, d)) (omega (arith, h, d))
        ]

-- the bytes from a place on: so many, and the rest
pub zeros_rest : (bs : List ℕ) (a n : ℕ) → zeros (drop a bs) ≡ zeros (take n (drop a bs)) && zeros (drop (a + n) bs)
zeros_rest bs a n =
    ap zeros (sym (take-append-drop n (drop a bs)))
    ∙ zeros_append (take n (drop a bs)) (drop n (drop a bs))
    ∙ rw (drop-drop n a bs)

-- what was said of so many bytes goes in front of the rest
pub zeros_more : (bs : List ℕ) (f a n : ℕ) (x v : Bool) → x ≡ zero_part a n bs → x ≡ v →
    zeros (drop f bs) ≡ zeros (drop a bs) → zeros (drop f bs) ≡ v && zeros (drop (a + n) bs)
unfolding zero_part
zeros_more bs f a n x v e k inv =
    inv ∙ zeros_rest bs a n ∙ ap (λ (t : Bool). t && zeros (drop (a + n) bs)) (sym e ∙ k)

pub zeros_none : (bs : List ℕ) (a : ℕ) → length bs ≤ a → zeros (drop a bs) ≡ true
unfolding zeros
zeros_none bs a h = rw (drop_of_length-le bs h)

-- A WORD IS BELOW 1,024 when its second byte is at most 3 and those behind it are zero
pub word_in_two : (b c : ℕ) (bs : List ℕ) → b < 256 → ltb (value (b ∷ c ∷ bs)) 1024 ≡ leb c 3 && zeros bs
unfolding value
word_in_two b c bs h = small b c (value bs) h ∙ ap (λ (t : Bool). leb c 3 && t) (sym (zeros_value bs))
  where
    small : (b c v : ℕ) → b < 256 → ltb (b + 256 * (c + 256 * v)) 1024 ≡ leb c 3 && eqb v 0
    small b c v h =
        elim (leb? c 3) [
          | inl k ↦ rw k.0
              (elim (eqb? v 0) [
                | inl g ↦ lt-ltb (b + 256 * (c + 256 * v)) 1024 (omega (arith, h, k.1, g.1)) ∙ sym g.0
                | inr g ↦ le-ltb (b + 256 * (c + 256 * v)) 1024 (omega (arith, g.1)) ∙ sym g.0
              ])
          | inr k ↦ rw k.0 (le-ltb (b + 256 * (c + 256 * v)) 1024 (omega (arith, k.1)))
        ]
