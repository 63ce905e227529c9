-- The judge of a row, as the code reads and tests it.
use Rattle.std.proofs.Common.{◌≡◌, ℕ, suc, ◌+◌, ◌-◌, ◌%◌, ◌^◌, ◌<◌, ◌≤◌, Bool, true, false, ◌&&◌, ◌||◌, eqb, ltb, leb, List, length, get_or, take, drop, sym, refl, ap, ◌∙◌, ap₂, inl, inr, add-one, arith, length-drop, get_or-drop, take_all, drop-cons, get_or-take, ltb-true, le-ltb, lt-ltb, le-leb}
use lib.Bits.{bit_or, or_add_and, and_le_l, and_le_r, or_lt, or_mod}
use borrow.Author.Tests.{lt-leb}
use Rattle.rules.specs.Limits.{row_size, most_last, most_weight, most_class}
use Rattle.rules.specs.Rows.{row}
use Rattle.rules.specs.Table.{field, every}
use Rattle.rules.specs.Conditions.{Bytes}
use Rattle.theory.specs.Tests.{ltb?, leb?}
use Rattle.theory.specs.Judge.{zeros, row_judged}
use Rattle.theory.specs.Fields.{zeros_at}
use Rattle.numbers.proofs.NumberLaws.{field_suc, field1}
use Rattle.seen.specs.declared.Seen.{Seen}
use Rattle.seen.specs.Fair.{fair}
use Rattle.row.specs.Judge.{Differs, Sees, kind_good}
use Rattle.zeros.proofs.ZeroLaws.{word_in_two, zeros_rest}

-- eight bytes are below 1,024 as a number when the second is at most 3 and those behind it are zero
pub word_small : (xs : List ℕ) (a : ℕ) → a + 1 < length xs → get_or xs a 0 < 256 →
    ltb (field a 8 xs) 1024 ≡ leb (get_or xs (a + 1) 0) most_class && zeros (take 6 (drop (a + 2) xs))
unfolding field
word_small xs a h b =
    let e : a + 2 ≡ suc (suc a) = omega arith in
    let j : a < length xs = omega (arith, h) in
    let k : suc a < length xs = omega (arith, h) in
    rw (add-one, e, drop-cons xs a 0, drop-cons xs (suc a) 0) (word_in_two (get_or xs a 0) (get_or xs (suc a) 0) (take 6 (drop (suc (suc a)) xs)) b)

-- two such words that overlap: the first makes sure of the second's first bytes
overlap : (l q r : Bool) (y : ℕ) → (q ≡ true → y ≡ 0) → (l && q) && (leb y most_class && r) ≡ l && (q && r)
overlap false q r y h = refl
overlap true false r y h = refl
overlap true true r y h = rw (h refl)

-- CLASS AND ZEROS of a row
pub row_end : (xs : List ℕ) → Bytes xs → length xs ≡ row_size →
    ltb (field 10 8 xs) 1024 && ltb (field 16 8 xs) 1024 ≡ leb (field 11 1 xs) most_class && zeros (drop 12 xs)
row_end xs b h =
    let o : length (drop 18 xs) ≤ 6 = omega (arith, length-drop 18 xs) in
    ap₂ (λ (p : Bool) (q : Bool). p && q) (word_small xs 10 (omega arith) (b 10))
    (word_small xs 16 (omega arith) (b 16) ∙ ap (λ (ys : List ℕ). leb (get_or xs 17 0) most_class && zeros ys) (take_all 6 (drop 18 xs) o))
    ∙ overlap (leb (get_or xs 11 0) most_class) (zeros (take 6 (drop 12 xs))) (zeros (drop 18 xs)) (get_or xs 17 0) (λ e. at e 5 (omega arith))
    ∙ ap₂ (λ (n : ℕ) (t : Bool). leb n most_class && t) (sym (field1 xs 11 (omega arith))) (sym (zeros_rest xs 12 6))
  where
    at : zeros (take 6 (drop 12 xs)) ≡ true → (i : ℕ) → i < 6 → get_or xs (12 + i) 0 ≡ 0
    at e i h = sym (get_or-take 6 (drop 12 xs) i 0 h ∙ get_or-drop 12 xs i 0) ∙ zeros_at (take 6 (drop 12 xs)) e i

-- OR-ED NUMBERS are within a power of two where each is
or_least : (a b : ℕ) → (a ≤ bit_or a b) × (b ≤ bit_or a b)
or_least a b = (omega (arith, or_add_and a b, and_le_r a b), omega (arith, or_add_and a b, and_le_l a b))

or_below : (k a b : ℕ) → ltb (bit_or a b) (2 ^ k) ≡ ltb a (2 ^ k) && ltb b (2 ^ k)
or_below k a b =
    let l = or_least a b in
    elim (ltb? a (2 ^ k)) [
      | inl h ↦ elim (ltb? b (2 ^ k)) [
        | inl g ↦ rw (h.0, g.0) (lt-ltb (bit_or a b) (2 ^ k) (or_lt k a b h.1 g.1))
        | inr g ↦ rw (h.0, g.0) (le-ltb (bit_or a b) (2 ^ k) (omega (arith, l.1, g.1)))
      ]
      | inr h ↦ rw h.0 (le-ltb (bit_or a b) (2 ^ k) (omega (arith, l.0, h.1)))
    ]

-- and their first bytes are 0 where its first byte is
or_first : (a b : ℕ) → bit_or a b % 256 ≡ 0 → (a % 256 ≡ 0) × (b % 256 ≡ 0)
or_first a b e =
    let l = or_least (a % 256) (b % 256) in
    let z : bit_or (a % 256) (b % 256) ≡ 0 = sym (or_mod a b 8) ∙ e in (omega (arith, l.0, z), omega (arith, l.1, z))

-- THE KIND of a row is 0 where its word's first byte is
frame_first : (xs : List ℕ) → Bytes xs → length xs ≡ row_size → field 10 8 xs % 256 ≡ 0 → field 10 1 xs ≡ 0
frame_first xs b h e = omega (arith, field_suc xs 10 7 (omega arith), field1 xs 10 (omega arith), b 10, e)

-- a weight less 1 in 32 bits is below the most where the weight is within its bounds
weight_less : (w x : ℕ) → Differs w 1 x → ltb x most_weight ≡ leb 1 w && leb w most_weight
weight_less w x d =
    elim (leb? 1 w) [
      | inl h ↦ elim (leb? w most_weight) [
        | inl k ↦ rw (h.0, k.0) (lt-ltb x most_weight (omega (arith, d.up h.1, h.1, k.1)))
        | inr k ↦ rw (h.0, k.0) (le-ltb x most_weight (omega (arith, d.up h.1, h.1, k.1)))
      ]
      | inr h ↦ rw h.0 (le-ltb x most_weight (omega (arith, d.down h.1)))
    ]

-- ONE ROW SEEN, as the code reads it
pair : (a b c d : Bool) → (a && b) && (c && d) ≡ (a && c) && (b && d)
pair false b c d = refl
pair true false false d = refl
pair true false true d = refl
pair true true c d = refl

pub row_seen : (slot : ℕ) (b : Seen) (xs : List ℕ) (x : Seen) (p q d w y : ℕ) → Bytes xs → length xs ≡ row_size → x.ticket.0 ≡ field 0 4 xs →
    d ≡ field 4 2 xs → Differs d slot x.ahead → w ≡ field 6 4 xs → Differs w 1 y → x.weights ≡ bit_or b.weights y →
    p ≡ field 10 8 xs → q ≡ field 16 8 xs → x.plain ≡ bit_or b.plain (bit_or p q) → Sees slot b xs x
row_seen slot b xs x p q d w y bytes l ek ed da ew dy ex ep eq ez =
    record {
      ticket = ek;
      due = rw (← ed) da;
      rest =
          ap₂ (λ (m n : Bool). m && n) (ap (λ (n : ℕ). ltb n most_weight) ex ∙ or_below 24 b.weights y)
          (ap (λ (n : ℕ). ltb n 1024) ez ∙ or_below 10 b.plain (bit_or p q)
          ∙ ap (λ (n : Bool). ltb b.plain 1024 && n) (or_below 10 p q ∙ ap₂ (λ (m n : ℕ). ltb m 1024 && ltb n 1024) ep eq ∙ row_end xs bytes l))
          ∙ pair (ltb b.weights most_weight) (ltb y most_weight) (ltb b.plain 1024) (leb (field 11 1 xs) most_class && zeros (drop 12 xs))
          ∙ ap (λ (n : Bool). fair b && (n && (leb (field 11 1 xs) most_class && zeros (drop 12 xs))))
          (weight_less w y dy ∙ ap (λ (v : ℕ). leb 1 v && leb v most_weight) ew);
      frames = λ e.
          let f = or_first b.plain (bit_or p q) (ap (λ (n : ℕ). n % 256) (sym ez) ∙ e) in
          let g = or_first p q f.1 in (f.0, frame_first xs bytes l (ap (λ (n : ℕ). n % 256) (sym ep) ∙ g.0));
    }

-- a due slot is one that is left where it is at most so far ahead
pub in_time : (s l d a : ℕ) → s ≤ l → l ≤ most_last → Differs d s a → leb a (l - s) ≡ leb s d && leb d l
in_time s l d a h m k =
    elim (leb? s d) [
      | inl p ↦ elim (leb? d l) [
        | inl q ↦ rw (p.0, q.0) (le-leb a (l - s) (omega (arith, k.up p.1, p.1, q.1)))
        | inr q ↦ rw (p.0, q.0) (lt-leb a (l - s) (omega (arith, k.up p.1, p.1, q.1)))
      ]
      | inr p ↦ rw p.0 (lt-leb a (l - s) (omega (arith, k.down p.1, h, m)))
    ]

-- THE JUDGE of a row: tests asked at once, and tests asked of all rows
pub and_off : (x : Bool) → x && false ≡ false
and_off true = refl
and_off false = refl

pub and_on : (x : Bool) → x && true ≡ x
and_on true = refl
and_on false = refl

grouped : (a b c d e f g v w k m o z r : Bool) → (a ≡ true → b ≡ true → c ≡ true) →
    (c && (f && g)) && (((a && (b && (d && (e && (v && (w && (k && (m && (o && true))))))))) && z) && r)
    ≡ (a && (d && e)) && ((b && ((f && ((v && w) && (m && z))) && (g && (k && o)))) && r)
grouped false b c d e f g v w k m o z r h = and_off (c && (f && g))
grouped true false c d e f g v w k m o z r h = and_off (c && (f && g)) ∙ sym (and_off (d && e))
grouped true true c false e f g v w k m o z r h = and_off (c && (f && g))
grouped true true c true false f g v w k m o z r h = and_off (c && (f && g))
grouped true true c true true f g v w k m o z r h =
    ap (λ (n : Bool). (n && (f && g)) && (((v && (w && (k && (m && (o && true))))) && z) && r)) (h refl refl) ∙ same f g v w k m o z r
  where
    same : (f g v w k m o z r : Bool) →
        (f && g) && (((v && (w && (k && (m && (o && true))))) && z) && r) ≡ ((f && ((v && w) && (m && z))) && (g && (k && o))) && r
    same false g v w k m o z r = refl
    same true false v w k m o z r = sym (ap (λ (n : Bool). n && r) (and_off ((v && w) && (m && z))))
    same true true false w k m o z r = refl
    same true true true false k m o z r = refl
    same true true true true false m o z r = sym (ap (λ (n : Bool). n && r) (and_off (m && z)))
    same true true true true true false o z r = refl
    same true true true true true true false z r = sym (ap (λ (n : Bool). n && r) (and_off z))
    same true true true true true true true z r = sym (ap (λ (n : Bool). n && r) (and_on z))

-- good: whether the kinds of the rows before are
pub row_parts : (s l n : ℕ) (b : Seen) (good : Bool) (xs : List ℕ) (x : Seen) (r : Bool) → s ≤ l → l ≤ most_last → Sees s b xs x →
    (ltb b.ticket.0 n && (fair b && good)) && (row_judged s l n b.ticket.0 xs && r)
    ≡ (ltb b.ticket.0 x.ticket.0 && leb x.ahead (l - s)) && ((ltb x.ticket.0 n && (fair x && (good && kind_good xs))) && r)
unfolding row_judged every row kind_good
row_parts s l n b good xs x r h m k =
    let t = field 0 4 xs in
    let d = field 4 2 xs in
    let w = field 6 4 xs in
    let y = k.ticket in
    grouped (ltb b.ticket.0 t) (ltb t n) (ltb b.ticket.0 n) (leb s d) (leb d l) (fair b) good (leb 1 w) (leb w most_weight)
    (leb (field 10 1 xs) 1) (leb (field 11 1 xs) most_class) (eqb (field 10 1 xs) 0 || eqb (field 11 1 xs) most_class) (zeros (drop 12 xs)) r
    (λ p q. lt-ltb b.ticket.0 n (omega (arith, ltb-true b.ticket.0 t p, ltb-true t n q)))
    ∙ ap₂ (λ (p q : Bool). (ltb b.ticket.0 t && p) && ((ltb t n && (q && (good && kind_good xs))) && r)) (sym (in_time s l d x.ahead h m k.due)) (sym k.rest)
    ∙ ap (λ (v : ℕ). (ltb b.ticket.0 v && leb x.ahead (l - s)) && ((ltb v n && (fair x && (good && kind_good xs))) && r)) (sym y)

-- THE KIND of a frame is good
pub frame_good : (xs : List ℕ) → field 10 1 xs ≡ 0 → kind_good xs ≡ true
unfolding kind_good
frame_good xs e = rw e

-- as the code reads it
pub kind_read : (xs : List ℕ) (x : Bool) → length xs ≡ row_size →
    x ≡ leb (get_or xs 10 0) 1 && (eqb (get_or xs 10 0) 0 || eqb (get_or xs 11 0) most_class) → x ≡ kind_good xs
unfolding kind_good
kind_read xs x h e =
    let j : 10 + 1 ≤ length xs = omega (arith, h) in
    let k : 11 + 1 ≤ length xs = omega (arith, h) in
    rw (field1 xs 10, field1 xs 11) e
