-- The forms written out line by line: each line's text, what can stand in it, the reader's tests, and the payload's place.
use mathlib.Core.Path.{◌≡◌, refl, sym}
use mathlib.Core.Logic.{◌⊎◌, inl, inr}
use mathlib.Core.Bool.{Bool, true, false, ◌&&◌, cond}
use mathlib.Core.List.{List, [], ◌∷◌, ◌++◌}
use Prim.Native.Nat.{ℕ, zero, suc, ◌+◌, ◌-◌, ◌%◌, ◌^◌}
use native.Mathlib.Omega.{arith}
use lib.Dec.{ltb, leb, eqb, eqb-suc-zero}
use lib.ListN.{length}
use borrow.Author.Tests.{leb-true, leb-false, eqb-true, eqb-false, le-leb, lt-leb, eq-eqb, ne_eqb}
use Rattle.rules.specs.Limits.{short_digits, slot_digits, wide_digits, most_payload}
use Rattle.rules.specs.Lines.{digits, all_digits, count_digits, numerals, fit_digits, number_at, numbers_at}
use Rattle.rules.specs.Lines.{forms, found, front_size, payload_fits, has_length, open_line, take_line, send_line, seal_line, class_line, line_number, values_of}
use Rattle.rules.specs.Lines.{front, text, stands, line_end, Reading, command, broken, command_of, read_digits, payload_at, class_payload_at, Place, place_of}

-- TEXT
pub open_text : (l : ℕ) (ps : List ℕ) → text (open_line l) ps ≡ digits 2 0 ++ digits slot_digits l ++ ps ++ (line_end ∷ [])
unfolding digits numerals forms found line_number values_of front text
open_text l ps = refl

pub take_text : (d w : ℕ) (ps : List ℕ) →
    text (take_line d w) ps ≡ digits 2 1 ++ digits slot_digits d ++ digits wide_digits w ++ ps ++ (line_end ∷ [])
unfolding digits numerals forms found line_number values_of front text
take_text d w ps = refl

pub send_text : (ps : List ℕ) → text send_line ps ≡ digits 2 2 ++ ps ++ (line_end ∷ [])
unfolding digits numerals forms found line_number values_of front text
send_text ps = refl

pub seal_text : (ps : List ℕ) → text seal_line ps ≡ digits 2 3 ++ ps ++ (line_end ∷ [])
unfolding digits numerals forms found line_number values_of front text
seal_text ps = refl

pub class_text : (d w c : ℕ) (ps : List ℕ) →
    text (class_line d w c) ps
    ≡ digits 2 4 ++ digits slot_digits d ++ digits wide_digits w ++ digits short_digits c ++ ps ++ (line_end ∷ [])
unfolding digits numerals forms found line_number values_of front text
class_text d w c ps = refl

-- WHAT CAN STAND
true_last : (a : Bool) → a && true ≡ a
true_last true = refl
true_last false = refl

false_last : (a : Bool) → a && false ≡ false
false_last true = refl
false_last false = refl

no_payload : (ps : List ℕ) → all_digits ps && eqb (length ps) 0 ≡ eqb (length ps) 0
unfolding all_digits
no_payload [] = refl
no_payload (p ∷ ps) = rw (eqb-suc-zero (length ps)) (false_last (all_digits (p ∷ ps)))

pub open_stands : (l : ℕ) (ps : List ℕ) → stands (open_line l) ps ≡ ltb l (16 ^ slot_digits) && eqb (length ps) 0
unfolding fit_digits forms found payload_fits line_number values_of stands
open_stands l ps = rw (true_last (ltb l (16 ^ slot_digits)), no_payload ps)

pub take_stands : (d w : ℕ) (ps : List ℕ) →
    stands (take_line d w) ps
    ≡ (ltb d (16 ^ slot_digits) && ltb w (16 ^ wide_digits)) && (all_digits ps && (eqb (length ps % 2) 0 && leb (length ps) most_payload))
unfolding fit_digits forms found payload_fits line_number values_of stands
take_stands d w ps = rw (true_last (ltb w (16 ^ wide_digits)))

pub send_stands : (ps : List ℕ) → stands send_line ps ≡ eqb (length ps) 0
unfolding fit_digits forms found payload_fits line_number values_of stands
send_stands ps = no_payload ps

pub seal_stands : (ps : List ℕ) → stands seal_line ps ≡ eqb (length ps) 0
unfolding fit_digits forms found payload_fits line_number values_of stands
seal_stands ps = no_payload ps

pub class_stands : (d w c : ℕ) (ps : List ℕ) →
    stands (class_line d w c) ps
    ≡ (ltb d (16 ^ slot_digits) && (ltb w (16 ^ wide_digits) && ltb c (16 ^ short_digits)))
    && (all_digits ps && (eqb (length ps % 2) 0 && leb (length ps) most_payload))
unfolding fit_digits forms found payload_fits line_number values_of stands
class_stands d w c ps = rw (true_last (ltb c (16 ^ short_digits)))

-- THE READER'S TESTS: a line of a form without payload has just so many digits, 01 and 04 that many or up to 48 more, an even number
either : (t : Bool) → (t ≡ true) ⊎ (t ≡ false)
either true = inl refl
either false = inr refl

just : (m n : ℕ) → leb m n && eqb (n - m) 0 ≡ eqb n m
just m n = elim (either (eqb n m)) [
  | inl e ↦ let h = eqb-true n m e in rw (e, le-leb m n (omega arith), eq-eqb (n - m) 0 (omega arith))
  | inr e ↦ elim (either (leb m n)) [
    | inl l ↦ rw (e, l, ne_eqb (n - m) 0 (λ z. eqb-false n m e (omega (arith, leb-true m n l))))
    | inr l ↦ rw (e, l)
  ]
]

open_long : (n : ℕ) → has_length (found 0 forms) n ≡ eqb n 6
unfolding forms found count_digits front_size payload_fits has_length
open_long n = just 6 n

send_long : (n : ℕ) → has_length (found 2 forms) n ≡ eqb n 2
unfolding forms found count_digits front_size payload_fits has_length
send_long n = just 2 n

seal_long : (n : ℕ) → has_length (found 3 forms) n ≡ eqb n 2
unfolding forms found count_digits front_size payload_fits has_length
seal_long n = just 2 n

-- behind an even front of p digits
halves : (p n : ℕ) → p % 2 ≡ 0 → leb p n ≡ true → eqb ((n - p) % 2) 0 ≡ eqb (n % 2) 0
halves p n h l = elim (either (eqb (n % 2) 0)) [
  | inl e ↦ rw (e, eq-eqb ((n - p) % 2) 0 (omega (arith, h, leb-true p n l, eqb-true (n % 2) 0 e)))
  | inr e ↦ rw (e, ne_eqb ((n - p) % 2) 0 (λ z. eqb-false (n % 2) 0 e (omega (arith, h, leb-true p n l))))
]

most : (p n : ℕ) → leb p n ≡ true → leb (n - p) most_payload ≡ leb n (p + most_payload)
most p n l = elim (either (leb n (p + most_payload))) [
  | inl e ↦ rw (e, le-leb (n - p) most_payload (omega (arith, leb-true n (p + most_payload) e)))
  | inr e ↦ rw (e, lt-leb (n - p) most_payload (omega (arith, leb-false n (p + most_payload) e)))
]

swap : (a b : Bool) → a && b ≡ b && a
swap true b = sym (true_last b)
swap false b = sym (false_last b)

take_long : (n : ℕ) → has_length (found 1 forms) n ≡ (leb payload_at n && leb n (payload_at + most_payload)) && eqb (n % 2) 0
unfolding forms found count_digits front_size payload_fits has_length
take_long n = elim (either (leb payload_at n)) [
  | inl l ↦ rw (l, halves payload_at n refl l, most payload_at n l) (swap (eqb (n % 2) 0) (leb n (payload_at + most_payload)))
  | inr l ↦ rw l
]

class_long : (n : ℕ) → has_length (found 4 forms) n ≡ (leb class_payload_at n && leb n (class_payload_at + most_payload)) && eqb (n % 2) 0
unfolding forms found count_digits front_size payload_fits has_length
class_long n = elim (either (leb class_payload_at n)) [
  | inl l ↦ rw (l, halves class_payload_at n refl l, most class_payload_at n l) (swap (eqb (n % 2) 0) (leb n (class_payload_at + most_payload)))
  | inr l ↦ rw l
]

-- what the reader makes of a line of number k with n digits
module _ (ds : List ℕ) (n : ℕ) where
  abbrev made : ℕ → Reading
  made k = command_of k (numbers_at 2 (found k forms).widths ds)

  abbrev open_made : Reading
  open_made = command (open_line (number_at 2 slot_digits ds))

  abbrev take_made : Reading
  take_made = command (take_line (number_at 2 slot_digits ds) (number_at 6 wide_digits ds))

  abbrev class_made : Reading
  class_made = command (class_line (number_at 2 slot_digits ds) (number_at 6 wide_digits ds) (number_at 14 short_digits ds))

  abbrev take_fits : Bool
  take_fits = leb payload_at n && leb n (payload_at + most_payload)

  abbrev class_fits : Bool
  class_fits = leb class_payload_at n && leb n (class_payload_at + most_payload)

  abbrev ReadsAs : ℕ → Type 0
  ReadsAs k =
      cond (has_length (found k forms) n) (made k) broken
      ≡ cond (eqb n 6 && eqb k 0) open_made
      (cond (take_fits && (eqb (n % 2) 0 && eqb k 1)) take_made
      (cond (eqb n 2 && eqb k 2) (command send_line)
      (cond (eqb n 2 && eqb k 3) (command seal_line)
      (cond (class_fits && (eqb (n % 2) 0 && eqb k 4)) class_made broken))))

  opens : made 0 ≡ open_made
  unfolding forms found command_of numbers_at
  opens = refl

  takes : made 1 ≡ take_made
  unfolding forms found command_of numbers_at
  takes = refl

  sends : made 2 ≡ command send_line
  unfolding forms found command_of numbers_at
  sends = refl

  seals : made 3 ≡ command seal_line
  unfolding forms found command_of numbers_at
  seals = refl

  classes : made 4 ≡ class_made
  unfolding forms found command_of numbers_at
  classes = refl

  open_reads : ReadsAs 0
  open_reads =
      rw (open_long n, opens, true_last (eqb n 6), false_last (eqb (n % 2) 0), false_last (eqb n 2), false_last take_fits, false_last class_fits)

  take_reads : ReadsAs 1
  take_reads =
      rw (take_long n, takes, false_last (eqb n 6), true_last (eqb (n % 2) 0), false_last (eqb n 2), false_last (eqb (n % 2) 0), false_last class_fits)

  send_reads : ReadsAs 2
  send_reads =
      rw (
        send_long n,
        sends,
        false_last (eqb n 6),
        false_last (eqb (n % 2) 0),
        true_last (eqb n 2),
        false_last (eqb n 2),
        false_last take_fits,
        false_last class_fits,
      )

  seal_reads : ReadsAs 3
  seal_reads =
      rw (
        seal_long n,
        seals,
        false_last (eqb n 6),
        false_last (eqb (n % 2) 0),
        false_last (eqb n 2),
        true_last (eqb n 2),
        false_last take_fits,
        false_last class_fits,
      )

  class_reads : ReadsAs 4
  class_reads =
      rw (class_long n, classes, false_last (eqb n 6), false_last (eqb (n % 2) 0), false_last (eqb n 2), true_last (eqb (n % 2) 0), false_last take_fits)

  -- no other number is a line's
  other_reads : (k : ℕ) → ReadsAs (suc (suc (suc (suc (suc k)))))
  unfolding command_of
  other_reads k =
      let a : eqb (suc (suc (suc (suc (suc k))))) 0 ≡ false = ne_eqb (suc (suc (suc (suc (suc k))))) 0 (λ e. omega arith) in
      let b : eqb (suc (suc (suc (suc (suc k))))) 1 ≡ false = ne_eqb (suc (suc (suc (suc (suc k))))) 1 (λ e. omega arith) in
      let c : eqb (suc (suc (suc (suc (suc k))))) 2 ≡ false = ne_eqb (suc (suc (suc (suc (suc k))))) 2 (λ e. omega arith) in
      let d : eqb (suc (suc (suc (suc (suc k))))) 3 ≡ false = ne_eqb (suc (suc (suc (suc (suc k))))) 3 (λ e. omega arith) in
      let f : eqb (suc (suc (suc (suc (suc k))))) 4 ≡ false = ne_eqb (suc (suc (suc (suc (suc k))))) 4 (λ e. omega arith) in
      rw (a, b, c, d, f, false_last (eqb n 6), false_last (eqb (n % 2) 0), false_last (eqb n 2), false_last take_fits, false_last class_fits)
      (either_way (has_length (found (suc (suc (suc (suc (suc k))))) forms) n) broken)
    where
      either_way : (t : Bool) (r : Reading) → cond t r r ≡ r
      either_way true r = refl
      either_way false r = refl

  reads_as : (k : ℕ) → ReadsAs k
  reads_as zero = open_reads
  reads_as (suc zero) = take_reads
  reads_as (suc (suc zero)) = send_reads
  reads_as (suc (suc (suc zero))) = seal_reads
  reads_as (suc (suc (suc (suc zero)))) = class_reads
  reads_as (suc (suc (suc (suc (suc k))))) = other_reads k

pub read_shape : (ds : List ℕ) →
    read_digits ds
    ≡ cond (eqb (length ds) 6 && eqb (number_at 0 2 ds) 0) (command (open_line (number_at 2 slot_digits ds)))
    (cond ((leb payload_at (length ds) && leb (length ds) (payload_at + most_payload)) && (eqb (length ds % 2) 0 && eqb (number_at 0 2 ds) 1))
    (command (take_line (number_at 2 slot_digits ds) (number_at 6 wide_digits ds)))
    (cond (eqb (length ds) 2 && eqb (number_at 0 2 ds) 2) (command send_line)
    (cond (eqb (length ds) 2 && eqb (number_at 0 2 ds) 3) (command seal_line)
    (cond ((leb class_payload_at (length ds) && leb (length ds) (class_payload_at + most_payload))
    && (eqb (length ds % 2) 0 && eqb (number_at 0 2 ds) 4))
    (command (class_line (number_at 2 slot_digits ds) (number_at 6 wide_digits ds) (number_at 14 short_digits ds))) broken))))
unfolding read_digits
read_shape ds = reads_as ds (length ds) (number_at 0 2 ds)

-- THE PAYLOAD'S PLACE in a line of n bytes
abbrev at : (start end : ℕ) → Place
at a b = record { start = a; end = b }

pub open_place : (l n : ℕ) → place_of (command (open_line l)) n ≡ at 0 0
unfolding forms found line_number place_of
open_place l n = refl

pub take_place : (d w n : ℕ) → place_of (command (take_line d w)) n ≡ cond (ltb (suc payload_at) n) (at payload_at (n - 1)) (at 0 0)
unfolding forms found count_digits front_size line_number place_of
take_place d w n = refl

pub send_place : (n : ℕ) → place_of (command send_line) n ≡ at 0 0
unfolding forms found line_number place_of
send_place n = refl

pub seal_place : (n : ℕ) → place_of (command seal_line) n ≡ at 0 0
unfolding forms found line_number place_of
seal_place n = refl

pub class_place : (d w c n : ℕ) →
    place_of (command (class_line d w c)) n ≡ cond (ltb (suc class_payload_at) n) (at class_payload_at (n - 1)) (at 0 0)
unfolding forms found count_digits front_size line_number place_of
class_place d w c n = refl

pub broken_place : (n : ℕ) → place_of broken n ≡ at 0 0
unfolding place_of
broken_place n = refl
