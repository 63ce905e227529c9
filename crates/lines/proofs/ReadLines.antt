-- Lines read: what digits spell, and what a line that is begun by its number is read as.
use mathlib.Core.Path.{◌≡◌, refl, sym, ap, ◌∙◌}
use mathlib.Core.Logic.{inl, inr}
use mathlib.Core.Bool.{Bool, true, false, cond, false≢true}
use mathlib.Core.List.{List, [], ◌∷◌}
use Prim.Native.Nat.{ℕ, ◌+◌, ◌-◌, ◌≤◌, ◌<◌}
use native.Mathlib.Omega.{arith}
use lib.ListN.{length, get_or, take, drop, length-drop, take-append-drop}
use lib.Seq.{length-take-le, take-append-le, take-add, drop-append-le}
use borrow.Author.Tests.{le-leb, lt-leb}
use Rattle.rules.specs.Limits.{short_digits}
use Rattle.rules.specs.Lines.{number_from, all_digits, count_digits, number_at, numbers_at, form_numbered, front_size, payload_fits, has_length}
use Rattle.rules.specs.Lines.{line_end, Reading, broken, body, command_of, read_digits, read}
use Rattle.theory.specs.Tests.{either}
use Rattle.theory.specs.Digits.{all_digits_join, all_digits_part}
use Rattle.theory.specs.Lines.{from_long, body_end, read_ended}
use Rattle.theory.specs.Broken.{length_body, read_not}
use Rattle.std.specs.Prelude.{Some, None}
use Rattle.digits.specs.Spelling.{spelt}
use Rattle.forms.specs.declared.form.Form.{Form}
use Rattle.forms.specs.Forms.{HasForm}
use Rattle.forms.proofs.FormLaws.{front_count}

-- WHAT SPELLING TELLS
pub record Says (ds : List ℕ) (v : ℕ) : Type 0 where
  pub clean : all_digits ds ≡ true
  pub number : number_from 0 ds ≡ v

pub spelt_number : (ds : List ℕ) {v : ℕ} → spelt ds ≡ Some v → Says ds v
unfolding spelt
spelt_number ds {v} e =
    elim (either (all_digits ds)) [
      | inl a ↦ record { clean = a; number = let g : Some (number_from 0 ds) ≡ Some v = rw a at e in cc }
      | inr a ↦ let g : None ≡ Some v = rw a at e in cc
    ]

pub spelt_nothing : (ds : List ℕ) → spelt ds ≡ None → all_digits ds ≡ false
unfolding spelt
spelt_nothing ds e = elim (either (all_digits ds)) [ inl a ↦ let g : Some (number_from 0 ds) ≡ None = rw a at e in cc | inr a ↦ a ]

-- A PART of a part is the same part of the whole
pub part_of : (a n m : ℕ) (l : List ℕ) → a + n ≤ m → m ≤ length l → take n (drop a (take m l)) ≡ take n (drop a l)
part_of a n m l h k =
    let t = length-take-le m l k in
    sym (take-append-le n (drop a (take m l)) (drop m l) (omega (arith, length-drop a (take m l))))
    ∙ ap (take n) (sym (drop-append-le a (take m l) (drop m l) (omega arith)) ∙ ap (drop a) (take-append-drop m l))

pub part_body : (a n : ℕ) (line : List ℕ) → a + n < length line → take n (drop a (body line)) ≡ take n (drop a line)
unfolding body
part_body a n line h = part_of a n (length line - 1) line (omega arith) (omega arith)

pub numbers_body : (a : ℕ) (ns line : List ℕ) → a + count_digits ns < length line → numbers_at a ns (body line) ≡ numbers_at a ns line
unfolding numbers_at number_at count_digits
numbers_body a [] line h = refl
numbers_body a (n ∷ ns) line h = rw (part_body a n line (omega arith), numbers_body (a + n) ns line (omega arith))

-- BROKEN: too short for a line's number; a byte that is no digit
pub short : (line : List ℕ) → length line ≤ short_digits → broken ≡ read line
unfolding front_size
short line g =
    read_not line (λ c h. omega (arith, length_body line, (from_long _ (length (body line)) h.reads.long).front))

pub foul : (a n : ℕ) (line : List ℕ) → a + n < length line → all_digits (take n (drop a line)) ≡ false → broken ≡ read line
foul a n line l e =
    read_not line (λ c h. false≢true (sym e ∙ sym (ap all_digits (part_body a n line l)) ∙ all_digits_part a n (body line) h.clean))

-- A LINE BEGUN by its number, and ended: what it is read as
pub record Begun (kind : ℕ) (line : List ℕ) : Type 0 where
  pub long : short_digits < length line
  pub ends : get_or line (length line - 1) 0 ≡ line_end
  pub clean : all_digits (take short_digits line) ≡ true
  pub says : number_from 0 (take short_digits line) ≡ kind

pub begun : {k : ℕ} (line : List ℕ) → short_digits < length line → get_or line (length line - 1) 0 ≡ line_end → spelt (take short_digits line) ≡ Some k →
    Begun k line
begun line h e s = let t = spelt_number (take short_digits line) s in record { long = h; ends = e; clean = t.clean; says = t.number }

clean_on : (n m : ℕ) (l : List ℕ) → all_digits (take n l) ≡ true → all_digits (take m (drop n l)) ≡ true → all_digits (take (n + m) l) ≡ true
clean_on n m l e f = rw (take-add n m l) (all_digits_join (take n l) (take m (drop n l)) e f)

module _ {k : ℕ} {line : List ℕ} (b : Begun k line) where
  kind_body : number_at 0 short_digits (body line) ≡ k
  unfolding number_at
  kind_body = ap (number_from 0) (part_body 0 short_digits line b.long) ∙ b.says

  read_begun : read line
      ≡ cond (all_digits (body line))
      (cond (has_length (form_numbered k) (length line - 1)) (command_of k (numbers_at short_digits (form_numbered k).widths (body line))) broken)
      broken
  unfolding read_digits
  read_begun =
      ap read (body_end line (omega (arith, b.long)) b.ends) ∙ read_ended (body line) ∙ rw (kind_body, length_body line)

  either_way : (t : Bool) (r : Reading) → cond t r r ≡ r
  either_way true r = refl
  either_way false r = refl

  begun_broken : has_length (form_numbered k) (length line - 1) ≡ false → broken ≡ read line
  begun_broken e = sym (read_begun ∙ rw e (either_way (all_digits (body line)) broken))

  module _ {r : Form} (h : HasForm (form_numbered k) r) where
    -- a length that its form does not have
    pub too_few : length line - 1 < r.front → broken ≡ read line
    unfolding has_length
    too_few l = begun_broken (rw (lt-leb (front_size (form_numbered k)) (length line - 1) (omega (arith, h.front))))

    pub unfit_payload : r.front ≤ length line - 1 → payload_fits r.payload (length line - 1 - r.front) ≡ false → broken ≡ read line
    unfolding has_length
    unfit_payload l e =
        begun_broken (rw (le-leb (front_size (form_numbered k)) (length line - 1) (omega (arith, h.front)), rw (h.payload, h.front) at e))

    -- clean numbers, and a clean payload that fits
    pub read_good : r.front ≤ length line - 1 → payload_fits r.payload (length line - 1 - r.front) ≡ true →
        all_digits (take (count_digits r.widths.now) (drop short_digits line)) ≡ true →
        all_digits (take (length line - 1 - r.front) (drop r.front line)) ≡ true →
        command_of k (numbers_at short_digits r.widths.now line) ≡ read line
    unfolding has_length body
    read_good l p c d =
        let f = form_numbered k in
        let end = length line - 1 in
        let m = r.front in
        let q = front_count h in
        let n : end ≡ m + (end - m) = omega arith in
        let e : all_digits (take m line) ≡ true =
        ap (λ (j : ℕ). all_digits (take j line)) q ∙ clean_on short_digits (count_digits r.widths.now) line b.clean c in
        let clean : all_digits (take end line) ≡ true = ap (λ (j : ℕ). all_digits (take j line)) n ∙ clean_on m (end - m) line e d in
        let g : has_length f end ≡ true = rw (le-leb (front_size f) end (omega (arith, h.front)), rw (h.payload, h.front) at p) in
        let v : numbers_at short_digits f.widths (body line) ≡ numbers_at short_digits r.widths.now line =
        numbers_body short_digits f.widths line (omega (arith, b.long, q, ap count_digits h.widths))
        ∙ ap (λ (ns : List ℕ). numbers_at short_digits ns line) (sym h.widths) in
        sym (read_begun ∙ rw (clean, g, v))
