-- Lines written: values that fit, the front part by part, the payload copied, the answers.
use mathlib.Core.Path.{◌≡◌, refl, sym, ap, ◌∙◌}
use mathlib.Core.Bool.{true, false}
use mathlib.Core.List.{List, [], ◌∷◌, ◌++◌, append_assoc, append-nil}
use Prim.Native.Nat.{ℕ, suc, ◌+◌, ◌-◌, ◌^◌, ◌≤◌, ◌<◌}
use native.Mathlib.Omega.{arith}
use native.Mathlib.Numerals.{add-one}
use borrow.Rule.Slice.PartMut.{put_mid}
use lib.Dec.{ltb}
use lib.ListN.{length, get_or, set, take, drop, length-append, take-append-drop}
use lib.Seq.{length-take-le, take_all}
use Rattle.rules.specs.Limits.{short_digits}
use Rattle.rules.specs.Lines.{digits, count_digits, numerals, fit_digits, form_numbered, form_of, front_size}
use Rattle.rules.specs.Lines.{line_number, values_of, front, stands, line_end}
use Rattle.rules.specs.Lines as rules
use Rattle.theory.specs.Digits.{length_digits}
use Rattle.theory.specs.Numerals.{length_numerals, count_more, count_least, numerals_more}
use Rattle.theory.specs.Lines.{as_many, length_front, text_front, from_stands, length_text, unfit, no_room, room, write_refused, write_done}
use Rattle.digits.specs.Spelling.{put}
use Rattle.digits.proofs.Filling.{Filled, filled_none, filled_put, filled_long, filled_number, filled_byte}
use Rattle.forms.specs.declared.form.Form.{Form}
use Rattle.forms.specs.Forms.{values_in, can_stand, HasForm, HasValues}
use Rattle.forms.proofs.FormLaws.{front_count}
use Rattle.std.specs.Prelude.{Result, Ok, Err, zip}
use Rattle.std.specs.List.{list_all}
use Rattle.refusals.proofs.Numbers.{refusal_read}
use Rattle.refusals.specs.declared.Refusal.{Refusal}
use Rattle.refusals.specs.declared.Refusal.TheVariants.{BadLine, NoRoom}
use Rattle.writer.specs.Writing.{of_written, Writes}

-- VALUES THAT FIT, each with its digits
pub fit_zip : (ns vs : List ℕ) → length vs ≡ length ns → list_all (λ (p : ℕ × ℕ). ltb p.0 (16 ^ p.1)) (zip vs ns) ≡ fit_digits ns vs
unfolding fit_digits
fit_zip [] [] e = refl
fit_zip [] (v ∷ vs) e = absurd (omega arith)
fit_zip (n ∷ ns) [] e = absurd (omega arith)
fit_zip (n ∷ ns) (v ∷ vs) e = rw (fit_zip ns vs (omega arith))

-- VALUES PUT, the first i of them, behind the line's number
length_put : (ns vs z : List ℕ) (i : ℕ) → i ≤ length ns → length vs ≡ length ns → short_digits ≤ length z →
    length (take short_digits z ++ numerals (take i ns) (take i vs)) ≡ short_digits + count_digits (take i ns)
length_put ns vs z i h e l =
    let n = length_numerals (take i ns) (take i vs) (length-take-le i vs (omega arith) ∙ sym (length-take-le i ns h)) in
    omega (arith, length-append (take short_digits z) (numerals (take i ns) (take i vs)), length-take-le short_digits z l, n)

pub record ValuesPut (ns vs before : List ℕ) (i at : ℕ) (buffer : List ℕ) : Type 0 where
  pub within : i ≤ length ns
  pub place : at ≡ short_digits + count_digits (take i ns)
  pub long : length buffer ≡ length before
  pub filled : Filled (take short_digits before ++ numerals (take i ns) (take i vs)) before buffer

pub values_none : (ns vs z : List ℕ) → short_digits ≤ length z → ValuesPut ns vs z 0 short_digits z
unfolding numerals count_digits
values_none ns vs z h =
    let t = take short_digits z in
    let l = length-take-le short_digits z h in
    let f : Filled t z z = record { room = omega arith; stand = sym (rw l (take-append-drop short_digits z)) } in
    record { within = omega arith; place = refl; long = refl; filled = rw (append-nil t) f }

module _ {ns vs before b : List ℕ} {i at w v : ℕ} (f : ValuesPut ns vs before i at b) (more : i < length ns) (same : length vs ≡ length ns)
    (wide : get_or ns i 0 ≡ w) (valued : get_or vs i 0 ≡ v) (all : short_digits + count_digits ns ≤ length before) where
  pub next_room : at + w ≤ length b
  next_room = omega (arith, f.place, f.long, wide, count_more ns i more, count_least ns (suc i))

  pub values_more : {ys : List ℕ} → ys ≡ digits (length (take (at + w - at) (drop at b))) v →
      ValuesPut ns vs before (i + 1) (at + w) (put_mid at (at + w - at) b ys)
  values_more {ys} e =
      let xs = take short_digits before in
      let zs = numerals (take i ns) (take i vs) in
      let j : at + w - at ≡ w = omega arith in
      let n : at ≡ length (xs ++ zs) = f.place ∙ sym (length_put ns vs before i f.within same (omega arith)) in
      let g = filled_number at w v f.filled (rw j at e) n (omega (arith, next_room, f.long)) in
      let m : xs ++ numerals (take (suc i) ns) (take (suc i) vs) ≡ (xs ++ zs) ++ digits w v =
      ap (λ (us : List ℕ). xs ++ us) (numerals_more ns vs i more same ∙ rw (wide, valued)) ∙ sym (append_assoc xs zs (digits w v)) in
      rw (add-one, j) record {
        within = omega arith;
        place = omega (arith, f.place, wide, count_more ns i more);
        long = filled_long g;
        filled = rw m g;
      }

pub values_all : {ns vs before b : List ℕ} {i at : ℕ} → ValuesPut ns vs before i at b → length ns ≤ i → length vs ≡ length ns →
    short_digits ≤ length before → b ≡ put short_digits (numerals ns vs) before
values_all {ns} {vs} {before} {b} {i} f h e l =
    let t = take_all i ns h in
    let u = take_all i vs (omega arith) in
    let n = length_put ns vs before i f.within e l in
    let m : short_digits + count_digits (take i ns) ≡ short_digits + length (numerals ns vs) =
    rw t (ap (λ (k : ℕ). short_digits + k) (sym (length_numerals ns vs e))) in
    rw (t, u) at (f.filled.stand ∙ ap (λ (k : ℕ). (take short_digits before ++ numerals (take i ns) (take i vs)) ++ drop k before) (n ∙ m))

-- THE COMMAND'S FORM AND VALUES as the code has them: what stands, and its front
module _ {c : rules.Command} {k : ℕ} {r : Form} {vs : List ℕ} (number : k ≡ line_number c) (form : HasForm (form_numbered k) r) (values : HasValues c vs) where
  form_here : HasForm (form_of c) r
  form_here = rw number at form

  pub front_here : r.front ≡ front_size (form_of c)
  front_here = form_here.front

  values_here : values_in r vs ≡ values_of c
  values_here =
      let n : length r.widths.now ≡ length (values_of c) =
      ap length form_here.widths ∙ sym (as_many c) in
      ap (λ (m : ℕ). take m vs) n ∙ values.values

  pub stands_here : (ps : List ℕ) → can_stand r vs ps ≡ stands c ps
  unfolding stands
  stands_here ps = rw (values_here, form_here.widths, form_here.payload)

  pub front_put : {z y b b' : List ℕ} → r.front ≤ length z → y ≡ digits (length (take short_digits z)) k → b ≡ put_mid 0 short_digits z y →
      b' ≡ put short_digits (numerals r.widths.now (values_in r vs)) b →
      Filled (front c) z b'
  unfolding front
  front_put {z} {y} h p w e =
      let q = front_count form in
      let ns = numerals r.widths.now (values_in r vs) in
      let l = length_numerals r.widths.now (values_in r vs) (ap length values_here ∙ as_many c ∙ sym (ap length form_here.widths)) in
      let one = filled_number 0 short_digits (line_number c) (filled_none z) (rw number at p) refl (omega arith) in
      let two = filled_put short_digits ns one (length_digits short_digits (line_number c)) (omega arith) (rw w at e) in
      rw (← form_here.widths, ← values_here) two

-- THE ANSWERS
module _ (c : rules.Command) (ps z : List ℕ) where
  pub write_unfit : stands c ps ≡ false → Writes c ps z z (Err BadLine)
  write_unfit e = let w = write_refused c ps z 0 (unfit c ps (length z) e) in record { reply = sym w.0; left = sym w.1 }

  pub write_full : stands c ps ≡ true → length z ≤ front_size (form_of c) + length ps → Writes c ps z z (Err NoRoom)
  write_full e h =
      let w = write_refused c ps z 11 (no_room c ps (length z) e (omega (arith, length_text c ps e))) in
      record { reply = sym w.0; left = sym w.1 }

  -- the front stands in b, the payload behind it in b'; then the 0A is put
  pub write_on : {b b' : List ℕ} {f : ℕ} {r : Result ℕ Refusal} → stands c ps ≡ true → f ≡ front_size (form_of c) → f + length ps < length z →
      Filled (front c) z b → b' ≡ put f ps b → r ≡ Ok (f + length ps + 1) → Writes c ps z (set b' (f + length ps) line_end) r
  write_on {b} {f = f} e g h q p o =
      let k = length_front c (from_stands c ps e).fit in
      let l : length (front c) ≡ f = k ∙ sym g in
      let two = filled_put f ps q l (omega arith) p in
      let n : length (front c ++ ps) ≡ f + length ps = length-append (front c) ps ∙ rw l in
      let all = filled_byte (f + length ps) line_end two n h in
      let t = text_front c ps in
      let w = write_done c ps z (room c ps (length z) e (rw t all.room)) in
      record {
        reply = rw o (rw (length_text c ps e, ← g) at (sym w.0));
        left = rw (← t) at all.stand ∙ sym w.1;
      }

-- the number or length that the answer gives forgets nothing
pub reply_once : (x y : Result ℕ Refusal) → of_written x ≡ of_written y → x ≡ y
reply_once (Ok m) (Ok n) e = cc
reply_once (Ok m) (Err n) e = cc
reply_once (Err m) (Ok n) e = cc
reply_once (Err m) (Err n) e = ap Err (refusal_read m n cc)
