-- A line is read as a command with a payload exactly where it is their text, over any form; reader and writer undo each other:
-- lines_exact, write_refusals, written_read, read_written.
use Rattle.std.specs.Prelude.{◌≡◌, refl, Bool, true, false, ◌&&◌, cond, List, [], ◌∷◌, ◌++◌, ℕ, zero, suc, ◌+◌, ◌-◌, ◌^◌, ◌≤◌, ◌<◌, ltb, leb, eqb, length, get_or, take, drop}
use Rattle.std.proofs.Common.{sym, ap, ◌∙◌, inl, inr, append_assoc, arith, length-append, length-drop, take-append-drop, drop_of_length-le, take_at, drop_at, leb-true, eqb-true, lt-ltb, le-ltb, le-leb, ne_eqb}
use Rattle.std.proofs.lemmas.Bool.{false≢true}
use Rattle.std.proofs.Math.Dec.{eqb-suc-zero}
use Rattle.std.proofs.Math.Seq.{split_at}
use Rattle.std.proofs.lemmas.List.{get_or_at, drop-append-le}
use Rattle.rules.specs.Limits.{short_digits}
use Rattle.rules.specs.Calls.{refused, amount, number_of}
use Rattle.rules.specs.Lines.{digits, all_digits, count_digits, numerals, fit_digits, number_at, numbers_at}
use Rattle.rules.specs.Lines.{Form, forms, found, form_numbered, form_of, front_size, payload_fits, has_length}
use Rattle.rules.specs.Lines.{Command, open_line, take_line, send_line, seal_line, class_line, line_number, values_of, line_end, front, text, stands}
use Rattle.rules.specs.Lines.{Reading, command, broken, body, command_of, read_digits, read, Place, place_of, payload_place, payload, class_payload_at, payload_from}
use Rattle.rules.specs.Lines.{write_refusal, write_answer, write_left}
use Rattle.rules.specs.Demands.{LinesExact, WrittenRead, ReadWritten, WriteRefusals}
use Rattle.theory.specs.Tests.{either, ltb?, eqb?, and?, and_true}
use Rattle.theory.specs.Digits.{length_digits, digits_are, all_digits_join, all_digits_split, number_placed, number_stands}
use Rattle.theory.specs.Numerals.{length_numbers, length_fit, length_numerals, numerals_digits, got_from, got_all, numbers_read, numbers_stand}

pub not_broken : (c : Command) → broken ≡ command c → ⊥
not_broken c e = let z : ◌≡◌ {A = ℕ} 0 1 = cc in omega arith

told : (c o : Command) {k : ℕ} {vs : List ℕ} → line_number o ≡ k → values_of o ≡ vs → command o ≡ command c → (line_number c ≡ k) × (values_of c ≡ vs)
told c o n v e = let q : c ≡ o = cc in (ap line_number q ∙ n, ap values_of q ∙ v)

-- FORMS, line by line: a line's number fits its digits; a command comes back from its number and values, and they from it; no front is
-- longer than the one of line 04, and behind its front a payload begins
pub number_fits : (c : Command) → line_number c < 16 ^ short_digits
unfolding line_number
number_fits (open_line l) = omega arith
number_fits (take_line d w) = omega arith
number_fits send_line = omega arith
number_fits seal_line = omega arith
number_fits (class_line d w c) = omega arith

pub command_back : (c : Command) → command_of (line_number c) (values_of c) ≡ command c
unfolding line_number values_of command_of
command_back (open_line l) = refl
command_back (take_line d w) = refl
command_back send_line = refl
command_back seal_line = refl
command_back (class_line d w c) = refl

pub no_line : (k : ℕ) (vs : List ℕ) → (k ≡ 0 → ⊥) → (k ≡ 1 → ⊥) → (k ≡ 2 → ⊥) → (k ≡ 3 → ⊥) → (k ≡ 4 → ⊥) → command_of k vs ≡ broken
unfolding command_of
no_line k vs f g h i j = rw (ne_eqb k 0 f, ne_eqb k 1 g, ne_eqb k 2 h, ne_eqb k 3 i, ne_eqb k 4 j)

pub command_made : (k : ℕ) (vs : List ℕ) (c : Command) → length vs ≡ length (form_numbered k).widths → command_of k vs ≡ command c →
    (line_number c ≡ k) × (values_of c ≡ vs)
unfolding forms found line_number values_of command_of got_from
command_made zero vs c l e = told c (open_line (get_or vs 0 0)) refl (got_all 0 1 vs (sym l)) e
command_made (suc zero) vs c l e = told c (take_line (get_or vs 0 0) (get_or vs 1 0)) refl (got_all 0 2 vs (sym l)) e
command_made (suc (suc zero)) vs c l e = told c send_line refl (got_all 0 0 vs (sym l)) e
command_made (suc (suc (suc zero))) vs c l e = told c seal_line refl (got_all 0 0 vs (sym l)) e
command_made (suc (suc (suc (suc zero)))) vs c l e = told c (class_line (get_or vs 0 0) (get_or vs 1 0) (get_or vs 2 0)) refl (got_all 0 3 vs (sym l)) e
command_made (suc (suc (suc (suc (suc k))))) vs c l e =
    let n = suc (suc (suc (suc (suc k)))) in
    absurd (not_broken c (sym (no_line n vs (λ q. omega arith) (λ q. omega arith) (λ q. omega arith) (λ q. omega arith) (λ q. omega arith)) ∙ e))

pub as_many : (c : Command) → length (values_of c) ≡ length (form_of c).widths
unfolding forms found line_number values_of
as_many (open_line l) = refl
as_many (take_line d w) = refl
as_many send_line = refl
as_many seal_line = refl
as_many (class_line d w c) = refl

pub front_small : (c : Command) → front_size (form_of c) ≤ class_payload_at
unfolding count_digits forms found front_size line_number
front_small (open_line l) = omega arith
front_small (take_line d w) = omega arith
front_small send_line = omega arith
front_small seal_line = omega arith
front_small (class_line d w c) = omega arith

pub payload_start : (c : Command) → (form_of c).payload ≡ true → front_size (form_of c) ≡ payload_from c
unfolding count_digits forms found front_size line_number
payload_start (open_line l) e = absurd (false≢true e)
payload_start (take_line d w) e = refl
payload_start send_line e = absurd (false≢true e)
payload_start seal_line e = absurd (false≢true e)
payload_start (class_line d w c) e = refl

-- A FRONT: how many digits it has, and that they are digits
pub length_front : (c : Command) → fit_digits (form_of c).widths (values_of c) ≡ true → length (front c) ≡ front_size (form_of c)
unfolding front front_size
length_front c e =
    let ns = (form_of c).widths in
    let vs = values_of c in
    omega (
      arith,
      length-append (digits short_digits (line_number c)) (numerals ns vs),
      length_digits short_digits (line_number c),
      length_numerals ns vs (length_fit ns vs e),
    )

pub front_digits : (c : Command) → all_digits (front c) ≡ true
unfolding front
front_digits c =
    let ns = numerals (form_of c).widths (values_of c) in
    all_digits_join (digits short_digits (line_number c)) ns (digits_are short_digits (line_number c))
    (numerals_digits (form_of c).widths (values_of c))

pub text_front : (c : Command) (ps : List ℕ) → text c ps ≡ front c ++ ps ++ (line_end ∷ [])
unfolding text
text_front c ps = refl

-- WHAT STANDS: numbers that fit their digits, payload digits, and as many as may be
pub record Stands (c : Command) (ps : List ℕ) : Type 0 where
  pub fit : fit_digits (form_of c).widths (values_of c) ≡ true
  pub clean : all_digits ps ≡ true
  pub long : payload_fits (form_of c).payload (length ps) ≡ true

pub from_stands : (c : Command) (ps : List ℕ) → stands c ps ≡ true → Stands c ps
unfolding stands
from_stands c ps e =
    let fits = payload_fits (form_of c).payload (length ps) in
    let a = and_true (fit_digits (form_of c).widths (values_of c)) (all_digits ps && fits) e in
    let b = and_true (all_digits ps) fits a.1 in
    record { fit = a.0; clean = b.0; long = b.1 }

pub to_stands : (c : Command) (ps : List ℕ) → Stands c ps → stands c ps ≡ true
unfolding stands
to_stands c ps h = rw (h.fit, h.clean, h.long)

pub length_text : (c : Command) (ps : List ℕ) → stands c ps ≡ true → length (text c ps) ≡ front_size (form_of c) + length ps + 1
length_text c ps e =
    rw text_front
    (omega (arith, length-append (front c ++ ps) (line_end ∷ []), length-append (front c) ps, length_front c (from_stands c ps e).fit))

-- WHAT IS READ: the line's number, a length that its form has, and its values
pub record Reads (c : Command) (ds : List ℕ) : Type 0 where
  pub number : number_at 0 short_digits ds ≡ line_number c
  pub long : has_length (form_of c) (length ds) ≡ true
  pub values : numbers_at short_digits (form_of c).widths ds ≡ values_of c

pub to_command : (c : Command) (ds : List ℕ) → Reads c ds → read_digits ds ≡ command c
unfolding read_digits
to_command c ds h = rw (h.number, h.long, h.values) (command_back c)

pub from_command : (c : Command) (ds : List ℕ) → read_digits ds ≡ command c → Reads c ds
unfolding read_digits
from_command c ds e =
    let k = number_at 0 short_digits ds in
    let f = form_numbered k in
    let vs = numbers_at short_digits f.widths ds in
    elim (either (has_length f (length ds))) [
      | inl a ↦
          let m = command_made k vs c (length_numbers short_digits f.widths ds) (rw a at e) in
          record { number = sym m.0; long = rw m.0 a; values = rw m.0 (sym m.1) }
      | inr a ↦ absurd (not_broken c (rw a at e))
    ]

-- a length that a form has
pub record Long (f : Form) (n : ℕ) : Type 0 where
  pub front : front_size f ≤ n
  pub payload : payload_fits f.payload (n - front_size f) ≡ true

pub from_long : (f : Form) (n : ℕ) → has_length f n ≡ true → Long f n
unfolding has_length
from_long f n e =
    let h = and_true (leb (front_size f) n) (payload_fits f.payload (n - front_size f)) e in
    record { front = leb-true (front_size f) n h.0; payload = h.1 }

pub to_long : (f : Form) (n : ℕ) → Long f n → has_length f n ≡ true
unfolding has_length
to_long f n h = rw (le-leb (front_size f) n h.front, h.payload)

-- DIGITS THAT ARE READ are a front and a payload that can stand, and the other way round
pub record Parted (c : Command) (ds : List ℕ) : Type 0 where
  pub parts : ds ≡ front c ++ drop (front_size (form_of c)) ds
  pub stand : Stands c (drop (front_size (form_of c)) ds)

pub reads_parted : (c : Command) (ds : List ℕ) → all_digits ds ≡ true → Reads c ds → Parted c ds
unfolding front front_size
reads_parted c ds e h =
    let f = form_of c in
    let m = front_size f in
    let l = from_long f (length ds) h.long in
    let k = number_stands 0 short_digits (line_number c) ds e (omega (arith, l.front)) h.number in
    let s = numbers_stand f.widths short_digits ds e l.front in
    let rest = numerals f.widths (values_of c) in
    record {
      parts = k.stand ∙ ap (λ (bs : List ℕ). digits short_digits (line_number c) ++ bs) (rw h.values at s.stand)
          ∙ sym (append_assoc (digits short_digits (line_number c)) rest (drop m ds));
      stand = record {
        fit = rw h.values at s.fit;
        clean = (all_digits_split (take m ds) (drop m ds) (rw take-append-drop e)).1;
        long = ap (payload_fits f.payload) (length-drop m ds) ∙ l.payload;
      };
    }

pub stands_reads : (c : Command) (ps : List ℕ) → Stands c ps → Reads c (front c ++ ps)
unfolding front
stands_reads c ps h =
    let f = form_of c in
    let k = line_number c in
    let ns = numerals f.widths (values_of c) in
    let ds = (digits short_digits k ++ ns) ++ ps in
    let l : length ds ≡ front_size f + length ps = length-append (front c) ps ∙ ap (λ (n : ℕ). n + length ps) (length_front c h.fit) in
    let d : ds ≡ digits short_digits k ++ (ns ++ ps) = append_assoc (digits short_digits k) ns ps in
    let g : drop short_digits ds ≡ ns ++ ps = ap (drop short_digits) d ∙ drop_at (digits short_digits k) (ns ++ ps) short_digits (length_digits short_digits k) in
    let p : length ds - front_size f ≡ length ps = omega arith in
    record {
      number = number_placed 0 short_digits k ds (d ∙ ap (λ (bs : List ℕ). digits short_digits k ++ bs) (sym g)) (number_fits c);
      long = to_long f (length ds) record { front = omega arith; payload = rw p h.long };
      values = numbers_read f.widths (values_of c) short_digits ds ps h.fit g;
    }

-- A LINE THAT IS READ is digits and the 0A
pub body_ended : (ds : List ℕ) → body (ds ++ (line_end ∷ [])) ≡ ds
unfolding body
body_ended ds = take_at ds (line_end ∷ []) (length (ds ++ (line_end ∷ [])) - 1) (omega (arith, length-append ds (line_end ∷ [])))

pub body_end : (line : List ℕ) → 1 ≤ length line → get_or line (length line - 1) 0 ≡ line_end → line ≡ body line ++ (line_end ∷ [])
unfolding body
body_end line h e =
    let n = length line - 1 in
    split_at line n 0 (omega arith) ∙ rw (e, drop_of_length-le line {i = suc n} (omega arith))

pub read_ended : (ds : List ℕ) → read (ds ++ (line_end ∷ [])) ≡ cond (all_digits ds) (read_digits ds) broken
unfolding read
read_ended ds =
    let n = length (ds ++ (line_end ∷ [])) in
    let l : n ≡ length ds + 1 = length-append ds (line_end ∷ []) in
    rw (le-leb 1 n (omega arith), get_or_at ds line_end [] 0 (n - 1) (omega arith), body_ended ds)

pub record Ended (c : Command) (line : List ℕ) : Type 0 where
  pub ends : line ≡ body line ++ (line_end ∷ [])
  pub clean : all_digits (body line) ≡ true
  pub reads : Reads c (body line)

pub command_ended : (c : Command) (line : List ℕ) → read line ≡ command c → Ended c line
unfolding read
command_ended c line e =
    let n = length line in
    let z = get_or line (n - 1) 0 in
    elim (and? (leb 1 n) (eqb z line_end && all_digits (body line))) [
      | inl a ↦
          let b = and_true (eqb z line_end) (all_digits (body line)) a.1 in
          record {
            ends = body_end line (leb-true 1 n a.0) (eqb-true z line_end b.0);
            clean = b.1;
            reads = from_command c (body line) (rw (a.0, a.1) at e);
          }
      | inr a ↦ absurd (not_broken c (rw a at e))
    ]

-- THE PAYLOAD'S PLACE behind the front, and its payload is what follows there
abbrev pub place : (start end : ℕ) → Place
place a b = record { start = a; end = b }

both : (a b : Bool) → a ≡ true → b ≡ true → a && b ≡ true
both true b e f = f
both false b e f = e

pub place_behind : (c : Command) (n : ℕ) → (form_of c).payload ≡ true → suc (front_size (form_of c)) < n →
    place_of (command c) n ≡ place (front_size (form_of c)) (n - 1)
unfolding place_of
place_behind c n p h = rw (both (form_of c).payload (ltb (suc (front_size (form_of c))) n) p (lt-ltb (suc (front_size (form_of c))) n h))

pub place_bare : (c : Command) (n : ℕ) → n ≤ suc (front_size (form_of c)) → place_of (command c) n ≡ place 0 0
unfolding place_of
place_bare c n h = bare (form_of c).payload (ltb (suc (front_size (form_of c))) n) (le-ltb (suc (front_size (form_of c))) n h)
  where
    bare : (a b : Bool) → b ≡ false → cond (a && b) (place (front_size (form_of c)) (n - 1)) (place 0 0) ≡ place 0 0
    bare true b e = rw e
    bare false b e = refl

-- a form whose line has payload digits may have some
pub has_payload : (may : Bool) (n : ℕ) → payload_fits may n ≡ true → 1 ≤ n → may ≡ true
unfolding payload_fits
has_payload true n e h = refl
has_payload false n e h = absurd (omega (arith, eqb-true n 0 e))

part_at : (a b : ℕ) (line : List ℕ) → payload_place line ≡ place a b → payload line ≡ take (b - a) (drop a line)
unfolding payload
part_at a b line e = rw e

pub payload_ended : (c : Command) (ds : List ℕ) → read (ds ++ (line_end ∷ [])) ≡ command c → Reads c ds →
    payload (ds ++ (line_end ∷ [])) ≡ drop (front_size (form_of c)) ds
unfolding payload_place
payload_ended c ds e h =
    let line = ds ++ (line_end ∷ []) in
    let n = length line in
    let f = form_of c in
    let m = front_size f in
    let l : n ≡ length ds + 1 = length-append ds (line_end ∷ []) in
    let q = from_long f (length ds) h.long in
    let t : length (drop m ds) ≡ n - 1 - m = omega (arith, length-drop m ds) in
    let p : payload_place line ≡ place_of (command c) n = ap (λ (r : Reading). place_of r n) e in
    elim (ltb? (suc m) n) [
      | inl b ↦
          part_at m (n - 1) line (p ∙ place_behind c n (has_payload f.payload (length ds - m) q.payload (omega arith)) b.1)
          ∙ ap (take (n - 1 - m)) (drop-append-le m ds (line_end ∷ []) q.front)
          ∙ take_at (drop m ds) (line_end ∷ []) (n - 1 - m) t
      | inr b ↦ part_at 0 0 line (p ∙ place_bare c n b.1) ∙ sym (drop_of_length-le ds {i = m} (omega arith))
    ]

-- READER AND TEXT
pub read_text : (c : Command) (line : List ℕ) → read line ≡ command c → (stands c (payload line) ≡ true) × (line ≡ text c (payload line))
read_text c line e =
    let h = command_ended c line e in
    let ds = body line in
    let ps = drop (front_size (form_of c)) ds in
    let g = reads_parted c ds h.clean h.reads in
    let p : payload line ≡ ps = ap payload h.ends ∙ payload_ended c ds (sym (ap read h.ends) ∙ e) h.reads in
    let t : line ≡ text c ps = h.ends ∙ ap (λ (bs : List ℕ). bs ++ (line_end ∷ [])) g.parts ∙ sym (text_front c ps) in
    (rw p (to_stands c ps g.stand), t ∙ ap (text c) (sym p))

pub text_read : (c : Command) (ps : List ℕ) → stands c ps ≡ true → (read (text c ps) ≡ command c) × (payload (text c ps) ≡ ps)
text_read c ps e =
    let h = from_stands c ps e in
    let ds = front c ++ ps in
    let g = stands_reads c ps h in
    let a = all_digits_join (front c) ps (front_digits c) h.clean in
    let r : read (ds ++ (line_end ∷ [])) ≡ command c = read_ended ds ∙ rw a (to_command c ds g) in
    rw text_front (r, payload_ended c ds r g ∙ drop_at (front c) ps (front_size (form_of c)) (length_front c h.fit))

pub lines_exact : LinesExact
unfolding LinesExact
lines_exact c ps line = (λ h. let g = read_text c line h.0 in rw h.1 at g, λ h. rw h.1 (text_read c ps h.0))

-- THE WRITER: its refusal, and what follows from that
pub unfit : (c : Command) (ps : List ℕ) (n : ℕ) → stands c ps ≡ false → write_refusal c ps n ≡ 1
unfolding write_refusal
unfit c ps n e = rw e

pub no_room : (c : Command) (ps : List ℕ) (n : ℕ) → stands c ps ≡ true → n < length (text c ps) → write_refusal c ps n ≡ 12
unfolding write_refusal
no_room c ps n e h = rw (e, lt-ltb n (length (text c ps)) h)

pub room : (c : Command) (ps : List ℕ) (n : ℕ) → stands c ps ≡ true → length (text c ps) ≤ n → write_refusal c ps n ≡ 0
unfolding write_refusal
room c ps n e h = rw (e, le-ltb n (length (text c ps)) h)

pub write_refused : (c : Command) (ps z : List ℕ) (k : ℕ) → write_refusal c ps (length z) ≡ suc k →
    (write_answer c ps (length z) ≡ refused (suc k)) × (write_left c ps z ≡ z)
unfolding write_answer write_left
write_refused c ps z k e = let n : eqb (suc k) 0 ≡ false = eqb-suc-zero k in (rw (e, n), rw (e, n))

pub write_done : (c : Command) (ps z : List ℕ) → write_refusal c ps (length z) ≡ 0 →
    (write_answer c ps (length z) ≡ amount (length (text c ps))) × (write_left c ps z ≡ text c ps ++ drop (length (text c ps)) z)
unfolding write_answer write_left
write_done c ps z e = (rw e, rw e)

pub write_number : (c : Command) (ps : List ℕ) (n : ℕ) → number_of (write_answer c ps n) ≡ write_refusal c ps n
unfolding number_of write_answer
write_number c ps n = elim (eqb? (write_refusal c ps n) 0) [ inl a ↦ rw a.0 (sym a.1) | inr a ↦ rw a.0 ]

pub write_refusals : WriteRefusals
unfolding WriteRefusals
write_refusals c ps n =
    let m = write_number c ps n in
    elim (either (stands c ps)) [
      | inl e ↦
          inr (
            λ f. false≢true (sym f ∙ e),
            elim (ltb? n (length (text c ps))) [
              | inl a ↦ inl (a.1, m ∙ no_room c ps n e a.1)
              | inr a ↦ inr (λ f. omega arith, m ∙ room c ps n e a.1)
            ],
          )
      | inr e ↦ inl (e, m ∙ unfit c ps n e)
    ]

-- WRITER AND READER
pub amount_stands : (c : Command) (ps : List ℕ) (n k : ℕ) → write_answer c ps n ≡ amount k → (stands c ps ≡ true) × (write_refusal c ps n ≡ 0)
unfolding number_of
amount_stands c ps n k e =
    let m : write_refusal c ps n ≡ 0 = sym (write_number c ps n) ∙ ap number_of e in
    elim (either (stands c ps)) [ inl a ↦ (a, m) | inr a ↦ absurd (omega (arith, unfit c ps n a)) ]

pub written_read : WrittenRead
unfolding WrittenRead
written_read c ps z n e =
    let a = amount_stands c ps (length z) n e in
    let t = text c ps in
    let w = write_done c ps z a.1 in
    let l : length t ≡ n = cc in
    let r = text_read c ps a.0 in
    rw (w.1, take_at t (drop (length t) z) n l, drop_at t (drop (length t) z) n l, l) (r.0, r.1, refl)

pub read_written : ReadWritten
unfolding ReadWritten
read_written c line z e h =
    let g = read_text c line e in
    let t : text c (payload line) ≡ line = sym g.1 in
    let w = write_done c (payload line) z (room c (payload line) (length z) g.0 (rw t h)) in
    (w.0 ∙ rw t, w.1 ∙ rw t)
