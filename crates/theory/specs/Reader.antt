-- THE READER: refusal 1 just where a line is no command's text, and the payload's place: read_refusals, payload_places.
use Rattle.std.specs.Prelude.{◌≡◌, refl, ◌⊎◌, true, List, [], ℕ, suc, ◌+◌, ◌-◌, ◌≤◌, ◌<◌, length}
use Rattle.std.proofs.Common.{sym, ap, ◌∙◌, inl, inr, arith}
use Rattle.rules.specs.Lines.{form_of, front_size, Command, text, stands, Reading, command, broken, reading_refusal, body, read, read_refusal}
use Rattle.rules.specs.Lines.{payload_from, place_of, payload_place, payload}
use Rattle.rules.specs.Conditions.{NoCommand, read_given}
use Rattle.rules.specs.Demands.{PlaceIs, ReadRefusals, PayloadPlaces}
use Rattle.theory.specs.Tests.{ltb?}
use Rattle.theory.specs.Lines.{payload_start, length_text, Stands, from_stands, from_long, not_broken, command_ended}
use Rattle.theory.specs.Lines.{place, has_payload, place_behind, place_bare, read_text, text_read}
use Rattle.theory.specs.Broken.{length_body}

-- a line is read as a command, or is none's text
abbrev pub ReadOrNot : (line : List ℕ) → Reading → Type 0
ReadOrNot line r = ((c : Command) × (r ≡ command c) × (NoCommand line → ⊥)) ⊎ ((r ≡ broken) × NoCommand line)

pub read? : (line : List ℕ) → ReadOrNot line (read line)
read? line = told (read line) refl
  where
    told : (r : Reading) → read line ≡ r → ReadOrNot line r
    told (command c) e = let g = read_text c line e in inl (c, refl, λ f. f c (payload line) g.0 g.1)
    told broken e = inr (refl, λ c ps s t. not_broken c (sym e ∙ ap read t ∙ (text_read c ps s).0))

pub read_refusals : ReadRefusals
unfolding ReadRefusals read_given read_refusal
read_refusals line = elim (read? line) [
  | inl a ↦ inr (a.2, ap reading_refusal a.1)
  | inr a ↦ inl (a.1, ap reading_refusal a.0)
]

-- THE PLACE, by the reading and the line's length
pub place_broken : (line : List ℕ) → read line ≡ broken → PlaceIs (payload_place line) 0 0
unfolding payload_place place_of
place_broken line e = rw e (refl, refl)

pub place_none : (c : Command) (n : ℕ) → n ≡ front_size (form_of c) + 1 → PlaceIs (place_of (command c) n) 0 0
place_none c n e = rw (place_bare c n (omega arith)) (refl, refl)

pub place_some : (c : Command) (ps : List ℕ) (n : ℕ) → Stands c ps → 1 ≤ length ps → n ≡ front_size (form_of c) + length ps + 1 →
    PlaceIs (place_of (command c) n) (payload_from c) (payload_from c + length ps)
place_some c ps n s h e =
    let p = has_payload (form_of c).payload (length ps) s.long h in
    let q = payload_start c p in
    rw (place_behind c n p (omega arith)) (q, omega arith)

length_bare : (c : Command) → stands c [] ≡ true → length (text c []) ≡ front_size (form_of c) + 1
length_bare c s = omega (arith, length_text c [] s)

pub payload_places : PayloadPlaces
unfolding PayloadPlaces payload_place
payload_places = (
  λ line f. elim (read? line) [ inl a ↦ absurd (a.2 f) | inr a ↦ place_broken line a.0 ],
  λ c s. rw (text_read c [] s).0 (place_none c (length (text c [])) (length_bare c s)),
  λ c ps s h. rw (text_read c ps s).0 (place_some c ps (length (text c ps)) (from_stands c ps s) h (length_text c ps s)),
)

-- the same by the reading and the line's length; it lies within the line
pub payload_behind : (c : Command) (line : List ℕ) → read line ≡ command c → suc (front_size (form_of c)) < length line →
    payload_place line ≡ place (front_size (form_of c)) (length line - 1)
unfolding payload_place
payload_behind c line e h =
    let f = form_of c in
    let n = length (body line) in
    let l = from_long f n (command_ended c line e).reads.long in
    let p = has_payload f.payload (n - front_size f) l.payload (omega (arith, length_body line)) in
    ap (λ (r : Reading). place_of r (length line)) e ∙ place_behind c (length line) p h

pub payload_bare : (c : Command) (line : List ℕ) → read line ≡ command c → length line ≤ suc (front_size (form_of c)) →
    payload_place line ≡ place 0 0
unfolding payload_place
payload_bare c line e h = ap (λ (r : Reading). place_of r (length line)) e ∙ place_bare c (length line) h

pub payload_broken : (line : List ℕ) → read line ≡ broken → payload_place line ≡ place 0 0
unfolding payload_place place_of
payload_broken line e = rw e

pub place_within : (line : List ℕ) → ((payload_place line).start ≤ (payload_place line).end) × ((payload_place line).end ≤ length line)
place_within line = told (read line) refl
  where
    told : (r : Reading) → read line ≡ r → ((payload_place line).start ≤ (payload_place line).end) × ((payload_place line).end ≤ length line)
    told broken e = rw (payload_broken line e) (omega arith, omega arith)
    told (command c) e = elim (ltb? (suc (front_size (form_of c))) (length line)) [
      | inl h ↦ rw (payload_behind c line e h.1) (omega (arith, h.1), omega (arith, h.1))
      | inr h ↦ rw (payload_bare c line e h.1) (omega arith, omega arith)
    ]
