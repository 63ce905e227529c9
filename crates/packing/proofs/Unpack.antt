-- Unpacking undoes packing, for each call's replies within their bounds.
use mathlib.Core.Path.{◌≡◌, refl, ap, ◌∙◌}
use Prim.Native.Nat.{ℕ, ◌+◌, ◌*◌, ◌/◌, ◌%◌, ◌≤◌, ◌<◌}
use native.Mathlib.Omega.{arith}
use borrow.Author.Tests.{eq-eqb, ne_eqb}
use Rattle.rules.specs.Calls.{taking, sending, sealing, marking, totalling, Call, opening, acting, asking, Out, silence, frame, kept_blank, ordinary, leap, Reply, refused, done, closed, ticket, step, amount, blank_due}
use Rattle.packing.specs.Packing.{pack_out, pack, out_in, step_in, accepted_in, unpack, unpack_substitute, value_place, out_place, leap_place, FitsOut, silence_fits, frame_fits, blank_fits}
use Rattle.packing.specs.Packing.{refusal_fits, opening_fits, taking_fits, ordinary_fits, leap_fits, sealing_fits, mark_fits, total_fits, Unpacks, FitsSubstitute, refusal_stands, row_stands, blank_stands}

-- a multiple of 2^8 is no refusal
pub unpack_accepted : (c : Call) (n : ℕ) → n % 256 ≡ 0 → unpack c n ≡ accepted_in c n
unfolding unpack
unpack_accepted c n e = rw (eq-eqb (n % 256) 0 e)

-- what went out, where l is 1 for a leap
pub record OutBack (o : Out) (l n : ℕ) : Type 0 where
  pub out : out_in (n / out_place % 4) (n / value_place % 16777216) ≡ o
  pub leapt : n / leap_place % 2 ≡ l
  pub accepted : n % value_place ≡ 0

pub bit : (l : ℕ) → l < 2 → l % 2 ≡ l
bit l h = omega arith

-- a ticket with what went out, 1 or 2
pub out_at : (w k l : ℕ) → 1 ≤ w → w ≤ 2 → (n : ℕ) → n ≡ 256 * k + w * out_place + l * leap_place → k < 16777216 → l < 2 → (o : Out) →
    out_in w k ≡ o → OutBack o l n
out_at w k l h i n e f g o d =
    let a : n / leap_place ≡ l = omega arith in
    let b : n / out_place ≡ w + 4 * l = omega arith in
    let c : n / 256 ≡ k + 16777216 * (w + 4 * l) = omega arith in
    let x : n / out_place % 4 ≡ w = omega (arith, b, h, i) in
    let y : n / value_place % 16777216 ≡ k = omega (arith, c, f) in
    record { out = rw (x, y) d; leapt = ap (λ v. v % 2) a ∙ bit l g; accepted = omega arith }

pub out_back : (o : Out) → FitsOut o → (l : ℕ) → l < 2 → OutBack o l (pack_out o + l * leap_place)
unfolding out_in
out_back silence silence_fits l h =
    let e : (0 + l * leap_place) / out_place % 4 ≡ 0 = omega arith in
    let a : (0 + l * leap_place) / leap_place ≡ l = omega arith in
    record { out = rw e; leapt = ap (λ v. v % 2) a ∙ bit l h; accepted = omega arith }
out_back (frame k) (frame_fits f) l h = out_at 1 k l (omega arith) (omega arith) _ (omega arith) f h (frame k) refl
out_back (kept_blank k) (blank_fits f) l h = out_at 2 k l (omega arith) (omega arith) _ (omega arith) f h (kept_blank k) refl

pub ordinary_back : (o : Out) → FitsOut o → unpack (acting sending) (pack_out o) ≡ step (ordinary o)
unfolding accepted_in step_in
ordinary_back o f =
    let n : pack_out o + 0 * leap_place ≡ pack_out o = omega arith in
    let b : OutBack o 0 (pack_out o) = rw n at (out_back o f 0 (omega arith)) in
    unpack_accepted (acting sending) (pack_out o) b.accepted ∙ rw (b.out, b.leapt)

pub leap_back : (o : Out) → FitsOut o → unpack (acting sending) (pack_out o + leap_place) ≡ step (leap o)
unfolding accepted_in step_in
leap_back o f =
    let n : pack_out o + 1 * leap_place ≡ pack_out o + leap_place = omega arith in
    let b : OutBack o 1 (pack_out o + leap_place) = rw n at (out_back o f 1 (omega arith)) in
    unpack_accepted (acting sending) (pack_out o + leap_place) b.accepted ∙ rw (b.out, b.leapt)

pub unpacks : Unpacks
unfolding Unpacks unpack accepted_in
unpacks c (refused n) (refusal_fits h k) = rw (ne_eqb (n % 256) 0 (λ z. omega (arith, z)))
unpacks (opening u) done opening_fits = unpack_accepted (opening u) 0 (omega arith)
unpacks (acting (taking f)) (ticket k) (taking_fits h) =
    unpack_accepted (acting (taking f)) (256 * k) (omega arith) ∙ ap ticket (omega arith)
unpacks (acting sending) (step (ordinary o)) (ordinary_fits f) = ordinary_back o f
unpacks (acting sending) (step (leap o)) (leap_fits f) = leap_back o f
unpacks (acting sealing) closed sealing_fits = unpack_accepted (acting sealing) 0 (omega arith)
unpacks (asking (marking s)) (amount n) (mark_fits h) = unpack_accepted (asking (marking s)) (256 * n) (omega arith) ∙ ap amount (omega arith)
unpacks (asking totalling) (amount n) (total_fits h) = unpack_accepted (asking totalling) (256 * n) (omega arith) ∙ ap amount (omega arith)
unpacks (acting _) done x3 = elim x3 [ ]
unpacks (asking _) done x4 = elim x4 [ ]
unpacks (opening u) closed x3 = elim x3 [ ]
unpacks (acting (taking f)) closed x6 = elim x6 [ ]
unpacks (acting sending) closed x7 = elim x7 [ ]
unpacks (asking _) closed x6 = elim x6 [ ]
unpacks (opening u) (ticket k) x4 = elim x4 [ ]
unpacks (acting sending) (ticket k) x7 = elim x7 [ ]
unpacks (acting sealing) (ticket k) x8 = elim x8 [ ]
unpacks (asking _) (ticket k) x7 = elim x7 [ ]
unpacks (opening u) (step _) x7 = elim x7 [ ]
unpacks (acting (taking f)) (step _) x11 = elim x11 [ ]
unpacks (acting sealing) (step _) x12 = elim x12 [ ]
unpacks (asking _) (step _) x10 = elim x10 [ ]
unpacks (opening u) (amount n) x6 = elim x6 [ ]
unpacks (acting _) (amount n) x8 = elim x8 [ ]
unpacks c (blank_due slot) x6 = elim x6 [ ]

-- a substitute: a ticket, or a blank with its due slot
row_back : (n k : ℕ) → n ≡ value_place * k → 1 ≤ k → k < 16777216 → unpack_substitute n ≡ ticket k
unfolding unpack_substitute
row_back n k e h i =
    let d : n / 256 % 16777216 ≡ k = omega arith in
    rw (eq-eqb (n % 256) 0 (omega arith), d, ne_eqb k 0 (λ z. omega (arith, z)))

blank_back : (n s : ℕ) → n ≡ out_place * s → unpack_substitute n ≡ blank_due s
unfolding unpack_substitute
blank_back n s e =
    let d : n / 4294967296 ≡ s = omega arith in
    rw (eq-eqb (n % 256) 0 (omega arith), eq-eqb (n / 256 % 16777216) 0 (omega arith), d)

pub substitute_unpacks : (a : Reply) → FitsSubstitute a → unpack_substitute (pack a) ≡ a
unfolding unpack_substitute
substitute_unpacks (refused n) (refusal_stands h k) = rw (ne_eqb (n % 256) 0 (λ z. omega (arith, z)))
substitute_unpacks (ticket k) (row_stands h i) = row_back (pack (ticket k)) k (omega arith) h i
substitute_unpacks (blank_due s) (blank_stands h) = blank_back (pack (blank_due s)) s (omega arith)
substitute_unpacks done x' = elim x' [ ]
substitute_unpacks closed x'' = elim x'' [ ]
substitute_unpacks (step _) x4 = elim x4 [ ]
substitute_unpacks (amount _) x5 = elim x5 [ ]
