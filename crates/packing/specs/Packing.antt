-- A reply packed into one number, by the rule of docs/REPLIES.md, and read back.
use Rattle.std.specs.Prelude.{◌≡◌, cond, Result, Ok, Err, ℕ, zero, suc, ◌+◌, ◌*◌, ◌/◌, ◌%◌, ◌≤◌, ◌<◌, eqb}
use Rattle.rules.specs.Rows.{Frame, Setup}
use Rattle.rules.specs.Calls.{taking, sending, sealing, marking, totalling, Call, opening, acting, asking, Out, silence, frame, kept_blank, Step, ordinary, leap, Reply, refused, done, closed, ticket, step, amount, blank_due}
use Rattle.refusals.specs.declared.Refusal.{Refusal}
use Rattle.refusals.specs.Refusals.{refusal_number}

-- the reply of a result, by what an accepted value says
abbrev pub reply_of : {A : Type 0} → (said : A → Reply) → Result A Refusal → Reply
reply_of said (Ok a) = said a
reply_of said (Err r) = refused (refusal_number r)

-- places: the refusal's number below 2^8, a ticket or an amount from there on, what went out from 2^32, a leap at 2^34
abbrev pub value_place : ℕ
value_place = 256

abbrev pub out_place : ℕ
out_place = 4294967296

abbrev pub leap_place : ℕ
leap_place = 17179869184

abbrev pub pack_out : Out → ℕ
pack_out silence = 0
pack_out (frame k) = value_place * k + out_place
pack_out (kept_blank k) = value_place * k + 2 * out_place

abbrev pub pack : Reply → ℕ
pack (refused n) = n
pack done = 0
pack closed = 0
pack (ticket k) = value_place * k
pack (step (ordinary o)) = pack_out o
pack (step (leap o)) = pack_out o + leap_place
pack (amount n) = value_place * n
pack (blank_due s) = out_place * s

-- an amount that fits behind the refusal's bits
abbrev pub SmallAmount : Reply → Type 0
SmallAmount (refused n) = Unit {0}
SmallAmount done = Unit {0}
SmallAmount closed = Unit {0}
SmallAmount (ticket k) = Unit {0}
SmallAmount (step s) = Unit {0}
SmallAmount (amount n) = n ≤ 17179869184
SmallAmount (blank_due s) = Unit {0}

-- READ BACK, by call
unfoldable pub out_in : (what ticket : ℕ) → Out
out_in zero k = silence
out_in (suc zero) k = frame k
out_in (suc (suc n)) k = kept_blank k

unfoldable pub step_in : ℕ → Step
step_in n =
    let o = out_in (n / out_place % 4) (n / value_place % 16777216) in cond (eqb (n / leap_place % 2) 0) (ordinary o) (leap o)

unfoldable pub accepted_in : Call → ℕ → Reply
accepted_in (opening u) n = done
accepted_in (acting (taking f)) n = ticket (n / value_place)
accepted_in (acting sending) n = step (step_in n)
accepted_in (acting sealing) n = closed
accepted_in (asking (marking s)) n = amount (n / value_place)
accepted_in (asking totalling) n = amount (n / value_place)

unfoldable pub unpack : Call → ℕ → Reply
unpack c n = cond (eqb (n % value_place) 0) (accepted_in c n) (refused n)

-- a substitute: a blank where the ticket's place is 0, as no ticket is
unfoldable pub unpack_substitute : ℕ → Reply
unpack_substitute n =
    let k = n / value_place % 16777216 in
    cond (eqb (n % value_place) 0) (cond (eqb k 0) (blank_due (n / out_place)) (ticket k)) (refused n)

-- THE BOUNDS of each call's replies
pub data FitsOut : Out → Type 0 where
  silence_fits : FitsOut silence
  frame_fits : {k : ℕ} → k < 16777216 → FitsOut (frame k)
  blank_fits : {k : ℕ} → k < 16777216 → FitsOut (kept_blank k)

pub data Fits : Call → Reply → Type 0 where
  refusal_fits : {c : Call} {n : ℕ} → 1 ≤ n → n < value_place → Fits c (refused n)
  opening_fits : {u : Setup} → Fits (opening u) done
  taking_fits : {f : Frame} {k : ℕ} → k < 16777216 → Fits (acting (taking f)) (ticket k)
  ordinary_fits : {o : Out} → FitsOut o → Fits (acting sending) (step (ordinary o))
  leap_fits : {o : Out} → FitsOut o → Fits (acting sending) (step (leap o))
  sealing_fits : Fits (acting sealing) closed
  mark_fits : {s n : ℕ} → n ≤ 16777216 → Fits (asking (marking s)) (amount n)
  total_fits : {n : ℕ} → n ≤ 17179869184 → Fits (asking totalling) (amount n)

pub data FitsSubstitute : Reply → Type 0 where
  refusal_stands : {n : ℕ} → 1 ≤ n → n < value_place → FitsSubstitute (refused n)
  row_stands : {k : ℕ} → 1 ≤ k → k < 16777216 → FitsSubstitute (ticket k)
  blank_stands : {s : ℕ} → s < 65536 → FitsSubstitute (blank_due s)

-- OWED: within them unpacking undoes packing
unfoldable pub Unpacks : Type 0
Unpacks = (c : Call) (a : Reply) → Fits c a → unpack c (pack a) ≡ a
