-- The numbers tell the refusals apart: equal ones come from equal refusals, and none is 0.
use Rattle.std.proofs.Common.{◌≡◌, ℕ, ◌≤◌, refl, ap, arith}
use Rattle.std.specs.Prelude.{cond, eqb}
use Rattle.refusals.specs.declared.Refusal.{Refusal}
use Rattle.refusals.specs.declared.Refusal.TheVariants.{BadLine, BadLength, NotSound, LastTooLate, RoundOver, BadWeight, BadSlot, NoTicketLeft, TableFull, NoSuchTicket, NotInPlan, NoRoom, Sealed, BadClass}
use Rattle.refusals.specs.Refusals.{refusal_number}

-- the refusal of a number; of a number that none has, the last
abbrev numbered : ℕ → Refusal
numbered n =
    cond (eqb n 1) BadLine (
    cond (eqb n 2) BadLength (
    cond (eqb n 3) NotSound (
    cond (eqb n 4) LastTooLate (
    cond (eqb n 5) RoundOver (
    cond (eqb n 6) BadWeight (
    cond (eqb n 7) BadSlot (
    cond (eqb n 8) NoTicketLeft (
    cond (eqb n 9) TableFull (
    cond (eqb n 10) NoSuchTicket (
    cond (eqb n 11) NotInPlan (
    cond (eqb n 12) NoRoom (
    cond (eqb n 13) Sealed (
    BadClass)))))))))))))

numbered_back : (r : Refusal) → numbered (refusal_number r) ≡ r
numbered_back BadLine = refl
numbered_back BadLength = refl
numbered_back NotSound = refl
numbered_back LastTooLate = refl
numbered_back RoundOver = refl
numbered_back BadWeight = refl
numbered_back BadSlot = refl
numbered_back NoTicketLeft = refl
numbered_back TableFull = refl
numbered_back NoSuchTicket = refl
numbered_back NotInPlan = refl
numbered_back NoRoom = refl
numbered_back Sealed = refl
numbered_back BadClass = refl

pub refusal_read : (a b : Refusal) → refusal_number a ≡ refusal_number b → a ≡ b
refusal_read a b e =
    let i : numbered (refusal_number a) ≡ numbered (refusal_number b) = ap numbered e in
    let j : numbered (refusal_number a) ≡ a = numbered_back a in
    let k : numbered (refusal_number b) ≡ b = numbered_back b in
    cc

pub refusal_counts : (r : Refusal) → 1 ≤ refusal_number r
refusal_counts BadLine = omega arith
refusal_counts BadLength = omega arith
refusal_counts NotSound = omega arith
refusal_counts LastTooLate = omega arith
refusal_counts RoundOver = omega arith
refusal_counts BadWeight = omega arith
refusal_counts BadSlot = omega arith
refusal_counts NoTicketLeft = omega arith
refusal_counts TableFull = omega arith
refusal_counts NoSuchTicket = omega arith
refusal_counts NotInPlan = omega arith
refusal_counts NoRoom = omega arith
refusal_counts Sealed = omega arith
refusal_counts BadClass = omega arith
