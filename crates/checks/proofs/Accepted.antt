-- What it says of the numbers tested that no refusal applies, and that a round that is over is refused for that before all else.
use mathlib.Core.Path.{◌≡◌, refl}
use mathlib.Core.Bool.{Bool, true, false, cond}
use Prim.Native.Nat.{ℕ, ◌≤◌, ◌<◌}
use native.Mathlib.Omega.{arith}
use lib.Dec.{ltb}
use borrow.Author.Tests.{ltb-false, eqb-false, leb-false}
use Rattle.rules.specs.Limits.{ticket_limit}
use Rattle.rules.specs.Rows.{Frame, HeadTail}
use Rattle.theory.specs.Calls.{or_false, none_holds}
use Rattle.rules.specs.Calls.{first_of, take_tests, send_tests, mark_tests}
use Rattle.refusals.specs.declared.Refusal.{Refusal}
use Rattle.refusals.specs.Refusals.{refusal_number}
use Rattle.refusals.proofs.Numbers.{refusal_counts}

pub mark_accepted : (t l s : ℕ) → first_of (mark_tests t l s) ≡ 0 → (t ≤ l) × (t ≤ s) × (s ≤ l)
mark_accepted t l s e =
    let h = none_holds (mark_tests t l s) refl e in
    let b = or_false (ltb s t) (ltb l s) h.1.0 in (ltb-false l t h.0, ltb-false s t b.0, ltb-false l s b.1)

pub send_accepted : (t l : ℕ) → first_of (send_tests t l) ≡ 0 → t ≤ l
send_accepted t l e = ltb-false l t (none_holds (send_tests t l) refl e).0

-- a ticket and a row are left
pub take_accepted : (t l n u k : ℕ) (m : HeadTail) (f : Frame) → first_of (take_tests t l n u k m f) ≡ 0 → (n ≡ ticket_limit → ⊥) × (u < k)
take_accepted t l n u k m f e =
    let h = none_holds (take_tests t l n u k m f) refl e in (eqb-false n ticket_limit h.1.1.1.1.1.0, leb-false k u h.1.1.1.1.1.1.0)

-- what refuses a sending is the first refusal of each call that asks for a slot left, whatever the call tests further
pub over_first : (t l further : ℕ) (r : Refusal) → refusal_number r ≡ first_of (send_tests t l) → refusal_number r ≡ cond (ltb l t) 5 further
over_first t l further r = by_test (ltb l t)
  where
    by_test : (b : Bool) → refusal_number r ≡ cond b 5 0 → refusal_number r ≡ cond b 5 further
    by_test true e = e
    by_test false e = absurd (omega (arith, refusal_counts r))
