-- THE GOLDEN BOUND, proved: golden_hindsight. What any choice of the rival gains, against what went out, over all calls of a round never sealed.
use Rattle.std.specs.Prelude.{◌≡◌, true, ◌&&◌, not, ℕ, ◌+◌, ◌*◌, ◌≤◌, ◌<◌, leb}
use Rattle.std.proofs.Common.{sym, ap, true≢false, arith, leb-true}
use Rattle.std.proofs.Math.Path.{subst}
use mathlib.Core.List.{List, [], ◌∷◌}
use Rattle.std.proofs.Math.Option.{none, some}
use Rattle.rules.specs.Limits.{most_last, most_rows}
use Rattle.rules.specs.Rows.{Round, round, Frame, Setup}
use Rattle.rules.specs.Steps.{goes, opened, sealed, sent, taken}
use Rattle.rules.specs.Table.{round_in, table}
use Rattle.rules.specs.Calls.{Call, after, at, out_of}
use Rattle.rules.specs.Conditions.{Past}
use Rattle.rules.specs.Demands.{NoOpening, member}
use Rattle.rules.specs.Hindsight.{Choice, GoldenHindsight, Most, MostReckoned, Told, could_have, earned, gained, kept_to, most, never_shut, nothing, offer, offers, sent_in, shut, took, went}
use Rattle.theory.specs.Tests.{and_true, not_true'}
use Rattle.theory.specs.Full.{Fine}
use Rattle.theory.specs.Calls.{Takes}
use Rattle.theory.specs.Back.{read_back}
use Rattle.theory.specs.Sane.{Sane}
use Rattle.theory.specs.Third.{at_sane, opened_sane, run_at}
use Rattle.hindsight.specs.Fibonacci.{even_26, fib_52, fib_53, fib_54, golden_end}
use Rattle.hindsight.specs.Potential.{Account, at_end, counted, opened_account, send_on, take_booked, take_left}
use Rattle.hindsight.specs.OverCalls.{opened_replies, over_calls, tale}
use Rattle.hindsight.specs.Most.{most_reckoned, none_gained, none_kept}

-- THE BOUND from a round on to the round at the end, never sealed, by what is told: gained so far and by any choice of what is to come, against what
-- went out
abbrev pub Bound : (r end : Round) → List Told → Type 0
Bound r z ts =
    never_shut ts ≡ true → (cs : Choice) (f : ℕ → ℕ) (us : List ℕ) (s o : ℕ) → Account r f us s o → z.last < z.slot →
    kept_to (offers ts r.slot) cs us ≡ true → fib_53 * (o + gained (offers ts r.slot) cs) ≤ fib_54 * earned ts f s

-- NO CALL is left
pub none_left : (r : Round) → Fine r → Bound r r []
unfolding offers kept_to gained earned
none_left r f e cs g us s o y p v = omega (arith, at_end r f p g us s o y)

-- NOTHING is told
pub untold : (r z : Round) (ts : List Told) → Bound r z ts → Bound r z (nothing ∷ ts)
unfolding never_shut offers earned
untold r z ts b = b

-- A FRAME IS TAKEN: the rival leaves it, or books a slot for it
pub taken_bound : (r z : Round) → Fine r → (n : Frame) → Takes r n → (ts : List Told) → Bound (taken r n) z ts →
    Bound r z (took r.next n.due n.weight ∷ ts)
unfolding never_shut taken round offer offers kept_to gained earned
taken_bound r z f n k ts b e [] g us s o y p v =
    omega (arith, b e [] _ us s o (take_left r f g us s o n k y) p (none_kept (offers ts r.slot) us), none_gained (offers ts r.slot))
taken_bound r z f n k ts b e (none ∷ cs) g us s o y p v = b e cs _ us s o (take_left r f g us s o n k y) p v
taken_bound r z f n k ts b e (some u ∷ cs) g us s o y p v =
    let a = and_true ((leb r.slot u && leb u n.due) && not (member u us)) (kept_to (offers ts r.slot) cs (u ∷ us)) v in
    let c = and_true (leb r.slot u && leb u n.due) (not (member u us)) a.0 in
    let i = and_true (leb r.slot u) (leb u n.due) c.0 in
    let q = take_booked r f g us s o n k y u (leb-true r.slot u i.0) (leb-true u n.due i.1) (not_true' (member u us) c.1) in
    omega (arith, b e cs _ (u ∷ us) s (o + n.weight) q p a.1)

-- A SLOT IS SENT
pub sent_bound : (r z : Round) → Fine r → r.slot ≤ r.last → (ts : List Told) → Bound (sent r) z ts → Bound r z (went (out_of (goes r)) ∷ ts)
unfolding never_shut sent round offers earned counted
sent_bound r z f t ts b e cs g us s o y p v = b e cs g us (s + counted g (goes r)) o (send_on r f t g us s o y) p v

-- A ROUND IS SEALED: nothing is claimed of it
pub shut_bound : (r z : Round) → Fine r → (ts : List Told) → Bound (sealed r) z ts → Bound r z (shut ∷ ts)
unfolding never_shut
shut_bound r z f ts b e = absurd (true≢false (sym e))

-- THE BOUND over all calls
pub bound_over : (cs : List Call) (r : Round) → Fine r → NoOpening cs → Bound r (after cs r) (tale cs r)
bound_over = over_calls Bound untold none_left taken_bound sent_bound shut_bound

-- B × B is at most B × S + S × S
abbrev pub WithinGolden : (b s : ℕ) → Type 0
WithinGolden b s = b * b ≤ b * s + s * s

-- a table that is past its last slot is that of a round that is
pub past_round : (r : Round) → Sane r → Past (table r) → r.last < r.slot
unfolding round_in round
past_round r s p = omega (arith, p, ap (λ (z : Round). z.slot) (read_back r s.fine s.size), ap (λ (z : Round). z.last) (read_back r s.fine s.size))

-- ANY CHOICE that can be kept, of a round by the model
module _ (u : Setup) (k : ℕ) (cs : List Call) (h : u.last ≤ most_last) (i : 1 ≤ k) (j : k ≤ most_rows) (n : NoOpening cs)
    (p : (at k u cs).last < (at k u cs).slot) (q : never_shut (tale cs (opened u k)) ≡ true) where
  pub any_choice : (xs : Choice) → kept_to (offers (tale cs (opened u k)) 0) xs [] ≡ true →
      WithinGolden (gained (offers (tale cs (opened u k)) 0) xs) (sent_in (tale cs (opened u k)))
  unfolding at opened round sent_in
  any_choice xs v =
      let r = opened u k in
      golden_end 26 fib_52 fib_53 even_26 (gained (offers (tale cs r) 0) xs) (sent_in (tale cs r))
      (omega (arith, bound_over cs r (opened_sane u k h i j).fine n q xs (λ x. 0) [] 0 0 (opened_account (λ x. 0) u k) p v))

  -- the most is one of them
  pub golden_round : WithinGolden (could_have (tale cs (opened u k))) (sent_in (tale cs (opened u k)))
  unfolding could_have Most MostReckoned
  golden_round =
      let ts = tale cs (opened u k) in
      let m : Most (offers ts 0) (most (offers ts 0) []) = most_reckoned (offers ts 0) in
      subst (λ (b : ℕ). WithinGolden b (sent_in ts)) m.0.2 (any_choice m.0.0 m.0.1)

-- ON BYTES: the replies are the model's
pub golden_hindsight : GoldenHindsight
unfolding GoldenHindsight
golden_hindsight t k u cs e i j h n p =
    rw (opened_replies t k u cs e i j h)
    (golden_round u k cs h i j n (past_round (at k u cs) (at_sane t k u e i j h cs) (rw (run_at t k u e i j h cs) at p)))
