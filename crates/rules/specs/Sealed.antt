-- L1, CLOSING THE LIST: what a sealed round promises, of every sound round and over lists of calls as in demand 3; each is a type, proved in theory.
use Rattle.std.specs.Prelude.{◌≡◌, true, List, [], ◌∷◌, ◌++◌, ℕ, suc, ◌+◌, ◌*◌, ◌≤◌, ◌<◌, length}
use Rattle.rules.specs.Limits.{head_size, row_size, most_rows, most_last}
use Rattle.rules.specs.Rows.{Frame, Setup, Row, Round, In}
use Rattle.rules.specs.Plan.{plan, in_plan, planned}
use Rattle.rules.specs.Steps.{goes, is_ordinary}
use Rattle.rules.specs.Table.{round_good}
use Rattle.rules.specs.Calls.{taking, sending, sealing, Call, opening, acting, frame, kept_blank, silence, ordinary, refused, closed, step, out_of, answer, left, run, at}
use Rattle.rules.specs.Conditions.{◌⟺◌}
use Rattle.rules.specs.PlanM.{GoesFirst}
use Rattle.rules.specs.Demands.{NoOpening}

-- a sealed round sends the plan's canonical first, blanks among its members, and every step is ordinary
unfoldable pub SealedOrdinary : Type 0
SealedOrdinary =
    (r : Round) → round_good r ≡ true → r.slot ≤ r.last → r.tail.sealed ≡ 1 → GoesFirst r (goes r) × (is_ordinary r ≡ true)

-- SILENCE: unsealed exactly when no row is in use; sealed only while every waiting row is in the plan and none is due now
unfoldable pub UnsealedSilence : Type 0
UnsealedSilence =
    (r : Round) → round_good r ≡ true → r.slot ≤ r.last → r.tail.sealed ≡ 0 → (out_of (goes r) ≡ silence) ⟺ (r.rows ≡ [])

unfoldable pub SealedSilence : Type 0
SealedSilence =
    (r : Round) → round_good r ≡ true → r.slot ≤ r.last → r.tail.sealed ≡ 1 → out_of (goes r) ≡ silence →
    (x : Row) → In x r.rows → (in_plan x (plan r) ≡ true) × (r.slot < x.due)

-- A ROW HAS GONE OUT in the calls ys after xs: one of them was a sending, accepted by the row's due slot, when it was the row's turn; the reply named it
pub record WentOut (k : ℕ) (u : Setup) (t : List ℕ) (xs ys : List Call) (x : Row) : Type 0 where
  pub before : List Call
  pub behind : List Call
  pub among : ys ≡ before ++ (acting sending ∷ behind)
  pub its_turn : goes (at k u (xs ++ before)) ≡ x
  pub in_time : (at k u (xs ++ before)).slot ≤ x.due
  pub sends : (at k u (xs ++ (before ++ (acting sending ∷ [])))).slot ≡ suc (at k u (xs ++ before)).slot
  pub frame_named : x.tail.kind ≡ 0 → answer (acting sending) (run (xs ++ before) (left (opening u) t)) ≡ step (ordinary (frame x.ticket))
  pub blank_named : x.tail.kind ≡ 1 → answer (acting sending) (run (xs ++ before) (left (opening u) t)) ≡ step (ordinary (kept_blank x.ticket))

-- A SEALING among calls, accepted after xs, with no accepted opening among those that follow it, ys
pub record SealedBy (k : ℕ) (u : Setup) (t : List ℕ) (cs xs ys : List Call) : Type 0 where
  pub behind : List Call
  pub among : cs ≡ xs ++ (acting sealing ∷ (ys ++ behind))
  pub accepted : answer (acting sealing) (run xs (left (opening u) t)) ≡ closed
  pub unopened : NoOpening ys

-- OF A LIST: a sealing ahead of the last slot is accepted; from then on the round is sealed, takings are refused by it,
-- and every row then in the plan has gone out once its due slot is sent
pub record SealedList (k : ℕ) (u : Setup) (t : List ℕ) (cs : List Call) : Type 0 where
  pub seals : (xs ys zs : List Call) → cs ≡ xs ++ (acting sealing ∷ (ys ++ zs)) → (at k u xs).slot ≤ (at k u xs).last → NoOpening ys → SealedBy k u t cs xs ys
  pub stays : (xs ys : List Call) → SealedBy k u t cs xs ys → (at k u (xs ++ (acting sealing ∷ ys))).tail.sealed ≡ 1
  pub takes_none : (xs ys : List Call) (f : Frame) → SealedBy k u t cs xs ys → let r = at k u (xs ++ (acting sealing ∷ ys)) in
      r.slot ≤ r.last → answer (acting (taking f)) (run (xs ++ (acting sealing ∷ ys)) (left (opening u) t)) ≡ refused 13
  pub goes_out : (xs ys : List Call) (x : Row) → SealedBy k u t cs xs ys → In x (planned (at k u xs)) →
      x.due < (at k u (xs ++ (acting sealing ∷ ys))).slot → WentOut k u t (xs ++ (acting sealing ∷ [])) ys x

unfoldable pub SealedGoesOut : Type 0
SealedGoesOut =
    (t : List ℕ) (k : ℕ) (u : Setup) (cs : List Call) → length t ≡ head_size + row_size * k → 1 ≤ k → k ≤ most_rows → u.last ≤ most_last →
    SealedList k u t cs
