-- FROM AN ACCEPTED SEALING ON, over lists of calls on bytes, every planned row goes out by its due slot: sealed_says, take_refused, sealed_goes_out.
use Rattle.std.specs.Prelude.{◌≡◌, cond, ℕ, suc, ◌+◌, ◌*◌, ◌≤◌, ◌<◌, eqb, length}
use Rattle.std.proofs.Math.Path.{refl, ap}
use Rattle.std.proofs.Common.{sym, ◌∙◌, arith, eq-eqb, ne_eqb, le-ltb}
use Rattle.std.proofs.Math.Logic.{inl, inr}
use mathlib.Core.List.{List, [], ◌∷◌, ◌++◌, append_assoc}
use Rattle.rules.specs.Limits.{head_size, row_size, most_rows, most_last}
use Rattle.rules.specs.Rows.{Frame, Setup, Row, Round, round, In}
use Rattle.rules.specs.Plan.{planned}
use Rattle.rules.specs.Steps.{sealed, goes, sent}
use Rattle.rules.specs.Calls.{taking, sending, sealing, Call, opening, acting, frame, kept_blank, ordinary, refused, closed, step, number_of, out_of, act, deed, round_refusal, says, leaves, answer, left, run, next_round, after, at}
use Rattle.rules.specs.Sealed.{WentOut, SealedBy, SealedGoesOut}
use Rattle.theory.specs.Tests.{eqb?}
use Rattle.theory.specs.All.{all_in}
use Rattle.theory.specs.Full.{Fine}
use Rattle.theory.specs.Same.{row_ticket, planned_in}
use Rattle.theory.specs.First.{first_ordinary}
use Rattle.theory.specs.Calls.{seals, sealed_fine}
use Rattle.theory.specs.Sane.{answer_is}
use Rattle.theory.specs.Third.{at_sane, run_at, at_append, at_next}
use Rattle.theory.specs.Sealed.{sealed_planned}
use Rattle.theory.specs.SealedCalls.{after_sealed, after_fine, planned_bounds, GoesAmong, goes_or_waits}

-- WHAT A SEALED ROUND ANSWERS to a sending
pub sealed_says : (r : Round) → Fine r → r.slot ≤ r.last → r.tail.sealed ≡ 1 → says (acting sending) r ≡ step (ordinary (out_of (goes r)))
unfolding says deed act
sealed_says r f o e = rw (first_ordinary r f o e)

pub send_accepted : (r : Round) → r.slot ≤ r.last → round_refusal (acting sending) r ≡ 0
unfolding round_refusal deed act
send_accepted r o = rw (le-ltb r.last r.slot o)

pub seal_accepted : (r : Round) → r.slot ≤ r.last → round_refusal (acting sealing) r ≡ 0
unfolding round_refusal deed act
seal_accepted r o = rw (le-ltb r.last r.slot o)

pub take_refused : (r : Round) (f : Frame) → r.slot ≤ r.last → r.tail.sealed ≡ 1 → round_refusal (acting (taking f)) r ≡ 13
unfolding round_refusal deed act
take_refused r f o e = rw (le-ltb r.last r.slot o, eq-eqb r.tail.sealed 1 e)

-- a row's name
pub frame_out : (x : Row) → 1 ≤ x.ticket → x.tail.kind ≡ 0 → out_of x ≡ frame x.ticket
unfolding out_of
frame_out x h k = rw (ne_eqb x.ticket 0 (λ z. omega (arith, h, z)), k)

pub blank_out : (x : Row) → 1 ≤ x.ticket → x.tail.kind ≡ 1 → out_of x ≡ kept_blank x.ticket
unfolding out_of
blank_out x h k = rw (ne_eqb x.ticket 0 (λ z. omega (arith, h, z)), k)

-- ON BYTES
module _ (t : List ℕ) (k : ℕ) (u : Setup) (long : length t ≡ head_size + row_size * k) (some : 1 ≤ k) (few : k ≤ most_rows)
    (fits : u.last ≤ most_last) where
  fine_at : (cs : List Call) → Fine (at k u cs)
  fine_at cs = (at_sane t k u long some few fits cs).fine

  answers : (c : Call) (cs : List Call) → answer c (run cs (left (opening u) t))
      ≡ cond (eqb (round_refusal c (at k u cs)) 0) (says c (at k u cs)) (refused (round_refusal c (at k u cs)))
  answers c cs = ap (answer c) (run_at t k u long some few fits cs) ∙ answer_is c (at k u cs) (at_sane t k u long some few fits cs)

  accepted_answer : (c : Call) (cs : List Call) → round_refusal c (at k u cs) ≡ 0 → answer c (run cs (left (opening u) t)) ≡ says c (at k u cs)
  accepted_answer c cs e = answers c cs ∙ rw (eq-eqb (round_refusal c (at k u cs)) 0 e)

  -- a sealing ahead of the last slot is accepted, and one accepted is
  sealing_answered : (xs : List Call) → (at k u xs).slot ≤ (at k u xs).last → answer (acting sealing) (run xs (left (opening u) t)) ≡ closed
  unfolding says deed act
  sealing_answered xs o = accepted_answer (acting sealing) xs (seal_accepted (at k u xs) o)

  sealing_ahead : (xs : List Call) → answer (acting sealing) (run xs (left (opening u) t)) ≡ closed → (at k u xs).slot ≤ (at k u xs).last
  unfolding number_of
  sealing_ahead xs e = seals (at k u xs) (elim (eqb? (round_refusal (acting sealing) (at k u xs)) 0) [
    | inl a ↦ a.1
    | inr a ↦
        let q : refused (round_refusal (acting sealing) (at k u xs)) ≡ closed = rw a.0 at (sym (answers (acting sealing) xs) ∙ e) in
        ap number_of q
  ])

  -- THE ROUND after an accepted sealing and the calls behind it
  module _ (cs xs ys : List Call) (s : SealedBy k u t cs xs ys) where
    round_then : at k u (xs ++ (acting sealing ∷ ys)) ≡ after ys (sealed (at k u xs))
    unfolding after next_round leaves deed act
    round_then =
        at_append k u xs (acting sealing ∷ ys)
        ∙ ap (after ys) (rw (eq-eqb (round_refusal (acting sealing) (at k u xs)) 0 (seal_accepted (at k u xs) (sealing_ahead xs s.accepted))))

    sealed_now : at k u (xs ++ (acting sealing ∷ [])) ≡ sealed (at k u xs)
    unfolding next_round leaves deed act
    sealed_now =
        at_next k u xs (acting sealing)
        ∙ rw (eq-eqb (round_refusal (acting sealing) (at k u xs)) 0 (seal_accepted (at k u xs) (sealing_ahead xs s.accepted)))

    is_sealed_now : (sealed (at k u xs)).tail.sealed ≡ 1
    unfolding sealed round
    is_sealed_now = refl

    stays_sealed : (at k u (xs ++ (acting sealing ∷ ys))).tail.sealed ≡ 1
    stays_sealed = rw round_then (after_sealed ys (sealed (at k u xs)) is_sealed_now s.unopened)

    taking_refused : (f : Frame) → (at k u (xs ++ (acting sealing ∷ ys))).slot ≤ (at k u (xs ++ (acting sealing ∷ ys))).last →
        answer (acting (taking f)) (run (xs ++ (acting sealing ∷ ys)) (left (opening u) t)) ≡ refused 13
    taking_refused f o =
        let zs = xs ++ (acting sealing ∷ ys) in answers (acting (taking f)) zs ∙ rw (take_refused (at k u zs) f o stays_sealed)

    -- the calls up to a sending
    round_before : (bs : List Call) → at k u ((xs ++ (acting sealing ∷ [])) ++ bs) ≡ after bs (sealed (at k u xs))
    round_before bs = at_append k u (xs ++ (acting sealing ∷ [])) bs ∙ ap (after bs) sealed_now

    sending_says : (x : Row) (g : GoesAmong (sealed (at k u xs)) ys x) →
        answer (acting sending) (run ((xs ++ (acting sealing ∷ [])) ++ g.before) (left (opening u) t)) ≡ step (ordinary (out_of x))
    sending_says x g =
        let zs = (xs ++ (acting sealing ∷ [])) ++ g.before in
        let e = round_before g.before in
        let o : (at k u zs).slot ≤ (at k u zs).last = rw e g.ahead in
        accepted_answer (acting sending) zs (send_accepted (at k u zs) o)
        ∙ sealed_says (at k u zs) (fine_at zs) o (rw e g.sealed_then)
        ∙ ap (λ (p : Row). step (ordinary (out_of p))) (ap goes e ∙ g.its_turn)

    sending_moves : (x : Row) (g : GoesAmong (sealed (at k u xs)) ys x) →
        (at k u ((xs ++ (acting sealing ∷ [])) ++ (g.before ++ (acting sending ∷ [])))).slot ≡ suc (at k u ((xs ++ (acting sealing ∷ [])) ++ g.before)).slot
    unfolding next_round leaves deed act sent round
    sending_moves x g =
        let hd = xs ++ (acting sealing ∷ []) in
        let zs = hd ++ g.before in
        let o : (at k u zs).slot ≤ (at k u zs).last = rw (round_before g.before) g.ahead in
        let q : next_round (acting sending) (at k u zs) ≡ sent (at k u zs) = rw (eq-eqb (round_refusal (acting sending) (at k u zs)) 0 (send_accepted (at k u zs) o)) in
        ap (λ (cs : List Call). (at k u cs).slot) (sym (append_assoc hd g.before (acting sending ∷ [])))
        ∙ ap (λ (r : Round). r.slot) (at_next k u zs (acting sending) ∙ q)

    -- EVERY ROW then in the plan has gone out once its due slot is sent
    row_went : (x : Row) → In x (planned (at k u xs)) → x.due < (at k u (xs ++ (acting sealing ∷ ys))).slot →
        WentOut k u t (xs ++ (acting sealing ∷ [])) ys x
    row_went x i d =
        let r = sealed (at k u xs) in
        let f : Fine r = sealed_fine (at k u xs) (fine_at xs) in
        let j : In x (planned r) = rw (sealed_planned (at k u xs)) i in
        let h = all_in (λ y. 1 ≤ y.ticket) x (at k u xs).rows (row_ticket (at k u xs) (fine_at xs))
        (all_in (λ y. In y (at k u xs).rows) x (planned (at k u xs)) (planned_in (at k u xs)) i) in
        elim (goes_or_waits ys r f is_sealed_now s.unopened x j) [
          | inl g ↦ record {
            before = g.before;
            behind = g.behind;
            among = g.among;
            its_turn = ap goes (round_before g.before) ∙ g.its_turn;
            in_time = rw (round_before g.before) g.in_time;
            sends = sending_moves x g;
            frame_named = λ e. sending_says x g ∙ ap (λ o. step (ordinary o)) (frame_out x h e);
            blank_named = λ e. sending_says x g ∙ ap (λ o. step (ordinary o)) (blank_out x h e);
          }
          | inr w ↦
              let b = planned_bounds (after ys r) (after_fine ys r f) x w in
              absurd (omega (arith, d, b.due_from, ap (λ (q : Round). q.slot) round_then))
        ]

pub sealed_goes_out : SealedGoesOut
unfolding SealedGoesOut
sealed_goes_out t k u cs e i j h =
    record {
      seals = λ xs ys zs q o n. record { behind = zs; among = q; accepted = sealing_answered t k u e i j h xs o; unopened = n };
      stays = λ xs ys s. stays_sealed t k u e i j h cs xs ys s;
      takes_none = λ xs ys f s o. taking_refused t k u e i j h cs xs ys s f o;
      goes_out = λ xs ys x s m d. row_went t k u e i j h cs xs ys s x m d;
    }
