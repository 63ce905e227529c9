-- What lines print and call, joined, too long, or begun at the end: prints_on, calls_on, overlong_prints, overlong_calls, end_prints.
use Rattle.std.specs.Prelude.{◌≡◌, refl, ◌||◌, not, cond, List, [], ◌∷◌, ◌++◌, ℕ, ◌-◌, ◌<◌, eqb, length}
use Rattle.std.proofs.Common.{sym, ap, ◌∙◌, inl, inr, append-nil, append_assoc, arith, length-append, ne_eqb}
use Rattle.rules.specs.Calls.{refused, answer, left, run}
use Rattle.rules.specs.Lines.{call_of, line_end, Reading, command, broken, reading_refusal, read, reply_text, lines_from, turn, printed_from}
use Rattle.rules.specs.Reads.{complete_from, asked, calls_of, stops, longest_line, written}
use Rattle.theory.specs.Tests.{eqb?}
use Rattle.theory.specs.Broken.{unended, too_long}
use Rattle.theory.specs.Complete.{Unended, unended_at}

-- LINES JOINED: those behind print and call on the table left, unless refusal 1 came before
abbrev pub PrintsOn : (xs ys : List (List ℕ)) (t : List ℕ) → Type 0
PrintsOn xs ys t = printed_from (xs ++ ys) t ≡ printed_from xs t ++ cond (stops xs) [] (printed_from ys (run (calls_of xs) t))

abbrev pub CallsOn : (xs ys : List (List ℕ)) (t : List ℕ) → Type 0
CallsOn xs ys t = run (calls_of (xs ++ ys)) t ≡ cond (stops xs) (run (calls_of xs) t) (run (calls_of ys) (run (calls_of xs) t))

turn_on : (r : Reading) (xs ys : List (List ℕ)) (t : List ℕ) → ((z : List ℕ) → PrintsOn xs ys z) →
    turn r t (printed_from (xs ++ ys))
    ≡ turn r t (printed_from xs) ++ cond (not (eqb (reading_refusal r) 0) || stops xs) [] (printed_from ys (run (asked r (calls_of xs)) t))
unfolding turn asked run
turn_on broken xs ys t f = sym (append-nil (reply_text (refused 1)))
turn_on (command c) xs ys t f =
    let z = left (call_of c) t in
    let said = reply_text (answer (call_of c) t) in
    ap (λ (bs : List ℕ). said ++ bs) (f z)
    ∙ sym (append_assoc said (printed_from xs z) (cond (stops xs) [] (printed_from ys (run (calls_of xs) z))))

pub prints_on : (xs ys : List (List ℕ)) (t : List ℕ) → PrintsOn xs ys t
unfolding printed_from stops calls_of run
prints_on [] ys t = refl
prints_on (x ∷ xs) ys t = turn_on (read x) xs ys t (prints_on xs ys)

asked_on : (r : Reading) (xs ys : List (List ℕ)) (t : List ℕ) → ((z : List ℕ) → CallsOn xs ys z) →
    run (asked r (calls_of (xs ++ ys))) t
    ≡ cond (not (eqb (reading_refusal r) 0) || stops xs) (run (asked r (calls_of xs)) t) (run (calls_of ys) (run (asked r (calls_of xs)) t))
unfolding asked run
asked_on broken xs ys t f = refl
asked_on (command c) xs ys t f = f (left (call_of c) t)

pub calls_on : (xs ys : List (List ℕ)) (t : List ℕ) → CallsOn xs ys t
unfolding stops calls_of run
calls_on [] ys t = refl
calls_on (x ∷ xs) ys t = asked_on (read x) xs ys t (calls_on xs ys)

-- A BROKEN LINE prints refusal 1 and calls nothing, whatever follows it
pub broken_prints : (x : List ℕ) (xs : List (List ℕ)) (t : List ℕ) → broken ≡ read x → printed_from (x ∷ xs) t ≡ reply_text (refused 1)
unfolding printed_from turn
broken_prints x xs t e = rw (← e)

pub broken_calls : (x : List ℕ) (xs : List (List ℕ)) → broken ≡ read x → calls_of (x ∷ xs) ≡ []
unfolding calls_of asked
broken_calls x xs e = rw (← e)

-- AN OVERLONG LINE BEGUN is broken, however it goes on
pub overlong_prints : (xs ys t : List ℕ) → longest_line < length xs → printed_from (lines_from xs ys) t ≡ reply_text (refused 1)
unfolding lines_from
overlong_prints xs [] t h = rw (ne_eqb (length xs) 0 (λ e. omega arith)) (broken_prints xs [] t (too_long xs h))
overlong_prints xs (b ∷ bs) t h =
    let g : longest_line < length (xs ++ (b ∷ [])) = omega (arith, length-append xs (b ∷ [])) in
    elim (eqb? b line_end) [
      | inl a ↦ rw a.0 (broken_prints (xs ++ (b ∷ [])) (lines_from [] bs) t (too_long (xs ++ (b ∷ [])) g))
      | inr a ↦ rw a.0 (overlong_prints (xs ++ (b ∷ [])) bs t g)
    ]

pub overlong_calls : (xs ys : List ℕ) → longest_line < length xs → calls_of (complete_from xs ys) ≡ []
unfolding complete_from calls_of
overlong_calls xs [] h = refl
overlong_calls xs (b ∷ bs) h =
    let g : longest_line < length (xs ++ (b ∷ [])) = omega (arith, length-append xs (b ∷ [])) in
    elim (eqb? b line_end) [
      | inl a ↦ rw a.0 (broken_calls (xs ++ (b ∷ [])) (complete_from [] bs) (too_long (xs ++ (b ∷ [])) g))
      | inr a ↦ rw a.0 (overlong_calls (xs ++ (b ∷ [])) bs g)
    ]

-- AT THE END of the input a line begun is broken
pub end_prints : (t h : List ℕ) → Unended h → printed_from (lines_from h []) t ≡ written t h []
unfolding lines_from written printed_from
end_prints t h u = elim (eqb? (length h) 0) [
  | inl e ↦ rw e.0
  | inr e ↦ rw e.0 (broken_prints h [] t (unended h (unended_at h (length h - 1) u)))
]
