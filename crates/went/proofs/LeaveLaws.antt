-- What leaves a table in between: the ticket that goes, and the rows due now.
use mathlib.Core.Path.{◌≡◌, refl, sym, ap, ◌∙◌}
use mathlib.Core.Logic.{inl, inr}
use mathlib.Core.List.{List, [], ◌∷◌}
use Prim.Native.Nat.{ℕ, zero, suc, ◌≤◌, ◌<◌}
use native.Mathlib.Omega.{arith}
use borrow.Author.Tests.{lt-ltb, le-ltb}
use lib.ListN.{get_or}
use Rattle.rules.specs.Rows.{Row, Round, round, row, blank, In}
use Rattle.rules.specs.Plan.{plan, tight_after}
use Rattle.rules.specs.Steps.{changed}
use Rattle.rules.specs.Conditions.{used_in}
use Rattle.rules.specs.Table.{round_in}
use Rattle.theory.specs.Tests.{eqb?}
use Rattle.theory.specs.Feas.{below, num, below?, below_yes, below_late}
use Rattle.theory.specs.Full.{Fine, Rising}
use Rattle.theory.specs.Change.{changed_sum, rising_first}
use Rattle.theory.specs.Members.{RowsOfPlan}
use Rattle.theory.specs.Chain.{Linked, shifted_to_end, moves, link_end}
use Rattle.theory.specs.Leaping.{moved_ticket}
use Rattle.head.specs.Head.{HeadOf}
use Rattle.sorts.specs.declared.Round.{Round as Head}
use Rattle.round.specs.Rows.{at}
use Rattle.round.proofs.ReadLaws.{at_held}
use Rattle.closing.specs.Close.{DueNow, gone_ticket}
use Rattle.went.proofs.StandLaws.{Stood}

-- TICKETS stay where rows change
pub changed_tickets : (k : ℕ) (y : Row) → y.ticket ≡ k → (xs : List Row) (i : ℕ) → (get_or (changed k y xs) i (blank 0)).ticket ≡ (get_or xs i (blank 0)).ticket
unfolding changed
changed_tickets k y e [] i = refl
changed_tickets k y e (x ∷ xs) zero = elim (eqb? x.ticket k) [ inl q ↦ rw q.0 (e ∙ sym q.1) | inr q ↦ rw q.0 ]
changed_tickets k y e (x ∷ xs) (suc i) = elim (eqb? x.ticket k) [ inl q ↦ rw q.0 | inr q ↦ rw q.0 (changed_tickets k y e xs i) ]

pub moves_tickets : (r : Round) (e : ℕ) (hs xs : List Row) (i : ℕ) → (get_or (moves r e hs xs) i (blank 0)).ticket ≡ (get_or xs i (blank 0)).ticket
unfolding moves
moves_tickets r e [] xs i = refl
moves_tickets r e (h ∷ hs) xs i =
    moves_tickets r (tight_after r (plan r) h.due) hs (changed h.ticket (shifted_to_end r e h) xs) i
    ∙ changed_tickets h.ticket (shifted_to_end r e h) (moved_ticket r e h) xs i

-- THE TICKET THAT GOES is a row's, or none
pub gone_row : (u : List ℕ) (h : Head) → HeadOf u h → (j : ℕ) → j < h.used → gone_ticket u j ≡ (at (round_in u) j).ticket
unfolding row
gone_row u h d j l =
    let i : j < used_in u = omega (arith, l, d.used) in
    rw (lt-ltb j (used_in u) i) (sym (ap (λ (x : Row). x.ticket) (at_held u j i)))

pub gone_none : (u : List ℕ) (h : Head) → HeadOf u h → gone_ticket u h.used ≡ 0
gone_none u h d = rw (le-ltb h.used (used_in u) (omega (arith, d.used)))

pub gone_stood : (t : List ℕ) (h : Head) (xs : List Row) (u : List ℕ) → Stood t h xs u → (j : ℕ) → j < h.used →
    (get_or xs j (blank 0)).ticket ≡ (at (round_in t) j).ticket → gone_ticket u j ≡ (at (round_in t) j).ticket
unfolding round
gone_stood t h xs u s j l e = gone_row u h s.head j l ∙ ap (λ (y : Round). (at y j).ticket) s.holds ∙ e

-- ROWS DUE NOW: no more of them, if each changed row becomes due later or stays due in its slot
pub late_changed : (v k : ℕ) (y : Row) → v ≤ y.due → (xs : List Row) → num 0 v (changed k y xs) ≤ num 0 v xs
unfolding changed
late_changed v k y h [] = omega arith
late_changed v k y h (x ∷ xs) = elim (eqb? x.ticket k) [
  | inl q ↦ rw q.0 (omega (arith, below_late 0 v y h))
  | inr q ↦ rw q.0 (omega (arith, late_changed v k y h xs))
]

below_due : (v : ℕ) (x y : Row) → x.due ≡ y.due → below 0 v x ≡ below 0 v y
below_due v x y e = elim (below? 0 v x) [
  | inl a ↦ a.0 ∙ sym (below_yes 0 v y (omega arith) (omega (arith, a.2, e)))
  | inr (inl a) ↦ absurd (omega (arith, a.1))
  | inr (inr a) ↦ a.0 ∙ sym (below_late 0 v y (omega (arith, a.1, e)))
]

pub same_changed : (v a b : ℕ) (x y : Row) (xs : List Row) → Rising a b xs → In x xs → y.due ≡ x.due → num 0 v (changed x.ticket y xs) ≤ num 0 v xs
same_changed v a b x y xs s i e = omega (arith, changed_sum (below 0 v) x y xs (rising_first a b x xs s i), below_due v y x e)

pub late_moves : (r : Round) (f : Fine r) (rs : List Row) (c : RowsOfPlan r rs) (v e g : ℕ) → v ≤ e → (hs xs : List Row) → Linked r rs e g hs →
    num 0 v (moves r e hs xs) ≤ num 0 v xs
unfolding moves shifted_to_end row
late_moves r f rs c v e g h [] xs k = omega arith
late_moves r f rs c v e g h (x ∷ hs) xs k =
    let n = link_end r f rs c x k.0.inside in
    omega (
      arith,
      late_moves r f rs c v (tight_after r (plan r) x.due) g (omega (arith, h, k.0.after, n.from)) hs (changed x.ticket (shifted_to_end r e x) xs)
          k.1,
      late_changed v x.ticket (shifted_to_end r e x) h xs,
    )

pub due_stood : (t : List ℕ) (h : Head) (xs : List Row) (u : List ℕ) → Stood t h xs u → (n : ℕ) → DueNow t n →
    num 0 (suc (round_in t).slot) xs ≤ num 0 (suc (round_in t).slot) (round_in t).rows → DueNow u n
unfolding round
due_stood t h xs u s n d l =
    let e : num 0 (suc (round_in u).slot) (round_in u).rows ≡ num 0 (suc (round_in t).slot) xs =
    ap (λ (y : Round). num 0 (suc y.slot) y.rows) s.holds in
    omega (arith, e, d, l)
