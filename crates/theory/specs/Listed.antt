-- The listed plan: each row strictly before the next, the i-th due in slot current + i or later: listed_strictly, listed_fits.
use Rattle.std.specs.Prelude.{◌≡◌, ◌≢◌, true, ◌&&◌, not, List, [], ◌∷◌, ◌++◌, ℕ, suc, ◌+◌, ◌≤◌, leb, length}
use Rattle.std.proofs.Common.{subst, inl, inr, arith, leb-true}
use Rattle.rules.specs.Rows.{Row, Round, canonical, Canonical, sorted}
use Rattle.rules.specs.Plan.{planned, listed}
use Rattle.rules.specs.PlanM.{Strictly}
use Rattle.rules.specs.Demands.{member, in_time, turns, ListedFits}
use Rattle.theory.specs.Tests.{and_true}
use Rattle.theory.specs.Sum.{sum_sorted}
use Rattle.theory.specs.All.{all_in, all_sorted, all_of_in}
use Rattle.theory.specs.Order.{NotBefore, canonical?, not_before_both, Sorted, sorted_sorted}
use Rattle.theory.specs.Full.{Fine}
use Rattle.theory.specs.Times.{ticks, Apart, apart_of, plan_ticks}
use Rattle.theory.specs.Same.{row_ticket, planned_same, all_planned, listed_planned, listed_in_order}
use Rattle.theory.specs.Sane.{good_fine}

pub strictly : (xs : List Row) → Sorted xs → Apart xs → Strictly xs
strictly [] o a = tt
strictly (x ∷ xs) o a = (
  all_of_in (Canonical x) xs (λ z i.
      before z (all_in (λ z. NotBefore z x) z xs o.0 i) (all_in (λ z. x.ticket ≢ z.ticket) z xs a.0 i)),
  strictly xs o.1 a.1,
)
  where
    before : (z : Row) → NotBefore z x → x.ticket ≢ z.ticket → Canonical x z
    before z n d = elim (canonical? x z) [ inl h ↦ h.1 | inr h ↦ absurd (d (not_before_both x z h.1 n)) ]

pub listed_strictly : (r : Round) → Fine r → Strictly (listed r)
listed_strictly r f =
    rw (listed_planned r f)
    (strictly (sorted canonical (planned r)) (sorted_sorted (planned r))
    (apart_of (sorted canonical (planned r))
    (λ k h. omega (arith, sum_sorted (ticks k) canonical (planned r), planned_same r f (ticks k), plan_ticks r f k h))
    (all_sorted (λ x. 1 ≤ x.ticket) canonical (planned r) (all_planned (λ x. 1 ≤ x.ticket) r (row_ticket r f)))))

pub turn_due : (t a : ℕ) (xs ys : List Row) (x : Row) → in_time t (xs ++ (x ∷ ys)) (turns a (xs ++ (x ∷ ys))) ≡ true → a + length xs ≤ x.due
unfolding in_time turns
turn_due t a [] ys x e =
    let b = and_true (leb t a && leb a x.due) _ e in
    let c = and_true (leb t a) (leb a x.due) b.0 in
    omega (arith, leb-true a x.due c.1)
turn_due t a (z ∷ zs) ys x e =
    let b = and_true (leb t a && leb a z.due) _ e in
    let c = and_true (not (member a (turns (suc a) (zs ++ (x ∷ ys))))) _ b.1 in
    omega (arith, turn_due t (suc a) zs ys x c.1)

pub listed_fits : ListedFits
unfolding ListedFits
listed_fits r g xs ys x e =
    turn_due r.slot r.slot xs ys x
    (subst (λ (zs : List Row). in_time r.slot zs (turns r.slot zs) ≡ true) e (listed_in_order r (good_fine r g)))
