-- What goes: a member of the plan, unsealed PlanM's pick, sealed the canonical first: turn_in, goes_in, unsealed_goes, sealed_goes.
use Rattle.std.specs.Prelude.{◌≡◌, refl, ◌≢◌, cond, List, [], ◌∷◌, ◌≤◌, eqb, length}
use Rattle.std.proofs.Common.{inl, inr, arith, eq-eqb, ne_eqb}
use Rattle.rules.specs.Rows.{Row, Round, slots_left, canonical, All, In}
use Rattle.rules.specs.Plan.{plan, best, first_from, canonical_first}
use Rattle.rules.specs.Steps.{turn_of, goes}
use Rattle.theory.specs.Tests.{both_ways}
use Rattle.theory.specs.All.{all_of_in}
use Rattle.theory.specs.Full.{Fine, plan_length}
use Rattle.theory.specs.Send.{best_in}

-- whatever holds of a list's rows holds of what its pass keeps
pub first_from_all : (P : Row → Type 0) (xs : List Row) (b : Row) → P b → All P xs → P (first_from xs b)
unfolding first_from
first_from_all P [] b p a = p
first_from_all P (x ∷ xs) b p a = first_from_all P xs (cond (canonical x b) x b) (both_ways P (canonical x b) x b (λ _. a.0) (λ _. p)) a.1

pub turn_in : (r : Round) (ps : List Row) → 1 ≤ length ps → In (turn_of r ps) ps
unfolding turn_of canonical_first
turn_in r [] h = absurd (omega arith)
turn_in r (p ∷ ps) h =
    both_ways (λ (x : Row). In x (p ∷ ps)) (eqb r.tail.sealed 1) _ _
    (λ _. first_from_all (λ x. In x (p ∷ ps)) ps p (inl refl) (all_of_in (λ x. In x (p ∷ ps)) ps (λ x i. inr i))) (λ _. best_in r (p ∷ ps) h)

-- WHAT GOES is a member
pub goes_in : (r : Round) → Fine r → r.slot ≤ r.last → In (goes r) (plan r)
unfolding slots_left
goes_in r f o = turn_in r (plan r) (omega (arith, (plan_length r f).0, o))

-- PlanM's pick, or the canonical first
pub unsealed_goes : (r : Round) → r.tail.sealed ≢ 1 → goes r ≡ best r (plan r)
unfolding turn_of
unsealed_goes r e = rw (ne_eqb r.tail.sealed 1 e)

pub sealed_goes : (r : Round) → r.tail.sealed ≡ 1 → goes r ≡ canonical_first r (plan r)
unfolding turn_of
sealed_goes r e = rw (eq-eqb r.tail.sealed 1 e)
