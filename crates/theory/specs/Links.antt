-- A leap's chain with the slot that each h goes to, and what its shifts make of a row: links, links_chain, links_distinct, final?.
use Rattle.std.specs.Prelude.{◌≡◌, ◌⊎◌, ◌≢◌, ℕ, ◌≤◌}
use Rattle.std.proofs.Math.Path.{refl}
use Rattle.std.proofs.Common.{sym, ap, inl, inr}
use mathlib.Core.List.{List, [], ◌∷◌}
use native.Mathlib.Omega.{arith}
use Rattle.rules.specs.Rows.{Row, Round, All, In}
use Rattle.rules.specs.Plan.{plan}
use Rattle.rules.specs.StepsOf.{Shift, NextH, Chain, Every, Distinct, Shifted, shifted_to, end_of}
use Rattle.theory.specs.Tests.{eqb?}
use Rattle.theory.specs.All.{blank_weight}
use Rattle.theory.specs.Order.{over_absurd, heavier_no}
use Rattle.theory.specs.Full.{Fine}
use Rattle.theory.specs.Marks.{TightIn}
use Rattle.theory.specs.Change.{rising_same}
use Rattle.theory.specs.Send.{next_by}
use Rattle.theory.specs.Members.{RowsOfPlan, of_rows_fine, found_member, member?}
use Rattle.theory.specs.Chain.{HeaviestIn, shifted_to_end, chain_other, Linked, link_end as end-found}
use Rattle.theory.specs.Leaping.{final_row}

-- each link with the end before it
unfoldable pub links : Round → (e : ℕ) → List Row → List Shift
links r e [] = []
links r e (h ∷ hs) = record { h = h; e = e } ∷ links r (end_of r h) hs

-- a fact of every link is one of every shift
pub every_link : (P : Row → Type 0) (r : Round) (e : ℕ) (hs : List Row) → All P hs → Every (λ c. P c.h) (links r e hs)
unfolding links
every_link P r e [] a = tt
every_link P r e (h ∷ hs) a = (a.0, every_link P r (end_of r h) hs a.1)

-- A ROW IS AN h and goes to its e, or is none and stays
pub final? : (r : Round) → Fine r → (e : ℕ) (hs : List Row) (x : Row) → In x r.rows → All (λ h. In h r.rows) hs →
    ((u : ℕ) × Shifted (links r e hs) x u × (final_row r e hs x ≡ shifted_to r u x))
    ⊎ (((u : ℕ) → Shifted (links r e hs) x u → ⊥) × (final_row r e hs x ≡ x))
unfolding links final_row shifted_to_end
final? r f e [] x i a = inr (λ u z. z, refl)
final? r f e (h ∷ hs) x i a = elim (eqb? x.ticket h.ticket) [
  | inl q ↦ rw q.0 (inl (e, inl (q.1, refl), ap (λ z. shifted_to r e z) (sym (rising_same 1 r.next x h r.rows f.rising i a.0 q.1))))
  | inr q ↦ rw q.0 (elim (final? r f (end_of r h) hs x i a.1) [
    | inl z ↦ inl (z.0, inr z.1, z.2)
    | inr z ↦ inr (λ u w. elim w [ inl v ↦ q.1 v.0 | inr v ↦ z.0 u v ], z.1)
  ])
]

module _ (r : Round) (f : Fine r) (rs : List Row) (c : RowsOfPlan r rs) where
  -- the heaviest of the plan's rows is the heaviest of the plan: blanks weigh nothing
  pub next_h : (e g : ℕ) (h : Row) → HeaviestIn rs e g h → NextH r e g h
  next_h e g h p =
      record {
        member = found_member r f rs c h p.inside;
        after = p.after;
        by = p.by;
        heaviest = λ x i a b o. elim (member? r f rs c x i) [
          | inl z ↦ over_absurd x h o (inl (omega (arith, blank_weight x z, (of_rows_fine r f rs c h p.inside).some)))
          | inr j ↦ over_absurd x h o (heavier_no x h (p.most x j a b))
        ];
      }

  -- THE CHAIN, and no row twice in it
  pub links_chain : (g e : ℕ) (hs : List Row) → TightIn r (plan r) g → e ≤ g → Linked r rs e g hs → Chain r g e (links r e hs)
  unfolding links
  links_chain g e [] t l k = omega arith
  links_chain g e (h ∷ hs) t l k = (
    omega (arith, k.0.after, k.0.by),
    refl,
    next_h e g h k.0,
    links_chain g (end_of r h) hs t (next_by r (plan r) h.due (end_of r h) g (end-found r f rs c h k.0.inside) k.0.by t) k.1,
  )

  pub links_distinct : (g e : ℕ) (hs : List Row) → Linked r rs e g hs → Distinct (links r e hs)
  unfolding links
  links_distinct g e [] k = tt
  links_distinct g e (h ∷ hs) k = (
    every_link (λ z. h.ticket ≢ z.ticket) r (end_of r h) hs (chain_other r f rs c e g h hs k),
    links_distinct g (end_of r h) hs k.1,
  )
