-- Demand 2 as propositions, beside PlanM: what a sending makes of every row of a round, and what it answers.
use Rattle.std.specs.Prelude.{◌≡◌, ◌⊎◌, ◌≢◌, List, [], ◌∷◌, ℕ, suc, ◌≤◌, ◌<◌, max}
use Rattle.rules.specs.Rows.{Row, Round, blank, Heavier, In}
use Rattle.rules.specs.Plan.{plan, tight_after, first_end, mark, substitute}
use Rattle.rules.specs.Steps.{set_to, kept_at, goes, sent}
use Rattle.rules.specs.Calls.{Out, silence, frame, kept_blank, ordinary, leap, step, acting, sending, says}

-- document 01's p is what goes, its r here s; and where the segment of a row ends: the first tight slot at or after its due slot
abbrev pub stands_in : Round → Row
stands_in r = substitute r (plan r) (goes r)

abbrev pub end_of : Round → Row → ℕ
end_of r x = tight_after r (plan r) x.due

-- tickets name rows
abbrev pub Is : Row → Row → Type 0
Is x y = x.ticket ≡ y.ticket

abbrev pub Other : Row → Row → Type 0
Other x y = x.ticket ≢ y.ticket

-- THE SLOT OVER: the rows in turn, in their order. Each leaves, or becomes a row that is due before slot t and gone, or one that stands next
abbrev pub SlotOver : (t : ℕ) → (leaves : Row → Type 0) → (becomes : Row → Row → Type 0) → (before after : List Row) → Type 0
SlotOver t L B [] ys = ys ≡ []
SlotOver t L B (x ∷ xs) ys =
    (L x × SlotOver t L B xs ys)
    ⊎ ((y : Row) × B x y × (y.due < t) × SlotOver t L B xs ys)
    ⊎ ((y : Row) × B x y × (t ≤ y.due) × ((zs : List Row) × (ys ≡ y ∷ zs) × SlotOver t L B xs zs))

-- AN ORDINARY STEP: only p leaves, every other row stays as it is
abbrev pub GoesOut : Round → Row → Type 0
GoesOut r x = Is x (goes r)

abbrev pub Unchanged : Round → (x y : Row) → Type 0
Unchanged r x y = Other x (goes r) × (y ≡ x)

-- THE CHAIN of a leap: h goes to e, the heaviest plan member due after e and by g; then the new e is the end of h's old segment; until e is g
pub record Shift : Type 0 where
  pub h : Row
  pub e : ℕ

pub record NextH (r : Round) (e g : ℕ) (h : Row) : Type 0 where
  pub member : In h (plan r)
  pub after : e < h.due
  pub by : h.due ≤ g
  pub heaviest : (x : Row) → In x (plan r) → e < x.due → x.due ≤ g → Heavier x h → ⊥

abbrev pub Chain : Round → (g e : ℕ) → List Shift → Type 0
Chain r g e [] = e ≡ g
Chain r g e (c ∷ cs) = (e < g) × (c.e ≡ e) × NextH r e g c.h × Chain r g (end_of r c.h) cs

-- a fact of every shift; no two of one row; x is the h that goes to e
abbrev pub Every : (Shift → Type 0) → List Shift → Type 0
Every P [] = Unit {0}
Every P (c ∷ cs) = P c × Every P cs

abbrev pub Distinct : List Shift → Type 0
Distinct [] = Unit {0}
Distinct (c ∷ cs) = Every (λ d. Other c.h d.h) cs × Distinct cs

abbrev pub Shifted : List Shift → Row → (e : ℕ) → Type 0
Shifted [] x e = ⊥
Shifted (c ∷ cs) x e = (Is x c.h × (e ≡ c.e)) ⊎ Shifted cs x e

-- A LEAP, its marks those before the slot: x shifted to e; x with its mark for weight; the kept blank in x's row
abbrev pub shifted_to : Round → (e : ℕ) → Row → Row
shifted_to r e x = set_to e (max x.weight (mark r e)) x

abbrev pub at_mark : Round → Row → Row
at_mark r x = set_to x.due (mark r x.due) x

abbrev pub kept_in : Round → Row → Row
kept_in r x = kept_at (stands_in r).due (mark r (stands_in r).due) x

-- a blank is kept where s is a blank and its mark is above 0; else p's row leaves
abbrev pub KeptBlank : Round → Type 0
KeptBlank r = (stands_in r ≡ blank (stands_in r).due) × (0 < mark r (stands_in r).due)

abbrev pub Leaves : Round → Row → Type 0
Leaves r x = Is x (goes r) × (KeptBlank r → ⊥)

-- x becomes y: where x is p; an h; s; any other row
abbrev pub Becomes : Round → List Shift → (x y : Row) → Type 0
Becomes r cs x y =
    (Is x (goes r) × KeptBlank r × (y ≡ kept_in r x))
    ⊎ ((e : ℕ) × Shifted cs x e × (y ≡ shifted_to r e x))
    ⊎ (Is x (stands_in r) × Other x (goes r) × (y ≡ at_mark r x))
    ⊎ (Other x (goes r) × ((e : ℕ) → Shifted cs x e → ⊥) × Other x (stands_in r) × (y ≡ x))

-- the h are waiting rows, no two the same, none p and none s
pub record Leap (r : Round) (after : List Row) : Type 0 where
  pub shifts : List Shift
  pub chain : Chain r (end_of r (stands_in r)) (end_of r (goes r)) shifts
  pub waiting : Every (λ c. In c.h r.rows × Other c.h (goes r) × Other c.h (stands_in r)) shifts
  pub distinct : Distinct shifts
  pub each_row : SlotOver (suc r.slot) (Leaves r) (Becomes r shifts) r.rows after

-- A SENDING makes the round n of the round r
pub record Makes (r n : Round) : Type 0 where
  pub slot : n.slot ≡ suc r.slot
  pub last : n.last ≡ r.last
  pub next : n.next ≡ r.next
  pub room : n.room ≡ r.room
  pub tail : n.tail ≡ r.tail
  pub ordinary : (goes r).due ≤ first_end r (plan r) → SlotOver (suc r.slot) (GoesOut r) (Unchanged r) r.rows n.rows
  pub leap : first_end r (plan r) < (goes r).due → Leap r n.rows

abbrev pub StepsOf : Round → Type 0
StepsOf r = Makes r (sent r)

-- WHAT WENT OUT, as the answer says it: a frame's ticket, a kept blank's, or silence where p has no row
abbrev pub Went : Round → Out → Type 0
Went r o =
    (In (goes r) r.rows × ((goes r).tail.kind ≡ 0) × (o ≡ frame (goes r).ticket))
    ⊎ (In (goes r) r.rows × ((goes r).tail.kind ≡ 1) × (o ≡ kept_blank (goes r).ticket))
    ⊎ ((goes r ≡ blank (goes r).due) × (o ≡ silence))

pub record AnswersOf (r : Round) : Type 0 where
  pub out : Out
  pub went : Went r out
  pub ordinary_said : (goes r).due ≤ first_end r (plan r) → says (acting sending) r ≡ step (ordinary out)
  pub leap_said : first_end r (plan r) < (goes r).due → says (acting sending) r ≡ step (leap out)
