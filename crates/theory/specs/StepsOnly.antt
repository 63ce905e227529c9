-- What a sending may make, by its statement, is what it makes, so the statement leaves nothing open: leap_one, makes_only, steps_only.
use Rattle.std.specs.Prelude.{◌≡◌, refl, List, [], ◌∷◌, ℕ, suc, ◌≤◌}
use Rattle.std.proofs.Common.{sym, ap, ap₂, subst, ◌∙◌, inl, inr, arith}
use Rattle.rules.specs.Rows.{Row, Round, Heavier, In}
use Rattle.rules.specs.Plan.{plan, first_end}
use Rattle.rules.specs.Steps.{sent, goes}
use Rattle.rules.specs.StepsOf.{stands_in, end_of, Is, Other, SlotOver, GoesOut, Unchanged, Shift, Chain, Every, Distinct, Shifted, Leaves, Becomes, Leap, Makes, shifted_to}
use Rattle.rules.specs.Demands.{StepsOnly}
use Rattle.theory.specs.Tests.{leb?}
use Rattle.theory.specs.Order.{NotOver, heavier?, not_over_both}
use Rattle.theory.specs.Full.{Fine}
use Rattle.theory.specs.Change.{rising_same}
use Rattle.theory.specs.Sane.{good_fine}
use Rattle.theory.specs.Steps.{makes}

-- ROW BY ROW: where what becomes of a row is one thing, the rows after are one list
module _ (t : ℕ) (L : Row → Type 0) (B : Row → Row → Type 0) (apart : (x y : Row) → L x → B x y → ⊥) (one : (x y z : Row) → B x y → B x z → y ≡ z) where
  pub over_one : (xs ys zs : List Row) → SlotOver t L B xs ys → SlotOver t L B xs zs → ys ≡ zs
  over_one [] ys zs a b = a ∙ sym b
  over_one (x ∷ xs) ys zs (inl a) (inl b) = over_one xs ys zs a.1 b.1
  over_one (x ∷ xs) ys zs (inl a) (inr (inl b)) = absurd (apart x b.0 a.0 b.1)
  over_one (x ∷ xs) ys zs (inl a) (inr (inr b)) = absurd (apart x b.0 a.0 b.1)
  over_one (x ∷ xs) ys zs (inr (inl a)) (inl b) = absurd (apart x a.0 b.0 a.1)
  over_one (x ∷ xs) ys zs (inr (inl a)) (inr (inl b)) = over_one xs ys zs a.3 b.3
  over_one (x ∷ xs) ys zs (inr (inl a)) (inr (inr b)) =
      absurd (omega (arith, a.2, b.2, ap (λ (z : Row). z.due) (one x a.0 b.0 a.1 b.1)))
  over_one (x ∷ xs) ys zs (inr (inr a)) (inl b) = absurd (apart x a.0 b.0 a.1)
  over_one (x ∷ xs) ys zs (inr (inr a)) (inr (inl b)) =
      absurd (omega (arith, a.2, b.2, ap (λ (z : Row). z.due) (one x a.0 b.0 a.1 b.1)))
  over_one (x ∷ xs) ys zs (inr (inr a)) (inr (inr b)) =
      a.3.1
      ∙ ap₂ (λ (z : Row) (ws : List Row). z ∷ ws) (one x a.0 b.0 a.1 b.1) (over_one xs a.3.0 b.3.0 a.3.2 b.3.2)
      ∙ sym b.3.1

-- THE CHAIN is one
pub not_heavier : (x y : Row) → (Heavier x y → ⊥) → NotOver x y
not_heavier x y n = elim (heavier? x y) [ inl a ↦ absurd (n a.1) | inr a ↦ a.1 ]

pub shift_same : (c d : Shift) → c.h ≡ d.h → c.e ≡ d.e → c ≡ d
shift_same c d a b = ap₂ {C = Shift} (λ (h : Row) (e : ℕ). record { h = h; e = e }) a b

abbrev pub Waiting : Round → List Shift → Type 0
Waiting r cs = Every (λ c. In c.h r.rows × Other c.h (goes r) × Other c.h (stands_in r)) cs

pub chain_one : (r : Round) → Fine r → (g e : ℕ) (cs ds : List Shift) → Waiting r cs → Waiting r ds → Chain r g e cs → Chain r g e ds → cs ≡ ds
chain_one r f g e [] [] u v a b = refl
chain_one r f g e [] (d ∷ ds) u v a b = absurd (omega (arith, a, b.0))
chain_one r f g e (c ∷ cs) [] u v a b = absurd (omega (arith, b, a.0))
chain_one r f g e (c ∷ cs) (d ∷ ds) u v a b =
    let x = c.h in
    let y = d.h in
    let k = a.2 in
    let l = b.2 in
    let q : x ≡ y = rising_same 1 r.next x y r.rows f.rising u.0.0 v.0.0
    (not_over_both x y (not_heavier x y (l.heaviest x k.member k.after k.by)) (not_heavier y x (k.heaviest y l.member l.after l.by))) in
    ap₂ (λ (z : Shift) (zs : List Shift). z ∷ zs) (shift_same c d q (a.1 ∙ sym b.1))
    (chain_one r f g (end_of r y) cs ds u.1 v.1 (subst (λ (z : Row). Chain r g (end_of r z) cs) q a.3) b.3)

-- a row that is shifted is one of them, and goes to one slot
pub shifted_is : (P : Shift → Type 0) (cs : List Shift) (x : Row) (e : ℕ) → Every P cs → Shifted cs x e → (c : Shift) × P c × Is x c.h × (e ≡ c.e)
shifted_is P [] x e a s = absurd s
shifted_is P (c ∷ cs) x e a (inl s) = (c, a.0, s.0, s.1)
shifted_is P (c ∷ cs) x e a (inr s) = shifted_is P cs x e a.1 s

pub shifted_one : (cs : List Shift) (x : Row) (d e : ℕ) → Distinct cs → Shifted cs x d → Shifted cs x e → d ≡ e
shifted_one [] x d e a s u = absurd s
shifted_one (c ∷ cs) x d e a (inl s) (inl u) = s.1 ∙ sym u.1
shifted_one (c ∷ cs) x d e a (inl s) (inr u) =
    let z = shifted_is (λ k. Other c.h k.h) cs x e a.0 u in absurd (z.1 (sym s.0 ∙ z.2))
shifted_one (c ∷ cs) x d e a (inr s) (inl u) =
    let z = shifted_is (λ k. Other c.h k.h) cs x d a.0 s in absurd (z.1 (sym u.0 ∙ z.2))
shifted_one (c ∷ cs) x d e a (inr s) (inr u) = shifted_one cs x d e a.1 s u

-- WHAT BECOMES OF A ROW is one thing
module _ (r : Round) (cs : List Shift) (w : Waiting r cs) (d : Distinct cs) where
  pub not_p : (x : Row) (e : ℕ) → Shifted cs x e → Other x (goes r)
  not_p x e s q =
      let z = shifted_is (λ c. In c.h r.rows × Other c.h (goes r) × Other c.h (stands_in r)) cs x e w s in z.1.1 (sym z.2 ∙ q)

  pub not_s : (x : Row) (e : ℕ) → Shifted cs x e → Other x (stands_in r)
  not_s x e s q =
      let z = shifted_is (λ c. In c.h r.rows × Other c.h (goes r) × Other c.h (stands_in r)) cs x e w s in z.1.2 (sym z.2 ∙ q)

  pub leaves_apart : (x y : Row) → Leaves r x → Becomes r cs x y → ⊥
  leaves_apart x y l (inl b) = l.1 b.1
  leaves_apart x y l (inr (inl b)) = not_p x b.0 b.1 l.0
  leaves_apart x y l (inr (inr (inl b))) = b.1 l.0
  leaves_apart x y l (inr (inr (inr b))) = b.0 l.0

  pub becomes_one : (x y z : Row) → Becomes r cs x y → Becomes r cs x z → y ≡ z
  becomes_one x y z (inl a) (inl b) = a.2 ∙ sym b.2
  becomes_one x y z (inl a) (inr (inl b)) = absurd (not_p x b.0 b.1 a.0)
  becomes_one x y z (inl a) (inr (inr (inl b))) = absurd (b.1 a.0)
  becomes_one x y z (inl a) (inr (inr (inr b))) = absurd (b.0 a.0)
  becomes_one x y z (inr (inl a)) (inl b) = absurd (not_p x a.0 a.1 b.0)
  becomes_one x y z (inr (inl a)) (inr (inl b)) =
      a.2 ∙ ap (λ e. shifted_to r e x) (shifted_one cs x a.0 b.0 d a.1 b.1) ∙ sym b.2
  becomes_one x y z (inr (inl a)) (inr (inr (inl b))) = absurd (not_s x a.0 a.1 b.0)
  becomes_one x y z (inr (inl a)) (inr (inr (inr b))) = absurd (b.1 a.0 a.1)
  becomes_one x y z (inr (inr (inl a))) (inl b) = absurd (a.1 b.0)
  becomes_one x y z (inr (inr (inl a))) (inr (inl b)) = absurd (not_s x b.0 b.1 a.0)
  becomes_one x y z (inr (inr (inl a))) (inr (inr (inl b))) = a.2 ∙ sym b.2
  becomes_one x y z (inr (inr (inl a))) (inr (inr (inr b))) = absurd (b.2 a.0)
  becomes_one x y z (inr (inr (inr a))) (inl b) = absurd (a.0 b.0)
  becomes_one x y z (inr (inr (inr a))) (inr (inl b)) = absurd (a.1 b.0 b.1)
  becomes_one x y z (inr (inr (inr a))) (inr (inr (inl b))) = absurd (a.2 b.0)
  becomes_one x y z (inr (inr (inr a))) (inr (inr (inr b))) = a.3 ∙ sym b.3

-- A LEAP leaves one list of rows
pub leap_one : (r : Round) → Fine r → (ys zs : List Row) → Leap r ys → Leap r zs → ys ≡ zs
leap_one r f ys zs a b =
    let q : b.shifts ≡ a.shifts =
    chain_one r f (end_of r (stands_in r)) (end_of r (goes r)) b.shifts a.shifts b.waiting a.waiting b.chain a.chain in
    over_one (suc r.slot) (Leaves r) (Becomes r a.shifts) (leaves_apart r a.shifts a.waiting a.distinct)
    (becomes_one r a.shifts a.waiting a.distinct) r.rows ys zs a.each_row
    (subst (λ (cs : List Shift). SlotOver (suc r.slot) (Leaves r) (Becomes r cs) r.rows zs) q b.each_row)

pub round_same : (m n : Round) → m.slot ≡ n.slot → m.last ≡ n.last → m.next ≡ n.next → m.room ≡ n.room → m.tail ≡ n.tail →
    m.rows ≡ n.rows → m ≡ n
round_same m n a b c d t e = λ i. record { slot = a i; last = b i; next = c i; room = d i; rows = e i; tail = t i }

-- ONLY the round after
pub makes_only : (r : Round) → Fine r → r.slot ≤ r.last → (n : Round) → Makes r n → n ≡ sent r
makes_only r f o n m =
    let k = makes r f o in
    round_same n (sent r) (m.slot ∙ sym k.slot) (m.last ∙ sym k.last) (m.next ∙ sym k.next) (m.room ∙ sym k.room) (m.tail ∙ sym k.tail)
    (elim (leb? (goes r).due (first_end r (plan r))) [
      | inl h ↦ over_one (suc r.slot) (GoesOut r) (Unchanged r) (λ x y l b. b.0 l) (λ x y z a b. a.1 ∙ sym b.1) r.rows n.rows
          (sent r).rows (m.ordinary h.1) (k.ordinary h.1)
      | inr h ↦ leap_one r f n.rows (sent r).rows (m.leap h.1) (k.leap h.1)
    ])

pub steps_only : StepsOnly
unfolding StepsOnly
steps_only r n g o m = makes_only r (good_fine r g) o n m
