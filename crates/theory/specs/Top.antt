-- What passes over a list find that keep the best row so far: Top, top_pick, lightest, heaviest, outside_top.
use Rattle.std.specs.Prelude.{◌≡◌, refl, ◌⊎◌, Bool, true, false, ◌&&◌, not, cond, List, [], ◌∷◌, ℕ, ◌≤◌, ◌<◌, ltb, leb}
use Rattle.std.proofs.Common.{sym, subst, inl, inr, lt-ltb, le-leb, ltb-true, leb-true}
use Rattle.std.proofs.lemmas.Bool.{false≢true}
use Rattle.rules.specs.Rows.{Row, heavier, All, In}
use Rattle.rules.specs.Plan.{in_plan, lightest_by, heaviest_outside}
use Rattle.rules.specs.Steps.{heaviest_between}
use Rattle.theory.specs.Tests.{and_true, not_true'}
use Rattle.theory.specs.Order.{NotOver, not_over_trans, over_not, heavier_yes, heavier_no, not_over_self}

-- of a first row b and the rows of a list that C holds of, none is better than x; N a b: a isn't better than b
pub record Top (C : Row → Type 0) (N : Row → Row → Type 0) (b : Row) (xs : List Row) (x : Row) : Type 0 where
  pub found : (x ≡ b) ⊎ ((In x xs) × C x)
  pub first : N b x
  pub most : All (λ y. C y → N y x) xs

pub top_pick : (C : Row → Type 0) (N : Row → Row → Type 0) → ((z y x : Row) → N z y → N y x → N z x) → (c : Bool) (y b : Row) (ys : List Row) (x : Row) →
    (c ≡ true → C y × N b y) → (c ≡ false → C y → N y b) → Top C N (cond c y b) ys x → Top C N b (y ∷ ys) x
top_pick C N t true y b ys x h k p =
    record {
      found = elim p.found [
        | inl e ↦ inr (inl e, subst C (sym e) (h refl).0)
        | inr i ↦ inr (inr i.0, i.1)
      ];
      first = t b y x (h refl).1 p.first;
      most = (λ _. p.first, p.most);
    }
top_pick C N t false y b ys x h k p =
    record {
      found = elim p.found [ inl e ↦ inl e | inr i ↦ inr (inr i.0, i.1) ];
      first = p.first;
      most = (λ z. t y b x (k refl z) p.first, p.most);
    }

pub and_false : (a b : Bool) → (a && b) ≡ false → a ≡ true → b ≡ false
and_false true b e h = e
and_false false b e h = absurd (false≢true h)

-- the lightest due by a slot
abbrev pub LighterNot : Row → Row → Type 0
LighterNot a b = NotOver b a

pub lightest : (s : ℕ) (xs : List Row) (b : Row) → Top (λ y. y.due ≤ s) LighterNot b xs (lightest_by s xs b)
unfolding lightest_by
lightest s [] b = record { found = inl refl; first = not_over_self b; most = tt }
lightest s (y ∷ ys) b =
    top_pick (λ y. y.due ≤ s) LighterNot (λ z y x h k. not_over_trans x y z k h) (leb y.due s && heavier b y) y b ys
    (lightest_by s ys (cond (leb y.due s && heavier b y) y b))
    (λ e. let a = and_true (leb y.due s) (heavier b y) e in (leb-true y.due s a.0, over_not b y (heavier_yes b y a.1)))
    (λ e h. heavier_no b y (and_false (leb y.due s) (heavier b y) e (le-leb y.due s h)))
    (lightest s ys (cond (leb y.due s && heavier b y) y b))

-- the heaviest due between two slots
pub heaviest : (a b : ℕ) (xs : List Row) (x : Row) → Top (λ y. (a < y.due) × (y.due ≤ b)) NotOver x xs (heaviest_between a b xs x)
unfolding heaviest_between
heaviest a b [] x = record { found = inl refl; first = not_over_self x; most = tt }
heaviest a b (y ∷ ys) x =
    top_pick (λ y. (a < y.due) × (y.due ≤ b)) NotOver not_over_trans ((ltb a y.due && leb y.due b) && heavier y x) y x ys
    (heaviest_between a b ys (cond ((ltb a y.due && leb y.due b) && heavier y x) y x))
    (λ e.
    let c = and_true (ltb a y.due && leb y.due b) (heavier y x) e in
    let d = and_true (ltb a y.due) (leb y.due b) c.0 in
    ((ltb-true a y.due d.0, leb-true y.due b d.1), over_not y x (heavier_yes y x c.1)))
    (λ e h. heavier_no y x (and_false (ltb a y.due && leb y.due b) (heavier y x) e (both (lt-ltb a y.due h.0) (le-leb y.due b h.1))))
    (heaviest a b ys (cond ((ltb a y.due && leb y.due b) && heavier y x) y x))
  where
    both : {c d : Bool} → c ≡ true → d ≡ true → (c && d) ≡ true
    both e g = rw (e, g)

-- the heaviest outside a plan, due from a slot on
abbrev pub LeftFrom : ℕ → List Row → Row → Type 0
LeftFrom a ps y = (a ≤ y.due) × (in_plan y ps ≡ false)

pub outside_top : (a : ℕ) (ps xs : List Row) (x : Row) → Top (LeftFrom a ps) NotOver x xs (heaviest_outside a xs ps x)
unfolding heaviest_outside
outside_top a ps [] x = record { found = inl refl; first = not_over_self x; most = tt }
outside_top a ps (y ∷ ys) x =
    top_pick (LeftFrom a ps) NotOver not_over_trans (leb a y.due && (not (in_plan y ps) && heavier y x)) y x ys
    (heaviest_outside a ys ps (cond (leb a y.due && (not (in_plan y ps) && heavier y x)) y x))
    (λ e.
    let c = and_true (leb a y.due) (not (in_plan y ps) && heavier y x) e in
    let d = and_true (not (in_plan y ps)) (heavier y x) c.1 in
    ((leb-true a y.due c.0, not_true' (in_plan y ps) d.0), over_not y x (heavier_yes y x d.1)))
    (λ e h. heavier_no y x (and_false (not (in_plan y ps)) (heavier y x)
    (and_false (leb a y.due) (not (in_plan y ps) && heavier y x) e (le-leb a y.due h.0)) (no h.1)))
    (outside_top a ps ys (cond (leb a y.due && (not (in_plan y ps) && heavier y x)) y x))
  where
    no : {c : Bool} → c ≡ false → not c ≡ true
    no e = rw e
