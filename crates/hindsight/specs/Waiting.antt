-- Frames that wait, as they were offered, and choices that put one of them in a slot: no model, offers alone.
use Rattle.std.specs.Prelude.{◌≡◌, refl, ◌⊎◌, true, false, ℕ, suc, ◌+◌, ◌≤◌, eqb}
use Rattle.std.proofs.Common.{ap, inl, inr, le-leb, ne_eqb}
use mathlib.Core.List.{List, [], ◌∷◌, ◌++◌}
use Rattle.std.proofs.Math.Option.{none, some}
use native.Mathlib.Omega.{arith}
use Rattle.rules.specs.Demands.{member}
use Rattle.rules.specs.Hindsight.{Choice, Offer, gained, kept_to}
use Rattle.theory.specs.Calls.{or_false}
use Rattle.hindsight.specs.Most.{none_gained}

-- A FRAME THAT WAITS: its ticket, and as what it was offered
pub record Waits : Type 0 where
  pub ticket : ℕ
  pub offered : Offer

-- a fact of each that waits
abbrev pub EachWaiting : (Waits → Type 0) → List Waits → Type 0
EachWaiting P [] = Unit {0}
EachWaiting P (e ∷ es) = P e × EachWaiting P es

-- a fact of some
abbrev pub Some : (Waits → Type 0) → List Waits → Type 0
Some P [] = ⊥
Some P (e ∷ es) = P e ⊎ Some P es

-- what a fact of each brings to each
pub each_map : {P Q : Waits → Type 0} → ((e : Waits) → P e → Q e) → (es : List Waits) → EachWaiting P es → EachWaiting Q es
each_map h [] a = tt
each_map h (e ∷ es) a = (h e a.0, each_map h es a.1)

-- and to some
pub some_each : {P Q R : Waits → Type 0} → ((e : Waits) → P e → Q e → R e) → (es : List Waits) → EachWaiting P es → Some Q es → Some R es
some_each h [] a b = b
some_each h (e ∷ es) a (inl q) = inl (h e a.0 q)
some_each h (e ∷ es) a (inr b) = inr (some_each h es a.1 b)

-- ONE MORE waits: what each has, it has too
pub each_more : (P : Waits → Type 0) (es : List Waits) (e : Waits) → EachWaiting P es → P e → EachWaiting P (es ++ (e ∷ []))
each_more P [] e a p = (p, tt)
each_more P (x ∷ es) e a p = (a.0, each_more P es e a.1 p)

-- some has it, or it has
pub some_more : (P : Waits → Type 0) (es : List Waits) (e : Waits) → Some P es ⊎ P e → Some P (es ++ (e ∷ []))
some_more P [] e (inl b) = absurd b
some_more P [] e (inr p) = inl p
some_more P (x ∷ es) e (inl (inl p)) = inl p
some_more P (x ∷ es) e (inl (inr b)) = inr (some_more P es e (inl b))
some_more P (x ∷ es) e (inr p) = inr (some_more P es e (inr p))

-- OFFERS of those that wait, before the offers to come
abbrev pub offers_with : List Waits → List Offer → List Offer
offers_with [] ys = ys
offers_with (e ∷ es) ys = e.offered ∷ offers_with es ys

-- one more that waits is the first of those to come
pub before_more : (es : List Waits) (e : Waits) (ys : List Offer) → offers_with (es ++ (e ∷ [])) ys ≡ offers_with es (e.offered ∷ ys)
before_more [] e ys = refl
before_more (x ∷ es) e ys = ap (λ (zs : List Offer). x.offered ∷ zs) (before_more es e ys)

-- A CHOICE KEPT FROM A SLOT ON: no slot before it, each within its offer's time, none used twice
abbrev pub KeptFrom : (slot : ℕ) → List Offer → Choice → (used : List ℕ) → Type 0
KeptFrom s [] cs us = Unit {0}
KeptFrom s (x ∷ xs) [] us = Unit {0}
KeptFrom s (x ∷ xs) (none ∷ cs) us = KeptFrom s xs cs us
KeptFrom s (x ∷ xs) (some v ∷ cs) us = (x.from ≤ v) × (v ≤ x.to) × (s ≤ v) × (member v us ≡ false) × KeptFrom s xs cs (v ∷ us)

-- it can be kept
pub can_keep : (s : ℕ) (xs : List Offer) (cs : Choice) (us : List ℕ) → KeptFrom s xs cs us → kept_to xs cs us ≡ true
unfolding kept_to
can_keep s [] cs us k = refl
can_keep s (x ∷ xs) [] us k = refl
can_keep s (x ∷ xs) (none ∷ cs) us k = can_keep s xs cs us k
can_keep s (x ∷ xs) (some v ∷ cs) us k =
    rw (le-leb x.from v k.0, le-leb v x.to k.1, k.3) (can_keep s xs cs (v ∷ us) k.4)

-- one that leaves all offers is kept
pub leaves_all : (s : ℕ) (xs : List Offer) (us : List ℕ) → KeptFrom s xs [] us
leaves_all s [] us = tt
leaves_all s (x ∷ xs) us = tt

-- no slot that is free by one list is used by the other
abbrev pub FreeToo : (slot : ℕ) → (us vs : List ℕ) → Type 0
FreeToo s us vs = (v : ℕ) → s ≤ v → member v us ≡ false → member v vs ≡ false

-- one slot more, used by both
pub free_more : (s u : ℕ) (us vs : List ℕ) → FreeToo s us vs → FreeToo s (u ∷ us) (u ∷ vs)
unfolding member
free_more s u us vs h v i e = let a = or_false (eqb u v) (member v us) e in rw (a.0, h v i a.1)

-- slot s used, where choices are from the next one on
pub free_next : (s : ℕ) (us : List ℕ) → FreeToo (suc s) us (s ∷ us)
unfolding member
free_next s us v i e = rw (ne_eqb s v (λ z. omega arith), e)

-- kept from the next slot on is kept from this one on
pub kept_sooner : (s : ℕ) (xs : List Offer) (cs : Choice) (us vs : List ℕ) → FreeToo (suc s) us vs → KeptFrom (suc s) xs cs us → KeptFrom s xs cs vs
kept_sooner s [] cs us vs h k = tt
kept_sooner s (x ∷ xs) [] us vs h k = tt
kept_sooner s (x ∷ xs) (none ∷ cs) us vs h k = kept_sooner s xs cs us vs h k
kept_sooner s (x ∷ xs) (some v ∷ cs) us vs h k =
    (k.0, k.1, omega (arith, k.2), h v k.2 k.3, kept_sooner s xs cs (v ∷ us) (v ∷ vs) (free_more (suc s) v us vs h) k.4)

-- A FRAME GOES in slot s: the frame of ticket k and weight w, within its time
abbrev pub FrameGoes : (s k w : ℕ) → Waits → Type 0
FrameGoes s k w e = (e.ticket ≡ k) × (e.offered.from ≤ s) × (s ≤ e.offered.to) × (e.offered.weight ≡ w)

module _ (s k w : ℕ) where
  -- those that still wait
  abbrev pub without_it : (es : List Waits) → Some (FrameGoes s k w) es → List Waits
  without_it [] h = []
  without_it (e ∷ es) (inl g) = es
  without_it (e ∷ es) (inr h) = e ∷ without_it es h

  -- the choice with slot s for it
  abbrev pub with_it : (es : List Waits) → Some (FrameGoes s k w) es → Choice → Choice
  with_it [] h cs = []
  with_it (e ∷ es) (inl g) cs = some s ∷ cs
  with_it (e ∷ es) (inr h) [] = none ∷ with_it es h []
  with_it (e ∷ es) (inr h) (c ∷ cs) = c ∷ with_it es h cs

  -- what each has, each that still waits has
  pub each_without : (P : Waits → Type 0) (es : List Waits) (h : Some (FrameGoes s k w) es) → EachWaiting P es → EachWaiting P (without_it es h)
  each_without P [] h a = absurd h
  each_without P (e ∷ es) (inl g) a = a.1
  each_without P (e ∷ es) (inr h) a = (a.0, each_without P es h a.1)

  -- one that is not it still waits
  pub some_without : (P : Waits → Type 0) → ((e : Waits) → P e → e.ticket ≡ k → ⊥) → (es : List Waits) (h : Some (FrameGoes s k w) es) →
      Some P es → Some P (without_it es h)
  some_without P n [] h b = absurd h
  some_without P n (e ∷ es) (inl g) (inl p) = absurd (n e p g.0)
  some_without P n (e ∷ es) (inl g) (inr b) = b
  some_without P n (e ∷ es) (inr h) (inl p) = inl p
  some_without P n (e ∷ es) (inr h) (inr b) = inr (some_without P n es h b)

  -- it gains the frame's weight
  pub with_gains : (es : List Waits) (h : Some (FrameGoes s k w) es) (ys : List Offer) (cs : Choice) →
      gained (offers_with es ys) (with_it es h cs) ≡ w + gained (offers_with (without_it es h) ys) cs
  unfolding gained
  with_gains [] h ys cs = absurd h
  with_gains (e ∷ es) (inl g) ys cs = omega (arith, g.3)
  with_gains (e ∷ es) (inr h) ys [] = omega (arith, with_gains es h ys [], none_gained (offers_with (without_it es h) ys))
  with_gains (e ∷ es) (inr h) ys (none ∷ cs) = with_gains es h ys cs
  with_gains (e ∷ es) (inr h) ys (some v ∷ cs) = omega (arith, with_gains es h ys cs)

  -- IT IS KEPT, where the choice of the rest is kept from the next slot on
  pub with_kept : (es : List Waits) (h : Some (FrameGoes s k w) es) (ys : List Offer) (cs : Choice) (us : List ℕ) → member s us ≡ false →
      KeptFrom (suc s) (offers_with (without_it es h) ys) cs us → KeptFrom s (offers_with es ys) (with_it es h cs) us
  unfolding member
  with_kept [] h ys cs us n d = absurd h
  with_kept (e ∷ es) (inl g) ys cs us n d =
      (g.1, g.2, omega arith, n, kept_sooner s (offers_with es ys) cs us (s ∷ us) (free_next s us) d)
  with_kept (e ∷ es) (inr h) ys [] us n d = with_kept es h ys [] us n (leaves_all (suc s) (offers_with (without_it es h) ys) us)
  with_kept (e ∷ es) (inr h) ys (none ∷ cs) us n d = with_kept es h ys cs us n d
  with_kept (e ∷ es) (inr h) ys (some v ∷ cs) us n d = (
    d.0,
    d.1,
    omega (arith, d.2),
    d.3,
    with_kept es h ys cs (v ∷ us) (rw (ne_eqb v s (λ z. omega (arith, d.2)), n)) d.4,
  )
