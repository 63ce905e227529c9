-- MOST-RECKONED, proved: what is reckoned as the most is the most: some choice that can be kept gains it, and none gains more.
use Rattle.std.specs.Prelude.{◌≡◌, refl, true, false, ◌&&◌, not, cond, List, [], ◌∷◌, ℕ, zero, suc, ◌+◌, ◌-◌, ◌≤◌, ◌<◌, leb}
use Rattle.std.proofs.Common.{inl, inr, arith, leb-true, le-leb}
use Rattle.std.proofs.Math.Option.{none, some}
use Rattle.rules.specs.Demands.{member}
use Rattle.rules.specs.Hindsight.{Offer, Choice, kept_to, gained, top_of, most, Most, MostReckoned}
use Rattle.theory.specs.Tests.{and_true, either, leb?, ltb?, not_true'}

-- a choice that leaves all offers can be kept
pub none_kept : (xs : List Offer) (us : List ℕ) → kept_to xs [] us ≡ true
unfolding kept_to
none_kept [] us = refl
none_kept (x ∷ xs) us = refl

-- and gains nothing
pub none_gained : (xs : List Offer) → gained xs [] ≡ 0
unfolding gained
none_gained [] = refl
none_gained (x ∷ xs) = refl

-- no slot has more than the top
pub top_above : (n s : ℕ) (g : ℕ → ℕ) (v : ℕ) → s ≤ v → v < s + n → g v ≤ top_of n s g
unfolding top_of
top_above zero s g v h k = absurd (omega arith)
top_above (suc n) s g v h k =
    elim (ltb? s v) [
      | inl a ↦ omega (arith, top_above n (suc s) g v a.1 (omega arith))
      | inr a ↦ let q : v ≡ s = omega arith in rw q (omega arith)
    ]

-- and one has as much, where that is above 0
pub top_some : (n s : ℕ) (g : ℕ → ℕ) → 1 ≤ top_of n s g → (v : ℕ) × (s ≤ v) × (v < s + n) × (g v ≡ top_of n s g)
unfolding top_of
top_some zero s g h = absurd (omega arith)
top_some (suc n) s g h =
    elim (leb? (top_of n (suc s) g) (g s)) [
      | inl a ↦ (s, omega arith, omega arith, omega arith)
      | inr a ↦ let z = top_some n (suc s) g (omega arith) in (z.0, omega (arith, z.1), omega (arith, z.2), omega (arith, z.3))
    ]

-- what an offer in slot s and the most of those after it gain
abbrev pub with_first : Offer → List Offer → (used : List ℕ) → ℕ → ℕ
with_first x xs us s = cond (member s us) 0 (x.weight + most xs (s ∷ us))

-- the most with the first offer in a slot
abbrev pub best_first : Offer → List Offer → (used : List ℕ) → ℕ
best_first x xs us = top_of (suc x.to - x.from) x.from (with_first x xs us)

-- NO CHOICE gains more
pub none_gains_more : (xs : List Offer) (cs : Choice) (us : List ℕ) → kept_to xs cs us ≡ true → gained xs cs ≤ most xs us
unfolding kept_to gained most
none_gains_more [] cs us v = omega arith
none_gains_more (x ∷ xs) [] us v = omega arith
none_gains_more (x ∷ xs) (none ∷ cs) us v = omega (arith, none_gains_more xs cs us v)
none_gains_more (x ∷ xs) (some s ∷ cs) us v =
    let a = and_true ((leb x.from s && leb s x.to) && not (member s us)) (kept_to xs cs (s ∷ us)) v in
    let b = and_true (leb x.from s && leb s x.to) (not (member s us)) a.0 in
    let g = and_true (leb x.from s) (leb s x.to) b.0 in
    let lo = leb-true x.from s g.0 in
    let hi = leb-true s x.to g.1 in
    let t = top_above (suc x.to - x.from) x.from (with_first x xs us) s lo (omega arith) in
    let t' = rw (not_true' (member s us) b.1) at t in
    omega (arith, none_gains_more xs cs (s ∷ us) a.1)

-- SOME CHOICE gains it
abbrev pub GainsMost : List Offer → (used : List ℕ) → Type 0
GainsMost xs us = (cs : Choice) × (kept_to xs cs us ≡ true) × (gained xs cs ≡ most xs us)

-- it leaves the first offer
first_left : (x : Offer) (xs : List Offer) (us : List ℕ) → best_first x xs us ≤ most xs us → GainsMost xs us → GainsMost (x ∷ xs) us
unfolding kept_to gained most
first_left x xs us h z = (none ∷ z.0, z.1, omega (arith, z.2))

-- it puts the first offer in slot s
first_put : (x : Offer) (xs : List Offer) (us : List ℕ) (s : ℕ) → x.from ≤ s → s ≤ x.to → member s us ≡ false →
    most xs us ≤ best_first x xs us → x.weight + most xs (s ∷ us) ≡ best_first x xs us → GainsMost xs (s ∷ us) → GainsMost (x ∷ xs) us
unfolding kept_to gained most
first_put x xs us s lo hi b a e y =
    (some s ∷ y.0, rw (le-leb x.from s lo, le-leb s x.to hi, b) y.1, omega (arith, y.2))

-- whichever gains more
first_any : (x : Offer) (xs : List Offer) (us : List ℕ) → ((vs : List ℕ) → GainsMost xs vs) → GainsMost (x ∷ xs) us
first_any x xs us ih =
    elim (leb? (best_first x xs us) (most xs us)) [
      | inl a ↦ first_left x xs us a.1 (ih us)
      | inr a ↦
          let t = top_some (suc x.to - x.from) x.from (with_first x xs us) (omega arith) in
          elim (either (member t.0 us)) [
            | inl b ↦ let e : 0 ≡ best_first x xs us = (rw b at t.3) in absurd (omega arith)
            | inr b ↦ first_put x xs us t.0 t.1 (omega (arith, t.2)) b (omega arith) (rw b at t.3) (ih (t.0 ∷ us))
          ]
    ]

-- of any offers and used slots
pub some_gains : (xs : List Offer) (us : List ℕ) → GainsMost xs us
unfolding kept_to gained most
some_gains [] us = ([], refl, refl)
some_gains (x ∷ xs) us = first_any x xs us (λ vs. some_gains xs vs)

pub most_reckoned : MostReckoned
unfolding MostReckoned Most
most_reckoned xs = (some_gains xs [], λ cs v. none_gains_more xs cs [] v)
