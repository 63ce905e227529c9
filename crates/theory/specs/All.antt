-- Facts of every row of a list, kept by sorting and by the plan's run; blanks: all_in, all_map, all_of_in, all_sorted, all_kept, IsBlank.
use Rattle.std.specs.Prelude.{◌≡◌, refl, Bool, List, [], ◌∷◌, ◌++◌, ℕ, zero, suc, ◌+◌, ◌≤◌, ◌<◌, replicate}
use Rattle.std.proofs.Common.{sym, ap, subst, inl, inr, arith}
use Rattle.rules.specs.Limits.{most_class}
use Rattle.rules.specs.Rows.{Row, Round, blank, into, sorted, All, In}
use Rattle.rules.specs.Plan.{feasible, kept, blanks_from}
use Rattle.theory.specs.Tests.{either}
use Rattle.theory.specs.Sum.{rejected}

pub all_map : {P Q : Row → Type 0} → ((x : Row) → P x → Q x) → (xs : List Row) → All P xs → All Q xs
all_map h [] a = tt
all_map h (x ∷ xs) a = (h x a.0, all_map h xs a.1)

pub all_in : (P : Row → Type 0) (x : Row) (xs : List Row) → All P xs → In x xs → P x
all_in P x [] a i = absurd i
all_in P x (y ∷ ys) a (inl e) = subst P (sym e) a.0
all_in P x (y ∷ ys) a (inr i) = all_in P x ys a.1 i

pub all_of_in : (P : Row → Type 0) (xs : List Row) → ((x : Row) → In x xs → P x) → All P xs
all_of_in P [] h = tt
all_of_in P (x ∷ xs) h = (h x (inl refl), all_of_in P xs (λ y i. h y (inr i)))

pub in_mid : (x : Row) (xs ys : List Row) → In x (xs ++ (x ∷ ys))
in_mid x [] ys = inl refl
in_mid x (z ∷ zs) ys = inr (in_mid x zs ys)

pub all_append : (P : Row → Type 0) (xs ys : List Row) → All P xs → All P ys → All P (xs ++ ys)
all_append P [] ys a b = b
all_append P (x ∷ xs) ys a b = (a.0, all_append P xs ys a.1 b)

pub all_into : (P : Row → Type 0) (f : Row → Row → Bool) (x : Row) (ys : List Row) → P x → All P ys → All P (into f x ys)
unfolding into
all_into P f x [] p a = (p, tt)
all_into P f x (y ∷ ys) p a =
    elim (either (f x y)) [ inl e ↦ rw e (p, a) | inr e ↦ rw e (a.0, all_into P f x ys p a.1) ]

pub all_sorted : (P : Row → Type 0) (f : Row → Row → Bool) (xs : List Row) → All P xs → All P (sorted f xs)
unfolding sorted
all_sorted P f [] a = tt
all_sorted P f (x ∷ xs) a = all_into P f x (sorted f xs) a.0 (all_sorted P f xs a.1)

pub all_kept : (P : Row → Type 0) (r : Round) (xs ps : List Row) → All P xs → All P ps → All P (kept r xs ps)
unfolding kept
all_kept P r [] ps a b = b
all_kept P r (x ∷ xs) ps a b =
    elim (either (feasible r (x ∷ ps))) [
      | inl e ↦ rw e (all_kept P r xs (x ∷ ps) a.1 (a.0, b))
      | inr e ↦ rw e (all_kept P r xs ps a.1 b)
    ]

pub all_rejected : (P : Row → Type 0) (r : Round) (xs ps : List Row) → All P xs → All P (rejected r xs ps)
unfolding rejected
all_rejected P r [] ps a = tt
all_rejected P r (x ∷ xs) ps a =
    elim (either (feasible r (x ∷ ps))) [
      | inl e ↦ rw e (all_rejected P r xs (x ∷ ps) a.1)
      | inr e ↦ rw e (a.0, all_rejected P r xs ps a.1)
    ]

pub all_replicate : (P : Row → Type 0) (n : ℕ) (x : Row) → P x → All P (replicate n x)
all_replicate P zero x p = tt
all_replicate P (suc n) x p = (p, all_replicate P n x p)

-- falling weights
abbrev pub Falling : List Row → Type 0
Falling [] = Unit {0}
Falling (x ∷ xs) = All (λ y. y.weight ≤ x.weight) xs × Falling xs

-- rows without weight may follow
abbrev pub Light : List Row → Type 0
Light = All (λ x. x.weight ≤ 0)

pub falling_light : (xs : List Row) → Light xs → Falling xs
falling_light [] a = tt
falling_light (x ∷ xs) a = (all_map (λ z (h : z.weight ≤ 0). omega arith) xs a.1, falling_light xs a.1)

pub falling_append : (xs ys : List Row) → Falling xs → Light ys → Falling (xs ++ ys)
falling_append [] ys f l = falling_light ys l
falling_append (x ∷ xs) ys f l = (
  all_append (λ z. z.weight ≤ x.weight) xs ys f.0 (all_map (λ z (h : z.weight ≤ 0). omega arith) ys l),
  falling_append xs ys f.1 l,
)

-- BLANKS
abbrev pub IsBlank : Row → Type 0
IsBlank x = x ≡ blank x.due

pub blank_ticket : (x : Row) → IsBlank x → x.ticket ≡ 0
unfolding blank
blank_ticket x e = ap (λ (y : Row). y.ticket) e

pub blank_weight : (x : Row) → IsBlank x → x.weight ≡ 0
unfolding blank
blank_weight x e = ap (λ (y : Row). y.weight) e

pub blank_class : (x : Row) → IsBlank x → x.tail.class ≡ most_class
unfolding blank
blank_class x e = ap (λ (y : Row). y.tail.class) e

pub blank_is : (s : ℕ) → IsBlank (blank s)
unfolding blank
blank_is s = refl

pub due_of_blank : (s : ℕ) → (blank s).due ≡ s
unfolding blank
due_of_blank s = refl

pub all_blanks : (P : Row → Type 0) (n s k : ℕ) → ((d : ℕ) → s ≤ d → d < s + n → P (blank d)) → All P (blanks_from n s k)
unfolding blanks_from
all_blanks P zero s k h = tt
all_blanks P (suc n) s k h =
    all_append P (replicate k (blank s)) (blanks_from n (suc s) k) (all_replicate P k (blank s) (h s (omega arith) (omega arith)))
    (all_blanks P n (suc s) k (λ d a b. h d (omega arith) (omega arith)))

pub light_blanks : (n s k : ℕ) → Light (blanks_from n s k)
unfolding blank
light_blanks n s k = all_blanks (λ x. x.weight ≤ 0) n s k (λ d a b. omega arith)

pub ticketless_blanks : (n s k : ℕ) → All (λ x. x.ticket ≡ 0) (blanks_from n s k)
unfolding blank
ticketless_blanks n s k = all_blanks (λ x. x.ticket ≡ 0) n s k (λ d a b. refl)
