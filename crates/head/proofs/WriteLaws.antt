-- The head written.
use mathlib.Core.Path.{◌≡◌, refl, ap, ◌∙◌}
use mathlib.Core.List.{List, [], ◌∷◌, ◌++◌}
use Prim.Native.Nat.{ℕ, zero, suc, ◌≤◌}
use native.Mathlib.Omega.{arith}
use lib.ListN.{length, get_or, drop}
use lib.Seq.{sets}
use Rattle.rules.specs.Limits.{slot_at, last_at, next_at, used_at, sealed_at, head_zeros_at, slot_bytes, wide_bytes, flag_bytes}
use Rattle.rules.specs.Rows.{HeadTail}
use Rattle.rules.specs.Table.{low, put, head_bytes}
use Rattle.head.specs.Numbers.{head_numbers}

-- the first bytes of a list, spelt out
firsts : ℕ → List ℕ → List ℕ
firsts zero t = []
firsts (suc n) t = get_or t 0 0 ∷ firsts n (drop 1 t)

spelt : (n : ℕ) (t : List ℕ) → n ≤ length t → t ≡ firsts n t ++ drop n t
unfolding firsts
spelt zero t h = refl
spelt (suc n) [] h = absurd (omega arith)
spelt (suc n) (b ∷ t) h = ap (λ (bs : List ℕ). b ∷ bs) (spelt n t (omega arith))

-- A HEAD's five stores
abbrev stores : (s l n c : ℕ) → HeadTail → List ℕ → List ℕ
stores s l n c m bs =
    sets (sets (sets (sets (sets bs slot_at (low slot_bytes s)) last_at (low slot_bytes l)) next_at (low wide_bytes n)) used_at (low slot_bytes c)) sealed_at
    (low flag_bytes m.sealed)

stores_head : (s l n c : ℕ) (m : HeadTail) (t bs : List ℕ) → stores s l n c m (firsts head_zeros_at t ++ bs) ≡ head_numbers s l n c m ++ bs
unfolding firsts low put head_numbers
stores_head s l n c m t bs = refl

pub head_stored : (t u v w x y : List ℕ) (s l n c : ℕ) (m : HeadTail) → head_zeros_at ≤ length t →
    u ≡ sets t slot_at (low slot_bytes s) → v ≡ sets u last_at (low slot_bytes l) → w ≡ sets v next_at (low wide_bytes n) →
    x ≡ sets w used_at (low slot_bytes c) → y ≡ sets x sealed_at (low flag_bytes m.sealed) → y ≡ head_numbers s l n c m ++ drop head_zeros_at t
head_stored t u v w x y s l n c m h e f g i j =
    rw (j, i, g, f, e) (ap (stores s l n c m) (spelt head_zeros_at t h) ∙ stores_head s l n c m t (drop head_zeros_at t))

-- over a whole head they leave a whole head
pub head_over : (s l n c t k m d : ℕ) (a b : HeadTail) (bs : List ℕ) →
    head_numbers s l n c a ++ drop head_zeros_at (head_bytes t k m d b ++ bs) ≡ head_bytes s l n c a ++ bs
unfolding low put head_numbers head_bytes
head_over s l n c t k m d a b bs = refl
