-- All rows asked about once: what they have shown, and their kinds.
use mathlib.Core.Path.{◌≡◌, sym, ap, ◌∙◌}
use mathlib.Core.Bool.{Bool, true, false, ◌&&◌}
use mathlib.Core.List.{List}
use Prim.Native.Nat.{ℕ, ◌+◌, ◌-◌, ◌≤◌, ◌<◌}
use native.Mathlib.Omega.{arith}
use native.Mathlib.Numerals.{add-one}
use lib.ListN.{take, drop}
use Rattle.rules.specs.Limits.{row_size}
use Rattle.rules.specs.Conditions.{row_at}
use Rattle.row.specs.Judge.{kind_good}
use Rattle.row.proofs.RowLaws.{and_on, and_off}
use Rattle.kinds.specs.Kinds.{kinds_good}

pub kinds_next : (t : List ℕ) (i : ℕ) → kinds_good t (i + 1) ≡ kinds_good t i && kind_good (take row_size (drop (row_at i) t))
unfolding kinds_good
kinds_next t i = rw (add-one i)

-- ROW i as the code lends it
abbrev pub lent : (t : List ℕ) (a : ℕ) → List ℕ
lent t a = take (a + row_size - a) (drop a t)

pub lent_is : (t : List ℕ) (a i : ℕ) → a ≡ row_at i → lent t a ≡ take row_size (drop (row_at i) t)
lent_is t a i e =
    let f : a + row_size - a ≡ row_size = omega arith in
    rw (f, e)

-- THE KINDS, asked from the last row back: those of u rows are those of the first k, and row k - 1 is asked next
module _ (t : List ℕ) (u k a : ℕ) (x : Bool) (some : 0 < k) (e : a ≡ row_at (k - 1)) (d : x ≡ kind_good (lent t a)) (j : kinds_good t u ≡ kinds_good t k) where
  kinds_step : kinds_good t u ≡ kinds_good t (k - 1) && x
  kinds_step =
      let f : k ≡ k - 1 + 1 = omega (arith, some) in
      j ∙ ap (kinds_good t) f ∙ kinds_next t (k - 1) ∙ ap (λ (y : Bool). kinds_good t (k - 1) && y) (sym (d ∙ ap kind_good (lent_is t a (k - 1) e)))

  pub kinds_on : x ≡ true → kinds_good t u ≡ kinds_good t (k - 1)
  kinds_on p = kinds_step ∙ rw p (and_on (kinds_good t (k - 1)))

  pub kinds_off : x ≡ false → false ≡ kinds_good t u
  kinds_off p = sym (kinds_step ∙ rw p (and_off (kinds_good t (k - 1))))

pub kinds_all : (t : List ℕ) (u k : ℕ) → k ≤ 0 → kinds_good t u ≡ kinds_good t k → true ≡ kinds_good t u
unfolding kinds_good
kinds_all t u k h j = let e : k ≡ 0 = omega (arith, h) in sym (j ∙ rw e)
