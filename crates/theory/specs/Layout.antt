-- Numbers side by side in bytes, by the widths of a layout: what was put is got, and what was got is put: got_put, put_got.
use Rattle.std.specs.Prelude.{◌≡◌, refl, List, [], ◌∷◌, ◌++◌, ℕ, ◌+◌, ◌≤◌, ◌<◌, ◌^◌, length, take, drop}
use Rattle.std.proofs.Common.{sym, ap, ap₂, ◌∙◌, append_assoc, arith, length-append, take_at, drop_at, drop-drop}
use Rattle.rules.specs.Limits.{size}
use Rattle.rules.specs.Table.{low, value, field, put}
use Rattle.rules.specs.Conditions.{Bytes}
use Rattle.theory.specs.Fields.{value_low, length_low, low_field}

-- the numbers from a place on
unfoldable pub got : (at : ℕ) → (widths bytes : List ℕ) → List ℕ
got a [] bs = []
got a (n ∷ ns) bs = field a n bs ∷ got (a + n) ns bs

-- as many numbers as widths, each within its own
abbrev pub Fit : (widths values : List ℕ) → Type 0
Fit [] [] = Unit {0}
Fit [] (v ∷ vs) = ⊥
Fit (n ∷ ns) [] = ⊥
Fit (n ∷ ns) (v ∷ vs) = (v < 256 ^ n) × Fit ns vs

pub length_put : (ns vs : List ℕ) → Fit ns vs → length (put ns vs) ≡ size ns
unfolding put
length_put [] [] f = refl
length_put [] (v ∷ vs) f = elim f [ ]
length_put (n ∷ ns) [] f = elim f [ ]
length_put (n ∷ ns) (v ∷ vs) f = omega (arith, length-append (low n v) (put ns vs), length_low n v, length_put ns vs f.1)

-- WHAT WAS PUT is got
pub got_put : (ns vs : List ℕ) (a : ℕ) (bs zs : List ℕ) → Fit ns vs → drop a bs ≡ put ns vs ++ zs → got a ns bs ≡ vs
unfolding got put field
got_put [] [] a bs zs f e = refl
got_put [] (v ∷ vs) a bs zs f e = elim f [ ]
got_put (n ∷ ns) [] a bs zs f e = elim f [ ]
got_put (n ∷ ns) (v ∷ vs) a bs zs f e =
    let d : drop a bs ≡ low n v ++ (put ns vs ++ zs) = e ∙ append_assoc (low n v) (put ns vs) zs in
    let h : take n (drop a bs) ≡ low n v = ap (take n) d ∙ take_at (low n v) (put ns vs ++ zs) n (length_low n v) in
    let g : drop (a + n) bs ≡ put ns vs ++ zs = sym (drop-drop n a bs) ∙ ap (drop n) d ∙ drop_at (low n v) (put ns vs ++ zs) n (length_low n v) in
    ap₂ (λ (x : ℕ) (xs : List ℕ). x ∷ xs) (ap value h ∙ value_low n v f.0) (got_put ns vs (a + n) bs zs f.1 g)

-- WHAT WAS GOT is put
pub put_got : (ns : List ℕ) (a : ℕ) (bs : List ℕ) → Bytes bs → a + size ns ≤ length bs → drop a bs ≡ put ns (got a ns bs) ++ drop (a + size ns) bs
unfolding got put
put_got [] a bs h l = let e : a ≡ a + 0 = omega arith in ap (λ (k : ℕ). drop k bs) e
put_got (n ∷ ns) a bs h l =
    let e : a + n + size ns ≡ a + (n + size ns) = omega arith in
    low_field a n bs h (omega arith)
    ∙ ap (λ (cs : List ℕ). low n (field a n bs) ++ cs) (put_got ns (a + n) bs h (omega arith) ∙ ap (λ (k : ℕ). put ns (got (a + n) ns bs) ++ drop k bs) e)
    ∙ sym (append_assoc (low n (field a n bs)) (put ns (got (a + n) ns bs)) (drop (a + (n + size ns)) bs))
