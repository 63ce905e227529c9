-- Bytes copied within a list to a place that is no later.
use mathlib.Core.Path.{◌≡◌, sym, ap, ap₂, ◌∙◌}
use mathlib.Core.List.{List, ◌++◌, append_assoc}
use Prim.Native.Nat.{ℕ, ◌+◌, ◌-◌, ◌≤◌}
use native.Mathlib.Omega.{arith}
use lib.ListN.{length, take, drop, length-drop}
use lib.Seq.{take-add, drop-drop, paste, take-paste, drop-paste}

-- what is copied first doesn't touch what is copied next
pub paste_next : (t u : List ℕ) (a b m n : ℕ) → a ≤ b → b + (m + n) ≤ length t → u ≡ paste t a (drop b t) m →
    paste u (a + m) (drop (b + m) u) n ≡ paste t a (drop b t) (m + n)
paste_next t u a b m n h k e =
    let s = drop b t in
    let l : m ≤ length s = omega (arith, length-drop b t) in
    let front : take (a + m) u ≡ take a t ++ take m s = ap (take (a + m)) e ∙ take-paste t a s m (omega arith) l in
    let e1 : a + m + (b - a) ≡ b + m = omega arith in
    let e2 : a + m + n ≡ a + (m + n) = omega arith in
    let from : drop (b + m) u ≡ drop m s = ap (λ (x : ℕ). drop x u) (sym e1) ∙ behind (b - a) ∙ ap (λ (x : ℕ). drop x t) e1 ∙ sym (drop-drop m b t) in
    ap₂ (λ (xs ys : List ℕ). xs ++ ys ++ drop (a + m + n) u) front (ap (take n) from)
    ∙ ap (λ (zs : List ℕ). (take a t ++ take m s) ++ take n (drop m s) ++ zs) (behind n ∙ ap (λ (x : ℕ). drop x t) e2)
    ∙ ap (λ (zs : List ℕ). zs ++ drop (a + (m + n)) t) (append_assoc (take a t) (take m s) (take n (drop m s))
    ∙ ap (λ (ys : List ℕ). take a t ++ ys) (sym (take-add m n s)))
  where
    behind : (x : ℕ) → drop (a + m + x) u ≡ drop (a + m + x) t
    behind x =
        ap (drop (a + m + x)) e
        ∙ sym (drop-drop x (a + m) (paste t a (drop b t) m))
        ∙ ap (drop x) (drop-paste t a (drop b t) m (omega arith) (omega (arith, length-drop b t)))
        ∙ drop-drop x (a + m) t
