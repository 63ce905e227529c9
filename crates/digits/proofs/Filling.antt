-- A buffer filled from its start, part by part.
use mathlib.Core.Path.{◌≡◌, refl, sym, ap, ◌∙◌}
use mathlib.Core.List.{List, [], ◌∷◌, ◌++◌, append_assoc}
use Prim.Native.Nat.{ℕ, suc, ◌+◌, ◌≤◌, ◌<◌}
use native.Mathlib.Omega.{arith}
use native.Mathlib.Numerals.{add-one}
use borrow.Rule.Slice.PartMut.{put_mid}
use lib.ListN.{length, get_or, set, take, drop, length-append, length-drop}
use lib.Seq.{length-take-le, take_at, drop_at, drop-cons, drop-drop, set_at, append_snoc}
use Rattle.rules.specs.Lines.{digits}
use Rattle.theory.specs.Digits.{length_digits}
use Rattle.digits.specs.Spelling.{put}

-- bytes written through a part of the buffer
pub put_part : (a k : ℕ) (z : List ℕ) {ys xs : List ℕ} → ys ≡ xs → k ≡ length xs → put_mid a k z ys ≡ put a xs z
put_part a k z {ys} {xs} e h = rw (e, h) (sym (append_assoc (take a z) xs (drop (length xs) (drop a z))) ∙ rw drop-drop)

-- xs stand at the buffer's start, and the bytes past them are those of zs
pub record Filled (xs zs buffer : List ℕ) : Type 0 where
  pub room : length xs ≤ length zs
  pub stand : buffer ≡ xs ++ drop (length xs) zs

pub filled_none : (zs : List ℕ) → Filled [] zs zs
filled_none zs = record { room = omega arith; stand = refl }

-- bytes put behind them, and a number v in k digits, through a part of the buffer
pub filled_put : (a : ℕ) (ys : List ℕ) {xs zs b b' : List ℕ} → Filled xs zs b → length xs ≡ a → a + length ys ≤ length zs → b' ≡ put a ys b →
    Filled (xs ++ ys) zs b'
filled_put a ys {xs} {zs} {b} f l h e =
    let rest = drop (length xs) zs in
    let n : length (xs ++ ys) ≡ length xs + length ys = length-append xs ys in
    let m : a + length ys ≡ length (xs ++ ys) = omega arith in
    let t : take a b ≡ xs = rw f.stand (take_at xs rest a l) in
    let d : drop (a + length ys) b ≡ drop (length (xs ++ ys)) zs =
    sym (drop-drop (length ys) a b) ∙ rw (f.stand, drop_at xs rest a l, drop-drop, n) in
    record { room = omega arith; stand = e ∙ rw (t, d) }

pub filled_long : {xs zs b : List ℕ} → Filled xs zs b → length b ≡ length zs
filled_long {xs} {zs} {b} f = omega (arith, ap length f.stand, length-append xs (drop (length xs) zs), length-drop (length xs) zs, f.room)

pub filled_number : (a k v : ℕ) {xs zs b ys : List ℕ} → Filled xs zs b → ys ≡ digits (length (take k (drop a b))) v → a ≡ length xs → a + k ≤ length zs →
    Filled (xs ++ digits k v) zs (put_mid a k b ys)
filled_number a k v {b = b} f e p h =
    let n : length (take k (drop a b)) ≡ k = length-take-le k (drop a b) (omega (arith, filled_long f, length-drop a b)) in
    filled_put a (digits k v) f (sym p) (omega (arith, h, length_digits k v)) (put_part a k b (rw n at e) (sym (length_digits k v)))

-- a byte more
pub filled_byte : (a x : ℕ) {xs zs b : List ℕ} → Filled xs zs b → length xs ≡ a → a < length zs → Filled (xs ++ (x ∷ [])) zs (set b a x)
filled_byte a x {xs} {zs} {b} f l h =
    let n : length (xs ++ (x ∷ [])) ≡ suc (length xs) = length-append xs (x ∷ []) ∙ add-one (length xs) in
    record {
      room = omega arith;
      stand =
          rw (f.stand, drop-cons zs (length xs) 0 (omega arith), set_at xs (get_or zs (length xs) 0) (drop (suc (length xs)) zs) x a l, n)
          (sym (append_snoc xs x (drop (suc (length xs)) zs)));
    }
