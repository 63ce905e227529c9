-- Counts four at a time, then the rest: which count stands where, and the level that a turn brings.
use mathlib.Core.Path.{◌≡◌, refl, sym, ap, ◌∙◌}
use mathlib.Core.List.{List, []}
use Prim.Native.Nat.{ℕ, zero, suc, ◌+◌, ◌*◌, ◌/◌, ◌%◌, ◌≤◌, ◌<◌}
use native.Mathlib.Omega.{arith}
use lib.ListN.{length, get_or, take, drop}
use Rattle.std.proofs.Common.{get_or-drop, get_or-take}
use Rattle.std.proofs.lemmas.List.{length-take-le}
use Rattle.std.specs.Simd.{first_chunks}
use Rattle.buckets.specs.Reach.{Levels, passed}
use Rattle.buckets.proofs.LevelLaws.{most_fits, sum_fits, turn_fits, level_turn, level_step}

-- a count in a slice's array
chunk_at : (n k i j : ℕ) (xs : List ℕ) → i < k → j < n → get_or (get_or (first_chunks n k xs) i []) j 0 ≡ get_or xs (n * i + j) 0
chunk_at n zero i j xs h l = absurd (omega arith)
chunk_at n (suc k) zero j xs h l = rw get_or-take (ap (λ (p : ℕ). get_or xs p 0) (omega arith))
chunk_at n (suc k) (suc i) j xs h l =
    chunk_at n k i j (drop n xs) (omega arith) l ∙ rw get_or-drop (ap (λ (p : ℕ). get_or xs p 0) (omega arith))

module _ (cs : List ℕ) (top : ℕ) (fours : List (List ℕ)) (e : fours ≡ first_chunks 4 (length (take (top + 1) cs) / 4) (take (top + 1) cs))
    (n : length fours ≡ length (take (top + 1) cs) / 4) (i sum most : ℕ) (w : Levels cs top (4 * i) sum most) (h : i < length fours) where
  abbrev pub four : List ℕ
  four = get_or fours i []

  long : length (take (top + 1) cs) ≡ top + 1
  long = length-take-le (top + 1) cs (omega (arith, w.counts.enough))

  near : 4 * i + 2 < top
  near = omega (arith, h, n, long)

  at : (j p : ℕ) → j < 4 → p ≡ 4 * i + j → get_or four j 0 ≡ get_or cs p 0
  at j p l q =
      let b : 4 * i + j < top + 1 = omega (arith, h, n, long) in
      rw e (chunk_at 4 (length (take (top + 1) cs) / 4) i j (take (top + 1) cs) (omega (arith, h, n)) l
      ∙ rw get_or-take (ap (λ (v : ℕ). get_or cs v 0) (sym q)))

  pub four_fits : sum + get_or four 0 0 + get_or four 1 0 + get_or four 2 0 + get_or four 3 0 ≤ 2097152
  four_fits =
      omega (
        arith,
        turn_fits cs top (4 * i) sum most w near,
        at 0 (4 * i) (omega arith) (omega arith),
        at 1 (4 * i + 1) (omega arith) refl,
        at 2 (4 * i + 2) (omega arith) refl,
        at 3 (4 * i + 3) (omega arith) refl,
      )

  pub four_most : most ≤ 4194304
  four_most = omega (arith, most_fits cs top (4 * i) sum most w, near, w.counts.small)

  pub four_turn : (a b c d m : ℕ) → a ≡ sum + get_or four 0 0 → b ≡ get_or four 1 0 → c ≡ a + b + get_or four 2 0 → d ≡ get_or four 3 0 →
      m ≡ passed (passed (passed (passed most a) (a + b)) c) (c + d) → Levels cs top (4 * (i + 1)) (c + d) m
  four_turn a b c d m p q r t u =
      let z : 4 * (i + 1) ≡ 4 * i + 4 = omega arith in
      rw z (level_turn cs top (4 * i) sum most w near
      (omega (arith, p, at 0 (4 * i) (omega arith) (omega arith)))
      (omega (arith, q, at 1 (4 * i + 1) (omega arith) refl))
      (omega (arith, r, at 2 (4 * i + 2) (omega arith) refl))
      (omega (arith, t, at 3 (4 * i + 3) (omega arith) refl)) u)

-- once no four are left
pub four_end : (cs : List ℕ) (top i sum most : ℕ) → Levels cs top (4 * i) sum most → (n : ℕ) → n ≡ length (take (top + 1) cs) / 4 → i ≤ n → n ≤ i →
    Levels cs top ((top + 1) / 4 * 4 + 0) sum most
four_end cs top i sum most w n e h l =
    let z : (top + 1) / 4 * 4 + 0 ≡ 4 * i = omega (arith, e, h, l, length-take-le (top + 1) cs (omega (arith, w.counts.enough))) in
    rw z w

-- THE REST, one at a time
module _ (cs : List ℕ) (top : ℕ) (rest : List ℕ) (e : rest ≡ drop (length (take (top + 1) cs) / 4 * 4) (take (top + 1) cs))
    (n : length rest ≡ length (take (top + 1) cs) % 4) (i sum most : ℕ) (w : Levels cs top ((top + 1) / 4 * 4 + i) sum most) where
  all : length (take (top + 1) cs) ≡ top + 1
  all = length-take-le (top + 1) cs (omega (arith, w.counts.enough))

  module _ (h : i < length rest) where
    by : (top + 1) / 4 * 4 + i ≤ top
    by = omega (arith, h, n, all)

    here : get_or rest i 0 ≡ get_or cs ((top + 1) / 4 * 4 + i) 0
    here =
        let b : (top + 1) / 4 * 4 + i < top + 1 = omega (arith, by) in
        rw (e, all) (rw (get_or-drop, get_or-take))

    pub rest_fits : sum + get_or rest i 0 ≤ 2097152
    rest_fits = omega (arith, sum_fits cs top ((top + 1) / 4 * 4 + i) sum most w by, here)

    pub rest_step : (m : ℕ) → m ≡ passed most (sum + get_or rest i 0) → Levels cs top ((top + 1) / 4 * 4 + (i + 1)) (sum + get_or rest i 0) m
    rest_step m q = level_step cs top ((top + 1) / 4 * 4 + i) sum most w by (omega arith) (omega (arith, here)) q

  pub rest_most : most ≤ 4196352
  rest_most = omega (arith, most_fits cs top ((top + 1) / 4 * 4 + i) sum most w, w.by, w.counts.small)

  pub rest_end : i ≤ length rest → length rest ≤ i → Levels cs top (top + 1) sum most
  rest_end h l = let z : (top + 1) / 4 * 4 + i ≡ top + 1 = omega (arith, h, l, n, all) in rw z at w
