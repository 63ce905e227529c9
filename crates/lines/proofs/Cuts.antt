-- Where a line of an input ends, and what an input cut there is.
use mathlib.Core.Path.{◌≡◌, ap, ◌∙◌}
use mathlib.Core.Logic.{inl, inr}
use mathlib.Core.List.{List, [], ◌∷◌, ◌++◌}
use Prim.Native.Nat.{ℕ, zero, suc, ◌+◌, ◌-◌, ◌<◌}
use native.Mathlib.Omega.{arith}
use lib.ListN.{length, get_or, take, drop, length-drop}
use lib.Seq.{append_snoc, get_or-drop, drop-drop}
use borrow.Author.Tests.{ne_eqb}
use Rattle.rules.specs.Lines.{line_end}
use Rattle.rules.specs.Reads.{complete_from, begun_from}
use Rattle.theory.specs.Tests.{eqb?}
use Rattle.theory.specs.Complete.{unended_made, unended_complete, unended_begun}
use Rattle.lines.specs.Ends.{NoEnd, FirstEnd}

-- a byte more that is no 0A
pub none_more : (input : List ℕ) (from i : ℕ) → NoEnd input from i → (get_or input i 0 ≡ line_end → ⊥) → NoEnd input from (i + 1)
none_more input from i f g k h l e = elim (eqb? k i) [ inl a ↦ g (rw a.1 at e) | inr a ↦ f k h (omega (arith, a.1)) e ]

-- BEHIND A LINE BEGUN: where the first 0A is the k-th byte
complete_cut : (xs ys : List ℕ) (k : ℕ) → k < length ys → get_or ys k 0 ≡ line_end → ((j : ℕ) → j < k → get_or ys j 0 ≡ line_end → ⊥) →
    complete_from xs ys ≡ (xs ++ take (suc k) ys) ∷ complete_from [] (drop (suc k) ys)
unfolding complete_from
complete_cut xs [] k h e f = absurd (omega arith)
complete_cut xs (b ∷ bs) zero h e f = rw e
complete_cut xs (b ∷ bs) (suc k) h e f =
    rw (ne_eqb b line_end (f 0 (omega arith)))
    (complete_cut (xs ++ (b ∷ [])) bs k (omega arith) e (λ j g. f (suc j) (omega arith))
    ∙ ap (λ (ls : List ℕ). ls ∷ complete_from [] (drop (suc k) bs)) (append_snoc xs b (take (suc k) bs)))

begun_cut : (xs ys : List ℕ) (k : ℕ) → k < length ys → get_or ys k 0 ≡ line_end → ((j : ℕ) → j < k → get_or ys j 0 ≡ line_end → ⊥) →
    begun_from xs ys ≡ begun_from [] (drop (suc k) ys)
unfolding begun_from
begun_cut xs [] k h e f = absurd (omega arith)
begun_cut xs (b ∷ bs) zero h e f = rw e
begun_cut xs (b ∷ bs) (suc k) h e f =
    rw (ne_eqb b line_end (f 0 (omega arith)))
    (begun_cut (xs ++ (b ∷ [])) bs k (omega arith) e (λ j g. f (suc j) (omega arith)))

-- FROM A PLACE ON: the first line up to its 0A, and the rest
pub record Cut (input : List ℕ) (from at : ℕ) : Type 0 where
  pub complete : complete_from [] (drop from input) ≡ take (at + 1 - from) (drop from input) ∷ complete_from [] (drop (at + 1) input)
  pub begun : begun_from [] (drop from input) ≡ begun_from [] (drop (at + 1) input)

pub cut : (input : List ℕ) (from at : ℕ) → FirstEnd input from at → Cut input from at
cut input from at h =
    let k = at - from in
    let n : at + 1 - from ≡ suc k = omega (arith, h.after) in
    let p : from + k ≡ at = omega (arith, h.after) in
    let q : from + suc k ≡ at + 1 = omega (arith, h.after) in
    let l : k < length (drop from input) = omega (arith, length-drop from input, h.within, h.after) in
    let e : get_or (drop from input) k 0 ≡ line_end = rw (get_or-drop, p) h.ends in
    let f : (j : ℕ) → j < k → get_or (drop from input) j 0 ≡ line_end → ⊥ =
    λ j g e. h.first (from + j) (omega arith) (omega (arith, h.after)) (rw get_or-drop at e) in
    record {
      complete = rw n (complete_cut [] (drop from input) k l e f ∙ rw (drop-drop, q));
      begun = begun_cut [] (drop from input) k l e f ∙ rw (drop-drop, q);
    }

-- no complete line is left: all of it is the line begun
pub record Uncut (input : List ℕ) (from : ℕ) : Type 0 where
  pub complete : complete_from [] (drop from input) ≡ []
  pub begun : begun_from [] (drop from input) ≡ drop from input

pub uncut : (input : List ℕ) (from : ℕ) → NoEnd input from (length input) → Uncut input from
uncut input from h =
    let f : (j : ℕ) → j < length (drop from input) → get_or (drop from input) j 0 ≡ line_end → ⊥ =
    λ j g e. h (from + j) (omega arith) (omega (arith, length-drop from input)) (rw get_or-drop at e) in
    let u = unended_made (drop from input) f in
    record { complete = unended_complete [] (drop from input) u; begun = unended_begun [] (drop from input) u }
