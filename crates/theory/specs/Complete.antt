-- An input cut after each 0A, inputs joined, bytes held: Unended, complete_append, begun_append, lines_append, held_complete, held_begun.
use Rattle.std.specs.Prelude.{◌≡◌, refl, List, [], ◌∷◌, ◌++◌, ℕ, zero, suc, ◌<◌, length, get_or}
use Rattle.std.proofs.Common.{ap, ◌∙◌, inl, inr, append-nil, arith, ne_eqb}
use Rattle.std.proofs.Math.Seq.{append_snoc}
use Rattle.rules.specs.Lines.{line_end, lines_from}
use Rattle.rules.specs.Reads.{complete_from, begun_from}
use Rattle.theory.specs.Tests.{eqb?}

-- UNENDED: bytes without a 0A; the same by places
abbrev pub Unended : List ℕ → Type 0
Unended [] = Unit {0}
Unended (b ∷ bs) = (b ≡ line_end → ⊥) × Unended bs

pub unended_at : (xs : List ℕ) (k : ℕ) → Unended xs → get_or xs k 0 ≡ line_end → ⊥
unended_at [] k u e = omega (arith, e)
unended_at (b ∷ bs) zero u e = u.0 e
unended_at (b ∷ bs) (suc k) u e = unended_at bs k u.1 e

pub unended_made : (xs : List ℕ) → ((k : ℕ) → k < length xs → get_or xs k 0 ≡ line_end → ⊥) → Unended xs
unended_made [] f = tt
unended_made (b ∷ bs) f = (f 0 (omega arith), unended_made bs (λ k h. f (suc k) (omega arith)))

pub unended_more : (xs : List ℕ) (b : ℕ) → Unended xs → (b ≡ line_end → ⊥) → Unended (xs ++ (b ∷ []))
unended_more [] b u n = (n, tt)
unended_more (x ∷ xs) b u n = (u.0, unended_more xs b u.1 n)

-- the line begun is unended
pub begun_unended : (xs ys : List ℕ) → Unended xs → Unended (begun_from xs ys)
unfolding begun_from
begun_unended xs [] u = u
begun_unended xs (b ∷ bs) u = elim (eqb? b line_end) [
  | inl e ↦ rw e.0 (begun_unended [] bs tt)
  | inr e ↦ rw e.0 (begun_unended (xs ++ (b ∷ [])) bs (unended_more xs b u e.1))
]

-- INPUTS JOINED: the second goes on behind the line begun in the first
pub complete_append : (xs ys zs : List ℕ) → complete_from xs (ys ++ zs) ≡ complete_from xs ys ++ complete_from (begun_from xs ys) zs
unfolding complete_from begun_from
complete_append xs [] zs = refl
complete_append xs (b ∷ bs) zs = elim (eqb? b line_end) [
  | inl e ↦ rw e.0 (ap (λ (ls : List (List ℕ)). (xs ++ (b ∷ [])) ∷ ls) (complete_append [] bs zs))
  | inr e ↦ rw e.0 (complete_append (xs ++ (b ∷ [])) bs zs)
]

pub begun_append : (xs ys zs : List ℕ) → begun_from xs (ys ++ zs) ≡ begun_from (begun_from xs ys) zs
unfolding begun_from
begun_append xs [] zs = refl
begun_append xs (b ∷ bs) zs = elim (eqb? b line_end) [
  | inl e ↦ rw e.0 (begun_append [] bs zs)
  | inr e ↦ rw e.0 (begun_append (xs ++ (b ∷ [])) bs zs)
]

-- all lines are the complete ones and what the line begun becomes
pub lines_append : (xs ys zs : List ℕ) → lines_from xs (ys ++ zs) ≡ complete_from xs ys ++ lines_from (begun_from xs ys) zs
unfolding lines_from complete_from begun_from
lines_append xs [] zs = refl
lines_append xs (b ∷ bs) zs = elim (eqb? b line_end) [
  | inl e ↦ rw e.0 (ap (λ (ls : List (List ℕ)). (xs ++ (b ∷ [])) ∷ ls) (lines_append [] bs zs))
  | inr e ↦ rw e.0 (lines_append (xs ++ (b ∷ [])) bs zs)
]

-- BYTES HELD, unended: they are the line begun, with or without bytes behind them
pub unended_complete : (xs ys : List ℕ) → Unended ys → complete_from xs ys ≡ []
unfolding complete_from
unended_complete xs [] u = refl
unended_complete xs (b ∷ bs) u = rw (ne_eqb b line_end u.0) (unended_complete (xs ++ (b ∷ [])) bs u.1)

pub unended_begun : (xs ys : List ℕ) → Unended ys → begun_from xs ys ≡ xs ++ ys
unfolding begun_from
unended_begun xs [] u = rw append-nil refl
unended_begun xs (b ∷ bs) u = rw (ne_eqb b line_end u.0) (unended_begun (xs ++ (b ∷ [])) bs u.1 ∙ append_snoc xs b bs)

pub held_complete : (held ys : List ℕ) → Unended held → complete_from [] (held ++ ys) ≡ complete_from held ys
held_complete held ys u =
    complete_append [] held ys
    ∙ ap (λ (ls : List (List ℕ)). ls ++ complete_from (begun_from [] held) ys) (unended_complete [] held u)
    ∙ ap (λ (bs : List ℕ). complete_from bs ys) (unended_begun [] held u)

pub held_begun : (held ys : List ℕ) → Unended held → begun_from [] (held ++ ys) ≡ begun_from held ys
held_begun held ys u = begun_append [] held ys ∙ ap (λ (bs : List ℕ). begun_from bs ys) (unended_begun [] held u)
