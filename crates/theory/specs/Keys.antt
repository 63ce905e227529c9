-- Rows by index, along which tickets rise: getD_in, tickets_less, tickets_rise.
use Rattle.std.specs.Prelude.{◌≡◌, refl, List, [], ◌∷◌, ℕ, zero, suc, ◌≤◌, ◌<◌, ltb, length, get_or}
use Rattle.std.proofs.Common.{sym, ap, ◌∙◌, inl, inr, arith, lt-ltb, le-ltb}
use Rattle.rules.specs.Rows.{Row, In}
use Rattle.theory.specs.Tests.{ltb?, eqb?}
use Rattle.theory.specs.Full.{Rising}
use Rattle.theory.specs.Change.{rising_above}

-- a row at an index is in the list, and tickets rise with indices
pub getD_in : (xs : List Row) (z : Row) (i : ℕ) → i < length xs → In (get_or xs i z) xs
getD_in [] z i h = absurd (omega arith)
getD_in (x ∷ xs) z zero h = inl refl
getD_in (x ∷ xs) z (suc i) h = inr (getD_in xs z i (omega arith))

pub tickets_less : (a b : ℕ) (xs : List Row) (z : Row) (i j : ℕ) → Rising a b xs → i < j → j < length xs → (get_or xs i z).ticket < (get_or xs j z).ticket
tickets_less a b [] z i j s h k = absurd (omega arith)
tickets_less a b (x ∷ xs) z i zero s h k = absurd (omega arith)
tickets_less a b (x ∷ xs) z zero (suc j) s h k =
    omega (arith, rising_above (suc x.ticket) b (get_or xs j z) xs s.1 (getD_in xs z j (omega arith)))
tickets_less a b (x ∷ xs) z (suc i) (suc j) s h k = tickets_less (suc x.ticket) b xs z i j s.1 (omega arith) (omega arith)

pub tickets_rise : (a b : ℕ) (xs : List Row) (z : Row) (i j : ℕ) → Rising a b xs → i < length xs → j < length xs →
    ltb (get_or xs i z).ticket (get_or xs j z).ticket ≡ ltb i j
tickets_rise a b xs z i j s h k = elim (ltb? i j) [
  | inl u ↦ lt-ltb (get_or xs i z).ticket (get_or xs j z).ticket (tickets_less a b xs z i j s u.1 k) ∙ sym u.0
  | inr u ↦ le-ltb (get_or xs i z).ticket (get_or xs j z).ticket (back u.1) ∙ sym u.0
]
  where
    back : j ≤ i → (get_or xs j z).ticket ≤ (get_or xs i z).ticket
    back u = elim (eqb? j i) [
      | inl e ↦ omega (arith, ap (λ (n : ℕ). (get_or xs n z).ticket) e.1)
      | inr e ↦ let n = e.1 in omega (arith, tickets_less a b xs z j i s (omega arith) h)
    ]
