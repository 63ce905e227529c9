-- A row's kind, as the code reads it.
use Rattle.std.proofs.Common.{◌≡◌, ℕ, suc, ◌+◌, ◌≤◌, List, length, get_or, sym, ap, ◌∙◌, arith}
use Rattle.rules.specs.Conditions.{row_at, kind_in}
use Rattle.numbers.proofs.NumberLaws.{field1}

pub kind_read : (t : List ℕ) (i at k : ℕ) → row_at (suc i) ≤ length t → at ≡ row_at i → k ≡ get_or t (at + 10) 0 → k ≡ kind_in t i
kind_read t i at k l e g = g ∙ ap (λ (v : ℕ). get_or t (v + 10) 0) e ∙ sym (field1 t (row_at i + 10) (omega (arith, l)))
