-- What a call owes where it is refused, by its refusal's number.
use mathlib.Core.Path.{◌≡◌, refl, sym, ◌∙◌}
use mathlib.Core.List.{List}
use Prim.Native.Nat.{ℕ}
use native.Mathlib.Omega.{arith}
use Rattle.rules.specs.Table.{table_refusal}
use Rattle.rules.specs.Calls.{Call, refused, refusal, Says}
use Rattle.theory.specs.Outcomes.{Judges, says_refused, by_table}
use Rattle.refusals.specs.declared.Refusal.{Refusal}
use Rattle.refusals.specs.Refusals.{refusal_number}
use Rattle.refusals.proofs.Numbers.{refusal_counts}

pub refused_says : (c : Call) (t : List ℕ) (r : Refusal) (n : ℕ) → refusal c t ≡ n → refusal_number r ≡ n → Says c (refused (refusal_number r)) t t
refused_says c t r n e f = says_refused c t (refusal_number r) (e ∙ sym f) (λ z. omega (arith, z, refusal_counts r))

-- as the judge of its table answers
pub unsound_says : (c : Call) (t : List ℕ) (r : Refusal) → Judges c → refusal_number r ≡ table_refusal t → Says c (refused (refusal_number r)) t t
unsound_says c t r j e = refused_says c t r (refusal_number r) (by_table c t (refusal_number r) j e (λ z. omega (arith, z, refusal_counts r))) refl
