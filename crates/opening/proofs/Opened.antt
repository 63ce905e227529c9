-- Opening: its refusals by the last slot asked for, and what is owed once all is written.
use mathlib.Core.Path.{◌≡◌, ap, ◌∙◌}
use mathlib.Core.Bool.{true}
use mathlib.Core.List.{List, ◌++◌}
use Prim.Native.Nat.{ℕ, ◌-◌, ◌≤◌}
use native.Mathlib.Omega.{arith}
use lib.ListN.{length, take, drop, replicate, length-append}
use lib.Seq.{length-take-le}
use Rattle.rules.specs.Limits.{head_size, head_zeros_at}
use Rattle.rules.specs.Rows.{Setup, round}
use Rattle.rules.specs.Table.{round_in, length_good}
use Rattle.rules.specs.Calls.{opening, deed, done, says, leaves, Says}
use Rattle.theory.specs.Clauses.{length_long}
use Rattle.theory.specs.Outcomes.{says_accepted, opening_number}
use Rattle.rules.specs.Calls.{first_of, open_tests}
use Rattle.head.specs.Numbers.{head_numbers}
use Rattle.round.proofs.TableLaws.{opened_table}

module _ (x : Setup) (t : List ℕ) (good : length_good (length t) ≡ true) where
  pub head_fits : head_size ≤ length t
  head_fits = omega (arith, (length_long t good).0)

  abbrev zeros : List ℕ
  zeros = replicate (length t - head_zeros_at) 0

  pub cleared_fits : (v : List ℕ) → v ≡ take head_zeros_at t ++ zeros → head_zeros_at ≤ length v
  cleared_fits v e =
      omega (arith, head_fits, ap length e, length-append (take head_zeros_at t) zeros, length-take-le head_zeros_at t (omega (arith, head_fits)))

  -- ALL WRITTEN: zeros behind the head, then the head of a round just opened
  pub opened_says : first_of (open_tests x) ≡ 0 → (a b n u s : ℕ) (v z : List ℕ) → (a ≡ 0) × (b ≡ x.last) × (n ≡ 1) × (u ≡ 0) × (s ≡ 0) →
      v ≡ take head_zeros_at t ++ zeros → z ≡ head_numbers a b n u (record { sealed = s }) ++ drop head_zeros_at v → Says (opening x) done t z
  unfolding says leaves deed round_in round
  opened_says h a b n u s v z g e f =
      says_accepted (opening x) t z (opening_number x t good ∙ h)
      (opened_table x t v z good e (f ∙ rw (g.0, g.1, g.2, g.3, g.4)))
