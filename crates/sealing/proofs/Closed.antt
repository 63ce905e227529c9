-- Sealing on a sound table by its head: a byte of the head is there, and what is owed once it is written.
use mathlib.Core.Path.{◌≡◌, ap₂, ◌∙◌}
use mathlib.Core.List.{List}
use Prim.Native.Nat.{ℕ, ◌<◌}
use native.Mathlib.Omega.{arith}
use lib.ListN.{length, set}
use Rattle.rules.specs.Limits.{head_size, sealed_at}
use Rattle.rules.specs.Table.{table_refusal}
use Rattle.rules.specs.Calls.{sealing, acting, act, deed, closed, says, leaves, Says}
use Rattle.theory.specs.Outcomes.{says_accepted}
use Rattle.sorts.specs.declared.Round.{Round}
use Rattle.head.specs.Head.{HeadOf}
use Rattle.round.proofs.ByHead.{sealing_number, sealing_by}
use Rattle.head.proofs.HeadLaws.{sound_head}
use Rattle.round.proofs.TableLaws.{sealed_table}

module _ (t : List ℕ) (h : Round) (sound : table_refusal t ≡ 0) (head : HeadOf t h) where
  pub byte_there : (a : ℕ) → a < head_size → a < length t
  byte_there a o = omega (arith, o, (sound_head t h sound head).long)

  -- ALL WRITTEN: b is what was written, and a where
  pub closed_says : (a b : ℕ) → 0 ≡ sealing_number h → a ≡ sealed_at → b ≡ 1 → Says (acting sealing) closed t (set t a b)
  unfolding says leaves deed act
  closed_says a b e p q =
      says_accepted (acting sealing) t (set t a b) (sealing_by t h sound head ∙ omega (arith, e))
      (sealed_table t (set t a b) sound (ap₂ (set t) p q))
