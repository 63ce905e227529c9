-- The head's tests as the code has them.
use mathlib.Core.Path.{◌≡◌}
use mathlib.Core.Bool.{Bool, ◌&&◌, and-true}
use Prim.Native.Nat.{ℕ, ◌+◌}
use native.Mathlib.Numerals.{add-one}
use lib.Dec.{leb}
use Rattle.rules.specs.Limits.{most_last, ticket_limit}
use Rattle.rules.specs.Rows.{HeadTail}
use Rattle.rules.specs.Table.{head_tail_tests, head_tests, every}

pub tail_holds : (s : ℕ) → leb s 1 ≡ every (head_tail_tests (record { sealed = s }))
unfolding every
tail_holds s = rw and-true

pub all_hold : (t l n u k : ℕ) (m : HeadTail) (b : Bool) → b ≡ every (head_tail_tests m) →
    leb l most_last && (leb t (l + 1) && (leb 1 n && (leb n ticket_limit && (leb u k && b)))) ≡ every (head_tests t l n u k m)
unfolding every
all_hold t l n u k m b e = rw (add-one, e)
