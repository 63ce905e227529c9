-- A sealed round sends the plan's first, where rows fill its first slot.
use mathlib.Core.Path.{◌≡◌}
use mathlib.Core.Bool.{true}
use mathlib.Core.List.{List}
use Prim.Native.Nat.{ℕ, ◌≤◌, ◌<◌}
use native.Mathlib.Omega.{arith}
use Rattle.rules.specs.Rows.{Row, Round}
use Rattle.theory.specs.Order.{not_before_due}
use Rattle.theory.specs.Full.{Fine}
use Rattle.theory.specs.Members.{RowsOfPlan}
use Rattle.theory.specs.Near.{Near, near_edge}
use Rattle.theory.specs.Picks.{with_due}
use Rattle.theory.specs.Whole.{Sends, sends_planned}
use Rattle.round.specs.Rows.{at}
use Rattle.first.specs.First.{IsFirst}

-- some row of the plan is due before z, so that its first is
pub first_sends : (r : Round) → Fine r → r.slot ≤ r.last → (rs : List Row) → RowsOfPlan r rs → r.tail.sealed ≡ 1 → (z : ℕ) → Near r z → r.slot < z →
    (i : ℕ) → IsFirst r rs i → Sends r (at r i) true (at r i).ticket r.rows
first_sends r f o rs c u z k l i p =
    let y = with_due z rs (omega (arith, near_edge r f rs c z k, l)) in
    sends_planned r f o rs c u z k (at r i) p.inside (omega (arith, not_before_due y.0 (at r i) (p.first y.0 y.1), y.2)) p.first
