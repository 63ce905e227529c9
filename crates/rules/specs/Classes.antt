-- L2, PRICES BEFORE PICTURES: what the finer order leaves as it was; each is a type, proved in theory.
use Rattle.std.specs.Prelude.{◌≡◌, true, List, ℕ, ◌≤◌}
use Rattle.rules.specs.Rows.{Row, Round, heavier, old_heavier, All}
use Rattle.rules.specs.Plan.{plan, plan_by, total, total_weight, mark, mark_in}
use Rattle.rules.specs.Table.{round_in, round_good}
use Rattle.rules.specs.Calls.{marking, totalling, asking, amount, answer}

-- of the plan that document 01's order makes: its total, and the mark of a slot
abbrev pub old_total : Round → ℕ
old_total r = total_weight (plan_by old_heavier r)

abbrev pub old_mark : Round → (slot : ℕ) → ℕ
old_mark r s = mark_in r (plan_by old_heavier r) s

-- ANY SOUND ROUND's total and marks are those of the old order, and so are those that any table is answered
unfoldable pub OldOrder : Type 0
OldOrder =
    ((r : Round) → round_good r ≡ true → (total r ≡ old_total r) × ((s : ℕ) → r.slot ≤ s → s ≤ r.last → mark r s ≡ old_mark r s))
    × ((t : List ℕ) (n : ℕ) → answer (asking totalling) t ≡ amount n → n ≡ old_total (round_in t))
    × ((t : List ℕ) (s n : ℕ) → answer (asking (marking s)) t ≡ amount n → n ≡ old_mark (round_in t) s)

-- ROWS OF ONE CLASS: there the finer order is the old one, and so is the plan
unfoldable pub OneClass : Type 0
OneClass =
    ((a b : Row) → a.tail.class ≡ b.tail.class → heavier a b ≡ old_heavier a b)
    × ((r : Round) (c : ℕ) → All (λ x. x.tail.class ≡ c) r.rows → plan r ≡ plan_by old_heavier r)
