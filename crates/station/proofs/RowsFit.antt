-- The rows of a sound round, its plan, what goes and its substitutes are within the packing's places: tickets of 24 bits, due slots of 16.
use mathlib.Core.List.{List, [], ◌∷◌}
use Prim.Native.Nat.{ℕ, suc, ◌≤◌, ◌<◌}
use native.Mathlib.Omega.{arith}
use lib.Dec.{leb, eqb}
use Rattle.rules.specs.Rows.{Row, Round, blank, All, In}
use Rattle.rules.specs.Plan.{plan, first_end, segment_start, substitute, best, canonical_first}
use Rattle.rules.specs.Steps.{turn_of, goes}
use Rattle.theory.specs.Tests.{both_ways}
use Rattle.theory.specs.All.{all_in}
use Rattle.theory.specs.Bounds.{RowFine}
use Rattle.theory.specs.Full.{Rising, plan_all}
use Rattle.theory.specs.Back.{rising_le, outside_all, lightest_all, best_from_all}
use Rattle.theory.specs.Turn.{first_from_all}
use Rattle.theory.specs.Tights.{segment_from_tight}
use Rattle.theory.specs.Sane.{Sane}

abbrev pub FitsRow : Row → Type 0
FitsRow x = (x.ticket < 16777216) × (x.due < 65536)

pub blank_row_fits : (s : ℕ) → s < 65536 → FitsRow (blank s)
unfolding blank
blank_row_fits s h = (omega arith, h)

pub some_rows_fit : (r : Round) (a : ℕ) (xs : List Row) → r.last ≤ 4095 → r.next ≤ 16777216 → All (RowFine r) xs → Rising a r.next xs → All FitsRow xs
some_rows_fit r a [] h i f u = tt
some_rows_fit r a (x ∷ xs) h i f u = (
  (omega (arith, i, rising_le (suc x.ticket) r.next xs u.1), omega (arith, h, f.0.due_by)),
  some_rows_fit r (suc x.ticket) xs h i f.1 u.1,
)

module _ (r : Round) (s : Sane r) where
  pub rows_fit : All FitsRow r.rows
  rows_fit = some_rows_fit r 1 r.rows s.size.last s.size.next s.fine.fine s.fine.rising

  pub plan_fits : All FitsRow (plan r)
  plan_fits = plan_all FitsRow r rows_fit (λ d h k. blank_row_fits d (omega (arith, k, s.size.last)))

  slot_fits : FitsRow (blank r.slot)
  slot_fits = blank_row_fits r.slot (omega (arith, s.fine.time, s.size.last))

  -- sealed or not
  turn_fits : (ps : List Row) → All FitsRow ps → FitsRow (turn_of r ps)
  unfolding turn_of best canonical_first
  turn_fits [] a = both_ways FitsRow (eqb r.tail.sealed 1) _ _ (λ _. slot_fits) (λ _. slot_fits)
  turn_fits (p ∷ ps) a =
      both_ways FitsRow (eqb r.tail.sealed 1) _ _ (λ _. first_from_all FitsRow ps p a.0 a.1)
      (λ _. best_from_all FitsRow r (p ∷ ps) ps p a.0 a.1)

  pub goes_fits : FitsRow (goes r)
  goes_fits = turn_fits (plan r) plan_fits

  pub substitute_fits : (p : Row) → In p r.rows → FitsRow (substitute r (plan r) p)
  unfolding substitute
  substitute_fits p i =
      let d = all_in (RowFine r) p r.rows s.fine.fine i in
      let b = segment_start r (plan r) p.due in
      let z = (segment_from_tight r s.fine p.due d.due_from d.due_by).1 in
      both_ways FitsRow (leb p.due (first_end r (plan r))) _ _
      (λ _. lightest_all FitsRow (first_end r (plan r)) (plan r) p (all_in FitsRow p r.rows rows_fit i) plan_fits)
      (λ _. outside_all FitsRow b (plan r) r.rows (blank b) (blank_row_fits b (omega (arith, z, d.due_by, s.size.last))) rows_fit)
