-- `flagged::first_planned` meets its contract: the loop is `Choosing`.
use mathlib.Core.Path.{◌≡◌, refl, ◌∙◌, sym, ap}
use Prim.Native.Nat.{ℕ, ◌+◌, ◌<◌, ◌≤◌}
use borrow.Author.Rules.{rules}
use native.Mathlib.Omega.{arith}
use Rattle.std.proofs.Common.{add-zero, add_assoc}
use Rattle.keys.specs.Key.{due_of, row_of}
use Rattle.keys.proofs.SliceLaws.{from_place, from_in, from_at, from_end}
use lib.ListN.{length, get_or}
use Rattle.flagged.proofs.PlannedLaws.{lent_placed, lent_flagged, flag_there, flag_not, key_there, flag_within, found_by, choosing_start, choosing_later, choosing_end, choosing_sees, choosing_passes, says_first}
use Rattle.flagged.proofs.first_planned.Goals as goal
use Rattle.flagged.proofs.first_planned.Goals.{After-first_flagged-place, After-due_of, then-flags-row_of-eq1, else-flags-row_of-eq1}

pub first_flagged-place-requires : goal.first_flagged-place-requires
first_flagged-place-requires c = lent_flagged c.requires

found : (c : After-first_flagged-place) → c.first_flagged-place.result < length c.args.keys.now
found c = found_by (lent_placed c.requires) c.first_flagged-place.ensures

pub offset_bounds-keys-place : goal.offset_bounds-keys-place
offset_bounds-keys-place c = let f = found (goal.at.offset_bounds-keys-place c).After-first_flagged-place in search rules

pub bounds-keys-place : goal.bounds-keys-place
bounds-keys-place c = found (goal.at.bounds-keys-place c).After-first_flagged-place

pub overflow_add-key-items : goal.overflow_add-key-items
overflow_add-key-items c = let f = found (goal.at.overflow_add-key-items c).After-first_flagged-place in search rules

pub offset_bounds-keys-place-2 : goal.offset_bounds-keys-place-2
offset_bounds-keys-place-2 c = let f = found (goal.at.offset_bounds-keys-place-2 c).After-first_flagged-place in search rules

pub slice_bounds-key-items-count : goal.slice_bounds-key-items-count
slice_bounds-key-items-count c = let f = found (goal.at.slice_bounds-key-items-count c).After-first_flagged-place in omega arith

pub slice_bounds-key-items-start : goal.slice_bounds-key-items-start
slice_bounds-key-items-start c = let f = found (goal.at.slice_bounds-key-items-start c).After-first_flagged-place in search rules

pub loop-key-init : goal.loop-key-init
loop-key-init c =
    rw add-zero (choosing_start (lent_placed c.requires) c.first_flagged-place.ensures refl c.due_of-due.ensures)

-- the key of a turn, as one of all
turns : (c : After-due_of) → let i = c.first_flagged-place.result + 1 + c.loop-key.key-index in
    (i < length c.args.keys.now) × (get_or (from_place c.args.keys.now (c.first_flagged-place.result + 1)) c.loop-key.key-index 0 ≡ get_or c.args.keys.now i 0)
turns c =
    let s = c.first_flagged-place.result + 1 in
    (from_in c.args.keys.now s c.loop-key.key-index c.loop-key-test.true, from_at c.args.keys.now s c.loop-key.key-index c.loop-key-test.true)

pub returns-then-due-due_of : goal.returns-then-due-due_of
returns-then-due-due_of c =
    let inv = c.loop-key.invariant in
    let t = turns (goal.at.returns-then-due-due_of c).After-due_of in
    says_first (choosing_later (lent_placed c.requires) inv t.0 (omega (arith, c.due_of.ensures, c.if-due-due_of.true, ap due_of t.1))) inv.key c.row_of.ensures

pub bounds-flags-row_of : goal.bounds-flags-row_of
bounds-flags-row_of c =
    let t = turns (goal.at.bounds-flags-row_of c).After-due_of in
    flag_within (lent_placed c.requires) (c.row_of-in-loop-key.ensures ∙ ap row_of t.1) t.0

pub loop-key-preserved : goal.loop-key-preserved
loop-key-preserved c =
    let d = lent_placed c.requires in
    let inv = c.loop-key.invariant in
    let fs = c.args.flags.now in
    let t = turns (goal.at.loop-key-preserved c).After-due_of in
    let l : due_of (get_or c.args.keys.now (c.first_flagged-place.result + 1 + c.loop-key.key-index) 0) ≤ c.due_of-due.result = omega (arith, c.due_of.ensures, c.if-due-due_of.false, ap due_of t.1) in
    let e = c.row_of-in-loop-key.ensures ∙ ap row_of t.1 in
    rw (← add_assoc) (elim c.if-flags-row_of-eq1.branch [
      | then-flags-row_of-eq1 w ↦ rw w.first-is (choosing_sees d inv t.0 l (flag_there fs e (omega arith)) (omega (arith, w.min-first.ensures, t.1)))
      | else-flags-row_of-eq1 w ↦ rw w.first-is (choosing_passes d inv t.0 l (flag_not fs e (λ z. omega (arith, z))))
    ])

pub returns : goal.returns
returns c =
    let inv = c.loop-key.invariant in
    let e = from_end c.args.keys.now (c.first_flagged-place.result + 1) c.loop-key.key-index (omega (arith, found (goal.at.returns c).After-first_flagged-place)) c.loop-key-test.false in
    says_first (choosing_end (lent_placed c.requires) inv e) inv.key c.row_of-2.ensures
