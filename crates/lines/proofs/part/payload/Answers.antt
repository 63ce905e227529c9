-- `lines::payload` meets its contract: the place lies within the line, and the part there is the payload.
use mathlib.Core.Path.{refl}
use Prim.Native.Nat.{◌≤◌}
use native.Mathlib.Omega.{arith}
use lib.ListN.{length}
use borrow.Author.Rules.{rules}
use Rattle.theory.specs.Reader.{place_within}
use Rattle.lines.proofs.Places.{placed_part}
use Rattle.lines.proofs.part.payload.Goals as goal
use Rattle.lines.proofs.part.payload.Goals.{After-payload_place-place}

within : (c : After-payload_place-place) → let p = c.payload_place-place.result in (p.start ≤ p.end) × (p.end ≤ length c.args.line.now)
within c =
    let h = place_within c.args.line.now in
    let p = c.payload_place-place.ensures.payload_placed in
    (omega (arith, h.0, p.starts, p.ends), omega (arith, h.1, p.ends))

pub slice_bounds-result-count : goal.slice_bounds-result-count
slice_bounds-result-count c = let h = within (goal.at.slice_bounds-result-count c).After-payload_place-place in omega (arith, h.0, h.1)

pub slice_bounds-result-start : goal.slice_bounds-result-start
slice_bounds-result-start c = let h = within (goal.at.slice_bounds-result-start c).After-payload_place-place in omega (arith, h.0, h.1)

pub slice_bounds-result-end : goal.slice_bounds-result-end
slice_bounds-result-end c = let h = within (goal.at.slice_bounds-result-end c).After-payload_place-place in omega (arith, h.0, h.1)

pub returns : goal.returns
returns c =
    let place = c.payload_place-place.ensures.payload_placed in
    record { payload_part = placed_part refl (search rules) (rw (place.starts, place.ends)); line_value = refl }
