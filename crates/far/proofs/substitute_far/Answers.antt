-- `far::substitute_far` meets its contract.
use mathlib.Core.Path.{refl}
use Rattle.far.proofs.FarLaws.{few, due_far, window_small, roomy, blank_begins}
use Rattle.far.proofs.substitute_far.Goals as goal

pub window_of-window-requires : goal.window_of-window-requires
window_of-window-requires c = let p = c.requires in ((few _ _ _ _ _ p).0, (few _ _ _ _ _ p).1, due_far _ _ _ _ _ p _ c.due_at.ensures)

pub count_in-requires : goal.count_in-requires
count_in-requires c = let p = c.requires in
    let w = window_small _ _ _ _ _ p _ c.due_at.ensures _ c.window_of-window.ensures in (w.0, w.1, p.none)

pub begin_of-begin-requires : goal.begin_of-begin-requires
begin_of-begin-requires c = let p = c.requires in
    roomy _ _ _ _ _ p _ c.due_at.ensures _ c.window_of-window.ensures _ c.count_in.ensures

pub returns : goal.returns
returns c = let p = c.requires in
    blank_begins _ _ _ _ _ p _ c.due_at.ensures _ c.window_of-window.ensures _ c.count_in.ensures _ _
    c.begin_of-begin.ensures refl
