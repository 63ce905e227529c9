-- `plan_of`: sorted, then swept.
use mathlib.Core.Path.{refl}
use Rattle.plan.proofs.PlanLaws.{startable, unsorted, crowd, plans}
use borrow.Author.Rules.{rules}
use Rattle.plan.proofs.plan_of.Goals as goal

pub starts-many-requires : goal.starts-many-requires
starts-many-requires c = startable _ _ _ _ _ _ _ c.requires

pub sort-far-requires : goal.sort-far-requires
sort-far-requires c = unsorted _ _ _ _ _ _ _ c.requires _ _ _ c.starts-many.ensures (search rules)

pub leave_out-lost-requires : goal.leave_out-lost-requires
leave_out-lost-requires c =
    let sort = c.sort-far in
    crowd _ _ _ _ _ _ _ c.requires _ _ _ _ sort.ensures _ refl

pub returns : goal.returns
returns c =
    let sort = c.sort-far in
    let leave-out = c.leave_out-lost in
    let starts = c.starts-many in
    plans _ _ _ _ _ _ _ c.requires _ _ _ _ sort.ensures _ _ _ _ _ _ refl (search rules) leave-out.ensures starts.ensures refl (search rules) (search rules)
