-- `flagged::first_flagged` meets its contract: the loop is `Looking`.
use Prim.Native.Nat.{◌-◌}
use borrow.Author.Rules.{rules}
use native.Mathlib.Omega.{arith}
use Rattle.flagged.proofs.PlannedLaws.{flag_there, flag_not, looking_start, looking_there, looking_on, looking_found}
use Rattle.flagged.proofs.first_flagged.Goals as goal

pub loop-i-init : goal.loop-i-init
loop-i-init c = search (looking_start, rules)

pub offset_bounds-keys-i : goal.offset_bounds-keys-i
offset_bounds-keys-i c = search (looking_there, rules)

pub bounds-keys-i : goal.bounds-keys-i
bounds-keys-i c = search (looking_there, rules)

pub bounds-flags-row_of : goal.bounds-flags-row_of
bounds-flags-row_of c =
    omega (arith, (looking_there c.loop-i.invariant).1, c.row_of.ensures)

pub overflow_add-i : goal.overflow_add-i
overflow_add-i c = search (looking_there, rules)

pub loop-i-smaller : goal.loop-i-smaller
loop-i-smaller c = search (looking_there, rules)

pub loop-i-preserved : goal.loop-i-preserved
loop-i-preserved c =
    let row_of = c.row_of in
    let flags = c.args.flags.now in
    looking_on c.loop-i.invariant (flag_not flags row_of.ensures (λ z. omega (arith, z)))

pub returns : goal.returns
returns c =
    let row_of = c.row_of in
    let flags = c.args.flags.now in
    looking_found c.loop-i.invariant (flag_there flags row_of.ensures (omega arith))
