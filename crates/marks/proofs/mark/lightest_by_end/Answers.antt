-- `marks::mark::lightest_by_end` meets its contract: both loops are `Passing`, up to the slot asked about from the edge on, then from that slot on.
use mathlib.Core.Path.{◌≡◌, refl, ap, ◌∙◌}
use Prim.Native.Nat.{ℕ, ◌+◌, ◌≤◌, ◌<◌, max}
use native.Mathlib.Omega.{arith}
use lib.ListN.{length, get_or}
use Rattle.std.proofs.Common.{add-zero, add_assoc}
use Rattle.keys.specs.Key.{blank_key}
use Rattle.keys.proofs.SliceLaws.{from_place, from_in, from_at, from_by, from_end}
use Rattle.marks.proofs.FindLaws.{pass_start, pass_out, pass_on, pass_flag, pass_asked, pass_found, pass_end, key_there, flag_there, flag_small, edge_fits}
use borrow.Author.Rules.{rules}
use Rattle.marks.proofs.mark.lightest_by_end.Goals as goal
use Rattle.marks.proofs.mark.lightest_by_end.Goals.{After-row_of, After-row_of-in-loop-key, then-flags-row_of-eq1+else-due_of-edge, else-flags-row_of-eq1}

pub loop-edge-init : goal.loop-edge-init
loop-edge-init c = (search rules, λ r n a. pass_start r _ _ _ _ n _ a _ _ refl refl)

pub bounds-keys-p : goal.bounds-keys-p
bounds-keys-p c = key_there _ _ _ _ _ c.requires _ _ _ _ (omega (arith, c.loop-edge-test.true)) c.loop-edge.invariant.0 c.loop-edge.invariant.1

-- a key is left, and what is read of it is small
left : (c : After-row_of) → c.loop-edge.p < length c.args.keys.now
left c = key_there _ _ _ _ _ c.requires _ _ _ _ (omega (arith, c.loop-edge-test.true)) c.loop-edge.invariant.0 c.loop-edge.invariant.1

small : (c : After-row_of) → (get_or c.args.keys.now c.loop-edge.p 0 ≤ blank_key) × (get_or c.args.flags.now c.row_of.result 0 ≤ 1)
small c = flag_small _ _ _ _ _ c.requires _ _ _ _ (left c) refl c.row_of.ensures refl

pub bounds-flags-row_of : goal.bounds-flags-row_of
bounds-flags-row_of c =
    flag_there _ _ _ _ _ c.requires _ _ _ (left (goal.at.bounds-flags-row_of c).After-row_of) refl c.row_of.ensures

pub overflow_add-edge : goal.overflow_add-edge
overflow_add-edge c =
    let o = small (goal.at.overflow_add-edge c).After-row_of in
    omega (arith, o.1, c.from-edge.ensures, edge_fits _ _ _ _ _ c.requires _ _ _ _ c.loop-edge.invariant.0 c.loop-edge.invariant.1)

pub flagged-requires : goal.flagged-requires
flagged-requires c = small (goal.at.flagged-requires c).After-row_of

pub loop-edge-smaller : goal.loop-edge-smaller
loop-edge-smaller c = let l = left (goal.at.loop-edge-smaller c).After-row_of in search rules

pub loop-edge-preserved : goal.loop-edge-preserved
loop-edge-preserved c =
    let l = left (goal.at.loop-edge-preserved c).After-row_of in (
      omega (arith, l),
      λ r n a.
          pass_flag r _ _ _ _ n _ a _ _ _ _ l refl (c.loop-edge.invariant.1 r n a) (omega (arith, c.loop-edge-test.true)) _ _
          c.row_of.ensures refl _ _ (omega (arith, c.from-edge.ensures))
          (c.max-low.ensures ∙ ap (λ (v : ℕ). max c.loop-edge.low v) c.flagged.ensures),
    )

pub loop-key-init : goal.loop-key-init
loop-key-init c = λ r n a.
    rw add-zero (pass_asked r _ _ _ _ n _ a _ _ _ c.loop-edge-test.false (c.loop-edge.invariant.1 r n a))

-- the key of a turn, as one of all
turns : (c : After-row_of-in-loop-key) → let i = c.loop-edge.p + c.loop-key.key-index in
    (i < length c.args.keys.now) × (get_or (from_place c.args.keys.now c.loop-edge.p) c.loop-key.key-index 0 ≡ get_or c.args.keys.now i 0)
turns c = (from_in c.args.keys.now c.loop-edge.p c.loop-key.key-index c.loop-key-test.true, from_at c.args.keys.now c.loop-edge.p c.loop-key.key-index c.loop-key-test.true)

pub bounds-flags-row_of-in-loop-key : goal.bounds-flags-row_of-in-loop-key
bounds-flags-row_of-in-loop-key c =
    let t = turns (goal.at.bounds-flags-row_of-in-loop-key c).After-row_of-in-loop-key in
    flag_there _ _ _ _ _ c.requires _ _ _ t.0 t.1 c.row_of-in-loop-key.ensures

pub overflow_add-edge-then-flags-row_of-eq1 : goal.overflow_add-edge-then-flags-row_of-eq1
overflow_add-edge-then-flags-row_of-eq1 c =
    let t = turns (goal.at.overflow_add-edge-then-flags-row_of-eq1 c).After-row_of-in-loop-key in
    omega (arith, edge_fits _ _ _ _ _ c.requires _ _ _ _ (omega (arith, t.0)) c.loop-key.invariant)

pub returns-then-due_of-edge : goal.returns-then-due_of-edge
returns-then-due_of-edge c =
    let t = turns (goal.at.returns-then-due_of-edge c).After-row_of-in-loop-key in
    λ r n a.
    pass_found r _ _ _ _ n _ a _ _ _ _ _ t.0 t.1 (c.loop-key.invariant r n a) _ c.row_of-in-loop-key.ensures
    c.if-flags-row_of-eq1.true _ _ c.due_of.ensures (omega (arith, c.if-due_of-edge.true)) (omega (arith, (c.loop-key.invariant r n a).under))
    (omega (arith, c.max-low-then-flags-row_of-eq1.ensures))

pub loop-key-preserved : goal.loop-key-preserved
loop-key-preserved c =
    let t = turns (goal.at.loop-key-preserved c).After-row_of-in-loop-key in
    let i = c.loop-key.invariant in
    rw (← add_assoc) (elim c.if-flags-row_of-eq1.branch [
      | then-flags-row_of-eq1+else-due_of-edge w ↦ rw (w.edge-is, w.low-is) (λ r n a.
          pass_on r _ _ _ _ n _ a _ _ _ _ _ t.0 t.1 (i r n a) _ c.row_of-in-loop-key.ensures
          w.if-flags-row_of-eq1.true _ _ w.due_of.ensures (omega (arith, w.if-due_of-edge.false))
          (omega (arith, w.max-low-then-flags-row_of-eq1.ensures)))
      | else-flags-row_of-eq1 w ↦ rw (w.edge-is, w.low-is) (λ r n a.
          pass_out r _ _ _ _ n _ a _ _ _ _ _ t.0 t.1 (i r n a) _ c.row_of-in-loop-key.ensures w.if-flags-row_of-eq1.false)
    ])

pub returns : goal.returns
returns c = λ r n a.
    absurd (pass_end r _ _ _ _ n _ a _ _ _ _ (from_end c.args.keys.now c.loop-edge.p c.loop-key.key-index c.loop-edge.invariant.0 c.loop-key-test.false)
    (from_by c.args.keys.now c.loop-edge.p c.loop-key.key-index c.loop-edge.invariant.0 c.loop-key.auto.key-index-end) (c.loop-key.invariant r n a))
