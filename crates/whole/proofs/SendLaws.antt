-- The three ways of sending in an unsealed round, from what the pick says.
use mathlib.Core.Path.{◌≡◌, subst}
use mathlib.Core.Logic.{◌≢◌}
use mathlib.Core.Bool.{true, false}
use mathlib.Core.List.{List}
use Prim.Native.Nat.{ℕ, ◌+◌, ◌≤◌}
use Rattle.rules.specs.Rows.{row, blank, blank_tail}
use Rattle.rules.specs.Steps.{changed}
use Rattle.rules.specs.Table.{round_in}
use Rattle.theory.specs.Keys.{getD_in}
use Rattle.theory.specs.Index.{each_row}
use Rattle.theory.specs.Members.{not_found}
use Rattle.theory.specs.Whole.{Sends, sends_first, sends_far, sends_kept}
use Rattle.round.specs.Rows.{Ready, at}
use Rattle.round.proofs.ReadLaws.{known}
use Rattle.sorts.specs.declared.Round.{Round as Head}
use Rattle.sorts.specs.declared.Slot.{Slot}
use Rattle.sorts.specs.declared.Weight.{Weight}
use Rattle.buckets.specs.Reach.{Reaches}
use Rattle.buckets.specs.declared.Reach.{Reach}
use Rattle.buckets.proofs.SegmentLaws.{whole_rows}
use Rattle.whole.specs.Whole.{Picked}
use Rattle.whole.specs.declared.Whole.TheVariants.{First, Far, Kept}

module _ (t : List ℕ) (h : Head) (x : Reach) (k : Ready t h) (w : Reaches (round_in t) x) (e : x.over ≡ 0) (u : (round_in t).tail.sealed ≢ 1) where
  -- ORDINARY, or a leap from afar: the row alone goes
  pub first_sends : (i : ℕ) → Picked (round_in t) x.free (First i) → Sends (round_in t) (at (round_in t) i) true (at (round_in t) i).ticket (round_in t).rows
  first_sends i p =
      let r = round_in t in
      let n = known t h k in
      sends_first r n.fine n.time r.rows (whole_rows r n.fine x w e) u (r.slot + x.free) w.near (at r i) p.leading.leads p.last
      p.near p.segment p.by

  pub far_sends : (i : ℕ) → Picked (round_in t) x.free (Far i) → Sends (round_in t) (at (round_in t) i) false (at (round_in t) i).ticket (round_in t).rows
  far_sends i p =
      let r = round_in t in
      let n = known t h k in
      sends_far r n.fine n.time r.rows (whole_rows r n.fine x w e) u (r.slot + x.free) w.near (at r i) p.leading.leads p.far

  -- A LEAP onto the segment's blank, which is kept in the row with the mark
  pub kept_sends : (i : ℕ) (b : Slot) (m : Weight) → Picked (round_in t) x.free (Kept i b m) → Sends (round_in t) (at (round_in t) i) false 0
      (changed (at (round_in t) i).ticket (row (at (round_in t) i).ticket b.0 m.0 blank_tail) (round_in t).rows)
  kept_sends i b m p =
      let r = round_in t in
      let n = known t h k in
      let c = whole_rows r n.fine x w e in
      let l = p.mark in
      subst (λ (v : ℕ). Sends r (at r i) false 0 (changed (at r i).ticket (row (at r i).ticket b.0 v blank_tail) r.rows)) l.weight
      (sends_kept r n.fine n.time r.rows c u (r.slot + x.free) w.near (at r i) p.leading.leads b.0 p.last p.near p.segment
      p.later p.from p.by (λ y j v. absurd (not_found r n.fine r.rows c y j v j)) (at r l.row)
      (getD_in r.rows (blank 0) l.row l.below) l.by
      (each_row (λ y. y.due ≤ p.last → (at r l.row).weight ≤ y.weight) (blank 0) r.rows l.least))
