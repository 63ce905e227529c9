-- A leap read from the picture: substitute, ends and links are fields; ordinary steps are those of the first segment. Assumes nothing.
use Rattle.std.specs.Prelude.{◌≡◌, true, false, List, ℕ, suc, ◌≤◌, ◌<◌, max}
use Rattle.std.proofs.Common.{sym, ◌∙◌, arith}
use Rattle.std.proofs.Math.Path.{ap}
use Rattle.std.proofs.Math.Dec.{leb}
use borrow.Author.Tests.{le-leb, lt-leb}
use Rattle.rules.specs.Rows.{Row, Round, row, blank, In}
use Rattle.rules.specs.Plan.{plan, in_plan, tight_after, mark_in, mark, first_end}
use Rattle.rules.specs.Steps.{goes, shifted, replaced, leapt, is_ordinary}
use Rattle.theory.specs.All.{due_of_blank}
use Rattle.theory.specs.Full.{Fine}
use Rattle.theory.specs.Leap.{no_shift}
use Rattle.theory.specs.Members.{RowsOfPlan}
use Rattle.theory.specs.Chain.{shifted_to_end, moves, chain_is}
use Rattle.picture.specs.Picture.{Segment, Right, Drawn}
use Rattle.picture.proofs.Places.{ends_at, first_ends, later_starts}
use Rattle.picture.proofs.Marks.{mark_low}
use Rattle.picture.proofs.Substitutes.{substitute_out}
use Rattle.picture.specs.Chain.{links}
use Rattle.picture.proofs.Chain.{chain_rows}

module _ (r : Round) (f : Fine r) (g : Segment) (w : Right r g) where
  -- THE KIND of step
  pub ordinary_first : goes r ≡ g.top → g.first ≡ r.slot → is_ordinary r ≡ true
  unfolding is_ordinary
  ordinary_first e h =
      ap (λ (x : Row). leb x.due (first_end r (plan r))) e
      ∙ le-leb g.top.due (first_end r (plan r)) (omega (arith, w.top.of.2, first_ends r f g.first g.last w.spans h))

  pub leap_later : goes r ≡ g.top → r.slot < g.first → is_ordinary r ≡ false
  unfolding is_ordinary
  leap_later e h =
      ap (λ (x : Row). leb x.due (first_end r (plan r))) e
      ∙ lt-leb g.top.due (first_end r (plan r)) (omega (arith, w.top.of.1, later_starts r f g.first g.last w.spans h))

  -- WEIGHTS that a leap writes: a link moved to its last slot is raised to its lightest, a substitute due in it becomes that
  pub moved_low : (x : Row) → shifted_to_end r g.last x ≡ row x.ticket g.last (max x.weight g.low.weight) x.tail
  unfolding shifted_to_end
  moved_low x = rw (mark_low r f g w g.last w.spans.by (omega arith))

  pub mark_in_low : (s : ℕ) → g.first ≤ s → s ≤ g.last → mark_in r (plan r) s ≡ g.low.weight
  unfolding mark
  mark_in_low s h k = mark_low r f g w s h k

  -- A LEAP of its top, from the substitute's end on
  pub leap_from : r.slot < g.first → (d : ℕ) → tight_after r (plan r) g.out.due ≡ d →
      leapt r (plan r) g.top ≡ replaced r (plan r) g.top g.out (shifted (suc r.last) r (plan r) g.last d r.rows)
  unfolding leapt
  leap_from h d e =
      let t = w.top.of in
      rw (
        substitute_out r f g w g.top t.0 t.1 t.2 h,
        ends_at r f g.first g.last w.spans g.top.due t.1 t.2,
        e,
      )

  -- past a blank nothing shifts
  pub leap_blank : r.slot < g.first → g.out ≡ blank g.first → leapt r (plan r) g.top ≡ replaced r (plan r) g.top g.out r.rows
  leap_blank h e =
      let a : g.out.due ≡ g.first = ap (λ (x : Row). x.due) e ∙ due_of_blank g.first in
      let d = ends_at r f g.first g.last w.spans g.out.due (omega (arith, a)) (omega (arith, a, w.spans.by)) in
      leap_from h g.last d
      ∙ ap (replaced r (plan r) g.top g.out) (no_shift (suc r.last) r g.last g.last r.rows (omega arith))

  -- past a row that lies in segment h the links of the segments after g and up to h shift
  pub leap_row : r.slot < g.first → (rs : List Row) → RowsOfPlan r rs → In g.out r.rows → in_plan g.out rs ≡ false →
      (h : Segment) → Right r h → h.first ≤ g.out.due → g.out.due ≤ h.last → (ks : List Segment) → Drawn r (suc g.last) (suc h.last) ks →
      leapt r (plan r) g.top ≡ replaced r (plan r) g.top g.out (moves r g.last (links ks) r.rows)
  leap_row l rs c i n h v a b ks p =
      let d = ends_at r f h.first h.last v.spans g.out.due a b in
      leap_from l h.last d
      ∙ ap (replaced r (plan r) g.top g.out) (chain_is r f rs c (suc r.last) g.last h.last (links ks) r.rows
      (omega (arith, v.spans.ahead))
      (rw d at (chain_rows r f rs c g.out i n g.last ks (rw (sym d) at p))))
