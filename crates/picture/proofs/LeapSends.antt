-- A sending's ways, from a segment's ends, its marks and the heaviest outside: ordinary_sends, afar_sends, blank_sends, row_sends. Assumes nothing.
use Rattle.std.specs.Prelude.{◌≡◌, refl, true, false, List, ℕ, suc, ◌≤◌, ◌<◌}
use Rattle.std.proofs.Common.{sym, ap, ap₂, ◌∙◌, subst, arith, le-leb}
use Rattle.std.proofs.lemmas.Bool.{lt-leb}
use Rattle.rules.specs.Rows.{Row, Round, blank, In}
use Rattle.rules.specs.Plan.{plan, tight_after, mark, first_end, substitute}
use Rattle.rules.specs.PlanM.{Outside}
use Rattle.rules.specs.Steps.{goes, set_to, kept_at, changed}
use Rattle.theory.specs.Full.{Fine}
use Rattle.theory.specs.Back.{length_changed}
use Rattle.theory.specs.Best.{ordinary_is}
use Rattle.theory.specs.Chain.{Linked, moves}
use Rattle.theory.specs.Close.{after_slot, closed, sent_ordinary, sent_row, sent_kept}
use Rattle.theory.specs.Members.{RowsOfPlan}
use Rattle.theory.specs.Near.{Near, far_sent}
use Rattle.theory.specs.Picks.{later_substitute}
use Rattle.theory.specs.Whole.{Sends, length_moves}
use Rattle.picture.specs.Picture.{Spans, Heaviest}
use Rattle.picture.proofs.One.{no_heavier, one, outside_known}
use Rattle.picture.proofs.Places.{ends_at, starts_at, first_ends, later_starts}
use Rattle.picture.proofs.LeapMarks.{mark_end}

module _ (r : Round) (f : Fine r) (o : r.slot ≤ r.last) (rs : List Row) (c : RowsOfPlan r rs) where
  -- A LEAP FROM AFAR: nothing stays behind
  pub afar_sends : (z : ℕ) → Near r z → (p : Row) → goes r ≡ p → In p rs → z ≤ p.due → Sends r p false p.ticket r.rows
  afar_sends z k p e i h = let a = far_sent r f rs c z k o p e i h in record { goes = e; step = a.0; leaves = a.1; long = refl }

  module _ (b e : ℕ) (s : Spans r b e) (p : Row) (turn : goes r ≡ p) (i : In p (plan r)) (from : b ≤ p.due) (by : p.due ≤ e) where
    -- ORDINARY: the first segment's
    pub ordinary_sends : b ≡ r.slot → Sends r p true p.ticket r.rows
    ordinary_sends h =
        let d : p.due ≤ first_end r (plan r) = omega (arith, by, first_ends r f b e s h) in
        record {
          goes = turn;
          step = ordinary_is r f o rs c p turn ∙ le-leb p.due (first_end r (plan r)) d;
          leaves = sent_ordinary r f rs c p turn d;
          long = refl;
        }

    module _ (later : r.slot < b) where
      past_first : first_end r (plan r) < p.due
      past_first = omega (arith, from, later_starts r f b e s later)

      -- the substitute is the heaviest outside
      pub substitute_outside : (x : Row) → Heaviest (Outside r b) x → substitute r (plan r) p ≡ x
      substitute_outside x h =
          let y = substitute r (plan r) p in
          let d = starts_at r f b e s p.due from by in
          let t = later_substitute r f p i past_first in
          let u : Outside r b y = (omega (arith, d, t.0.0), t.0.1) in
          one r f y x (outside_known r f b y u) (outside_known r f b x h.of) (h.most y u)
          (no_heavier x y (t.1 x (omega (arith, d, h.of.0), h.of.1)))

      -- ONTO A BLANK, kept in p's row with the segment's mark
      pub blank_sends : Heaviest (Outside r b) (blank b) → 1 ≤ mark r e → Sends r p false 0 (changed p.ticket (kept_at b (mark r e) p) r.rows)
      blank_sends h m =
          let d = starts_at r f b e s p.due from by in
          let w = mark_end r f b e s p.due from by in
          record {
            goes = turn;
            step = ordinary_is r f o rs c p turn ∙ lt-leb p.due (first_end r (plan r)) past_first;
            leaves =
                sent_kept r f rs c p turn i past_first (substitute_outside (blank b) h ∙ ap blank (sym d)) (omega (arith, w, m))
                ∙ ap₂ (λ (v u : ℕ). after_slot r (closed (suc r.slot) 0 (changed p.ticket (kept_at v u p) r.rows))) d w;
            long = length_changed p.ticket (kept_at b (mark r e) p) r.rows;
          }

      -- ONTO A ROW y outside, due in the segment from a to g: the links hs between the two ends move
      pub row_sends : (y : Row) → In y r.rows → Heaviest (Outside r b) y → (a g : ℕ) → Spans r a g → a ≤ y.due → y.due ≤ g → (hs : List Row) →
          Linked r rs e g hs → Sends r p false p.ticket (changed y.ticket (set_to y.due (mark r g) y) (moves r e hs r.rows))
      row_sends y j h a g t u v hs ch =
          let d = ends_at r f b e s p.due from by in
          let k = ends_at r f a g t y.due u v in
          let l : Linked r rs (tight_after r (plan r) p.due) (tight_after r (plan r) y.due) hs =
          subst (λ (n : ℕ). Linked r rs n (tight_after r (plan r) y.due) hs) (sym d) (subst (λ (n : ℕ). Linked r rs e n hs) (sym k) ch) in
          record {
            goes = turn;
            step = ordinary_is r f o rs c p turn ∙ lt-leb p.due (first_end r (plan r)) past_first;
            leaves =
                sent_row r f rs c p y hs turn past_first (substitute_outside y h) j l
                ∙ ap₂ (λ (n m : ℕ). after_slot r (closed (suc r.slot) p.ticket (changed y.ticket (set_to y.due m y) (moves r n hs r.rows)))) d
                (mark_end r f a g t y.due u v);
            long = length_changed y.ticket (set_to y.due (mark r g) y) (moves r e hs r.rows) ∙ length_moves r e hs r.rows;
          }
