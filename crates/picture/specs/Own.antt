-- Segments as a pass from the back finds them: each with the lightest member of its OWN. What answers are read from follows. Assumes nothing.
use Rattle.std.specs.Prelude.{◌≡◌, ◌⊎◌, List, [], ◌∷◌, ℕ, suc, length}
use Rattle.rules.specs.Rows.{Round}
use Rattle.rules.specs.Plan.{plan, lightest_by}
use Rattle.rules.specs.PlanM.{Outside}
use Rattle.picture.specs.Picture.{Segment, segment, Spans, Heaviest, Lightest, Within}

-- RIGHT FIELDS but one: the lightest is the segment's own
pub record RightOwn (r : Round) (g : Segment) : Type 0 where
  pub spans : Spans r g.first g.last
  pub top : Heaviest (Within (plan r) g.first g.last) g.top
  pub low : Lightest (Within (plan r) g.first g.last) g.low
  pub out : Heaviest (Outside r g.first) g.out

abbrev pub DrawnOwn : Round → (b z : ℕ) → List Segment → Type 0
DrawnOwn r b z [] = b ≡ z
DrawnOwn r b z (g ∷ gs) = (g.first ≡ b) × RightOwn r g × DrawnOwn r (suc g.last) z gs

-- THE SAME SEGMENT with the lightest member due by its end
abbrev pub whole : Round → Segment → Segment
whole r g = segment g.first g.last g.top (lightest_by g.last (plan r) g.top) g.out

-- NUMBERED FROM THE BACK: the last segment is 0
abbrev pub Numbered : Segment → (k : ℕ) → List Segment → Type 0
Numbered g k [] = ⊥
Numbered g k (h ∷ hs) = ((g ≡ h) × (k ≡ length hs)) ⊎ Numbered g k hs
