-- Segments as a pass from the back finds them: each with the lightest member of its OWN. What answers are read from follows. Assumes nothing.
use Rattle.std.specs.Prelude.{List, [], ◌∷◌, map, ℕ, suc}
use Rattle.rules.specs.Rows.{Round}
use Rattle.theory.specs.Full.{Fine}
use Rattle.picture.specs.Picture.{Segment, segment, Right, Drawn}
use Rattle.picture.proofs.Drawing.{low_found}
use Rattle.picture.specs.Own.{RightOwn, DrawnOwn, whole}

pub whole_right : (r : Round) (f : Fine r) (g : Segment) → RightOwn r g → Right r (whole r g)
unfolding segment
whole_right r f g w =
    record {
      spans = w.spans;
      top = w.top;
      low = low_found r f g.last g.top (w.top.of.0, w.top.of.2);
      out = w.out;
    }

-- A PICTURE of them
pub whole_drawn : (r : Round) (f : Fine r) (b z : ℕ) (gs : List Segment) → DrawnOwn r b z gs → Drawn r b z (map (whole r) gs)
unfolding segment
whole_drawn r f b z [] p = p
whole_drawn r f b z (g ∷ gs) p = (p.0, whole_right r f g p.1, whole_drawn r f (suc g.last) z gs p.2)
