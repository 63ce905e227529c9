-- A leap's whole chain: the tops heavier than every later one, as a pass from the last segment back keeps them. Assumes nothing.
use Rattle.std.specs.Prelude.{cond}
use mathlib.Core.List.{List, [], ◌∷◌}
use Rattle.rules.specs.Rows.{Row, heavier}
use Rattle.picture.specs.Picture.{Segment}

-- THE LINKS of some segments: their tops, without those that a later one is heavier than
unfoldable pub over : Row → List Row → List Row
over x [] = x ∷ []
over x (y ∷ ys) = cond (heavier x y) (x ∷ y ∷ ys) (y ∷ ys)

unfoldable pub links : List Segment → List Row
links [] = []
links (g ∷ gs) = over g.top (links gs)
