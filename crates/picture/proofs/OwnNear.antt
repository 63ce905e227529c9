-- Segments with their own lightest by the plan's rows alone, up to where rows fill every slot. Assumes nothing.
use Rattle.std.specs.Prelude.{List, ℕ, ◌<◌}
use Rattle.std.proofs.Common.{arith}
use Rattle.rules.specs.Rows.{Row, Round}
use Rattle.theory.specs.Full.{Fine}
use Rattle.theory.specs.Members.{RowsOfPlan, found_member}
use Rattle.theory.specs.Near.{Near}
use Rattle.theory.specs.Segments as counted
use Rattle.picture.specs.Picture.{Segment, Heaviest, Lightest, Within}
use Rattle.picture.specs.Near.{Out}
use Rattle.picture.proofs.Near.{out_right, member_near, spans_near}
use Rattle.picture.specs.Own.{RightOwn}

pub right_own : (r : Round) (f : Fine r) (rs : List Row) (c : RowsOfPlan r rs) (z : ℕ) (k : Near r z) (g : Segment) → g.last < z →
    counted.Segment r rs g.first g.last → Heaviest (Within rs g.first g.last) g.top →
    Lightest (Within rs g.first g.last) g.low → Out r rs g.first g.out → RightOwn r g
right_own r f rs c z k g h s t l o =
    record {
      spans = spans_near r f rs c z k g.first g.last h s;
      top = record {
        of = (found_member r f rs c g.top t.of.0, t.of.1, t.of.2);
        most = λ y i. t.most y (member_near r f rs c z k y i.0 (omega (arith, i.2, h)), i.1, i.2);
      };
      low = record {
        of = (found_member r f rs c g.low l.of.0, l.of.1, l.of.2);
        least = λ y i. l.least y (member_near r f rs c z k y i.0 (omega (arith, i.2, h)), i.1, i.2);
      };
      out = out_right r f rs c g.first (omega (arith, s.by, h, k.by)) g.out o;
    }
