-- A segment closes: the keys that the pass has kept stand for its fields.
use mathlib.Core.Path.{◌≡◌, refl, sym, ap, subst}
use mathlib.Core.Logic.{inl, inr}
use mathlib.Core.List.{List}
use Prim.Native.Nat.{ℕ, ◌+◌, ◌-◌, ◌≤◌, ◌<◌}
use native.Mathlib.Omega.{arith}
use lib.ListN.{length}
use Rattle.rules.specs.Rows.{Row, Round, blank}
use Rattle.theory.specs.Tests.{ltb?}
use Rattle.theory.specs.Feas.{num}
use Rattle.theory.specs.Keys.{getD_in}
use Rattle.theory.specs.Flags.{with_flag}
use Rattle.theory.specs.Segments as counted
use Rattle.round.specs.Rows.{at}
use Rattle.keys.specs.Sorted.{many_due, placed}
use Rattle.keys.proofs.DueOrder.{placed_row}
use Rattle.picture.specs.Picture.{Segment, segment, Heaviest, Lightest, Within}
use Rattle.picture.specs.Near.{LeftRow, Out}
use Rattle.picture.specs.Own.{RightOwn}
use Rattle.picture.proofs.OwnNear.{right_own}
use Rattle.segments.specs.Given.{Given}
use Rattle.segments.specs.Segmented.{Keyed, Named}
use Rattle.segments.proofs.PlaceLaws.{due_at, FullBy, rows_of_it, member_there, member_place, left_there, left_place, full_place}
use Rattle.segments.proofs.LeastLaws.{Stands, least_row, greatest_row, least_maybe}
use Rattle.segments.proofs.OpenLaws.{Inside, Left, Open}

-- WHERE IT BEGINS: the slots before are full, and the places to come are those of rows due before
pub record Begins (r : Round) (n : ℕ) (fs : List ℕ) (end i b : ℕ) : Type 0 where
  pub from : r.slot ≤ b
  pub by : b ≤ end
  pub edge : num 0 b (with_flag r fs) ≡ b - r.slot
  pub before : (q : ℕ) → q < i → due_at r n q < b
  pub after : (q : ℕ) → i ≤ q → q < many_due r n → b ≤ due_at r n q

-- THE SEGMENT MADE, with the keys of its fields
pub record Made (r : Round) (b end heavy light other : ℕ) : Type 0 where
  pub of : Segment
  pub first : of.first ≡ b
  pub last : of.last ≡ end
  pub right : RightOwn r of
  pub top : Keyed r of.top heavy
  pub low : Keyed r of.low light
  pub out : Named r b of.out other

module _ (r : Round) (ks fs : List ℕ) (many slot n : ℕ) (g : Given r ks fs many slot n) (end heavy light out edge i b : ℕ)
    (o : Open r n fs end heavy light out edge i) (w : Begins r n fs end i b) where
  abbrev rs : List Row
  rs = with_flag r fs

  from_place : (q : ℕ) → b ≤ due_at r n q → i ≤ q
  from_place q h = elim (ltb? q i) [ inl a ↦ absurd (omega (arith, h, w.before q a.1)) | inr a ↦ a.1 ]

  -- its ends by counts
  pub made_counts : counted.Segment r rs b end
  made_counts =
      record {
        low = w.from;
        by = w.by;
        edge = w.edge;
        end = o.full;
        none = λ u h k f.
            let q = full_place r ks fs many slot n g u (omega (arith, h, w.from)) (omega (arith, k, o.near)) f in
            o.none q.0 (from_place q.0 (omega (arith, q.2, h))) q.1 (omega (arith, q.2, k)) (subst (FullBy r fs) (sym q.2) f);
      }

  -- the members of the places seen are those due in it
  inside_there : (q : ℕ) → Inside r n fs i end q → placed r n q < length r.rows
  inside_there q c = (placed_row r n q c.1).0

  inside_out : (q : ℕ) → Inside r n fs i end q → Within rs b end (at r (placed r n q))
  inside_out q c = (member_there r ks fs many slot n g (placed r n q) (inside_there q c) c.2, w.after q c.0 c.1, c.3)

  inside_back : (y : Row) → Within rs b end y → (q : ℕ) × Inside r n fs i end q × (y ≡ at r (placed r n q))
  inside_back y j =
      let m = member_place r ks fs many slot n g y j.0 (omega (arith, j.2, o.near)) in
      let d : y.due ≡ due_at r n m.0 = ap (λ (x : Row). x.due) m.3 in
      (m.0, (from_place m.0 (omega (arith, d, j.1)), m.1, m.2, omega (arith, d, j.2)), m.3)

  -- rows left out, due from it on
  left_within : (q : ℕ) → Left r n fs i q → placed r n q < length r.rows
  left_within q c = (placed_row r n q c.1).0

  left_out : (q : ℕ) → Left r n fs i q → LeftRow r rs b (at r (placed r n q))
  left_out q c =
      let t = left_within q c in
      (getD_in r.rows (blank 0) (placed r n q) t, left_there r ks fs many slot n g (placed r n q) t c.2, w.after q c.0 c.1)

  left_back : (y : Row) → LeftRow r rs b y → (q : ℕ) × Left r n fs i q × (y ≡ at r (placed r n q))
  left_back y j =
      let m = left_place r ks fs many slot n g y j.0 j.1 in
      let d : y.due ≡ due_at r n m.0 = ap (λ (x : Row). x.due) m.3 in
      (m.0, (from_place m.0 (omega (arith, d, j.2)), m.1, m.2), m.3)

  -- so the keys stand for its fields
  a_row : (y : Row) × Within rs b end y
  a_row =
      let y = counted.segment_has_row r g.fine g.time rs (rows_of_it r ks fs many slot n g) (r.slot + n) g.near b end o.near made_counts in
      (y.0, (y.1, y.2, y.3))

  top_stands : Stands r g.fine g.small g.cap (placed r n) (Inside r n fs i end) (Within rs b end) inside_there inside_out inside_back
      (Heaviest (Within rs b end)) heavy
  top_stands =
      least_row r g.fine g.small g.cap (placed r n) (Inside r n fs i end) (Within rs b end) inside_there inside_out inside_back heavy o.top
      a_row.0 a_row.1

  low_stands : Stands r g.fine g.small g.cap (placed r n) (Inside r n fs i end) (Within rs b end) inside_there inside_out inside_back
      (Lightest (Within rs b end)) light
  low_stands =
      greatest_row r g.fine g.small g.cap (placed r n) (Inside r n fs i end) (Within rs b end) inside_there inside_out inside_back light o.low
      a_row.0 a_row.1

  out_stands : (x : Row) × Out r rs b x × Named r b x out
  out_stands =
      elim (least_maybe r g.fine g.small g.cap (placed r n) (Left r n fs i) (LeftRow r rs b) left_within left_out left_back out o.left) [
        | inl s ↦ (s.row_of, inl s.right, inl s.keyed)
        | inr (e, m) ↦ (blank b, inr (refl, m), inr (refl, e))
      ]

  pub made : Made r b end heavy light out
  unfolding segment
  made =
      let t = top_stands in
      let l = low_stands in
      let u = out_stands in
      record {
        of = segment b end t.row_of l.row_of u.0;
        first = refl;
        last = refl;
        right = right_own r g.fine rs (rows_of_it r ks fs many slot n g) (r.slot + n) g.near (segment b end t.row_of l.row_of u.0) o.near
            made_counts t.right l.right u.1;
        top = t.keyed;
        low = l.keyed;
        out = u.2;
      }
