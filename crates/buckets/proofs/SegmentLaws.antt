-- The segment that counts tell is one of the round, where no row is left out.
use mathlib.Core.Path.{◌≡◌, subst}
use mathlib.Core.List.{List}
use Prim.Native.Nat.{ℕ, zero, suc, ◌+◌, ◌*◌, ◌≤◌}
use native.Mathlib.Omega.{arith}
use Rattle.rules.specs.Rows.{Row, Round}
use Rattle.rules.specs.Table.{round_in}
use Rattle.theory.specs.Full.{Fine}
use Rattle.theory.specs.Count.{counts_next, counts_none}
use Rattle.theory.specs.Members.{RowsOfPlan, certified_found}
use Rattle.theory.specs.Near.{all_true_chosen, all_certified}
use Rattle.theory.specs.Segments.{Segment, segment_made}
use Rattle.round.specs.Rows.{Ready, top_of}
use Rattle.round.specs.Buckets.{Counted}
use Rattle.round.proofs.ReadLaws.{known}
use Rattle.sorts.specs.declared.Round.{Round as Head}
use Rattle.buckets.specs.Reach.{before, Reaches}
use Rattle.buckets.specs.Stretch.{upto, Full, Stretches}
use Rattle.buckets.specs.declared.Reach.{Reach}
use Rattle.buckets.specs.declared.stretch.Stretch.{Stretch}
use Rattle.buckets.proofs.ReachLaws.{enough}

-- ALL ROWS are the plan's
pub whole_rows : (r : Round) → Fine r → (x : Reach) → Reaches r x → x.over ≡ 0 → RowsOfPlan r r.rows
whole_rows r f x w e =
    subst (λ (rs : List Row). RowsOfPlan r rs) (all_true_chosen r.rows).0 (certified_found r f _ (all_certified r (w.fits e)))

pub sum_is : (r : Round) (cs : List ℕ) → Counted r cs → (s : ℕ) → s ≤ suc (top_of r) → upto s cs ≡ 2048 * before r r.rows s
sum_is r cs c zero h = omega (arith, counts_none r.slot (top_of r) r.rows)
sum_is r cs c (suc s) h = omega (arith, sum_is r cs c s (omega arith), c.count s (omega arith), counts_next r.slot (top_of r) s r.rows)

module _ (t : List ℕ) (h : Head) (cs : List ℕ) (x : Reach) (k : Ready t h) (c : Counted (round_in t) cs) (w : Reaches (round_in t) x) (e : x.over ≡ 0) where
  pub full : Full cs x.free
  full =
      let r = round_in t in
      let n = known t h k in
      let o = counts_none r.slot (top_of r) r.rows in
      let z = w.sweep.level in
      record {
        enough = omega (arith, c.enough, w.sweep.high);
        small = omega (arith, n.small, w.sweep.high);
        fits = λ v l. omega (arith, sum_is r cs c v (omega (arith, l, w.sweep.high)), w.sweep.full v (omega arith) l, z, o, e, l);
        full = omega (arith, sum_is r cs c x.free w.sweep.high, z, o, e);
      }

  pub stretch_segment : (b : ℕ) (y : Stretch) → Stretches cs x.free b y →
      Segment (round_in t) (round_in t).rows ((round_in t).slot + y.first) ((round_in t).slot + y.last)
  stretch_segment b y s =
      let r = round_in t in
      let n = known t h k in
      let u = w.sweep.high in
      segment_made r n.fine (top_of r) x.over x.free (omega (arith, n.time)) (enough r n.time) w.sweep r.rows
      (whole_rows r n.fine x w e) y.first y.last
      (omega (arith, s.from, s.by)) s.near
      (omega (arith, sum_is r cs c y.first (omega (arith, s.from, s.by, s.near, u)), s.edge))
      (omega (arith, sum_is r cs c (suc y.last) (omega (arith, s.near, u)), s.end))
      (λ v i j q. s.none v i j (omega (arith, sum_is r cs c (suc v) (omega (arith, j, s.near, u)), q)))
