-- What the passes and the counts find is the pick.
use mathlib.Core.Path.{◌≡◌, refl, sym, ap, ◌∙◌, subst}
use mathlib.Core.Logic.{inl, inr}
use mathlib.Core.Bool.{Bool, true, false}
use mathlib.Core.List.{List}
use Prim.Native.Nat.{ℕ, ◌+◌, ◌≤◌, ◌<◌}
use native.Mathlib.Omega.{arith}
use lib.ListN.{length}
use Rattle.rules.specs.PlanM.{score}
use Rattle.rules.specs.Rows.{Row, blank, heavier, In}
use Rattle.rules.specs.Table.{round_in}
use Rattle.theory.specs.Tests.{ltb?}
use Rattle.theory.specs.Keys.{getD_in}
use Rattle.theory.specs.Index.{index_of}
use Rattle.theory.specs.Members.{RowsOfPlan, of_rows_fine}
use Rattle.theory.specs.Segments.{Segment, segment_has_row}
use Rattle.theory.specs.Lead.{Leads, lead_far}
use Rattle.round.specs.Rows.{at}
use Rattle.round.proofs.ReadLaws.{Known, known}
use Rattle.sorts.specs.declared.Round.{Round as Head}
use Rattle.keys.specs.Key.{slot_of}
use Rattle.buckets.specs.Stretch.{Full, Stretches}
use Rattle.buckets.specs.declared.Reach.{Reach}
use Rattle.buckets.specs.declared.stretch.Stretch.{Stretch}
use Rattle.buckets.proofs.SegmentLaws.{whole_rows, full, stretch_segment}
use Rattle.passes.specs.Best.{IsRow, Heaviest}
use Rattle.passes.specs.Look.{Looks}
use Rattle.passes.specs.declared.best.Best.{Best}
use Rattle.passes.specs.declared.look.Found.{Found}
use Rattle.whole.specs.Whole.{Given, Past, FirstGoes, Leading, LightestBy, PicksFirst, PicksFar, PicksKept}
use Rattle.whole.proofs.LeadLaws.{fine_at, some_row, none_heavier, some_least, best_leads, other_leads, past_leads}

-- what the test says
pub goes_first : (b : Best) (f : Found) (v : Bool) → FirstGoes b f v → v ≡ true → score b.weight 0 ≤ score f.first.weight f.lightest
goes_first b f v g e = subst (λ (v : Bool). FirstGoes b f v) e g

pub goes_past : (b : Best) (f : Found) (v : Bool) → FirstGoes b f v → v ≡ false → score f.first.weight f.lightest < score b.weight 0
goes_past b f v g e = subst (λ (v : Bool). FirstGoes b f v) e g

module _ {t cs : List ℕ} {h : Head} {x : Reach} (g : Given t cs h x) where
  pub facts : Known t h
  facts = known t h g.ready

  pub rows : RowsOfPlan (round_in t) (round_in t).rows
  rows = whole_rows (round_in t) facts.fine x g.reaches g.none

  pub filled : Full cs x.free
  filled = full t h cs x g.ready g.counted g.reaches g.none

  -- THE FIRST SEGMENT by its last bucket
  pub ends_near : {y : Stretch} {e : ℕ} → Stretches cs x.free 0 y → e ≡ h.slot.0 + y.last → e < (round_in t).slot + x.free
  ends_near s q = omega (arith, q, s.near, facts.slot)

  pub ends_first : {y : Stretch} {e : ℕ} → Stretches cs x.free 0 y → e ≡ h.slot.0 + y.last →
      Segment (round_in t) (round_in t).rows (round_in t).slot e
  ends_first {y} {e} s q =
      let a : (round_in t).slot + y.first ≡ (round_in t).slot = omega (arith, s.from) in
      let b : (round_in t).slot + y.last ≡ e = omega (arith, q, facts.slot) in
      subst (λ (v : ℕ). Segment (round_in t) (round_in t).rows (round_in t).slot v) b
      (subst (λ (v : ℕ). Segment (round_in t) (round_in t).rows v ((round_in t).slot + y.last)) a
      (stretch_segment t h cs x g.ready g.counted g.reaches g.none 0 y s))

  -- slots of segments fit
  pub slots_fit : {y : Stretch} {a : ℕ} → Stretches cs x.free a y → (h.slot.0 + y.last ≤ 8192) × (h.slot.0 + y.first ≤ 8192)
  slots_fit s =
      let n = facts in (
        omega (arith, s.near, filled.small, n.slot, n.time, n.cap),
        omega (arith, s.from, s.by, s.near, filled.small, n.slot, n.time, n.cap),
      )

  -- THE HEAVIEST OF ALL
  module _ {b : Best} (w : Heaviest (round_in t) 0 h.last.0 b) where
    pub best_row : IsRow (round_in t) 0 h.last.0 b
    best_row =
        some_row (round_in t) facts.fine h.last.0 b w 0 (omega (arith, g.some, facts.used))
        (omega (arith, (fine_at (round_in t) facts.fine 0 (omega (arith, g.some, facts.used))).due_by, facts.last))

    pub best_in : In (at (round_in t) b.row) (round_in t).rows
    best_in = getD_in (round_in t).rows (blank 0) b.row best_row.below

    pub best_over : (q : Row) → In q (round_in t).rows → heavier q (at (round_in t) b.row) ≡ false
    best_over q i =
        none_heavier (round_in t) facts.fine h.last.0 b w best_row q i
        (omega (arith, (of_rows_fine (round_in t) facts.fine (round_in t).rows rows q i).due_by, facts.last))

    best_below : b.row < length (round_in t).rows
    best_below = best_row.below

    -- no slot is full
    pub far_all : x.free ≡ 0 → {i : ℕ} → i ≡ b.row → PicksFar (round_in t) ((round_in t).slot + x.free) i
    far_all e {i} q =
        let z : (round_in t).slot + x.free ≡ (round_in t).slot = omega (arith, e) in
        let d = (of_rows_fine (round_in t) facts.fine (round_in t).rows rows (at (round_in t) b.row) best_in).due_from in
        subst (λ (v : ℕ). PicksFar (round_in t) ((round_in t).slot + x.free) v) (sym q) (record {
          leading = record {
            below = best_below;
            leads = subst (λ (v : ℕ). Leads (round_in t) (round_in t).rows v (at (round_in t) b.row)) z (lead_far (round_in t) facts.fine facts.time (round_in t).rows rows
                ((round_in t).slot + x.free) g.reaches.near (at (round_in t) b.row) best_in (omega (arith, z, d)) (λ y j _. best_over y j));
          };
          far = omega (arith, z, d);
        })

    -- it is due in the first segment
    pub first_all : {y : Stretch} → Stretches cs x.free 0 y → slot_of b.rank ≤ h.slot.0 + y.last → {i : ℕ} → i ≡ b.row →
        PicksFirst (round_in t) ((round_in t).slot + x.free) i
    first_all {y} s d {i} q =
        let e = h.slot.0 + y.last in
        let a : (at (round_in t) b.row).due ≤ e = omega (arith, best_row.due, d) in
        let n : e < (round_in t).slot + x.free = ends_near s refl in
        let v : Segment (round_in t) (round_in t).rows (round_in t).slot e = ends_first s refl in
        subst (λ (v : ℕ). PicksFirst (round_in t) ((round_in t).slot + x.free) v) (sym q) (record {
          leading = record {
            below = best_below;
            leads = best_leads (round_in t) facts.fine facts.time rows ((round_in t).slot + x.free) g.reaches.near e n v (at (round_in t) b.row) best_in a
                best_over;
          };
          last = e;
          near = n;
          segment = v;
          by = a;
        })

-- THE HEAVIEST IS PAST the first segment
module _ {t cs : List ℕ} {h : Head} {x : Reach} {b : Best} {e d : ℕ} (p : Past t cs h x b e) (v : d ≡ slot_of b.rank) where
  pub past_from : h.slot.0 ≤ d
  past_from = omega (arith, v, p.past, p.segment.by, (facts p.given).slot)

-- and the second pass is done
module _ {t cs : List ℕ} {h : Head} {x : Reach} {b : Best} {e own : ℕ} {f : Found} (p : Past t cs h x b e) (l : Looks (round_in t) 0 e own f) where
  -- the first segment has a row
  first_has : (j : ℕ) × (j < length (round_in t).rows) × ((at (round_in t) j).due ≤ e)
  first_has =
      let n = facts p.given in
      let y = segment_has_row (round_in t) n.fine n.time (round_in t).rows (rows p.given) ((round_in t).slot + x.free) p.given.reaches.near
      (round_in t).slot e p.near p.segment in
      let q = index_of (blank 0) y.0 (round_in t).rows y.1 in
      (q.0, q.1, omega (arith, y.3, ap (λ (v : Row). v.due) q.2))

  pub found_row : IsRow (round_in t) 0 e f.first
  found_row =
      let n = facts p.given in
      some_row (round_in t) n.fine e f.first l.first first_has.0 first_has.1 first_has.2

  found_below : f.first.row < length (round_in t).rows
  found_below = found_row.below

  found_least : LightestBy (round_in t) e f.lightest
  found_least =
      let n = facts p.given in
      some_least (round_in t) n.fine e f.lightest l.lightest first_has.0 first_has.1 first_has.2

  -- the first segment's row goes
  pub past_first : score b.weight 0 ≤ score f.first.weight f.lightest → {i : ℕ} → i ≡ f.first.row →
      PicksFirst (round_in t) ((round_in t).slot + x.free) i
  past_first u {i} q =
      let n = facts p.given in
      let a = best_row p.given p.best in
      let d : (at (round_in t) f.first.row).due ≤ e = found_row.by in
      subst (λ (v : ℕ). PicksFirst (round_in t) ((round_in t).slot + x.free) v) (sym q) (record {
        leading = record {
          below = found_below;
          leads = other_leads (round_in t) n.fine n.time (rows p.given) ((round_in t).slot + x.free) p.given.reaches.near e p.near p.segment
              (at (round_in t) b.row) (at (round_in t) f.first.row) f.lightest (best_in p.given p.best) (omega (arith, a.due, p.past))
              (best_over p.given p.best) (getD_in (round_in t).rows (blank 0) f.first.row found_below) d
              (none_heavier (round_in t) n.fine e f.first l.first found_row) found_least
              (omega (arith, u, a.weight, found_row.weight));
        };
        last = e;
        near = p.near;
        segment = p.segment;
        by = d;
      })

  -- or the heaviest of all
  module _ (u : score f.first.weight f.lightest < score b.weight 0) where
    past_leading : {i : ℕ} → i ≡ b.row → Leading (round_in t) i
    past_leading {i} q =
        let n = facts p.given in
        let a = best_row p.given p.best in
        let d : (at (round_in t) f.first.row).due ≤ e = found_row.by in
        subst (λ (v : ℕ). Leading (round_in t) v) (sym q) (record {
          below = a.below;
          leads = past_leads (round_in t) n.fine n.time (rows p.given) ((round_in t).slot + x.free) p.given.reaches.near e p.near p.segment
              (at (round_in t) b.row) (at (round_in t) f.first.row) f.lightest (best_in p.given p.best) (omega (arith, a.due, p.past))
              (best_over p.given p.best) (getD_in (round_in t).rows (blank 0) f.first.row found_below) d
              (none_heavier (round_in t) n.fine e f.first l.first found_row) found_least
              (omega (arith, u, a.weight, found_row.weight));
        })

    due_is : {i : ℕ} → i ≡ b.row → (at (round_in t) i).due ≡ slot_of b.rank
    due_is q = ap (λ (v : ℕ). (at (round_in t) v).due) q ∙ sym (best_row p.given p.best).due

    pub past_far : {v : ℕ} → v ≡ slot_of b.rank → h.slot.0 + x.free ≤ v → {i : ℕ} → i ≡ b.row → PicksFar (round_in t) ((round_in t).slot + x.free) i
    past_far o d q = record { leading = past_leading q; far = omega (arith, o, d, due_is q, (facts p.given).slot) }

    pub past_kept : {y : Stretch} {a due : ℕ} → due ≡ slot_of b.rank → h.slot.0 + a ≡ due → Stretches cs x.free a y → own ≡ h.slot.0 + y.last → {i c m : ℕ} → i ≡ b.row →
        c ≡ h.slot.0 + y.first → m ≡ f.mark → PicksKept (round_in t) ((round_in t).slot + x.free) i c m
    past_kept {y} {a} {due} z g s o {i} {c} {m} q v w =
        let n = facts p.given in
        let d : h.slot.0 + a ≡ slot_of b.rank = g ∙ z in
        let k = n.slot in
        let e1 : (round_in t).slot + y.first ≡ c = omega (arith, v, k) in
        let e2 : (round_in t).slot + y.last ≡ own = omega (arith, o, k) in
        let seg : Segment (round_in t) (round_in t).rows c own = subst (λ (v : ℕ). Segment (round_in t) (round_in t).rows v own) e1
        (subst (λ (v : ℕ). Segment (round_in t) (round_in t).rows ((round_in t).slot + y.first) v) e2
        (stretch_segment t h cs x p.given.ready p.given.counted p.given.reaches p.given.none a y s)) in
        record {
          leading = past_leading q;
          later = elim (ltb? (round_in t).slot c) [
            | inl z ↦ z.1
            | inr z ↦ absurd (seg.none e (omega (arith, z.1, p.segment.by)) (omega (arith, p.past, d, s.by, o)) p.segment.end)
          ];
          last = own;
          near = omega (arith, o, s.near, k);
          segment = seg;
          from = omega (arith, due_is q, d, s.from, v);
          by = omega (arith, due_is q, d, s.by, o);
          mark = subst (λ (v : ℕ). LightestBy (round_in t) own v) (sym w) (some_least (round_in t) n.fine own f.mark l.mark
              first_has.0 first_has.1 (omega (arith, first_has.2, p.past, d, s.by, o)));
        }
