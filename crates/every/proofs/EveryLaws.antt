-- Marks and substitutes where all rows are in the plan.
use mathlib.Core.Path.{◌≡◌, refl, sym, ap, ◌∙◌, subst}
use mathlib.Core.Logic.{inl, inr}
use mathlib.Core.Bool.{false, cond}
use mathlib.Core.List.{List, [], ◌∷◌}
use Prim.Native.Nat.{ℕ, zero, suc, ◌+◌, ◌-◌, ◌≤◌, ◌<◌, min, max}
use native.Mathlib.Omega.{arith}
use native.Mathlib.Numerals.{add-one}
use lib.Dec.{leb}
use lib.ListN.{length, get_or, take}
use lib.Seq.{take-length}
use Rattle.rules.specs.Rows.{Row, Round, blank, heavier}
use Rattle.rules.specs.Table.{round_in}
use Rattle.rules.specs.Plan.{plan, least_weight, mark, first_end}
use Rattle.theory.specs.Tests.{leb?, ltb?, eqb?}
use Rattle.theory.specs.Full.{Fine}
use Rattle.theory.specs.Keys.{getD_in}
use Rattle.theory.specs.Index.{each_row}
use Rattle.theory.specs.Members.{RowsOfPlan, found_member, not_found}
use Rattle.theory.specs.Near.{near_mark}
use Rattle.theory.specs.Segments.{Segment, segment_end, first_segment, segment_none}
use Rattle.theory.specs.Substitute.{first_row}
use Rattle.sorts.specs.declared.Round.{Round as Head}
use Rattle.round.specs.Rows.{DueAt, WeightAt, ClassAt, at}
use Rattle.round.proofs.ReadLaws.{known}
use Rattle.keys.specs.Key.{key, row_of, key_at}
use Rattle.keys.proofs.KeyLaws.{row_is, some_key, greater_key, key_read}
use Rattle.buckets.specs.declared.Reach.{Reach}
use Rattle.buckets.specs.Stretch.{Full, Stretches}
use Rattle.buckets.proofs.SegmentLaws.{whole_rows, full, stretch_segment}
use Rattle.sub.specs.Substitute.{Substitutes}
use Rattle.sub.specs.declared.Sub.TheVariants.{Row as Row-at, Blank}
use Rattle.every.specs.Every.{Whole, DueKey, LightestKey}
use Rattle.buckets.specs.declared.stretch.Stretch.{Stretch}

-- THE LEAST WEIGHT row by row
pub least_next : (e : ℕ) (z : Row) (xs : List Row) (i b : ℕ) → i < length xs → least_weight e (take (suc i) xs) b ≡
    cond (leb (get_or xs i z).due e) (min (least_weight e (take i xs) b) (get_or xs i z).weight) (least_weight e (take i xs) b)
unfolding least_weight
least_next e z [] i b h = absurd (omega arith)
least_next e z (x ∷ xs) zero b h = refl
least_next e z (x ∷ xs) (suc i) b h = least_next e z xs i (cond (leb x.due e) (min b x.weight) b) (omega arith)

pub record LeastSoFar (r : Round) (e i low : ℕ) : Type 0 where
  pub is : low ≡ least_weight e (take i r.rows) 16777216

pub least_start : (r : Round) (e : ℕ) → LeastSoFar r e 0 16777216
unfolding least_weight
least_start r e = record { is = refl }

pub least_step : (r : Round) (e i low d w l : ℕ) → i < length r.rows → DueAt r i d → WeightAt r i w → l ≡ cond (leb d e) (min low w) low →
    LeastSoFar r e i low → LeastSoFar r e (i + 1) l
least_step r e i low d w l h a b q s =
    let n = least_next e (blank 0) r.rows i 16777216 h in
    let u = a.is in
    let v = b.is in
    let k = s.is in
    record { is = rw (add-one i) (q ∙ rw (u, v, k) (sym n)) }

pub least_end : (r : Round) (e i low : ℕ) → i ≡ length r.rows → LeastSoFar r e i low → low ≡ least_weight e r.rows 16777216
least_end r e i low q s = s.is ∙ ap (λ (xs : List Row). least_weight e xs 16777216) (ap (λ (n : ℕ). take n r.rows) q ∙ take-length r.rows)

-- THE LIGHTEST ROW by keys
pub record LightestSoFar (r : Round) (e i k : ℕ) : Type 0 where
  pub most : (j : ℕ) → j < i → (at r j).due ≤ e → key_at r j ≤ k
  pub some : 1 ≤ k → DueKey r i e k

pub due_more : (r : Round) (i e k : ℕ) → DueKey r i e k → DueKey r (i + 1) e k
due_more r i e k d = record { row = d.row; below = omega (arith, d.below); by = d.by; is = d.is }

pub lightest_step : (r : Round) (e i k d w t x l : ℕ) → DueAt r i d → WeightAt r i w → ClassAt r i t → x ≡ key w d t i →
    l ≡ cond (leb d e) (max k x) k → LightestSoFar r e i k → LightestSoFar r e (i + 1) l
lightest_step r e i k d w t x l a b f c q s =
    let g : x ≡ key_at r i = key_read r i d w t x a b f c in
    elim (leb? d e) [
      | inr n ↦
          let z : l ≡ k = q ∙ rw n.0 refl in
          rw z (record {
            most = λ j h m. elim (eqb? j i) [
              | inl y ↦ absurd (omega (arith, n.1, a.is, m, ap (λ (v : ℕ). (at r v).due) y.1))
              | inr y ↦ let o = y.1 in s.most j (omega (arith, h)) m
            ];
            some = λ h. due_more r i e k (s.some h);
          })
      | inl n ↦
          let z : l ≡ max k x = q ∙ rw n.0 refl in
          record {
            most = λ j h m. elim (eqb? j i) [
              | inl y ↦ omega (arith, z, g, ap (key_at r) y.1)
              | inr y ↦ let o = y.1 in omega (arith, z, s.most j (omega (arith, h)) m)
            ];
            some = λ h. elim (ltb? k x) [
              | inl y ↦ let p : x ≡ l = omega (arith, z, y.1) in
                  record { row = i; below = omega arith; by = omega (arith, n.1, a.is); is = sym g ∙ p }
              | inr y ↦ let p : k ≡ l = omega (arith, z, y.1) in
                  subst (DueKey r (i + 1) e) p (due_more r i e k (s.some (omega (arith, p, h))))
            ];
          }
    ]

pub lightest_end : (r : Round) (e i k : ℕ) → i ≡ length r.rows → LightestSoFar r e i k → LightestKey r e k
lightest_end r e i k q s =
    record { most = λ j h. s.most j (omega (arith, h, q)); some = λ h. subst (λ (n : ℕ). DueKey r n e k) q (s.some h) }

module _ (t cs : List ℕ) (h : Head) (x : Reach) (w : Whole t cs h x) where
  abbrev pub rd : Round
  rd = round_in t

  pub fine : Fine rd
  fine = (known t h w.ready).fine

  pub rows_all : RowsOfPlan rd rd.rows
  rows_all = whole_rows rd fine x w.reaches w.none

  pub fills : Full cs x.free
  fills = full t h cs x w.ready w.counted w.reaches w.none

  pub stretched : (b : ℕ) (y : Stretch) → Stretches cs x.free b y → Segment rd rd.rows (rd.slot + y.first) (rd.slot + y.last)
  stretched = stretch_segment t h cs x w.ready w.counted w.reaches w.none

  -- THE MARK
  pub mark_is : (s e m : ℕ) (y : Stretch) → h.slot.0 ≤ s → Stretches cs x.free (s - h.slot.0) y → m ≡ least_weight e rd.rows 16777216 →
      e ≡ h.slot.0 + y.last → m ≡ mark rd s
  mark_is s e v y a g c q =
      let k = known t h w.ready in
      let o : rd.slot + y.last ≡ e = omega (arith, q, k.slot) in
      let z = rd.slot + x.free in
      let m = segment_end rd fine k.time rd.rows rows_all z w.reaches.near (rd.slot + y.first) (rd.slot + y.last)
      (omega (arith, g.near)) (stretched (s - h.slot.0) y g) s (omega (arith, g.from, a, k.slot)) (omega (arith, g.by, a, k.slot)) in
      c ∙ sym (near_mark rd fine rd.rows rows_all z w.reaches.near s (omega (arith, a, k.slot)) (omega (arith, g.by, g.near, a, k.slot))
      ∙ ap (λ (v : ℕ). least_weight v rd.rows 16777216) (m ∙ o))

  -- THE SUBSTITUTE
  module _ (i d : ℕ) (l : i < h.used) (a : DueAt rd i d) (y : Stretch) (g : Stretches cs x.free (d - h.slot.0) y) where
    pub there : i < length rd.rows
    there = omega (arith, l, (known t h w.ready).used)

    pub within : (rd.slot + y.first ≤ (at rd i).due) × ((at rd i).due ≤ rd.slot + y.last)
    within =
        let k = known t h w.ready in (
          omega (arith, g.from, k.slot, a.is, a.from),
          omega (arith, g.by, k.slot, a.is, a.from),
        )

    pub blank_is : (v : ℕ) → (y.first ≡ 0 → ⊥) → v ≡ h.slot.0 + y.first → Substitutes rd i (Blank (record { 0 = v }))
    blank_is v n q =
        let k = known t h w.ready in
        let o : rd.slot + y.first ≡ v = omega (arith, q, k.slot) in
        segment_none rd fine k.time rd.rows rows_all (rd.slot + x.free) w.reaches.near (rd.slot + y.first) (rd.slot + y.last)
        (omega (arith, g.near)) (stretched (d - h.slot.0) y g) (omega (arith, n)) (at rd i) within.0 within.1
        (λ z j m. absurd (not_found rd fine rd.rows rows_all z j m j))
        ∙ ap blank o

    pub row_is_low : (e k j : ℕ) → y.first ≡ 0 → LightestKey rd e k → e ≡ h.slot.0 + y.last → j ≡ row_of k → Substitutes rd i (Row-at j)
    row_is_low e k j n m q p =
        let o = known t h w.ready in
        let f = fine in
        let b : rd.slot + y.first ≡ rd.slot = omega (arith, n) in
        let z : first_end rd (plan rd) ≡ rd.slot + y.last =
        first_segment rd f o.time rd.rows rows_all (rd.slot + x.free) w.reaches.near (rd.slot + y.first) (rd.slot + y.last)
        (omega (arith, g.near)) (stretched (d - h.slot.0) y g) b in
        let c = m.some (omega (arith, m.most i there (omega (arith, within.1, q, o.slot)), (some_key rd f o.small o.cap i there).0)) in
        let u : j ≡ c.row = p ∙ ap row_of (sym c.is) ∙ row_is rd f o.small o.cap c.row c.below in (
          omega (arith, u, c.below),
          first_row rd f rd.rows rows_all o.time (at rd i) (found_member rd f rd.rows rows_all (at rd i) (getD_in rd.rows (blank 0) i there))
              (omega (arith, z, within.1)) (at rd c.row) (getD_in rd.rows (blank 0) c.row c.below) (omega (arith, z, c.by, q, o.slot))
              (each_row (λ y. y.due ≤ first_end rd (plan rd) → heavier (at rd c.row) y ≡ false) (blank 0) rd.rows
              (λ v s r. greater_key rd f o.small o.cap c.row v c.below s (omega (arith, c.is, m.most v s (omega (arith, r, z, q, o.slot))))))
              ∙ ap (at rd) (sym u),
        )
