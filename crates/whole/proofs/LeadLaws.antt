-- Which row leads, with every row in the plan: past the first segment each row's substitute is a blank.
use mathlib.Core.Path.{◌≡◌, refl, sym, ap, ◌∙◌}
use mathlib.Core.Logic.{inl, inr}
use mathlib.Core.Bool.{false}
use Prim.Native.Nat.{ℕ, ◌+◌, ◌*◌, ◌≤◌, ◌<◌}
use native.Mathlib.Omega.{arith}
use lib.ListN.{length}
use Rattle.rules.specs.Rows.{Row, Round, blank, heavier, In}
use Rattle.rules.specs.Plan.{plan, segment_start, substitute}
use Rattle.theory.specs.Tests.{leb?, ltb?, eqb?}
use Rattle.theory.specs.All.{all_in, blank_weight, blank_is}
use Rattle.theory.specs.Bounds.{RowFine}
use Rattle.theory.specs.Full.{Fine}
use Rattle.theory.specs.Order.{NotOver, not_over_heavier, not_over_weight, heavier_no}
use Rattle.theory.specs.Keys.{getD_in, tickets_less}
use Rattle.theory.specs.Index.{each_row}
use Rattle.theory.specs.Members.{RowsOfPlan, not_found, of_rows_fine}
use Rattle.theory.specs.Score.{score_of}
use Rattle.theory.specs.Substitute.{later_none, score_none}
use Rattle.theory.specs.Best.{heaviest_beats, earlier_beats}
use Rattle.theory.specs.Near.{Near}
use Rattle.theory.specs.Segments.{Segment, first_segment, segment_beats, segment_score_first, segment_mark}
use Rattle.theory.specs.Lead.{Leads}
use Rattle.round.specs.Rows.{at}
use Rattle.keys.proofs.KeyLaws.{rank_less, rank_same}
use Rattle.passes.specs.Best.{Behind, IsRow, Heaviest, Least}
use Rattle.passes.specs.declared.best.Best.{Best}
use Rattle.whole.specs.Whole.{LightestBy}

-- A ROW FOUND is one that no other is heavier than
behind_weight : (r : Round) (j : ℕ) (b : Best) → Behind r j b → (at r j).weight ≤ b.weight
behind_weight r j b (inl y) = omega arith
behind_weight r j b (inr y) = omega (arith, y.0)

pub fine_at : (r : Round) → Fine r → (i : ℕ) → i < length r.rows → RowFine r (at r i)
fine_at r f i h = all_in (RowFine r) (at r i) r.rows f.fine (getD_in r.rows (blank 0) i h)

pub some_row : (r : Round) → Fine r → (e : ℕ) (b : Best) → Heaviest r 0 e b → (j : ℕ) → j < length r.rows → (at r j).due ≤ e → IsRow r 0 e b
some_row r f e b g j h d = g.some (omega (arith, behind_weight r j b (g.most j (omega arith) h d), (fine_at r f j h).some))

pub none_heavier : (r : Round) → Fine r → (e : ℕ) (b : Best) → Heaviest r 0 e b → IsRow r 0 e b → (q : Row) → In q r.rows →
    q.due ≤ e → heavier q (at r b.row) ≡ false
none_heavier r f e b g s =
    each_row (λ q. q.due ≤ e → heavier q (at r b.row) ≡ false) (blank 0) r.rows
    (λ j l u. not_over_heavier (at r j) (at r b.row) (over j l (g.most j (omega arith) l u)))
  where
    ticket_by : (j : ℕ) → j < length r.rows → b.row ≤ j → (at r b.row).ticket ≤ (at r j).ticket
    ticket_by j l h = elim (eqb? b.row j) [
      | inl e ↦ omega (arith, ap (λ (n : ℕ). (at r n).ticket) e.1)
      | inr e ↦ let d = e.1 in omega (arith, tickets_less 1 r.next r.rows (blank 0) b.row j f.rising (omega arith) l)
    ]

    class_by : (j : ℕ) → j < length r.rows → (at r j).tail.class ≤ 3
    class_by j l = (fine_at r f j l).class

    best_class : (at r b.row).tail.class ≤ 3
    best_class = class_by b.row s.below

    over : (j : ℕ) → j < length r.rows → Behind r j b → NotOver (at r j) (at r b.row)
    over j l (inl y) = inl (omega (arith, s.weight))
    over j l (inr (y, inl v)) =
        elim (rank_less (at r b.row).due (at r b.row).tail.class (at r j).due (at r j).tail.class (class_by j l) (omega (arith, v, s.rank))) [
          | inl z ↦ inr (omega (arith, y, s.weight), inl z)
          | inr z ↦ inr (omega (arith, y, s.weight), inr (sym z.0, inl z.1))
        ]
    over j l (inr (y, inr v)) =
        let z = rank_same (at r j).due (at r j).tail.class (at r b.row).due (at r b.row).tail.class (class_by j l) best_class
        (omega (arith, v.0, s.rank)) in
        inr (omega (arith, y, s.weight), inr (z.0, inr (z.1, ticket_by j l v.1)))

pub some_least : (r : Round) → Fine r → (e m : ℕ) → Least r 0 e m → (j : ℕ) → j < length r.rows → (at r j).due ≤ e → LightestBy r e m
some_least r f e m g j h d = elim (ltb? m 16777216) [
  | inl a ↦
      let w = g.some a.1 in
      record {
        row = w.row;
        below = w.below;
        by = w.by;
        least = λ i l u. omega (arith, w.is, g.least i (omega arith) l u);
        weight = w.is;
      }
  | inr a ↦
      let y : (at r j).weight ≡ m = omega (arith, a.1, g.least j (omega arith) h d, (fine_at r f j h).most) in
      record {
        row = j;
        below = h;
        by = d;
        least = λ i l u. omega (arith, y, g.least i (omega arith) l u);
        weight = y;
      }
]

-- PAST THE FIRST SEGMENT, which ends at slot e
module _ (r : Round) (f : Fine r) (o : r.slot ≤ r.last) (c : RowsOfPlan r r.rows) (z : ℕ) (k : Near r z) (e : ℕ) (n : e < z)
    (s : Segment r r.rows r.slot e) where
  pub blank_past : (q : Row) → In q r.rows → e < q.due → substitute r (plan r) q ≡ blank (segment_start r (plan r) q.due)
  blank_past q i d =
      later_none r f r.rows c q (omega (arith, first_segment r f o r.rows c z k r.slot e n s refl, d))
      (λ y j u. absurd (not_found r f r.rows c y j u j))

  weightless : (q : Row) → In q r.rows → e < q.due → (substitute r (plan r) q).weight ≡ 0
  weightless q i d =
      ap (λ (v : Row). v.weight) (blank_past q i d) ∙ blank_weight (blank (segment_start r (plan r) q.due)) (blank_is (segment_start r (plan r) q.due))

  pub score_past : (q : Row) → In q r.rows → e < q.due → score_of r q ≡ q.weight * 39088169
  score_past q i d = score_none r f r.rows c q (segment_start r (plan r) q.due) (blank_past q i d)

  pub score_first : (p : Row) → In p r.rows → p.due ≤ e → (m : ℕ) → LightestBy r e m → score_of r p ≡ p.weight * 39088169 + m * 63245986
  score_first p i d m l =
      omega (
        arith,
        segment_score_first r f o r.rows c z k r.slot e n s refl p i d,
        segment_mark r f o r.rows c z k r.slot e n s r.slot (omega arith) s.by (at r l.row)
            (getD_in r.rows (blank 0) l.row l.below) l.by
            (each_row (λ y. y.due ≤ e → (at r l.row).weight ≤ y.weight) (blank 0) r.rows l.least),
        l.weight,
      )

  due_from : (q : Row) → In q r.rows → r.slot ≤ q.due
  due_from q i = (of_rows_fine r f r.rows c q i).due_from

  -- a row of the first segment leads if none of it is heavier and no later row's score is greater
  pub first_leads : (p : Row) → In p r.rows → p.due ≤ e → ((q : Row) → In q r.rows → q.due ≤ e → heavier q p ≡ false) →
      ((q : Row) → In q r.rows → e < q.due → score_of r q ≤ score_of r p) → Leads r r.rows r.slot p
  first_leads p i d h g =
      record {
        inside = i;
        from = due_from p i;
        ahead = λ q j a. elim (leb? q.due e) [
          | inl u ↦ segment_beats r f o r.rows c z k r.slot e n s p q i j (due_from p i) d a u.1 (h q j u.1)
          | inr u ↦ earlier_beats r f o r.rows c p q (omega (arith, d, u.1)) (g q j u.1)
        ];
      }

  -- so the heaviest of all, if it is in it: its substitute weighs something
  pub best_leads : (p : Row) → In p r.rows → p.due ≤ e → ((q : Row) → In q r.rows → heavier q p ≡ false) → Leads r r.rows r.slot p
  best_leads p i d h =
      first_leads p i d (λ q j _. h q j)
      (λ q j u. omega (
        arith,
        score_past q j u,
        segment_score_first r f o r.rows c z k r.slot e n s refl p i d,
        not_over_weight q p (heavier_no q p (h q j)),
      ))

  -- the heaviest of all, past it: against the first segment's heaviest, m, and its lightest weight, l
  module _ (p m : Row) (l : ℕ) (i : In p r.rows) (d : e < p.due) (h : (q : Row) → In q r.rows → heavier q p ≡ false) (j : In m r.rows)
      (a : m.due ≤ e) (g : (q : Row) → In q r.rows → q.due ≤ e → heavier q m ≡ false) (y : LightestBy r e l) where
    pub other_leads : p.weight * 39088169 ≤ m.weight * 39088169 + l * 63245986 → Leads r r.rows r.slot m
    other_leads u =
        first_leads m j a g
        (λ q v w. omega (arith, u, score_past q v w, score_first m j a l y, not_over_weight q p (heavier_no q p (h q v))))

    pub past_leads : m.weight * 39088169 + l * 63245986 < p.weight * 39088169 → Leads r r.rows r.slot p
    past_leads u =
        record {
          inside = i;
          from = due_from p i;
          ahead = λ q v w. elim (leb? q.due e) [
            | inl b ↦ inl (omega (
              arith,
              u,
              score_past p i d,
              score_first q v b.1 l y,
              not_over_weight q m (heavier_no q m (g q v b.1)),
            ))
            | inr b ↦ heaviest_beats r f o r.rows c p q (omega (arith, weightless q v b.1, weightless p i d)) (h q v)
          ];
        }
