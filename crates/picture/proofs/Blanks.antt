-- A segment's members by its rows alone: its blanks are due in its first slot, and it has one where fewer rows are due in it than it has slots. Assumes nothing.
use Rattle.std.specs.Prelude.{◌≡◌, refl, List, [], ◌∷◌, ℕ, suc, ◌+◌, ◌≤◌, ◌<◌}
use Rattle.std.proofs.Common.{sym, ap, ◌∙◌, subst, inl, inr, arith}
use Rattle.rules.specs.Rows.{Row, Round, blank, In}
use Rattle.rules.specs.Plan.{plan}
use Rattle.theory.specs.Tests.{leb?, ltb?, eqb?}
use Rattle.theory.specs.Sum.{sum}
use Rattle.theory.specs.All.{IsBlank, blank_ticket, blank_weight, blank_is, due_of_blank}
use Rattle.theory.specs.Order.{NotOver, not_over_self}
use Rattle.theory.specs.Feas.{below, below_yes, below_late, below_mono}
use Rattle.theory.specs.Full.{Fine}
use Rattle.theory.specs.Send.{between_count}
use Rattle.theory.specs.Times.{sum_less}
use Rattle.theory.specs.Slack.{of_blanks, idle_le, idlers, rows_num}
use Rattle.theory.specs.Members.{RowsOfPlan, of_rows_ticket, of_rows_fine, found_member, member?}
use Rattle.theory.specs.Substitute.{idle_blank, idlers_level}
use Rattle.picture.specs.Picture.{Spans, Heaviest, Lightest, Within}
use Rattle.picture.proofs.Places.{ends_at}
use Rattle.picture.specs.Blanks.{Filled, Open, Top, Own}

-- a blank that counts is somewhere
pub idle_none : (μ : Row → ℕ) (x : Row) → (x.ticket ≡ 0 → ⊥) → of_blanks μ x ≡ 0
unfolding of_blanks
idle_none μ x n = elim (eqb? x.ticket 0) [ inl a ↦ absurd (n a.1) | inr a ↦ rw a.0 ]

pub between_blank : (v e : ℕ) (xs : List Row) → sum (of_blanks (below 0 v)) xs < sum (of_blanks (below 0 e)) xs →
    (y : Row) × (In y xs) × (y.ticket ≡ 0) × (v ≤ y.due) × (y.due < e)
between_blank v e [] h = absurd (omega arith)
between_blank v e (x ∷ xs) h = elim (eqb? x.ticket 0) [
  | inl t ↦ elim (ltb? x.due e) [
    | inl a ↦ elim (leb? v x.due) [
      | inl b ↦ (x, inl refl, t.1, b.1, a.1)
      | inr b ↦ later (between_blank v e xs (omega (
        arith,
        idle_blank (below 0 v) x t.1,
        idle_blank (below 0 e) x t.1,
        below_yes 0 v x (omega arith) b.1,
        below_yes 0 e x (omega arith) a.1,
      )))
    ]
    | inr a ↦ later (between_blank v e xs (omega (arith, idle_blank (below 0 e) x t.1, below_late 0 e x a.1)))
  ]
  | inr t ↦ later (between_blank v e xs (omega (arith, idle_none (below 0 v) x t.1, idle_none (below 0 e) x t.1)))
]
  where
    later : (y : Row) × (In y xs) × (y.ticket ≡ 0) × (v ≤ y.due) × (y.due < e) →
        (y : Row) × (In y (x ∷ xs)) × (y.ticket ≡ 0) × (v ≤ y.due) × (y.due < e)
    later q = (q.0, inr q.1, q.2, q.3, q.4)

pub blank_grows : (v e : ℕ) (x : Row) (xs : List Row) → In x xs → IsBlank x → v ≤ x.due → x.due < e →
    sum (of_blanks (below 0 v)) xs < sum (of_blanks (below 0 e)) xs
blank_grows v e x xs i b h k =
    let one : of_blanks (below 0 v) x + 1 ≤ of_blanks (below 0 e) x = omega (
      arith,
      idle_blank (below 0 v) x (blank_ticket x b),
      idle_blank (below 0 e) x (blank_ticket x b),
      below_late 0 v x h,
      below_yes 0 e x (omega arith) k,
    ) in
    omega (arith, sum_less (of_blanks (below 0 v)) (of_blanks (below 0 e)) (idle_le (below 0 v) (below 0 e) (below_mono 0 v e (omega arith))) x one xs i)

module _ (r : Round) (f : Fine r) (rs : List Row) (c : RowsOfPlan r rs) (b e : ℕ) (s : Spans r b e) where
  -- ITS BLANKS are due in its first slot
  pub blank_first : (x : Row) → In x (plan r) → IsBlank x → b ≤ x.due → x.due ≤ e → x ≡ blank b
  blank_first x i n h k =
      let q = ends_at r f b e s b (omega arith) s.by in
      elim (ltb? b x.due) [
        | inl a ↦ absurd (omega (
          arith,
          idlers_level r f rs c b s.from (omega (arith, s.by, s.ahead)),
          ap (λ v. idlers r (suc v)) q,
          blank_grows (suc b) (suc e) x (plan r) i n a.1 (omega (arith, k)),
        ))
        | inr a ↦ let d : x.due ≡ b = omega (arith, a.1, h) in n ∙ ap blank d
      ]

  -- THE HEAVIEST
  pub top_right : (x : Row) → Top rs b e x → Heaviest (Within (plan r) b e) x
  top_right x (inl t) =
      record {
        of = (found_member r f rs c x t.of.0, t.of.1, t.of.2);
        most = λ y i. elim (member? r f rs c y i.0) [
          | inl n ↦ inl (omega (arith, blank_weight y n, (of_rows_fine r f rs c x t.of.0).some))
          | inr j ↦ t.most y (j, i.1, i.2)
        ];
      }
  top_right x (inr (q, none)) =
      let is : (y : Row) → Within (plan r) b e y → y ≡ x = λ y i. elim (member? r f rs c y i.0) [
        | inl n ↦ blank_first y i.0 n i.1 i.2 ∙ sym q
        | inr j ↦ absurd (none y (j, i.1, i.2))
      ] in
      let y = between_count b (suc e) (plan r) (omega (arith, s.edge, s.tight, s.from, s.by)) in
      let i : Within (plan r) b e y.0 = (y.1, y.2, omega (arith, y.3)) in
      record {
        of = subst (λ (v : Row). Within (plan r) b e v) (is y.0 i) i;
        most = λ z j. subst (λ (v : Row). NotOver v x) (sym (is z j)) (not_over_self x);
      }

  -- A BLANK where fewer rows are due in it than it has slots, and only there
  pub blank_in : Open rs b e → In (blank b) (plan r)
  blank_in n =
      let y = between_blank b (suc e) (plan r) (omega (
        arith,
        n,
        s.edge,
        s.tight,
        s.from,
        s.by,
        rows_num r f rs c.same 0 b,
        rows_num r f rs c.same 0 (suc e),
      )) in
      here y.0 y.1 y.2 y.3 (omega (arith, y.4))
    where
      here : (y : Row) → In y (plan r) → y.ticket ≡ 0 → b ≤ y.due → y.due ≤ e → In (blank b) (plan r)
      here y i t h k = elim (member? r f rs c y i) [
        | inl a ↦ subst (λ (v : Row). In v (plan r)) (blank_first y i a h k) i
        | inr j ↦ absurd (omega (arith, t, of_rows_ticket r f rs c y j))
      ]

  pub row_in : Filled rs b e → (x : Row) → Within (plan r) b e x → In x rs
  row_in n x i = elim (member? r f rs c x i.0) [
    | inl a ↦ absurd (omega (
      arith,
      n,
      s.edge,
      s.tight,
      s.from,
      s.by,
      rows_num r f rs c.same 0 b,
      rows_num r f rs c.same 0 (suc e),
      blank_grows b (suc e) x (plan r) i.0 a i.1 (omega (arith, i.2)),
    ))
    | inr j ↦ j
  ]

  -- ITS OWN LIGHTEST
  pub own_right : (x : Row) → Own rs b e x → Lightest (Within (plan r) b e) x
  own_right x (inl (n, l)) =
      record {
        of = (found_member r f rs c x l.of.0, l.of.1, l.of.2);
        least = λ y i. l.least y (row_in n y i, i.1, i.2);
      }
  own_right x (inr (n, q)) =
      subst (λ (v : Row). Lightest (Within (plan r) b e) v) (sym q) (record {
        of = (blank_in n, omega (arith, due_of_blank b), omega (arith, due_of_blank b, s.by));
        least = λ z j. elim (member? r f rs c z j.0) [
          | inl m ↦ subst (λ (v : Row). NotOver (blank b) v) (sym (blank_first z j.0 m j.1 j.2)) (not_over_self (blank b))
          | inr m ↦ inl (omega (arith, blank_weight (blank b) (blank_is b), (of_rows_fine r f rs c z m).some))
        ];
      })
