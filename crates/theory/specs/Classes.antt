-- L2: total and marks are those of the old order; in one class the finer order is the old one: old_order, one_class.
use Rattle.std.specs.Prelude.{◌≡◌, ℕ, ◌≤◌}
use Rattle.std.proofs.Math.Path.{refl, sym, ap}
use Rattle.std.proofs.Common.{◌∙◌, inl, inr, arith, lt-ltb, le-ltb, ne_eqb, eq-eqb}
use Rattle.std.proofs.Math.Bool.{cond}
use mathlib.Core.List.{List, [], ◌∷◌, ◌++◌}
use Rattle.rules.specs.Rows.{Row, Round, heavier, old_heavier, into, sorted, All}
use Rattle.rules.specs.Plan.{kept, plan, plan_by, total, mark}
use Rattle.rules.specs.Table.{table, round_in, table_refusal}
use Rattle.rules.specs.Calls.{Question, marking, totalling, asking, refused, amount, answer}
use Rattle.rules.specs.Classes.{old_total, old_mark, OldOrder, OneClass}
use Rattle.theory.specs.Tests.{eqb?}
use Rattle.theory.specs.All.{all_sorted}
use Rattle.theory.specs.Full.{Fine, blanks, LargerFirst, heavier_first, outside_by}
use Rattle.theory.specs.Alike.{greedy_by, totals_alike, marks_alike}
use Rattle.theory.specs.Calls.{marks_ahead}
use Rattle.theory.specs.Sane.{StandsFor, sound, good_fine}
use Rattle.theory.specs.Outcomes.{says_refused, question_judges, by_table}
use Rattle.theory.specs.Replies.{mark_answered, total_answered}

-- the old order puts the larger weight first, too
pub old_first : LargerFirst old_heavier
unfolding LargerFirst old_heavier
old_first a b h =
    (rw (lt-ltb b.weight a.weight h), rw (le-ltb a.weight b.weight (omega arith), ne_eqb b.weight a.weight (λ e. omega arith)))

-- OF A ROUND
module _ (r : Round) (f : Fine r) where
  pub total_old : total r ≡ old_total r
  unfolding total plan
  total_old =
      totals_alike r (plan_by heavier r) (outside_by heavier r) (plan_by old_heavier r) (outside_by old_heavier r) (greedy_by heavier heavier_first r f)
      (greedy_by old_heavier old_first r f)

  pub mark_old : (s : ℕ) → r.slot ≤ s → s ≤ r.last → mark r s ≡ old_mark r s
  unfolding mark plan
  mark_old =
      marks_alike r (plan_by heavier r) (outside_by heavier r) (plan_by old_heavier r) (outside_by old_heavier r) (greedy_by heavier heavier_first r f)
      (greedy_by old_heavier old_first r f)

-- AS ANSWERED: a table that is not refused is its round's
module _ (t : List ℕ) (n : ℕ) (q : Question) (a : answer (asking q) t ≡ amount n) where
  accepted : table_refusal t ≡ 0
  accepted = elim (eqb? (table_refusal t) 0) [
    | inl h ↦ h.1
    | inr h ↦
        let e = by_table (asking q) t (table_refusal t) (question_judges q) refl h.1 in
        let b : refused (table_refusal t) ≡ amount n = (says_refused (asking q) t (table_refusal t) e h.1).0 ∙ a in
        let z : ◌≡◌ {A = ℕ} 0 1 = cc in absurd (omega arith)
  ]

  stands : StandsFor t
  stands = sound t accepted

  on_table : answer (asking q) (table (round_in t)) ≡ amount n
  on_table = ap (answer (asking q)) stands.bytes ∙ a

pub old_order : OldOrder
unfolding OldOrder
old_order = (
  λ r e. (total_old r (good_fine r e), mark_old r (good_fine r e)),
  λ t n a.
      let s = (stands t n totalling a).sane in
      sym (total_answered (round_in t) s n (on_table t n totalling a)) ∙ total_old (round_in t) s.fine,
  λ t u n a.
      let s = (stands t n (marking u) a).sane in
      let m = mark_answered (round_in t) s u n (on_table t n (marking u) a) in
      let h = marks_ahead (round_in t) u m.0 in
      sym m.1 ∙ mark_old (round_in t) s.fine u h.0 h.1,
)

-- ROWS OF ONE CLASS: ties are by ticket in both orders
pub same_class : (a b : Row) → a.tail.class ≡ b.tail.class → heavier a b ≡ old_heavier a b
unfolding heavier old_heavier
same_class a b e = rw (le-ltb a.tail.class b.tail.class (omega (arith, e)), eq-eqb a.tail.class b.tail.class e)

-- so sorting is the same
module _ (c : ℕ) where
  abbrev OfClass : Row → Type 0
  OfClass x = x.tail.class ≡ c

  same_into : (x : Row) (ys : List Row) → OfClass x → All OfClass ys → into heavier x ys ≡ into old_heavier x ys
  unfolding into
  same_into x [] e a = refl
  same_into x (y ∷ ys) e a =
      rw (same_class x y (e ∙ sym a.0)) (ap (λ (zs : List Row). cond (old_heavier x y) (x ∷ y ∷ ys) (y ∷ zs)) (same_into x ys e a.1))

  same_sorted : (xs : List Row) → All OfClass xs → sorted heavier xs ≡ sorted old_heavier xs
  unfolding sorted
  same_sorted [] a = refl
  same_sorted (x ∷ xs) a =
      same_into x (sorted heavier xs) a.0 (all_sorted OfClass heavier xs a.1) ∙ ap (into old_heavier x) (same_sorted xs a.1)

pub one_class : OneClass
unfolding OneClass plan
one_class = (same_class, λ r c a. ap (λ (xs : List Row). kept r (xs ++ blanks r) []) (same_sorted c r.rows a))
