-- Which member goes, by weight × F(38) + weight of the substitute × F(39), then canonically: score_of, plan_bounded, sends_by_score.
use Rattle.std.specs.Prelude.{◌≡◌, Bool, ◌&&◌, ◌||◌, not, ℕ, suc, ◌≤◌, ◌<◌, ltb, leb, eqb}
use Rattle.std.proofs.Common.{ap₂, ◌∙◌, inl, inr, arith, eq-eqb, ne_eqb}
use Rattle.rules.specs.Rows.{Row, Round, blank, canonical, All, In}
use Rattle.rules.specs.Plan.{plan, first_end, segment_start, substitute, sends_before}
use Rattle.rules.specs.PlanM.{score}
use Rattle.theory.specs.Tests.{ltb?, both_ways}
use Rattle.theory.specs.All.{all_map, all_in}
use Rattle.theory.specs.Bounds.{RowFine}
use Rattle.theory.specs.Full.{Fine}
use Rattle.theory.specs.Totals.{plan_weights}
use Rattle.theory.specs.Back.{lightest_all, outside_all}
use Rattle.theory.specs.Golden.{golden_score}

abbrev pub Bounded : Row → Type 0
Bounded x = x.weight ≤ 16777216

pub plan_bounded : (r : Round) → Fine r → All Bounded (plan r)
plan_bounded r f =
    all_map {Q = Bounded} (λ x (h : (x.weight ≤ 16777216) × (x.due < suc r.last)). h.0) (plan r) (plan_weights r f)

pub blank_bounded : (s : ℕ) → Bounded (blank s)
unfolding blank
blank_bounded s = omega arith

pub substitute_bounded : (r : Round) → Fine r → (p : Row) → Bounded p → Bounded (substitute r (plan r) p)
unfolding substitute
substitute_bounded r f p h =
    both_ways Bounded (leb p.due (first_end r (plan r))) _ _ (λ _. lightest_all Bounded (first_end r (plan r)) (plan r) p h (plan_bounded r f))
    (λ _. outside_all Bounded (segment_start r (plan r) p.due) (plan r) r.rows (blank (segment_start r (plan r) p.due)) (blank_bounded _)
    (all_map {Q = Bounded} (λ x (k : RowFine r x). k.most) r.rows f.fine))

-- THE SCORE of a plan member; it fits 51 bits
unfoldable pub score_of : Round → Row → ℕ
score_of r p = score p.weight (substitute r (plan r) p).weight

pub before_equal : (x y : ℕ) (c : Bool) → (ltb y x || (not (ltb x y) && c)) ≡ (ltb y x || (eqb x y && c))
before_equal x y c = elim (ltb? y x) [
  | inl a ↦ rw a.0
  | inr a ↦ elim (ltb? x y) [
    | inl b ↦ rw (a.0, b.0, ne_eqb x y (λ e. omega (arith, b.1, e)))
    | inr b ↦ rw (a.0, b.0, eq-eqb x y (omega (arith, a.1, b.1)))
  ]
]

pub sends_by_score : (r : Round) → Fine r → (p q : Row) → In p (plan r) → In q (plan r) →
    sends_before r (plan r) p q ≡ (ltb (score_of r q) (score_of r p) || (eqb (score_of r p) (score_of r q) && canonical p q))
unfolding sends_before score_of
sends_by_score r f p q i j =
    let v = (substitute r (plan r) p).weight in
    let w = (substitute r (plan r) q).weight in
    let a = substitute_bounded r f p (all_in Bounded p (plan r) (plan_bounded r f) i) in
    let b = substitute_bounded r f q (all_in Bounded q (plan r) (plan_bounded r f) j) in
    ap₂ (λ (x : Bool) (y : Bool). x || (not y && canonical p q)) (golden_score p.weight v q.weight w a b) (golden_score q.weight w p.weight v b a)
    ∙ before_equal (score p.weight v) (score q.weight w) (canonical p q)
