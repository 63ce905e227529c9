-- An ordinary step leaves rows that fill as far; members between two tight slots: best_in, between_count, next_by, ordinary_fills.
use Rattle.std.specs.Prelude.{◌≡◌, refl, ◌⊎◌, true, false, ◌&&◌, not, cond, List, [], ◌∷◌, ℕ, zero, suc, ◌+◌, ◌-◌, ◌≤◌, ◌<◌, ltb, leb, length}
use Rattle.std.proofs.Common.{sym, ◌∙◌, inl, inr, true≢false, arith, lt-ltb, le-leb, ltb-true, leb-true}
use Rattle.rules.specs.Rows.{Row, Round, heavier, All, In}
use Rattle.rules.specs.Plan.{plan, in_plan, first_end, heaviest_outside, sends_before, best_from, best}
use Rattle.rules.specs.Steps.{without, heaviest_between}
use Rattle.rules.specs.PlanM.{Member}
use Rattle.theory.specs.Tests.{either, leb?, ltb?, and_true, not_true', both_ways, one_if}
use Rattle.theory.specs.Sum.{sum}
use Rattle.theory.specs.All.{blank_ticket, all_of_in}
use Rattle.theory.specs.Feas.{num, below_yes, below_late}
use Rattle.theory.specs.Full.{plan_member, Fine, plan_feas, plan_full}
use Rattle.theory.specs.Marks.{TightIn, NextTight, next, box, box?, rows_fill, MarkAtLeast}
use Rattle.theory.specs.Change.{without_sum, rising_first, without_none}

-- choices from a list
pub best_from_in : (r : Round) (ps xs : List Row) (b : Row) (all : List Row) → In b all → All (λ x. In x all) xs → In (best_from r ps xs b) all
unfolding best_from
best_from_in r ps [] b all i a = i
best_from_in r ps (x ∷ xs) b all i a =
    elim (either (sends_before r ps x b)) [
      | inl h ↦ rw h (best_from_in r ps xs x all a.0 a.1)
      | inr h ↦ rw h (best_from_in r ps xs b all i a.1)
    ]

pub best_in : (r : Round) (ps : List Row) → 1 ≤ length ps → In (best r ps) ps
unfolding best
best_in r [] h = absurd (omega arith)
best_in r (p ∷ ps) h = best_from_in r (p ∷ ps) ps p (p ∷ ps) (inl refl) (all_of_in (λ x. In x (p ∷ ps)) ps (λ x i. inr i))

-- a substitute is a blank at the segment's start, or a row outside the plan due from there on
abbrev pub WaitsOutside : Round → List Row → ℕ → List Row → Row → Row → Type 0
WaitsOutside r ps a all b x = (x ≡ b) ⊎ ((In x all) × (a ≤ x.due) × (in_plan x ps ≡ false))

pub outside_in : (r : Round) (ps : List Row) (a : ℕ) (all : List Row) (b : Row) (xs : List Row) (x : Row) → WaitsOutside r ps a all b x →
    All (λ y. In y all) xs → WaitsOutside r ps a all b (heaviest_outside a xs ps x)
unfolding heaviest_outside
outside_in r ps a all b [] x s h = s
outside_in r ps a all b (y ∷ ys) x s h =
    outside_in r ps a all b ys (cond (leb a y.due && (not (in_plan y ps) && heavier y x)) y x)
    (both_ways (WaitsOutside r ps a all b) (leb a y.due && (not (in_plan y ps) && heavier y x)) y x
    (λ e.
    let c = and_true (leb a y.due) (not (in_plan y ps) && heavier y x) e in
    let d = and_true (not (in_plan y ps)) (heavier y x) c.1 in
    inr (h.0, leb-true a y.due c.0, not_true' (in_plan y ps) d.0))
    (λ _. s))
    h.1

-- the heaviest between two slots is a member between them, where a member of some weight is there
abbrev pub MemberBetween : ℕ → ℕ → List Row → Row → Type 0
MemberBetween a b ps x = (In x ps) × (a < x.due) × (x.due ≤ b)

pub between_true : (a b : ℕ) (y x : Row) (all : List Row) → In y all → ((ltb a y.due && leb y.due b) && heavier y x) ≡ true →
    MemberBetween a b all y
between_true a b y x all i e =
    let c = and_true (ltb a y.due && leb y.due b) (heavier y x) e in
    let d = and_true (ltb a y.due) (leb y.due b) c.0 in
    (i, ltb-true a y.due d.0, leb-true y.due b d.1)

pub between_keeps : (a b : ℕ) (all xs : List Row) (x : Row) → MemberBetween a b all x → All (λ y. In y all) xs → MemberBetween a b all (heaviest_between a b xs x)
unfolding heaviest_between
between_keeps a b all [] x s h = s
between_keeps a b all (y ∷ ys) x s h =
    between_keeps a b all ys (cond ((ltb a y.due && leb y.due b) && heavier y x) y x)
    (both_ways (MemberBetween a b all) ((ltb a y.due && leb y.due b) && heavier y x) y x
    (λ e. between_true a b y x all h.0 e) (λ _. s))
    h.1

pub heavier_blank : (y x : Row) → 1 ≤ y.weight → x.weight ≤ 0 → heavier y x ≡ true
unfolding heavier
heavier_blank y x h k = rw (lt-ltb x.weight y.weight (omega arith))

pub between_test : (a b : ℕ) (z x : Row) → a < z.due → z.due ≤ b → 1 ≤ z.weight → x.weight ≤ 0 →
    ((ltb a z.due && leb z.due b) && heavier z x) ≡ true
between_test a b z x h k m l = rw (lt-ltb a z.due h, le-leb z.due b k) (heavier_blank z x m l)

pub between_finds : (a b : ℕ) (all xs : List Row) (x : Row) → x.weight ≤ 0 → All (λ y. In y all) xs →
    All (λ y. y.due ≤ b → 1 ≤ y.weight) xs → (y : Row) → In y xs → a < y.due → y.due ≤ b → MemberBetween a b all (heaviest_between a b xs x)
unfolding heaviest_between
between_finds a b all [] x l h k y i c d = absurd i
between_finds a b all (z ∷ zs) x l h k y (inl q) c d =
    between_keeps a b all zs (cond ((ltb a z.due && leb z.due b) && heavier z x) z x)
    (both_ways (MemberBetween a b all) ((ltb a z.due && leb z.due b) && heavier z x) z x (λ e. between_true a b z x all h.0 e)
    (λ e. absurd (true≢false (sym (between_test a b z x (rw q at c) (rw q at d) (k.0 (rw q at d)) l) ∙ e))))
    h.1
between_finds a b all (z ∷ zs) x l h k y (inr j) c d =
    both_ways (λ u. MemberBetween a b all (heaviest_between a b zs u)) ((ltb a z.due && leb z.due b) && heavier z x) z x
    (λ e. between_keeps a b all zs z (between_true a b z x all h.0 e) h.1)
    (λ _. between_finds a b all zs x l h.1 k.1 y j c d)

-- a count that grows between two slots has a row there
pub between_count : (v e : ℕ) (xs : List Row) → num 0 v xs < num 0 e xs → (y : Row) × (In y xs) × (v ≤ y.due) × (y.due < e)
between_count v e [] h = absurd (omega arith)
between_count v e (x ∷ xs) h =
    elim (ltb? x.due e) [
      | inl a ↦ elim (leb? v x.due) [
        | inl b ↦ (x, inl refl, b.1, a.1)
        | inr b ↦ let z = between_count v e xs (omega (arith, below_yes 0 v x (omega arith) b.1, below_yes 0 e x (omega arith) a.1)) in
            (z.0, inr z.1, z.2, z.3)
      ]
      | inr a ↦ let z = between_count v e xs (omega (arith, below_late 0 e x a.1)) in (z.0, inr z.1, z.2, z.3)
    ]

-- tight slots
pub next_by : (r : Round) (ps : List Row) (s e u : ℕ) → NextTight r ps s e → s ≤ u → TightIn r ps u → e ≤ u
next_by r ps s e u n h t = elim (leb? e u) [ inl a ↦ a.1 | inr a ↦ absurd (n.first u h a.1 t) ]

-- 1 for a slot from v on and before e
unfoldable pub point : (v e u : ℕ) → ℕ
point v e u = one_if (leb v u && ltb u e)

pub point? : (v e u : ℕ) → ((point v e u ≡ 1) × (v ≤ u) × (u < e)) ⊎ ((point v e u ≡ 0) × (u < v)) ⊎ ((point v e u ≡ 0) × (e ≤ u))
unfolding point
point? v e u =
    elim (leb? v u) [
      | inl h ↦ elim (ltb? u e) [ inl k ↦ inl (rw (h.0, k.0), h.1, k.1) | inr k ↦ inr (inr (rw (h.0, k.0), k.1)) ]
      | inr h ↦ inr (inl (rw h.0, h.1))
    ]

pub point_yes : (v e u : ℕ) → v ≤ u → u < e → point v e u ≡ 1
point_yes v e u h k = elim (point? v e u) [ inl a ↦ a.0 | inr (inl a) ↦ omega arith | inr (inr a) ↦ omega arith ]

-- the rows that are gone or changed
pub gone : (r : Round) → Fine r → (μ : Row → ℕ) (p : Row) → Member r p → sum μ r.rows ≤ sum μ (without p.ticket r.rows) + μ p
gone r g μ p (inr b) = rw (blank_ticket p b.0, without_none 1 r.next 0 r.rows (omega arith) g.rising) (omega arith)
gone r g μ p (inl i) = omega (arith, without_sum μ p r.rows (rising_first 1 r.next p r.rows g.rising i))

-- AN ORDINARY STEP
pub ordinary_fills : (r : Round) → Fine r → r.slot ≤ r.last → (p : Row) → In p (plan r) → p.due ≤ first_end r (plan r) →
    (w d e : ℕ) → MarkAtLeast r w d e → (v : ℕ) → suc r.slot ≤ v → v ≤ suc e →
    suc e - v ≤ sum (box w v (suc e)) (without p.ticket r.rows)
unfolding first_end
ordinary_fills r g o p i a w d e m zero h k = omega arith
ordinary_fills r g o p i a w d e m (suc u) h k =
    let gn = gone r g (box w (suc u) (suc e)) p (plan_member r p i) in
    let n = next r (plan r) r.slot o (plan_full r g) in
    let f : num 0 (suc u) (plan r) ≤ suc u - r.slot = plan_feas r g (suc u) (omega arith) (omega (arith, m.next.by)) in
    elim (box? w (suc u) (suc e) p k) [
      | inl b ↦
          let t : num 0 (suc u) (plan r) + 1 ≤ suc u - r.slot = elim (leb? (num 0 (suc u) (plan r) + 1) (suc u - r.slot)) [
            | inl c ↦ c.1
            | inr c ↦ absurd (n.first u (omega arith) (omega arith) (omega arith))
          ] in
          omega (arith, rows_fill r g w (suc e) (suc u) 1 m.some (omega arith) k m.full t)
      | inr b ↦ omega (arith, rows_fill r g w (suc e) (suc u) 0 m.some (omega arith) k m.full (omega arith))
    ]
