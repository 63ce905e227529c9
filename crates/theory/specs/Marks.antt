-- Tight slots, segments and marks; no mark sinks where the rows after fill as far: next, start, box, mark_above, marked, mark_stays.
use Rattle.std.specs.Prelude.{◌≡◌, refl, ◌⊎◌, true, false, List, [], ◌∷◌, ℕ, zero, suc, ◌+◌, ◌-◌, ◌≤◌, ◌<◌, min}
use Rattle.std.proofs.Common.{inl, inr, sym, subst, arith}
use Rattle.rules.specs.Rows.{Row, Round, All, In}
use Rattle.rules.specs.Plan.{due_by, plan, tight, tight_from, tight_after, segment_from, segment_start, least_weight, mark_in, mark}
use Rattle.theory.specs.Tests.{leb?, ltb?, eqb?}
use Rattle.theory.specs.Sum.{sum, sum_le}
use Rattle.theory.specs.All.{all_map}
use Rattle.theory.specs.Feas.{below, below?, num, below_yes, below_late, below_mono, below_weight, num_weight, num_early, due_below, Feas}
use Rattle.theory.specs.Full.{Fine, outside, plan_feas, plan_edge, plan_sum, no_blanks, plan_full}

abbrev pub TightIn : Round → List Row → ℕ → Type 0
TightIn r ps s = num 0 (suc s) ps ≡ suc s - r.slot

pub tight? : (r : Round) (ps : List Row) (s : ℕ) → ((tight r ps s ≡ true) × TightIn r ps s) ⊎ ((tight r ps s ≡ false) × (TightIn r ps s → ⊥))
unfolding tight
tight? r ps s =
    elim (eqb? (due_by s ps) (suc s - r.slot)) [
      | inl h ↦ inl (h.0, omega (arith, due_below s ps))
      | inr h ↦ inr (h.0, λ k. h.1 (omega (arith, due_below s ps)))
    ]

-- the first tight slot from s on
pub record NextTight (r : Round) (ps : List Row) (s e : ℕ) : Type 0 where
  pub from : s ≤ e
  pub by : e ≤ r.last
  pub tight : TightIn r ps e
  pub first : (u : ℕ) → s ≤ u → u < e → TightIn r ps u → ⊥

pub not_last : (r : Round) (ps : List Row) (s : ℕ) → s ≤ r.last → TightIn r ps r.last → (TightIn r ps s → ⊥) → suc s ≤ r.last
not_last r ps s h t k =
    elim (ltb? s r.last) [ inl a ↦ a.1 | inr a ↦ let e : r.last ≡ s = omega arith in absurd (k (rw e at t)) ]

-- a slot that isn't tight, and what follows it
pub one_more : (r : Round) (ps : List Row) (a s u : ℕ) → (TightIn r ps s → ⊥) → ((u : ℕ) → a ≤ u → u < s → TightIn r ps u → ⊥) → a ≤ u →
    u < suc s → TightIn r ps u → ⊥
one_more r ps a s u k f h i t =
    elim (ltb? u s) [ inl b ↦ f u h b.1 t | inr b ↦ let e : u ≡ s = omega arith in k (rw e at t) ]

pub next_later : (r : Round) (ps : List Row) (s e : ℕ) → (TightIn r ps s → ⊥) → NextTight r ps (suc s) e → NextTight r ps s e
next_later r ps s e k n =
    record {
      from = omega arith;
      by = n.by;
      tight = n.tight;
      first = λ u a b t. elim (ltb? s u) [ inl c ↦ n.first u c.1 b t | inr c ↦ let q : u ≡ s = omega arith in k (rw q at t) ];
    }

pub next_from : (n s : ℕ) (r : Round) (ps : List Row) → s + n ≡ suc r.last → s ≤ r.last → TightIn r ps r.last →
    NextTight r ps s (tight_from n s r ps)
unfolding tight_from
next_from zero s r ps e h t = absurd (omega arith)
next_from (suc n) s r ps e h t =
    elim (tight? r ps s) [
      | inl k ↦ rw k.0 (record { from = omega arith; by = h; tight = k.1; first = λ u a b. omega arith })
      | inr k ↦ rw k.0
          (next_later r ps s (tight_from n (suc s) r ps) k.1 (next_from n (suc s) r ps (omega arith) (not_last r ps s h t k.1) t))
    ]

pub next : (r : Round) (ps : List Row) (s : ℕ) → s ≤ r.last → TightIn r ps r.last → NextTight r ps s (tight_after r ps s)
unfolding tight_after
next r ps s h t = next_from (suc r.last - s) s r ps (omega arith) h t

-- the start of a slot's segment
pub record Start (r : Round) (ps : List Row) (d b : ℕ) : Type 0 where
  pub low : r.slot ≤ b
  pub by : b ≤ d
  pub edge : num 0 b ps ≡ b - r.slot
  pub none : (u : ℕ) → b ≤ u → u < d → TightIn r ps u → ⊥

pub start_from : (n s : ℕ) (r : Round) (ps : List Row) (b d : ℕ) → s + n ≡ d → r.slot ≤ b → b ≤ s → num 0 b ps ≡ b - r.slot →
    ((u : ℕ) → b ≤ u → u < s → TightIn r ps u → ⊥) → Start r ps d (segment_from n s r ps b)
unfolding segment_from
start_from zero s r ps b d e h i j f = record { low = h; by = omega arith; edge = j; none = λ u a c. f u a (omega arith) }
start_from (suc n) s r ps b d e h i j f =
    elim (tight? r ps s) [
      | inl k ↦ rw k.0 (start_from n (suc s) r ps (suc s) d (omega arith) (omega arith) (omega arith) k.1 (λ u a c. omega arith))
      | inr k ↦ rw k.0
          (start_from n (suc s) r ps b d (omega arith) h (omega arith) j (λ u a c. one_more r ps b s u k.1 f a c))
    ]

pub start : (r : Round) (ps : List Row) (d : ℕ) → Feas r ps → r.slot ≤ suc r.last → r.slot ≤ d → Start r ps d (segment_start r ps d)
unfolding segment_start
start r ps d f c h =
    start_from (d - r.slot) r.slot r ps r.slot d (omega arith) (omega arith) (omega arith)
    (omega (arith, f r.slot (omega arith) c)) (λ u a b. omega arith)

-- the least weight due by a slot
pub least_above : (w s : ℕ) (xs : List Row) (b : ℕ) → w ≤ b → All (λ x. x.due ≤ s → w ≤ x.weight) xs → w ≤ least_weight s xs b
unfolding least_weight
least_above w s [] b h a = h
least_above w s (x ∷ xs) b h a =
    elim (leb? x.due s) [
      | inl k ↦ rw k.0 (least_above w s xs (min b x.weight) (omega (arith, a.0 k.1)) a.1)
      | inr k ↦ rw k.0 (least_above w s xs b h a.1)
    ]

pub least_below : (s : ℕ) (xs : List Row) (b : ℕ) → least_weight s xs b ≤ b
unfolding least_weight
least_below s [] b = omega arith
least_below s (x ∷ xs) b =
    elim (leb? x.due s) [
      | inl k ↦ rw k.0 (omega (arith, least_below s xs (min b x.weight)))
      | inr k ↦ rw k.0 (least_below s xs b)
    ]

pub least_all : (s : ℕ) (xs : List Row) (b : ℕ) → All (λ x. x.due ≤ s → least_weight s xs b ≤ x.weight) xs
unfolding least_weight
least_all s [] b = tt
least_all s (x ∷ xs) b =
    let below : (w : ℕ) → (least_weight s (x ∷ xs) b ≡ w) → All (λ y. y.due ≤ s → w ≤ y.weight) (x ∷ xs)
    → All (λ y. y.due ≤ s → least_weight s (x ∷ xs) b ≤ y.weight) (x ∷ xs) =
    λ w e. subst (λ v. All (λ y. y.due ≤ s → v ≤ y.weight) (x ∷ xs)) (sym e) in
    elim (leb? x.due s) [
      | inl k ↦ below (least_weight s xs (min b x.weight)) (rw k.0 refl) (λ _. omega (arith, least_below s xs (min b x.weight)), least_all s xs (min b x.weight))
      | inr k ↦ below (least_weight s xs b) (rw k.0 refl) (λ i. absurd (omega arith), least_all s xs b)
    ]

pub least_found : (s : ℕ) (xs : List Row) (b : ℕ) →
    (least_weight s xs b ≡ b) ⊎ ((x : Row) × In x xs × (x.due ≤ s) × (x.weight ≡ least_weight s xs b))
unfolding least_weight
least_found s [] b = inl refl
least_found s (x ∷ xs) b =
    elim (leb? x.due s) [
      | inl k ↦ rw k.0 (elim (least_found s xs (min b x.weight)) [
        | inl e ↦ elim (leb? b x.weight) [
          | inl l ↦ inl (omega (arith, e, l.1))
          | inr l ↦ inr (x, inl refl, k.1, omega (arith, e, l.1))
        ]
        | inr q ↦ inr (q.0, inr q.1, q.2, q.3)
      ])
      | inr k ↦ rw k.0 (elim (least_found s xs b) [ inl e ↦ inl e | inr q ↦ inr (q.0, inr q.1, q.2, q.3) ])
    ]

-- rows of weight w that fill as much as all rows
pub all_heavy : (w e : ℕ) (xs : List Row) → num 0 e xs ≤ num w e xs → All (λ x. x.due < e → w ≤ x.weight) xs
all_heavy w e [] h = tt
all_heavy w e (x ∷ xs) h = (
  λ k. elim (below? w e x) [
    | inl a ↦ a.1
    | inr (inl a) ↦ omega (arith, num_weight 0 w e (omega arith) xs, below_yes 0 e x (omega arith) k)
    | inr (inr a) ↦ omega arith
  ],
  all_heavy w e xs (omega (arith, below_weight 0 w e (omega arith) x)),
)

pub num_heavy_by : (w e : ℕ) (xs : List Row) → All (λ x. x.due < e → w ≤ x.weight) xs → num w e xs ≡ num 0 e xs
num_heavy_by w e [] a = refl
num_heavy_by w e (x ∷ xs) a =
    elim (ltb? x.due e) [
      | inl k ↦ omega (arith, num_heavy_by w e xs a.1, below_yes 0 e x (omega arith) k.1, below_yes w e x (a.0 k.1) k.1)
      | inr k ↦ omega (arith, num_heavy_by w e xs a.1, below_late 0 e x k.1, below_late w e x k.1)
    ]

-- MARKS: above from an edge
pub mark_above : (r : Round) (ps : List Row) → Feas r ps → TightIn r ps r.last → (w d e : ℕ) → w ≤ 16777216 →
    r.slot ≤ d → d < e → e ≤ suc r.last → num w e ps ≡ e - r.slot → w ≤ mark_in r ps d
unfolding mark_in
mark_above r ps f t w d zero c h i j k = absurd (omega arith)
mark_above r ps f t w d (suc e) c h i j k =
    let n = next r ps d (omega arith) t in
    let q : num 0 (suc e) ps ≤ suc e - r.slot = f (suc e) (omega arith) j in
    let z : tight_after r ps d ≤ e = elim (leb? (tight_after r ps d) e) [
      | inl a ↦ a.1
      | inr a ↦ absurd (n.first e (omega arith) a.1 (omega (arith, num_weight 0 w (suc e) (omega arith) ps)))
    ] in
    least_above w (tight_after r ps d) ps 16777216 c
    (all_map {Q = λ x. x.due ≤ tight_after r ps d → w ≤ x.weight}
    (λ x (a : x.due < suc e → w ≤ x.weight) (b : x.due ≤ tight_after r ps d). a (omega arith)) ps
    (all_heavy w (suc e) ps (omega arith)))

pub mark_limit : (r : Round) (ps : List Row) (d : ℕ) → mark_in r ps d ≤ 16777216
unfolding mark_in
mark_limit r ps d = least_below (tight_after r ps d) ps 16777216

-- what a mark says
pub mark_all : (r : Round) (ps : List Row) (d : ℕ) → All (λ x. x.due ≤ tight_after r ps d → mark_in r ps d ≤ x.weight) ps
unfolding mark_in
mark_all r ps d = least_all (tight_after r ps d) ps 16777216

-- rows of weight w that fill a stretch from every slot on fill all slots to an edge past it
pub spans : (r : Round) → Fine r → (w s : ℕ) → 1 ≤ w → r.slot ≤ s → s ≤ suc r.last →
    ((v : ℕ) → r.slot ≤ v → v ≤ s → num w v r.rows + (s - v) ≤ num w s r.rows) →
    (e : ℕ) × (s ≤ e) × (e ≤ suc r.last) × (num w e (plan r) ≡ e - r.slot)
spans r g w s c h k f =
    let d = plan_edge r g w in
    let m = d.at in
    elim (leb? s m) [
      | inl a ↦ (m, a.1, d.high, d.full)
      | inr a ↦ (
        s,
        omega arith,
        k,
        omega (
          arith,
          f m d.low (omega arith),
          plan_feas r g s h k,
          num_weight 0 w s (omega arith) (plan r),
          d.full,
          d.low,
          num_early w m s (omega arith) (outside r) d.out,
          plan_sum (below w m) r,
          plan_sum (below w s) r,
          no_blanks r w m c,
          no_blanks r w s c,
        ),
      )
    ]

-- 1 for a row of weight w or more that is due from v on and before e
unfoldable pub box : (w v e : ℕ) → Row → ℕ
box w v e x = below w e x - below w v x

pub box_yes : (w v e : ℕ) (x : Row) → w ≤ x.weight → v ≤ x.due → x.due < e → box w v e x ≡ 1
unfolding box
box_yes w v e x a b c = omega (arith, below_yes w e x a c, below_late w v x b)

pub box? : (w v e : ℕ) (x : Row) → v ≤ e → ((box w v e x ≡ 1) × (w ≤ x.weight) × (v ≤ x.due) × (x.due < e)) ⊎ (box w v e x ≡ 0)
unfolding box
box? w v e x h =
    elim (below? w e x) [
      | inl a ↦ elim (leb? v x.due) [
        | inl b ↦ inl (omega (arith, below_late w v x b.1), a.1, b.1, a.2)
        | inr b ↦ inr (omega (arith, below_yes w v x a.1 b.1))
      ]
      | inr (inl a) ↦ inr (omega arith)
      | inr (inr a) ↦ inr (omega arith)
    ]

pub box_num : (w v e : ℕ) → v ≤ e → (xs : List Row) → sum (box w v e) xs + num w v xs ≡ num w e xs
unfolding box
box_num w v e h [] = refl
box_num w v e h (x ∷ xs) = omega (arith, box_num w v e h xs, below_mono w v e h x)

-- a stretch that ends before it begins has no row
pub box_back : (w v e : ℕ) → e ≤ v → (y : Row) → box w v e y ≡ 0
unfolding box
box_back w v e i y = omega (arith, below_mono w e v i y)

-- nor has it any of a list
pub box_empty : (w v e : ℕ) → e ≤ v → (xs : List Row) → sum (box w v e) xs ≡ 0
box_empty w v e i [] = refl
box_empty w v e i (y ∷ ys) = omega (arith, box_empty w v e i ys, box_back w v e i y)

-- a row counts once at most
pub box_once : (w v e : ℕ) (x : Row) → v ≤ e → box w v e x ≤ 1
box_once w v e x h = elim (box? w v e x h) [ inl q ↦ omega arith | inr q ↦ omega arith ]

-- a lighter row counts nothing
pub box_lighter : (w v e : ℕ) (x : Row) → v ≤ e → x.weight < w → box w v e x ≡ 0
box_lighter w v e x h k = elim (box? w v e x h) [ inl q ↦ absurd (omega arith) | inr q ↦ q ]

-- nor does one due before the stretch
pub box_early : (w v e : ℕ) (x : Row) → x.due < v → box w v e x ≡ 0
box_early w v e x h =
    elim (leb? v e) [
      | inl j ↦ elim (box? w v e x j.1) [ inl z ↦ absurd (omega arith) | inr z ↦ z ]
      | inr j ↦ box_back w v e (omega arith) x
    ]

-- nor does one due after it
pub box_later : (w v e : ℕ) (x : Row) → e ≤ x.due → box w v e x ≡ 0
box_later w v e x h =
    elim (leb? v e) [
      | inl j ↦ elim (box? w v e x j.1) [ inl z ↦ absurd (omega arith) | inr z ↦ z ]
      | inr j ↦ box_back w v e (omega arith) x
    ]

-- a box of a lesser weight has no fewer rows
pub box_light : (w z v e : ℕ) → w ≤ z → v ≤ e → (x : Row) → box z v e x ≤ box w v e x
box_light w z v e h k x = elim (box? z v e x k) [ inl a ↦ omega (arith, box_yes w v e x (omega arith) a.2 a.3) | inr a ↦ omega arith ]

-- nor has it of a list
pub box_weight : (w z v e : ℕ) → w ≤ z → v ≤ e → (xs : List Row) → sum (box z v e) xs ≤ sum (box w v e) xs
box_weight w z v e h k xs = sum_le (box z v e) (box w v e) (box_light w z v e h k) xs

-- the plan's rows of weight w fill the slots before e: so do the waiting rows from v on, and c more where the plan leaves c slots before v
pub rows_fill : (r : Round) → Fine r → (w e v c : ℕ) → 1 ≤ w → r.slot ≤ v → v ≤ e → num w e (plan r) ≡ e - r.slot →
    num 0 v (plan r) + c ≤ v - r.slot → e - v + c + sum (box w v e) (outside r) ≤ sum (box w v e) r.rows
rows_fill r g w e v c b h i k l =
    omega (
      arith,
      num_weight 0 w v (omega arith) (plan r),
      box_num w v e i (outside r),
      box_num w v e i r.rows,
      box_num w v e i (plan r),
      plan_sum (below w v) r,
      plan_sum (below w e) r,
      no_blanks r w v b,
      no_blanks r w e b,
    )

-- what a mark of w says: e is the next tight slot, and all the plan's members due by it weigh w or more
pub record MarkAtLeast (r : Round) (w d e : ℕ) : Type 0 where
  pub some : 1 ≤ w
  pub limit : w ≤ 16777216
  pub next : NextTight r (plan r) d e
  pub heavy : All (λ x. x.due < suc e → w ≤ x.weight) (plan r)
  pub full : num w (suc e) (plan r) ≡ suc e - r.slot

pub marked : (r : Round) → Fine r → (w d : ℕ) → d ≤ r.last → 1 ≤ w → w ≤ mark_in r (plan r) d → MarkAtLeast r w d (tight_after r (plan r) d)
marked r g w d i c q =
    let n = next r (plan r) d i (plan_full r g) in
    let e = tight_after r (plan r) d in
    let b : All (λ x. x.due < suc e → w ≤ x.weight) (plan r) =
    all_map {Q = λ x. x.due < suc e → w ≤ x.weight}
    (λ x (y : x.due ≤ e → mark_in r (plan r) d ≤ x.weight) (u : x.due < suc e). omega (arith, y (omega arith)))
    (plan r) (mark_all r (plan r) d) in
    record {
      some = c;
      limit = omega (arith, mark_limit r (plan r) d);
      next = n;
      heavy = b;
      full = omega (arith, num_heavy_by w (suc e) (plan r) b, n.tight);
    }

-- NO MARK SINKS where, for each weight that the mark has, the waiting rows after fill as far
pub mark_stays : (r z : Round) → Fine r → Fine z → r.slot ≤ z.slot → z.last ≡ r.last → (d : ℕ) → z.slot ≤ d → d ≤ r.last →
    ((w e : ℕ) → MarkAtLeast r w d e → (v : ℕ) → z.slot ≤ v → v ≤ suc e → suc e - v ≤ sum (box w v (suc e)) z.rows) →
    mark r d ≤ mark z d
unfolding mark
mark_stays r z g k a l d h i f = by_weight (mark_in r (plan r) d) refl
  where
    by_weight : (w : ℕ) → w ≡ mark_in r (plan r) d → w ≤ mark_in z (plan z) d
    by_weight zero q = omega arith
    by_weight (suc w) q =
        let e = tight_after r (plan r) d in
        let m = marked r g (suc w) d i (omega arith) (omega arith) in
        let s = spans z k (suc w) (suc e) (omega arith) (omega (arith, m.next.from)) (omega (arith, m.next.by))
        (λ v a b. omega (arith, f (suc w) e m v a b, box_num (suc w) v (suc e) b z.rows)) in
        mark_above z (plan z) (plan_feas z k) (plan_full z k) (suc w) d s.0 m.limit h (omega (arith, m.next.from)) s.2 s.3
