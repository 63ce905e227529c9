-- Far rows counted around a slot, and that a segment begins there where one does by these counts.
use mathlib.Core.Path.{◌≡◌, refl, sym, ap, ◌∙◌, subst}
use mathlib.Core.Logic.{◌⊎◌, inl, inr}
use mathlib.Core.Bool.{true, false≢true}
use mathlib.Core.List.{List, [], ◌∷◌}
use Prim.Native.Nat.{ℕ, zero, suc, ◌+◌, ◌-◌, ◌≤◌, ◌<◌}
use native.Mathlib.Omega.{arith}
use native.Mathlib.Numerals.{add-one}
use lib.ListN.{length, get_or, set, take, length-set}
use lib.Seq.{get_or-set_same, get_or-set_other, take-length}
use Rattle.rules.specs.Rows.{Row, Round, blank, All, In}
use Rattle.rules.specs.Table.{round_in}
use Rattle.rules.specs.Plan.{plan, planned, tight, segment_start}
use Rattle.theory.specs.Tests.{leb?, ltb?, eqb?}
use Rattle.theory.specs.Sum.{sum, sum_le, length_sum}
use Rattle.theory.specs.All.{all_in, all_of_in}
use Rattle.theory.specs.Feas.{below, num, below_1, num_early, num_mono}
use Rattle.theory.specs.Full.{Fine, plan_feas}
use Rattle.theory.specs.Marks.{TightIn, tight?, start, box, box_yes, box?, box_num, box_early}
use Rattle.theory.specs.Change.{rising_same}
use Rattle.theory.specs.Same.{of_plan, of_yes, of_no, of_chosen, row_ticket, in_plan?}
use Rattle.theory.specs.Slack.{slack_is, tight_least, least_tight}
use Rattle.theory.specs.Keys.{getD_in}
use Rattle.theory.specs.Index.{sum_next}
use Rattle.theory.specs.Members.{RowsOfPlan, planned_rows, of_rows_in, of_rows_fine, in_plan_is}
use Rattle.theory.specs.Count.{sweep_left}
use Rattle.theory.specs.Near.{Near, rows_feas, near_edge, near_out, start_same, far_sub}
use Rattle.sorts.specs.declared.Round.{Round as Head}
use Rattle.round.specs.Rows.{DueAt, at, top_of}
use Rattle.round.proofs.ReadLaws.{known}
use Rattle.buckets.specs.declared.Reach.{Reach}
use Rattle.buckets.specs.Stretch.{upto}
use Rattle.sub.specs.Substitute.{Substitutes}
use Rattle.sub.specs.declared.Sub.TheVariants.{Blank}
use Rattle.far.specs.Far.{window_at, bucket_in, CountedIn, Roomy, Flat, Begins, FarRow}
use Rattle.far.specs.declared.Window.{Window}
use Rattle.buckets.proofs.ReachLaws.{enough}

-- BUCKETS: of a row due in the window its own, else one past the top
pub bucket_by : (w : Window) (d : ℕ) → bucket_in w d ≤ w.top + 1
bucket_by w d = elim (ltb? d w.low) [ inl b ↦ rw b.0 (omega arith) | inr b ↦ rw b.0 (omega arith) ]

pub bucket_own : (w : Window) (d v : ℕ) → v ≤ w.top → bucket_in w d ≡ v → d ≡ w.low + v
bucket_own w d v h e = elim (ltb? d w.low) [
  | inl b ↦ absurd (omega (arith, h, rw b.0 at e))
  | inr b ↦ omega (arith, h, rw b.0 at e, b.1)
]

pub bucket_there : (w : Window) (d v : ℕ) → v ≤ w.top → d ≡ w.low + v → bucket_in w d ≡ v
bucket_there w d v h e = elim (ltb? d w.low) [ inl g ↦ absurd (omega (arith, e, g.1)) | inr g ↦ rw g.0 (omega (arith, e, h)) ]

-- what a row adds to a slot's count
pub box_own : (w : Window) (v : ℕ) (x : Row) → v ≤ w.top → bucket_in w x.due ≡ v → box 0 (w.low + v) (suc (w.low + v)) x ≡ 1
box_own w v x h e =
    let o = bucket_own w x.due v h e in
    box_yes 0 (w.low + v) (suc (w.low + v)) x (omega arith) (omega (arith, o)) (omega (arith, o))

pub box_other : (w : Window) (v : ℕ) (x : Row) → v ≤ w.top → (bucket_in w x.due ≡ v → ⊥) → box 0 (w.low + v) (suc (w.low + v)) x ≡ 0
box_other w v x h n = elim (box? 0 (w.low + v) (suc (w.low + v)) x (omega arith)) [
  | inl b ↦ absurd (n (bucket_there w x.due v h (omega (arith, b.2, b.3))))
  | inr b ↦ b
]

-- COUNTING: the first i rows are counted
pub record Counting (r : Round) (w : Window) (n i : ℕ) (cs : List ℕ) : Type 0 where
  pub size : length cs ≡ n
  pub few : (v : ℕ) → get_or cs v 0 ≤ i
  pub count : (v : ℕ) → v ≤ w.top → get_or cs v 0 ≡ sum (box 0 (w.low + v) (suc (w.low + v))) (take i r.rows)

pub count_step : (r : Round) (w : Window) (n i : ℕ) (cs : List ℕ) (d b : ℕ) → i < length r.rows → suc w.top < n → DueAt r i d → b ≡ bucket_in w d →
    Counting r w n i cs → Counting r w n (i + 1) (set cs b (get_or cs b 0 + 1))
count_step r w n i cs d b h l a e s =
    let q : b ≡ bucket_in w (at r i).due = e ∙ ap (bucket_in w) a.is in
    let k : b < length cs = omega (arith, e, bucket_by w d, s.size, l) in
    let m = add-one i in
    record {
      size = omega (arith, length-set cs b (get_or cs b 0 + 1), s.size);
      few = λ v. elim (eqb? b v) [
        | inl g ↦ omega (arith, ap (λ (u : ℕ). get_or (set cs b (get_or cs b 0 + 1)) u 0) g.1, get_or-set_same cs b (get_or cs b 0 + 1) 0 k, s.few b)
        | inr g ↦ omega (arith, get_or-set_other cs b v (get_or cs b 0 + 1) 0 (λ z. g.1 (sym z)), s.few v)
      ];
      count = λ v y.
          let o = sum_next (box 0 (w.low + v) (suc (w.low + v))) (blank 0) r.rows i h in
          rw m (elim (eqb? b v) [
            | inl g ↦ omega (
              arith,
              ap (λ (u : ℕ). get_or (set cs b (get_or cs b 0 + 1)) u 0) g.1,
              get_or-set_same cs b (get_or cs b 0 + 1) 0 k,
              o,
              s.count v y,
              ap (λ (u : ℕ). get_or cs u 0) g.1,
              box_own w v (at r i) y (sym q ∙ g.1),
            )
            | inr g ↦ omega (
              arith,
              get_or-set_other cs b v (get_or cs b 0 + 1) 0 (λ z. g.1 (sym z)),
              o,
              s.count v y,
              box_other w v (at r i) y (λ z. g.1 (q ∙ z)),
            )
          ]);
    }

pub count_end : (r : Round) (w : Window) (n i : ℕ) (cs : List ℕ) → i ≡ length r.rows → suc w.top < n → Counting r w n i cs → CountedIn r.rows w cs
count_end r w n i cs e l s =
    record {
      enough = omega (arith, l, s.size);
      count = λ v h. s.count v h ∙ ap (sum (box 0 (w.low + v) (suc (w.low + v)))) (ap (λ (k : ℕ). take k r.rows) e ∙ take-length r.rows);
    }

-- SUMS of counts are rows due in the window before a slot
pub upto_in : (xs : List Row) (w : Window) (cs : List ℕ) → CountedIn xs w cs → (k : ℕ) → k ≤ suc w.top →
    upto k cs + num 0 w.low xs ≡ num 0 (w.low + k) xs
upto_in xs w cs c zero h = let e : w.low ≡ w.low + 0 = omega arith in omega (arith, ap (λ (v : ℕ). num 0 v xs) e)
upto_in xs w cs c (suc k) h =
    let e : suc (w.low + k) ≡ w.low + suc k = omega arith in
    omega (
      arith,
      upto_in xs w cs c k (omega arith),
      c.count k (omega arith),
      box_num 0 (w.low + k) (suc (w.low + k)) (omega arith) xs,
      ap (λ (v : ℕ). num 0 v xs) e,
    )

-- LEVEL at b: from slot b on no more rows than slots, by any slot
abbrev pub Level : List Row → (b : ℕ) → Type 0
Level xs b = (e : ℕ) → b ≤ e → num 0 e xs ≤ num 0 b xs + (e - b)

module _ (r : Round) (f : Fine r) (z : ℕ) (k : Near r z) where
  abbrev pub rs : List Row
  rs = planned r

  pub c : RowsOfPlan r rs
  c = planned_rows r f

  -- FAR ROWS are all in the plan
  pub far_in : (x : Row) → In x r.rows → z ≤ x.due → In x rs
  far_in x i h = elim (in_plan? x rs) [
    | inl a ↦ subst (λ (y : Row). In y rs)
        (rising_same 1 r.next a.1.0 x r.rows f.rising (of_rows_in r f rs c a.1.0 a.1.1) i a.1.2) a.1.1
    | inr a ↦ absurd (omega (arith, h, near_out r f rs c z k x i a.0))
  ]

  same_sums : (μ ν : Row → ℕ) (xs : List Row) → All (λ x. μ x ≡ ν x) xs → sum μ xs ≡ sum ν xs
  same_sums μ ν [] a = refl
  same_sums μ ν (x ∷ xs) a = omega (arith, a.0, same_sums μ ν xs a.1)

  pub far_same : (μ : Row → ℕ) → ((x : Row) → x.due < z → μ x ≡ 0) → sum μ rs ≡ sum μ r.rows
  unfolding planned
  far_same μ h =
      sym (of_chosen (plan r) μ r.rows (row_ticket r f))
      ∙ same_sums (of_plan (plan r) μ) μ r.rows (all_of_in (λ x. of_plan (plan r) μ x ≡ μ x) r.rows one)
    where
      one : (x : Row) → In x r.rows → of_plan (plan r) μ x ≡ μ x
      one x i = elim (in_plan? x (plan r)) [
        | inl a ↦ of_yes (plan r) μ x (all_in (λ y. 1 ≤ y.ticket) x r.rows (row_ticket r f) i) a.0
        | inr a ↦ of_no (plan r) μ x a.0 ∙ sym (h x (near_out r f (planned r) (planned_rows r f) z k x i
            (sym (in_plan_is r f (planned r) (planned_rows r f) x i) ∙ a.0)))
      ]

  pub far_num : (b e : ℕ) → z ≤ b → b ≤ e → num 0 e rs + num 0 b r.rows ≡ num 0 b rs + num 0 e r.rows
  far_num b e h l =
      omega (
        arith,
        box_num 0 b e l rs,
        box_num 0 b e l r.rows,
        far_same (box 0 b e) (λ x g. box_early 0 b e x (omega (arith, g, h))),
      )

  -- no row is due past the last slot
  pub num_past : (e : ℕ) → suc r.last ≤ e → num 0 e rs ≡ num 0 (suc r.last) rs
  num_past e h =
      num_early 0 (suc r.last) e h rs (all_of_in (λ x. 0 ≤ x.weight → x.due < suc r.last) rs (λ x i _. omega (arith, (of_rows_fine r f rs c x i).due_by)))

  pub num_feas : (e : ℕ) → r.slot ≤ e → num 0 e rs ≤ e - r.slot
  num_feas e h = elim (leb? e (suc r.last)) [
    | inl a ↦ rows_feas r f rs c e h a.1
    | inr a ↦ omega (arith, num_past e (omega (arith, a.1)), rows_feas r f rs c (suc r.last) f.time (omega arith), a.1)
  ]

  -- A SLOT IS TIGHT where the next one is level
  pub tight_level : (u : ℕ) → r.slot ≤ u → u ≤ r.last → TightIn r (plan r) u → Level rs (suc u)
  tight_level u h l t e j =
      let y : tight r (plan r) u ≡ true = elim (tight? r (plan r) u) [ inl a ↦ a.0 | inr a ↦ absurd (a.1 t) ] in
      elim (leb? e (suc r.last)) [
        | inl a ↦ by_slack y (e - 1) (omega (arith, j)) (omega (arith, a.1)) (omega (arith, j))
        | inr a ↦ omega (arith, num_past e (omega (arith, a.1)), by_slack y r.last l (omega arith) refl, a.1)
      ]
    where
      by_slack : tight r (plan r) u ≡ true → (v : ℕ) → u ≤ v → v ≤ r.last → {e : ℕ} → suc v ≡ e → num 0 e rs ≤ num 0 (suc u) rs + (e - suc u)
      by_slack y v a b d =
          omega (
            arith,
            tight_least r f rs c.same u h l y v a b,
            slack_is r f rs c.same u h l,
            slack_is r f rs c.same v (omega (arith, h, a)) b,
            d,
            ap (λ (n : ℕ). num 0 n rs) d,
            num_feas (suc v) (omega (arith, h, a)),
          )

  pub level_tight : (u : ℕ) → r.slot ≤ u → u ≤ r.last → Level rs (suc u) → TightIn r (plan r) u
  level_tight u h l n =
      let q = least_tight r f rs c.same u h l (λ v a b. omega (
        arith,
        n (suc v) (omega (arith, a)),
        slack_is r f rs c.same u h l,
        slack_is r f rs c.same v (omega (arith, h, a)) b,
        num_feas (suc v) (omega (arith, h, a)),
        num_feas (suc u) (omega (arith, h)),
        a,
      )) in
      elim (tight? r (plan r) u) [ inl a ↦ a.1 | inr a ↦ absurd (false≢true (sym a.0 ∙ q)) ]

  pub level_edge : (v : ℕ) → r.slot ≤ v → v ≤ r.last → Level rs v → num 0 v (plan r) ≡ v - r.slot
  level_edge zero h l n = omega (arith, plan_feas r f 0 h (omega (arith, l)))
  level_edge (suc u) h l n = elim (leb? r.slot u) [
    | inl a ↦ level_tight u a.1 (omega (arith, l)) n
    | inr a ↦ omega (arith, plan_feas r f (suc u) h (omega (arith, l)), a.1)
  ]

-- THE WINDOW of slot d: n buckets on each side, from slot z on
pub record Bounds (z n d : ℕ) (w : Window) : Type 0 where
  pub low : z ≤ w.low
  pub mid : w.low + w.mid ≡ d
  pub top : w.top ≡ w.mid + n
  pub few : w.mid ≤ n
  pub side : (w.low ≡ z) ⊎ (w.mid ≡ n)

pub bounds_of : (z n d : ℕ) (w : Window) → z ≤ d → w ≡ window_at z n d → Bounds z n d w
bounds_of z n d w h e =
    subst (Bounds z n d) (sym e)
    (record {
      low = omega arith;
      mid = omega arith;
      top = refl;
      few = omega arith;
      side = elim (leb? (d - z) n) [ inl a ↦ inl (omega (arith, a.1)) | inr a ↦ inr (omega (arith, a.1)) ];
    })

-- n rows are due from z on
module _ (r : Round) (f : Fine r) (z : ℕ) (k : Near r z) (n : ℕ) (many : (e : ℕ) → num 0 e r.rows ≤ num 0 z r.rows + n) (d : ℕ) (by : d ≤ r.last)
    (w : Window) (b : Bounds z n d w) (cs : List ℕ) (g : CountedIn r.rows w cs) where
  -- by no slot from z on more rows than slots
  pub far_fits : (e : ℕ) → z ≤ e → num 0 e r.rows ≤ num 0 z r.rows + (e - z)
  far_fits e h =
      omega (arith, far_num r f z k z e (omega arith) h, num_feas r f z k e (omega (arith, h, k.from)), near_edge r f (planned r) (c r f z k) z k, h, k.from)

  pub after_z : (e : ℕ) → z ≤ e → num 0 z r.rows ≤ num 0 e r.rows
  after_z e h = num_mono 0 z e h r.rows

  pub room : (e : ℕ) → w.mid < e → e ≤ suc w.top → upto e cs ≤ e
  room e h l = elim b.side [
    | inl a ↦ omega (arith, upto_in r.rows w cs g e l, far_fits (w.low + e) (omega (arith, a)), a, ap (λ (v : ℕ). num 0 v r.rows) a)
    | inr a ↦ omega (arith, upto_in r.rows w cs g e l, many (w.low + e), after_z w.low b.low, a, h)
  ]

  -- LEVEL by counts
  pub level_flat : (v : ℕ) → v ≤ suc w.top → Level (planned r) (w.low + v) → Flat cs w.top v
  level_flat v h l u a j =
      omega (
        arith,
        l (w.low + u) (omega (arith, a)),
        upto_in r.rows w cs g v h,
        upto_in r.rows w cs g u j,
        far_num r f z k (w.low + v) (w.low + u) (omega (arith, b.low)) (omega (arith, a)),
      )

  pub flat_level : (v : ℕ) → v ≤ w.mid → Flat cs w.top v → Level (planned r) (w.low + v)
  flat_level v h l e a = elim (leb? e (w.low + suc w.top)) [
    | inl y ↦
        let q : w.low + (e - w.low) ≡ e = omega (arith, a) in
        omega (
          arith,
          l (e - w.low) (omega (arith, a)) (omega (arith, y.1)),
          upto_in r.rows w cs g v (omega (arith, h, b.top)),
          upto_in r.rows w cs g (e - w.low) (omega (arith, y.1)),
          ap (λ (m : ℕ). num 0 m r.rows) q,
          far_num r f z k (w.low + v) e (omega (arith, b.low)) a,
          a,
        )
    | inr y ↦ omega (
      arith,
      many e,
      after_z (w.low + v) (omega (arith, b.low)),
      far_num r f z k (w.low + v) e (omega (arith, b.low)) a,
      y.1,
      b.top,
      h,
    )
  ]

  -- THE FIRST SLOT of the segment
  pub begin_is : (v : ℕ) → Begins cs w.mid w.top v → segment_start r (plan r) d ≡ w.low + v
  begin_is v q =
      let m : r.slot ≤ w.low = omega (arith, k.from, b.low) in
      start_same r (plan r) d (segment_start r (plan r) d) (w.low + v) (start r (plan r) d (plan_feas r f) f.time (omega (arith, m, b.mid)))
      (record {
        low = omega (arith, m);
        by = omega (arith, b.mid, q.by);
        edge = level_edge r f z k (w.low + v) (omega (arith, m)) (omega (arith, b.mid, q.by, by)) (flat_level v q.by q.flat);
        none = λ u a j t.
            let o : w.low + (suc u - w.low) ≡ suc u = omega (arith, a) in
            q.none (suc u - w.low) (omega (arith, a)) (omega (arith, j, b.mid))
            (level_flat (suc u - w.low) (omega (arith, j, b.mid, b.top))
            (rw o (tight_level r f z k u (omega (arith, m, a)) (omega (arith, j, by)) t)));
      })

-- THE SAME of a ready table
module _ (t cs : List ℕ) (h : Head) (x : Reach) (i : ℕ) (a : FarRow t cs h x i) where
  abbrev pub rd : Round
  rd = round_in t

  -- how many rows are due before free
  pub near_many : num 0 (rd.slot + x.free) rd.rows ≡ x.free + x.over
  near_many =
      let n = known t h a.ready in
      sweep_left rd n.fine (top_of rd) x.over x.free (omega (arith, n.time)) (enough rd n.time) a.reaches.sweep

  pub num_few : (e : ℕ) → num 0 e rd.rows ≤ length rd.rows
  num_few e = omega (arith, length_sum rd.rows, sum_le (below 0 e) (λ y. 1) (below_1 0 e) rd.rows)

  pub few : (x.free + x.over ≤ h.used) × (h.used ≤ 1024)
  few =
      let n = known t h a.ready in
      (omega (arith, near_many, num_few (rd.slot + x.free), n.used), omega (arith, n.used, n.small))

  pub due_far : (d : ℕ) → DueAt rd i d → h.slot.0 + x.free ≤ d
  due_far d q = omega (arith, q.is, a.far)

  module _ (d : ℕ) (q : DueAt rd i d) (w : Window) (e : w ≡ window_at (h.slot.0 + x.free) (h.used - x.free - x.over) d) where
    pub bounds : Bounds (rd.slot + x.free) (h.used - x.free - x.over) d w
    bounds =
        let n = known t h a.ready in
        subst (λ (s : ℕ). Bounds (s + x.free) (h.used - x.free - x.over) d w) n.slot
        (bounds_of (h.slot.0 + x.free) (h.used - x.free - x.over) d w (due_far d q) e)

    pub window_small : (w.top ≤ 2048) × (suc w.top < length cs)
    window_small =
        let n = known t h a.ready in
        (omega (arith, bounds.top, bounds.few, few.1), omega (arith, bounds.top, bounds.few, a.room))

    module _ (ds : List ℕ) (g : CountedIn rd.rows w ds) where
      pub far_many : (v : ℕ) → num 0 v rd.rows ≤ num 0 (rd.slot + x.free) rd.rows + (h.used - x.free - x.over)
      far_many v = let n = known t h a.ready in omega (arith, num_few v, near_many, n.used)

      pub roomy : Roomy ds w.mid w.top
      roomy =
          let n = known t h a.ready in
          record {
            order = omega (arith, bounds.top);
            small = window_small.0;
            enough = omega (arith, g.enough);
            few = omega (arith, upto_in rd.rows w ds g (suc w.top) (omega arith), num_few (w.low + suc w.top), n.small);
            room = room rd n.fine (rd.slot + x.free) a.reaches.near (h.used - x.free - x.over) far_many d q.by w bounds ds g;
          }

      -- THE ANSWER
      pub blank_begins : (b s : ℕ) → Begins ds w.mid w.top b → s ≡ w.low + b → Substitutes rd i (Blank (record { 0 = s }))
      blank_begins b s j o =
          let n = known t h a.ready in
          let z = rd.slot + x.free in
          let l : i < length rd.rows = omega (arith, a.there, n.used) in
          let u : z ≤ (at rd i).due = omega (arith, a.far, n.slot) in
          let p = at rd i in
          far_sub rd n.fine (planned rd) (planned_rows rd n.fine) z a.reaches.near n.time p
          (far_in rd n.fine z a.reaches.near p (getD_in rd.rows (blank 0) i l) u) u
          ∙ ap blank (ap (segment_start rd (plan rd)) (sym q.is)
          ∙ begin_is rd n.fine z a.reaches.near (h.used - x.free - x.over) far_many d q.by w bounds ds g b j ∙ sym o)
