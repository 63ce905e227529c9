-- Once as many rows have left as are too many, those with a flag are the plan's.
use mathlib.Core.Path.{◌≡◌, refl, sym, ap, ap₂, ◌∙◌, subst}
use mathlib.Core.Logic.{◌⊎◌, inl, inr}
use mathlib.Core.Bool.{Bool, true, false, cond, not, true≢false}
use mathlib.Core.List.{List, [], ◌∷◌}
use Prim.Native.Nat.{ℕ, zero, suc, ◌+◌, ◌-◌, ◌≤◌, ◌<◌}
use native.Mathlib.Omega.{arith}
use lib.Dec.{ltb, eqb}
use lib.ListN.{length, get_or, take}
use lib.Seq.{take_all}
use Rattle.rules.specs.Rows.{Row, Round, blank, heavier, chosen, All}
use Rattle.theory.specs.Tests.{either, leb?, eqb?}
use Rattle.theory.specs.Sum.{sum, sum_le}
use Rattle.theory.specs.All.{all_map}
use Rattle.theory.specs.Feas.{below, num, below_yes, below_late, due_below, Feas, feas_made}
use Rattle.theory.specs.Full.{Fine}
use Rattle.theory.specs.Border.{within, many, within_yes}
use Rattle.theory.specs.Unique.{LeftOut, unchosen, within_below, all_within}
use Rattle.theory.specs.Near.{Near}
use Rattle.theory.specs.Index.{sum_next, chosen_next}
use Rattle.theory.specs.Flags.{raised, length_raised, raised_at, Chosen, with_flag}
use Rattle.round.specs.Rows.{at}
use Rattle.keys.specs.Key.{key_at}
use Rattle.keys.proofs.KeyLaws.{row_fine, lesser_key}
use Rattle.keys.specs.Sorted.{many_due, placed, Sorted}
use Rattle.keys.proofs.DueOrder.{many_is, placed_row, placed_before, placed_from}
use Rattle.keys.specs.DueSums.{each, before_slot}
use Rattle.keys.proofs.DueSums.{each_le, each_same, each_more, placed_sum}
use Rattle.leaving.specs.Sweep.{tally, before, smaller, Barred, Queue, Swept, Parted}
use Rattle.leaving.specs.Sweep.{key_on, row_on, ahead_on, weight_on, kept?, kept_on, left_on}
use Rattle.leaving.proofs.TallyLaws.{tally_nothing, tally_le, tally_both, tally_some, before?, before_yes, before_no, smaller?, smaller_1}
use Rattle.plan.proofs.QueueLaws.{rows_from, key_is, row_on_is, ahead_on_is, weight_on_is, queue}

-- SUMS OVER ROWS WITH A FLAG, and over all
pub chosen_part : (μ : Row → ℕ) (z : Row) (fs : List ℕ) (xs : List Row) → length fs ≡ length xs → (i : ℕ) → i ≤ length xs →
    sum μ (chosen (take i (raised fs)) (take i xs)) ≡ tally (λ j. μ (get_or xs j z)) (kept? fs) i
unfolding tally chosen
chosen_part μ z fs xs l zero h = refl
chosen_part μ z fs xs l (suc i) h =
    omega (
      arith,
      chosen_next μ z (raised fs) xs i (omega (arith, h)) (omega (arith, l, length_raised fs)),
      chosen_part μ z fs xs l i (omega (arith, h)),
      ap (λ (b : Bool). cond b (μ (get_or xs i z)) 0) (raised_at fs i (omega (arith, h, l))),
    )

pub chosen_tally : (μ : Row → ℕ) (z : Row) (fs : List ℕ) (xs : List Row) → length fs ≡ length xs →
    sum μ (chosen (raised fs) xs) ≡ tally (λ j. μ (get_or xs j z)) (kept? fs) (length xs)
chosen_tally μ z fs xs l =
    ap₂ (λ (bs : List Bool) (ys : List Row). sum μ (chosen bs ys))
    (sym (take_all (length xs) (raised fs) (omega (arith, l, length_raised fs)))) (sym (take_all (length xs) xs (omega arith)))
    ∙ chosen_part μ z fs xs l (length xs) (omega arith)

rows_part : (μ : Row → ℕ) (z : Row) (xs : List Row) (i : ℕ) → i ≤ length xs → sum μ (take i xs) ≡ each (λ j. μ (get_or xs j z)) i
unfolding each
rows_part μ z xs zero h = refl
rows_part μ z xs (suc i) h = omega (arith, sum_next μ z xs i (omega (arith, h)), rows_part μ z xs i (omega (arith, h)))

pub rows_each : (μ : Row → ℕ) (z : Row) (xs : List Row) → sum μ xs ≡ each (λ j. μ (get_or xs j z)) (length xs)
rows_each μ z xs = ap (sum μ) (sym (take_all (length xs) xs (omega arith))) ∙ rows_part μ z xs (length xs) (omega arith)

tally_each : (f : ℕ → ℕ) (κ : ℕ → Bool) (n : ℕ) → tally f κ n ≡ each (λ j. cond (κ j) (f j) 0) n
unfolding tally each
tally_each f κ zero = refl
tally_each f κ (suc n) = omega (arith, tally_each f κ n)

tally_alike : (f g : ℕ → ℕ) (κ : ℕ → Bool) (n : ℕ) → ((j : ℕ) → j < n → f j ≡ g j) → tally f κ n ≡ tally g κ n
tally_alike f g κ n h = omega (arith, tally_le f g κ n (λ j a b. omega (arith, h j a)), tally_le g f κ n (λ j a b. omega (arith, h j a)))

ones : (n : ℕ) → each (λ _. 1) n ≡ n
unfolding each
ones zero = refl
ones (suc n) = omega (arith, ones n)

-- 1 for the first m, 0 for the others
each_front : (f : ℕ → ℕ) (m p : ℕ) → m ≤ p → ((q : ℕ) → q < m → f q ≡ 1) → ((q : ℕ) → m ≤ q → q < p → f q ≡ 0) → each f p ≡ m
unfolding each
each_front f m zero h a b = omega (arith, h)
each_front f m (suc p) h a b = elim (eqb? m (suc p)) [
  | inl c ↦
      let e : m ≡ suc p = c.1 in
      omega (arith, e, each_same f (λ _. 1) p (λ j k. a j (omega (arith, e, k))), ones p, a p (omega (arith, e)))
  | inr c ↦
      let d = c.1 in
      omega (arith, each_front f m p (omega (arith, h)) a (λ q k l. b q k (omega (arith, l))), b p (omega (arith, h)) (omega arith))
]

-- what holds of each row without a flag
each_unchosen : (P : Row → Type 0) (z : Row) (bs : List Bool) (xs : List Row) → length bs ≡ length xs →
    ((i : ℕ) → i < length xs → get_or bs i false ≡ false → P (get_or xs i z)) → All P (unchosen bs xs)
unfolding unchosen
each_unchosen P z [] [] l h = tt
each_unchosen P z [] (x ∷ xs) l h = absurd (omega (arith, l))
each_unchosen P z (b ∷ bs) [] l h = tt
each_unchosen P z (true ∷ bs) (x ∷ xs) l h = each_unchosen P z bs xs (omega (arith, l)) (λ i a e. h (suc i) (omega (arith, a)) e)
each_unchosen P z (false ∷ bs) (x ∷ xs) l h =
    (h 0 (omega arith) refl, each_unchosen P z bs xs (omega (arith, l)) (λ i a e. h (suc i) (omega (arith, a)) e))

-- 1 for one number alone
unfoldable is : (v x : ℕ) → ℕ
is v x = cond (eqb x v) 1 0

is? : (v x : ℕ) → ((is v x ≡ 1) × (x ≡ v)) ⊎ ((is v x ≡ 0) × (x ≡ v → ⊥))
unfolding is
is? v x = elim (eqb? x v) [ inl a ↦ inl (rw a.0, a.1) | inr a ↦ inr (rw a.0, a.1) ]

is_some : (v n : ℕ) → v < n → 1 ≤ each (is v) n
unfolding each
is_some v zero h = absurd (omega (arith, h))
is_some v (suc n) h = elim (is? v n) [
  | inl a ↦ omega (arith, a.0)
  | inr a ↦ let d = a.1 in omega (arith, is_some v n (elim (eqb? n v) [ inl b ↦ absurd (d b.1) | inr b ↦ let c = b.1 in omega (arith, h) ]))
]

module _ (r : Round) (f : Fine r) (small : length r.rows ≤ 1024) (cap : r.last ≤ 4095) (n over : ℕ) (ks : List ℕ) (T : Sorted r n ks)
    (em : n + over ≡ many_due r n) (N : Near r (r.slot + n)) (some : 1 ≤ over) (gs : List ℕ) (long : length gs ≡ length r.rows) (w : ℕ)
    (P : Parted ks gs r.slot n over w) where
  abbrev m : ℕ
  m = n + over

  abbrev p : ℕ
  p = P.place

  abbrev rs : List Row
  rs = chosen (raised gs) r.rows

  abbrev S : Swept ks gs r.slot (n + over) P.place P.count w
  S = P.swept

  abbrev D : ℕ → ℕ
  D = ahead_on ks r.slot

  row_at : (q : ℕ) → q < n + over → row_on ks q ≡ placed r n q
  row_at = row_on_is r f small cap n ks T (n + over) em

  place_in : (q : ℕ) → q < P.place → q < n + over
  place_in q h = omega (arith, h, P.swept.by)

  Q : Queue ks r.slot n (n + over)
  Q = queue r f small cap n ks T (n + over) em

  -- a sum over the rows with a flag, and over those left out
  of_flags : (μ : Row → ℕ) → sum μ rs ≡ tally (λ i. μ (at r i)) (kept? gs) (length gs)
  of_flags μ = chosen_tally μ (blank 0) gs r.rows long ∙ ap (tally (λ i. μ (at r i)) (kept? gs)) (sym long)

  outs : (μ : Row → ℕ) → sum μ rs + tally (λ q. μ (at r (row_on ks q))) (left_on ks gs) P.place ≡ sum μ r.rows
  outs μ =
      omega (
        arith,
        of_flags μ,
        S.sums (λ i. μ (at r i)),
        rows_each μ (blank 0) r.rows,
        ap (each (λ i. μ (at r i))) long,
      )

  left_many : tally (λ _. 1) (left_on ks gs) P.place ≡ over
  left_many = omega (arith, tally_both (λ _. 1) (kept_on ks gs) P.place, ones P.place, S.mid.all, P.left)

  -- THE WEIGHT LEFT OUT
  pub lost_is : w + sum (λ y. y.weight) (with_flag r gs) ≡ sum (λ y. y.weight) r.rows
  lost_is =
      omega (
        arith,
        outs (λ y. y.weight),
        S.lost,
        tally_alike (weight_on ks) (λ q. (at r (row_on ks q)).weight) (left_on ks gs) P.place (λ q h.
            weight_on_is r f small cap n ks T (n + over) em q (place_in q h) ∙ ap (λ (i : ℕ). (at r i).weight) (sym (row_at q (place_in q h)))),
      )

  -- due before a slot, by place
  due_at : (q : ℕ) → q < n + over → (at r (row_on ks q)).due ≡ r.slot + D q
  due_at q h =
      omega (
        arith,
        ap (λ (i : ℕ). (at r i).due) (row_at q h),
        ahead_on_is r f small cap n ks T (n + over) em q h,
        (placed_row r n q (omega (arith, h, em))).1,
      )

  below_at : (v q : ℕ) → q < n + over → below 0 (r.slot + v) (at r (row_on ks q)) ≡ before D v q
  below_at v q h = elim (before? D v q) [
    | inl a ↦ below_yes 0 (r.slot + v) (at r (row_on ks q)) (omega arith) (omega (arith, due_at q h, a.1)) ∙ sym a.0
    | inr a ↦ below_late 0 (r.slot + v) (at r (row_on ks q)) (omega (arith, due_at q h, a.1)) ∙ sym a.0
  ]

  outs_before : (v : ℕ) → num 0 (r.slot + v) rs + tally (before D v) (left_on ks gs) P.place ≡ num 0 (r.slot + v) r.rows
  outs_before v =
      omega (
        arith,
        outs (below 0 (r.slot + v)),
        tally_alike (λ q. below 0 (r.slot + v) (at r (row_on ks q))) (before D v) (left_on ks gs) P.place (λ q h. below_at v q (place_in q h)),
      )

  many_near : num 0 (r.slot + n) r.rows ≡ n + over
  many_near = omega (arith, em, many_is r n (rows_from r f))

  -- every row left out is due before
  fits_late : (v : ℕ) → r.slot + v ≤ suc r.last → ((q : ℕ) → q < P.place → D q < v) → num 0 (r.slot + v) rs ≤ v
  fits_late v b late =
      let o : tally (before D v) (left_on ks gs) P.place ≡ over =
      tally_alike (before D v) (λ _. 1) (left_on ks gs) P.place (λ q h. before_yes D v q (late q h)) ∙ left_many in
      elim (leb? v n) [
        | inl a ↦ omega (arith, outs_before v, o, many_near, N.full (r.slot + v) (omega arith) (omega (arith, a.1)), a.1)
        | inr a ↦
            let e : suc (r.slot + v - 1) ≡ r.slot + v = omega (arith, a.1) in
            omega (
              arith,
              outs_before v,
              o,
              many_near,
              N.free (r.slot + v - 1) (omega (arith, a.1)) (omega (arith, a.1, b)),
              ap (λ y. num 0 y r.rows) e,
              a.1,
            )
      ]

  -- all rows due before are among those done
  fits_early : (v l : ℕ) → suc l ≡ P.place → v ≤ D l → num 0 (r.slot + v) rs ≤ v
  fits_early v l e h =
      let k : l < n + over = place_in l (omega (arith, e)) in
      let u : many_due r v ≤ P.place =
      omega (arith, e, placed_from r n v l (omega (arith, k, em)) (omega (arith, h, due_at l k, ap (λ (i : ℕ). (at r i).due) (row_at l k)))) in
      omega (
        arith,
        outs_before v,
        tally_both (before D v) (kept_on ks gs) P.place,
        S.mid.fits v,
        many_is r v (rows_from r f),
        each_front (before D v) (many_due r v) P.place u
            (λ q a. before_yes D v q (is_before q (omega (arith, a, u)) a))
            (λ q a b. before_no D v q (is_from q b a)),
      )
    where
      is_before : (q : ℕ) → q < P.place → q < many_due r v → D q < v
      is_before q a b = elim (leb? v (D q)) [
        | inr c ↦ c.1
        | inl c ↦ absurd (omega (
          arith,
          b,
          placed_from r n v q (omega (arith, place_in q a, em))
              (omega (arith, c.1, due_at q (place_in q a), ap (λ (i : ℕ). (at r i).due) (row_at q (place_in q a)))),
        ))
      ]

      is_from : (q : ℕ) → q < P.place → many_due r v ≤ q → v ≤ D q
      is_from q a b = elim (leb? v (D q)) [
        | inl c ↦ c.1
        | inr c ↦ absurd (omega (
          arith,
          b,
          placed_before r n v q (omega (arith, place_in q a, em))
              (omega (arith, c.1, due_at q (place_in q a), ap (λ (i : ℕ). (at r i).due) (row_at q (place_in q a)))),
        ))
      ]

  -- THE ROWS WITH A FLAG FIT
  fits : Feas r rs
  fits e a b =
      let v = e - r.slot in
      let d : r.slot + v ≡ e = omega (arith, a) in
      let l : suc (P.place - 1) ≡ P.place = omega (arith, P.left, some) in
      elim (leb? v (D (P.place - 1))) [
        | inl c ↦ omega (arith, fits_early v (P.place - 1) l c.1, ap (λ y. num 0 y rs) d)
        | inr c ↦ omega (
          arith,
          fits_late v (omega (arith, b, d)) (λ q h.
              omega (arith, c.1, Q.rises q (P.place - 1) (omega (arith, h, l)) (place_in (P.place - 1) (omega (arith, l))))),
          ap (λ y. num 0 y rs) d,
        )
      ]

  -- a sum over places done is at most one over rows
  placed_le : (g : ℕ → ℕ) → tally (λ q. g (row_on ks q)) (kept_on ks gs) P.place ≤ tally g (kept? gs) (length gs)
  placed_le g =
      let h : ℕ → ℕ = λ i. cond (kept? gs i) (g i) 0 in
      omega (
        arith,
        tally_each (λ q. g (row_on ks q)) (kept_on ks gs) P.place,
        tally_each g (kept? gs) (length gs),
        each_more (λ q. h (row_on ks q)) P.place (n + over) S.by,
        each_same (λ q. h (row_on ks q)) (λ q. h (placed r n q)) (n + over) (λ q a. ap h (row_at q a)),
        ap (each (λ q. h (placed r n q))) em,
        placed_sum h r n (λ i a. (row_fine r f small cap i a).due_from),
        each_le (before_slot h r (r.slot + n)) h (length r.rows) (λ i a. at_most h i),
        ap (each h) long,
      )
    where
      at_most : (h : ℕ → ℕ) (i : ℕ) → before_slot h r (r.slot + n) i ≤ h i
      at_most h i = elim (either (ltb (at r i).due (r.slot + n))) [ inl b ↦ rw b (omega arith) | inr b ↦ rw b (omega arith) ]

  -- A ROW WITHOUT A FLAG has a place that is done
  gone_at : (i : ℕ) → i < length gs → kept? gs i ≡ false → (q : ℕ) × (q < P.place) × (kept_on ks gs q ≡ false) × (row_on ks q ≡ i)
  gone_at i h e =
      let z = tally_nothing (is i) (kept? gs) (length gs) (λ j a b. elim (is? i j) [
        | inl c ↦ absurd (true≢false (sym b ∙ ap (kept? gs) c.1 ∙ e))
        | inr c ↦ c.0
      ]) in
      let s = tally_some (λ q. is i (row_on ks q)) (left_on ks gs) P.place (omega (arith, S.sums (is i), z, is_some i (length gs) h)) in
      (s.0, s.1, not_on (kept_on ks gs s.0) s.2, elim (is? i (row_on ks s.0)) [ inl a ↦ a.1 | inr a ↦ absurd (omega (arith, a.0, s.3)) ])
    where
      not_on : (b : Bool) → not b ≡ true → b ≡ false
      not_on true c = sym c
      not_on false c = refl

  -- AND IS LEFT OUT of the plan: heavier rows fill the slots up to one past its own
  module _ (q : ℕ) (h : q < P.place) (B : Barred (key_on ks) D (kept_on ks gs) P.place q) where
    abbrev v : ℕ
    v = r.slot + B.at

    abbrev low : ℕ → ℕ
    low = smaller (key_on ks) D (key_on ks q) B.at

    abbrev heavy : Row → Bool
    heavy y = heavier y (at r (row_on ks q))

    in_q : (j : ℕ) → j < P.place → row_on ks j < length r.rows
    in_q j a = omega (arith, S.rows j (place_in j a), long)

    key_at_is : (j : ℕ) → j < P.place → key_on ks j ≡ key_at r (row_on ks j)
    key_at_is j a = key_is r f small cap n ks T (n + over) em j (place_in j a) ∙ ap (key_at r) (sym (row_at j (place_in j a)))

    filled : B.at ≤ many heavy v rs
    filled =
        omega (
          arith,
          B.full,
          of_flags (within heavy v),
          tally_le low (λ j. within heavy v (at r (row_on ks j))) (kept_on ks gs) P.place (λ j a _. one j a),
          placed_le (λ i. within heavy v (at r i)),
        )
      where
        one : (j : ℕ) → j < P.place → low j ≤ within heavy v (at r (row_on ks j))
        one j a = elim (smaller? (key_on ks) D (key_on ks q) B.at j) [
          | inl k ↦ omega (
            arith,
            k.0,
            within_yes heavy v (at r (row_on ks j))
                (lesser_key r f small cap (row_on ks j) (row_on ks q) (in_q j a) (in_q q h) (omega (arith, k.1, key_at_is j a, key_at_is q h))),
            below_yes 0 v (at r (row_on ks j)) (omega arith) (omega (arith, k.2, due_at j (place_in j a))),
          )
          | inr k ↦ omega (arith, k)
        ]

    -- no row is due past the last slot
    ends : v ≤ suc r.last
    ends = elim (leb? v (suc r.last)) [
      | inl k ↦ k.1
      | inr k ↦ absurd (omega (
        arith,
        k.1,
        f.time,
        B.full,
        S.mid.fits (suc r.last - r.slot),
        tally_le low (before D (suc r.last - r.slot)) (kept_on ks gs) P.place (λ j a _.
            omega (
              arith,
              smaller_1 (key_on ks) D (key_on ks q) B.at j,
              before_yes D (suc r.last - r.slot) j (omega (arith, due_at j (place_in j a), (row_fine r f small cap (row_on ks j) (in_q j a)).due_by)),
            )),
      ))
    ]

    left_out : LeftOut r rs (at r (row_on ks q))
    left_out =
        let next : suc (v - 1) ≡ v = omega (arith, B.past) in
        record {
          at = v - 1;
          from = omega (arith, B.past, due_at q (place_in q h));
          by = omega (arith, ends, B.past);
          full = omega (
            arith,
            B.past,
            due_below (v - 1) rs,
            ap (λ k. num 0 k rs) next,
            fits v (omega arith) ends,
            filled,
            sum_le (within heavy v) (below 0 v) (within_below heavy v) rs,
          );
          heavy = all_map {Q = λ y. y.due ≤ v - 1 → heavy y ≡ true}
              (λ y (k : y.due < v → heavy y ≡ true) (l : y.due ≤ v - 1). k (omega (arith, l, B.past))) rs
              (all_within heavy v rs (omega (arith, fits v (omega arith) ends, filled)));
        }

  -- SO THEY ARE THE PLAN'S
  pub chosen_left : Chosen r gs
  chosen_left =
      record {
        long = long;
        bits = S.bits;
        certified = record {
          long = length_raised gs ∙ long;
          fits = feas_made r rs fits;
          out = each_unchosen (LeftOut r rs) (blank 0) (raised gs) r.rows (length_raised gs ∙ long) (λ i a b.
              let h : i < length gs = omega (arith, a, long) in
              let g = gone_at i h (sym (raised_at gs i h) ∙ b) in
              subst (λ (j : ℕ). LeftOut r rs (at r j)) g.3 (left_out g.0 g.1 (S.mid.out g.0 g.1 g.2)));
        };
      }
