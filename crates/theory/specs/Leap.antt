-- A leap leaves rows that fill as far, shift by shift and by each kind of substitute: shift, shift_kept, outside_heavy, leapt_left.
use Rattle.std.specs.Prelude.{◌≡◌, refl, ◌⊎◌, false, List, ℕ, zero, suc, ◌+◌, ◌-◌, ◌≤◌, ◌<◌, max, ltb}
use Rattle.std.proofs.Common.{sym, ap, inl, inr, arith, le-ltb, ltb-true, ltb-false, ne_eqb}
use Rattle.std.proofs.lemmas.Bool.{lt-leb}
use Rattle.rules.specs.Rows.{Row, Round, blank, row, All, In, blank_tail}
use Rattle.rules.specs.Plan.{plan, in_plan, tight_after, segment_start, mark_in, first_end, heaviest_outside, substitute}
use Rattle.rules.specs.Steps.{changed, without, heaviest_between, shifted, replaced, leapt}
use Rattle.theory.specs.Tests.{leb?, ltb?, both_ways}
use Rattle.theory.specs.Sum.{sum}
use Rattle.theory.specs.All.{blank_weight, blank_ticket, all_map, all_in, all_of_in}
use Rattle.theory.specs.Feas.{num}
use Rattle.theory.specs.Bounds.{RowOk, row_ok, RowFine}
use Rattle.theory.specs.Full.{plan_member, Fine, Rising, outside, plan_feas, plan_edge, plan_full, plan_due}
use Rattle.theory.specs.Marks.{TightIn, NextTight, next, Start, start, box, box?, box_yes, rows_fill, MarkAtLeast, mark_above, mark_all, mark_limit}
use Rattle.theory.specs.Change.{FirstOfTicket, changed_sum, without_sum, changed_first, rising_above, rising_first, rising_same, in_sum, not_in_plan, row_outside, without_none, changed_none, all_changed, all_without, rising_changed, rising_without}
use Rattle.theory.specs.Send.{outside_in, MemberBetween, between_finds, between_count, next_by, point, point?, point_yes}

abbrev pub HeavyTo : Round → ℕ → Type 0
HeavyTo r g = All (λ y. y.due ≤ g → 1 ≤ y.weight) (plan r)

-- one shift: of h to e; e' is the next end
pub record ShiftsTo (r : Round) (e g : ℕ) (h : Row) (e' : ℕ) : Type 0 where
  pub low : r.slot ≤ e
  pub inside : In h (plan r)
  pub after : e < h.due
  pub by : h.due ≤ g
  pub heavy : 1 ≤ h.weight
  pub next : NextTight r (plan r) h.due e'
  pub end : e' ≤ g

abbrev pub moved_rows : Round → ℕ → Row → List Row → List Row
moved_rows r e h xs = changed h.ticket (row h.ticket e (max h.weight (mark_in r (plan r) e)) h.tail) xs

pub shift : (r : Round) → Fine r → (e g : ℕ) → r.slot ≤ e → e < g → g ≤ r.last → TightIn r (plan r) e → TightIn r (plan r) g → HeavyTo r g →
    (let h = heaviest_between e g (plan r) (blank (suc g)) in ShiftsTo r e g h (tight_after r (plan r) h.due))
unfolding blank
shift r f e g l k b t u hv =
    let h = heaviest_between e g (plan r) (blank (suc g)) in
    let y = between_count (suc e) (suc g) (plan r) (omega arith) in
    let w : MemberBetween e g (plan r) h =
    between_finds e g (plan r) (plan r) (blank (suc g)) (omega arith) (all_of_in (λ x. In x (plan r)) (plan r) (λ x i. i)) hv y.0 y.1
    y.2 (omega (arith, y.3)) in
    let n = next r (plan r) h.due (omega (arith, w.2)) (plan_full r f) in
    record {
      low = l;
      inside = w.0;
      after = w.1;
      by = w.2;
      heavy = all_in (λ y. y.due ≤ g → 1 ≤ y.weight) h (plan r) hv w.0 w.2;
      next = n;
      end = next_by r (plan r) h.due (tight_after r (plan r) h.due) g n w.2 u;
    }

-- what every shift keeps, all shifts keep
pub shift_ind : (r : Round) → Fine r → (g : ℕ) → g ≤ r.last → TightIn r (plan r) g → HeavyTo r g → (Q : ℕ → List Row → Type 0) →
    ((e : ℕ) (xs : List Row) (h : Row) (e' : ℕ) → ShiftsTo r e g h e' → Q e xs → Q e' (moved_rows r e h xs)) →
    (n e : ℕ) (xs : List Row) → r.slot ≤ e → e ≤ g → g ≤ e + n → TightIn r (plan r) e → Q e xs → Q g (shifted n r (plan r) e g xs)
unfolding shifted
shift_ind r f g b u hv Q s zero e xs l k c t q = let z : e ≡ g = omega arith in rw z at q
shift_ind r f g b u hv Q s (suc n) e xs l k c t q =
    both_ways (Q g) (ltb e g)
    (shifted n r (plan r) (tight_after r (plan r) (heaviest_between e g (plan r) (blank (suc g))).due) g
    (moved_rows r e (heaviest_between e g (plan r) (blank (suc g))) xs)) xs
    (λ i.
    let h = heaviest_between e g (plan r) (blank (suc g)) in
    let e' = tight_after r (plan r) h.due in
    let p = shift r f e g l (ltb-true e g i) b t u hv in
    shift_ind r f g b u hv Q s n e' (moved_rows r e h xs) (omega (arith, p.low, p.after, p.next.from)) p.end
    (omega (arith, p.after, p.next.from)) p.next.tight (s e xs h e' p q))
    (λ i. let z : e ≡ g = omega (arith, ltb-false e g i) in rw z at q)

-- what the shifts from a keep
pub record FilledSoFar (r : Round) (a e : ℕ) (xs : List Row) : Type 0 where
  pub past : a ≤ e
  pub ahead : (z : Row) → In z (plan r) → In z r.rows → e < z.due → FirstOfTicket z xs
  pub others : (z : Row) → In z r.rows → ((h : Row) → In h (plan r) → a < h.due → h.ticket ≡ z.ticket → ⊥) → FirstOfTicket z xs
  pub okay : All (RowOk r) xs
  pub rising : Rising 1 r.next xs
  pub sums : (w d s v : ℕ) → MarkAtLeast r w d s → v ≤ suc s →
      sum (box w v (suc s)) r.rows + point v (suc s) a ≤ sum (box w v (suc s)) xs + point v (suc s) e

pub member_row : (r : Round) (x : Row) → In x (plan r) → 1 ≤ x.weight → In x r.rows
member_row r x i h = elim (plan_member r x i) [ inl a ↦ a | inr a ↦ absurd (omega (arith, blank_weight x a.0)) ]

-- the mark of a slot up to which a heavy stretch reaches
pub mark_in_reach : (r : Round) → Fine r → (w d s u : ℕ) → MarkAtLeast r w d s → r.slot ≤ u → u ≤ s → w ≤ mark_in r (plan r) u
mark_in_reach r f w d s u m h k =
    mark_above r (plan r) (plan_feas r f) (plan_full r f) w u (suc s) m.limit h (omega arith) (omega (arith, m.next.by)) m.full

pub shift_sum : (r : Round) → Fine r → (e g : ℕ) (h : Row) (e' : ℕ) → ShiftsTo r e g h e' → (xs : List Row) → FirstOfTicket h xs →
    (w d s v : ℕ) → MarkAtLeast r w d s →
    v ≤ suc s → sum (box w v (suc s)) xs + point v (suc s) e ≤ sum (box w v (suc s)) (moved_rows r e h xs) + point v (suc s) e'
unfolding row
shift_sum r f e g h e' p xs i w d s v m k =
    let h' = row h.ticket e (max h.weight (mark_in r (plan r) e)) h.tail in
    let c = changed_sum (box w v (suc s)) h h' xs i in
    let new : point v (suc s) e ≤ box w v (suc s) h' = elim (point? v (suc s) e) [
      | inl a ↦ omega (arith, box_yes w v (suc s) h' (omega (arith, mark_in_reach r f w d s e m p.low (omega (arith, a.2)))) a.1 a.2)
      | inr (inl a) ↦ omega arith
      | inr (inr a) ↦ omega arith
    ] in
    let old : box w v (suc s) h ≤ point v (suc s) e' = elim (box? w v (suc s) h k) [
      | inl a ↦ omega (
        arith,
        point_yes v (suc s) e' (omega (arith, p.next.from, a.2))
            (omega (arith, next_by r (plan r) h.due e' s p.next (omega (arith, a.3)) m.next.tight)),
      )
      | inr a ↦ omega arith
    ] in
    omega arith

pub shift_kept : (r : Round) → Fine r → (a e g : ℕ) (h : Row) (e' : ℕ) (xs : List Row) → g ≤ r.last → ShiftsTo r e g h e' → FilledSoFar r a e xs →
    FilledSoFar r a e' (moved_rows r e h xs)
unfolding row
shift_kept r f a e g h e' xs b p q =
    let hr = member_row r h p.inside p.heavy in
    let i = q.ahead h p.inside hr p.after in
    let o = all_in (RowFine r) h r.rows f.fine hr in
    record {
      past = omega (arith, q.past, p.after, p.next.from);
      ahead = λ z j k l.
          changed_first h.ticket (row h.ticket e (max h.weight (mark_in r (plan r) e)) h.tail) z
          (λ c. omega (arith, p.next.from, l, ap (λ (x : Row). x.due) (rising_same 1 r.next h z r.rows f.rising hr k c))) refl xs
          (q.ahead z j k (omega (arith, p.after, p.next.from)));
      others = λ z k n.
          changed_first h.ticket (row h.ticket e (max h.weight (mark_in r (plan r) e)) h.tail) z
          (n h p.inside (omega (arith, q.past, p.after))) refl xs (q.others z k n);
      okay = all_changed (RowOk r) h.ticket (row h.ticket e (max h.weight (mark_in r (plan r) e)) h.tail)
          (row_ok r _ (omega (arith, p.after, p.by)) (omega (arith, p.heavy)) (omega (arith, o.most, mark_limit r (plan r) e)) o.class) xs q.okay;
      rising = rising_changed 1 r.next h.ticket (row h.ticket e (max h.weight (mark_in r (plan r) e)) h.tail) refl xs q.rising;
      sums = λ w d s v m k. omega (arith, q.sums w d s v m k, shift_sum r f e g h e' p xs i w d s v m k);
    }

-- WHAT A STEP LEAVES, before the time goes on
pub record Left (r : Round) (xs : List Row) : Type 0 where
  pub okay : All (RowOk r) xs
  pub rising : Rising 1 r.next xs
  pub fills : (w d e v : ℕ) → MarkAtLeast r w d e → r.slot < v → v ≤ suc e → suc e - v ≤ sum (box w v (suc e)) xs

-- the slots that are not tight leave room
pub leaves_room : (r : Round) → Fine r → (a e v : ℕ) → NextTight r (plan r) a e → r.slot ≤ a → a < v → v ≤ e → num 0 v (plan r) + 1 ≤ v - r.slot
leaves_room r f a e zero n h i j = absurd (omega arith)
leaves_room r f a e (suc u) n h i j =
    elim (leb? (num 0 (suc u) (plan r) + 1) (suc u - r.slot)) [
      | inl b ↦ b.1
      | inr b ↦ absurd (n.first u (omega arith) (omega arith)
          (omega (arith, plan_feas r f (suc u) (omega arith) (omega (arith, n.by)))))
    ]

-- a substitute that takes its mark stands_in for the end of its segment, but for a slot that isn't tight
pub fills_for_end : (r : Round) → Fine r → (x : Row) (g : ℕ) → NextTight r (plan r) x.due g → r.slot ≤ x.due → x.weight ≡ mark_in r (plan r) x.due →
    (w d s v : ℕ) → MarkAtLeast r w d s → r.slot < v → v ≤ suc s →
    (c : ℕ) × (num 0 v (plan r) + c ≤ v - r.slot) × (point v (suc s) g ≤ box w v (suc s) x + c)
fills_for_end r f x g n h q w d s v m i j =
    let free : num 0 v (plan r) ≤ v - r.slot = plan_feas r f v (omega arith) (omega (arith, m.next.by)) in
    elim (point? v (suc s) g) [
      | inl a ↦ elim (leb? v x.due) [
        | inl b ↦ (
          0,
          omega arith,
          omega (
            arith,
            box_yes w v (suc s) x (omega (arith, mark_in_reach r f w d s x.due m h (omega (arith, n.from, a.2)))) b.1
                (omega (arith, n.from, a.2)),
          ),
        )
        | inr b ↦ (1, leaves_room r f x.due g v n h b.1 a.1, omega arith)
      ]
      | inr (inl a) ↦ (0, omega arith, omega arith)
      | inr (inr a) ↦ (0, omega arith, omega arith)
    ]

-- a plan member stands_in before the end of its segment
pub ends : (r : Round) → Fine r → (p : Row) (e : ℕ) → NextTight r (plan r) p.due e → (w d s v : ℕ) → MarkAtLeast r w d s → v ≤ suc s →
    box w v (suc s) p ≤ point v (suc s) e
ends r f p e n w d s v m k =
    elim (box? w v (suc s) p k) [
      | inl a ↦ omega (
        arith,
        point_yes v (suc s) e (omega (arith, n.from, a.2))
            (omega (arith, next_by r (plan r) p.due e s n (omega (arith, a.3)) m.next.tight)),
      )
      | inr a ↦ omega arith
    ]

pub gone_in : (b : ℕ) (μ : Row → ℕ) (p : Row) (xs : List Row) → Rising 1 b xs → (p.ticket ≡ 0) ⊎ FirstOfTicket p xs →
    sum μ xs ≤ sum μ (without p.ticket xs) + μ p
gone_in b μ p xs s (inl h) = rw (h, without_none 1 b 0 xs (omega arith) s) (omega arith)
gone_in b μ p xs s (inr i) = omega (arith, without_sum μ p xs i)

pub rows_kept : (r : Round) → Fine r → (a : ℕ) → FilledSoFar r a a r.rows
rows_kept r f a =
    record {
      past = omega arith;
      ahead = λ z i j k. rising_first 1 r.next z r.rows f.rising j;
      others = λ z j n. rising_first 1 r.next z r.rows f.rising j;
      okay = all_map {Q = RowOk r} (λ x (h : RowFine r x). row_ok r x h.due_by h.some h.most h.class) r.rows f.fine;
      rising = f.rising;
      sums = λ w d s v m k. omega arith;
    }

-- where the shifts begin and end
pub record ShiftEnds (r : Round) (p s : Row) (e g : ℕ) : Type 0 where
  pub first : NextTight r (plan r) p.due e
  pub last : NextTight r (plan r) s.due g
  pub low : r.slot ≤ s.due
  pub start : r.slot ≤ p.due
  pub order : e ≤ g

pub ends_of : (r : Round) → Fine r → (p s : Row) (b : ℕ) → p.due ≤ r.last → r.slot ≤ p.due → Start r (plan r) p.due b → b ≤ s.due →
    s.due ≤ r.last → ShiftEnds r p s (tight_after r (plan r) p.due) (tight_after r (plan r) s.due)
ends_of r f p s b h k st i j =
    let n = next r (plan r) p.due h (plan_full r f) in
    let m = next r (plan r) s.due j (plan_full r f) in
    record {
      first = n;
      last = m;
      low = omega (arith, st.low);
      start = k;
      order = elim (ltb? (tight_after r (plan r) s.due) p.due) [
        | inl a ↦ absurd (st.none (tight_after r (plan r) s.due) (omega (arith, m.from)) a.1 m.tight)
        | inr a ↦ next_by r (plan r) p.due (tight_after r (plan r) p.due) (tight_after r (plan r) s.due) n a.1 m.tight
      ];
    }

-- THE SUBSTITUTE IS A ROW
pub outside_heavy : (r : Round) → Fine r → (s : Row) → In s r.rows → in_plan s (plan r) ≡ false → s.weight ≤ mark_in r (plan r) s.due
outside_heavy r f s i n =
    let o = all_in (RowFine r) s r.rows f.fine i in
    let d = plan_edge r f s.weight in
    let h : s.due < d.at =
    all_in (λ x. s.weight ≤ x.weight → x.due < d.at) s (outside r) d.out (row_outside r s i n) (omega arith) in
    mark_above r (plan r) (plan_feas r f) (plan_full r f) s.weight s.due d.at o.most o.due_from h d.high d.full

abbrev pub at_its_mark : Round → Row → Row
at_its_mark r s = row s.ticket s.due (mark_in r (plan r) s.due) s.tail

pub leap_row : (r : Round) → Fine r → (p s : Row) (e g : ℕ) → In p (plan r) → ShiftEnds r p s e g → In s r.rows → in_plan s (plan r) ≡ false →
    (ys : List Row) → FilledSoFar r e g ys → Left r (without p.ticket (changed s.ticket (at_its_mark r s) ys))
unfolding row
leap_row r f p s e g i en j n ys q =
    let s' = at_its_mark r s in
    let ys' = changed s.ticket s' ys in
    let o = all_in (RowFine r) s r.rows f.fine j in
    let fs : FirstOfTicket s ys = q.others s j (λ h a b c. not_in_plan s (plan r) n h a (sym c)) in
    let fp : (p.ticket ≡ 0) ⊎ FirstOfTicket p ys' = elim (plan_member r p i) [
      | inr a ↦ inl (blank_ticket p a.0)
      | inl a ↦ inr (changed_first s.ticket s' p (not_in_plan s (plan r) n p i) refl ys
          (q.others p a (λ h b c d. omega (
            arith,
            en.first.from,
            c,
            ap (λ (x : Row). x.due)
                (same_ticket r f h p b a d),
          ))))
    ] in
    let rs = rising_changed 1 r.next s.ticket s' refl ys q.rising in
    record {
      okay = all_without (RowOk r) p.ticket ys' (all_changed (RowOk r) s.ticket s'
          (row_ok r s' o.due_by (omega (arith, o.some, outside_heavy r f s j n)) (mark_limit r (plan r) s.due) o.class) ys q.okay);
      rising = rising_without 1 r.next p.ticket ys' rs;
      fills = λ w d t v m k l.
          let c = fills_for_end r f s' g en.last en.low refl w d t v m k l in
          omega (
            arith,
            c.1,
            c.2,
            changed_sum (box w v (suc t)) s s' ys fs,
            gone_in r.next (box w v (suc t)) p ys' rs fp,
            q.sums w d t v m l,
            ends r f p e en.first w d t v m l,
            rows_fill r f w (suc t) v c.0 m.some (omega arith) l m.full c.1,
            in_sum (box w v (suc t)) s (outside r) (row_outside r s j n),
          );
    }
  where
    same_ticket : (r : Round) → Fine r → (h p : Row) → In h (plan r) → In p r.rows → h.ticket ≡ p.ticket → h ≡ p
    same_ticket r f h p i j e = elim (plan_member r h i) [
      | inr a ↦ absurd (omega (arith, blank_ticket h a.0, rising_above 1 r.next p r.rows f.rising j))
      | inl a ↦ rising_same 1 r.next h p r.rows f.rising a j e
    ]

-- THE SUBSTITUTE IS A BLANK, at the start of p's segment
pub fills_alone : (r : Round) → Fine r → (w d e v : ℕ) → MarkAtLeast r w d e → r.slot ≤ v → v ≤ suc e → suc e - v ≤ sum (box w v (suc e)) r.rows
fills_alone r f w d e v m k l =
    omega (
      arith,
      rows_fill r f w (suc e) v 0 m.some (omega arith) l m.full
          (omega (arith, plan_feas r f v (omega arith) (omega (arith, m.next.by)))),
    )

pub leap_kept : (r : Round) → Fine r → (p : Row) (b e : ℕ) → In p (plan r) → NextTight r (plan r) p.due e → NextTight r (plan r) b e → r.slot ≤ b →
    1 ≤ mark_in r (plan r) b → Left r (changed p.ticket (row p.ticket b (mark_in r (plan r) b) blank_tail) r.rows)
unfolding row
leap_kept r f p b e i n o h j =
    let x = row p.ticket b (mark_in r (plan r) b) blank_tail in
    record {
      okay = all_changed (RowOk r) p.ticket x (row_ok r x (omega (arith, o.from, o.by)) j (mark_limit r (plan r) b) (omega arith)) r.rows
          (rows_kept r f 0).okay;
      rising = rising_changed 1 r.next p.ticket x refl r.rows f.rising;
      fills = λ w d t v m k l. elim (plan_member r p i) [
        | inr a ↦ rw (blank_ticket p a.0, changed_none 1 r.next 0 (row 0 b (mark_in r (plan r) b) blank_tail) r.rows (omega arith) f.rising)
            (fills_alone r f w d t v m (omega arith) l)
        | inl a ↦
            let c = fills_for_end r f x e o h refl w d t v m k l in
            omega (
              arith,
              c.1,
              c.2,
              changed_sum (box w v (suc t)) p x r.rows (rising_first 1 r.next p r.rows f.rising a),
              ends r f p e n w d t v m l,
              rows_fill r f w (suc t) v c.0 m.some (omega arith) l m.full c.1,
            )
      ];
    }

pub leap_gone : (r : Round) → Fine r → (p : Row) (b : ℕ) → In p (plan r) → r.slot ≤ b → b ≤ p.due → mark_in r (plan r) b ≤ 0 →
    Left r (without p.ticket r.rows)
leap_gone r f p b i h k j =
    record {
      okay = all_without (RowOk r) p.ticket r.rows (rows_kept r f 0).okay;
      rising = rising_without 1 r.next p.ticket r.rows f.rising;
      fills = λ w d t v m y l. elim (box? w v (suc t) p l) [
        | inl a ↦ absurd (omega (arith, m.some, mark_in_reach r f w d t b m h (omega (arith, a.3))))
        | inr a ↦ omega (arith, fills_alone r f w d t v m (omega arith) l, gone_in r.next (box w v (suc t)) p r.rows f.rising (fp i))
      ];
    }
  where
    fp : In p (plan r) → (p.ticket ≡ 0) ⊎ FirstOfTicket p r.rows
    fp i = elim (plan_member r p i) [
      | inr a ↦ inl (blank_ticket p a.0)
      | inl a ↦ inr (rising_first 1 r.next p r.rows f.rising a)
    ]

pub no_shift : (n : ℕ) (r : Round) (e g : ℕ) (xs : List Row) → g ≤ e → shifted n r (plan r) e g xs ≡ xs
unfolding shifted
no_shift zero r e g xs h = refl
no_shift (suc n) r e g xs h = rw (le-ltb e g h)

-- A LEAP, whichever the substitute
abbrev pub AfterLeap : Round → Row → Row → List Row
AfterLeap r p s =
    replaced r (plan r) p s
    (shifted (suc r.last) r (plan r) (tight_after r (plan r) p.due) (tight_after r (plan r) s.due) r.rows)

pub left_with_row : (r : Round) → Fine r → (p s : Row) (b : ℕ) → In p (plan r) → Start r (plan r) p.due b → In s r.rows → b ≤ s.due →
    in_plan s (plan r) ≡ false → Left r (AfterLeap r p s)
unfolding replaced
left_with_row r f p s b i st j h n =
    let o = all_in (RowFine r) s r.rows f.fine j in
    let u = all_in (λ x. (r.slot ≤ x.due) × (x.due ≤ r.last)) p (plan r) (plan_due r f) i in
    let e = tight_after r (plan r) p.due in
    let g = tight_after r (plan r) s.due in
    let en = ends_of r f p s b u.1 u.0 st h o.due_by in
    let hv : HeavyTo r g = all_map {Q = λ y. y.due ≤ g → 1 ≤ y.weight}
    (λ y (a : y.due ≤ g → mark_in r (plan r) s.due ≤ y.weight) (c : y.due ≤ g). omega (arith, a c, outside_heavy r f s j n, o.some))
    (plan r) (mark_all r (plan r) s.due) in
    let q : FilledSoFar r e g (shifted (suc r.last) r (plan r) e g r.rows) =
    shift_ind r f g en.last.by en.last.tight hv (FilledSoFar r e) (λ e' xs h e'' p' k. shift_kept r f e e' g h e'' xs en.last.by p' k)
    (suc r.last) e r.rows (omega (arith, en.start, en.first.from)) en.order (omega (arith, en.last.by)) en.first.tight
    (rows_kept r f e) in
    rw (ne_eqb s.ticket 0 (λ c. omega (arith, rising_above 1 r.next s r.rows f.rising j)))
    (leap_row r f p s e g i en j n (shifted (suc r.last) r (plan r) e g r.rows) q)

pub left_with_blank : (r : Round) → Fine r → (p : Row) (b : ℕ) → In p (plan r) → Start r (plan r) p.due b → Left r (AfterLeap r p (blank b))
unfolding replaced blank
left_with_blank r f p b i st =
    let u = all_in (λ x. (r.slot ≤ x.due) × (x.due ≤ r.last)) p (plan r) (plan_due r f) i in
    let e = tight_after r (plan r) p.due in
    let en = ends_of r f p (blank b) b u.1 u.0 st (omega arith) (omega (arith, st.by, u.1)) in
    let back : tight_after r (plan r) b ≤ e =
    next_by r (plan r) b (tight_after r (plan r) b) e en.last (omega (arith, st.by, en.first.from)) en.first.tight in
    let same : tight_after r (plan r) b ≡ e = omega (arith, en.order) in
    let o : NextTight r (plan r) b e = rw same at en.last in
    rw (no_shift (suc r.last) r e (tight_after r (plan r) b) r.rows back)
    (both_ways (Left r) (ltb 0 (mark_in r (plan r) b)) (changed p.ticket (row p.ticket b (mark_in r (plan r) b) blank_tail) r.rows)
    (without p.ticket r.rows)
    (λ a. leap_kept r f p b e i en.first o st.low (ltb-true 0 (mark_in r (plan r) b) a))
    (λ a. leap_gone r f p b i st.low st.by (ltb-false 0 (mark_in r (plan r) b) a)))

pub leapt_left : (r : Round) → Fine r → (p : Row) → In p (plan r) → first_end r (plan r) < p.due → Left r (leapt r (plan r) p)
unfolding leapt substitute
leapt_left r f p i h =
    let u = all_in (λ x. (r.slot ≤ x.due) × (x.due ≤ r.last)) p (plan r) (plan_due r f) i in
    let b = segment_start r (plan r) p.due in
    let st = start r (plan r) p.due (plan_feas r f) f.time u.0 in
    rw (lt-leb p.due (first_end r (plan r)) h)
    (elim (outside_in r (plan r) b r.rows (blank b) r.rows (blank b) (inl refl) (all_of_in (λ x. In x r.rows) r.rows (λ x j. j))) [
      | inl a ↦ rw a (left_with_blank r f p b i st)
      | inr a ↦ left_with_row r f p (heaviest_outside b r.rows (plan r) (blank b)) b i st a.0 a.1 a.2
    ])
