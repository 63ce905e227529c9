-- What a sending leaves, as rows closed up and as bytes: closed, after_slot, sent_ordinary, sent_row, sent_kept, sent_gone, closing_rows.
use Rattle.std.specs.Prelude.{◌≡◌, ◌≢◌, Bool, true, false, ◌&&◌, not, cond, ℕ, suc, ◌+◌, ◌*◌, ◌-◌, ◌≤◌, ◌<◌, leb, eqb, length, get_or, take, drop}
use Rattle.std.proofs.Math.Path.{refl, ap}
use Rattle.std.proofs.Common.{sym, ap₂, ◌∙◌, subst, inl, inr, arith, length-append, length-drop, take-append-drop, take-suc, drop-cons, take_at, drop_at, drop-drop, take-add, take-take, length-take-le}
use mathlib.Core.List.{List, [], ◌∷◌, ◌++◌, append-nil, append_assoc}
use borrow.Author.Tests.{le-leb, lt-leb, lt-ltb, le-ltb, ne_eqb}
use Rattle.std.proofs.Math.Seq.{take-length, paste}
use Rattle.std.proofs.lemmas.List.Edits.{length-paste, take-paste, drop-paste}
use Rattle.rules.specs.Limits.{head_size, row_size}
use Rattle.rules.specs.Rows.{Row, Round, blank, row, All, In, going_on}
use Rattle.rules.specs.Plan.{plan, tight_after, segment_start, mark, first_end, substitute}
use Rattle.rules.specs.Steps.{set_to, kept_at, changed, without, still_due, goes, sent}
use Rattle.rules.specs.Table.{row_bytes, rows_bytes}
use Rattle.rules.specs.Conditions.{row_at}
use Rattle.theory.specs.Tests.{either, eqb?}
use Rattle.theory.specs.All.{all_of_in}
use Rattle.theory.specs.Full.{Fine, Rising}
use Rattle.theory.specs.Change.{rising_changed, rising_above}
use Rattle.theory.specs.Back.{length_row, length_rows}
use Rattle.theory.specs.Unique.{rising_other}
use Rattle.theory.specs.Members.{RowsOfPlan}
use Rattle.theory.specs.Chain.{Linked, moves}
use Rattle.theory.specs.Leaping.{rising_moves, leapt_row, leapt_blank}

-- THE ROWS KEPT: those due from a slot on, but for one ticket; 0 is no row's
unfoldable pub stays : (slot gone : ℕ) → Row → Bool
stays t k x = leb t x.due && not (eqb x.ticket k)

unfoldable pub closed : (slot gone : ℕ) → List Row → List Row
closed t k [] = []
closed t k (x ∷ xs) = cond (stays t k x) (x ∷ closed t k xs) (closed t k xs)

pub closed_other : (t k : ℕ) (xs : List Row) → All (λ x. k ≢ x.ticket) xs → still_due t xs ≡ closed t k xs
unfolding closed still_due stays
closed_other t k [] a = refl
closed_other t k (x ∷ xs) a =
    rw (ne_eqb x.ticket k (λ e. a.0 (sym e))) (elim (either (leb t x.due)) [
      | inl h ↦ rw h (ap (λ (zs : List Row). x ∷ zs) (closed_other t k xs a.1))
      | inr h ↦ rw h (closed_other t k xs a.1)
    ])

pub closed_without : (t k a b : ℕ) (xs : List Row) → Rising a b xs → still_due t (without k xs) ≡ closed t k xs
unfolding closed still_due without stays
closed_without t k a b [] s = refl
closed_without t k a b (x ∷ xs) s = elim (eqb? x.ticket k) [
  | inl e ↦ rw e.0 (elim (either (leb t x.due)) as (λ _. still_due t xs ≡ cond (leb t x.due && false) (x ∷ closed t k xs) (closed t k xs)) [
    | inl h ↦ rw h (same_rest e.1)
    | inr h ↦ rw h (same_rest e.1)
  ])
  | inr e ↦ rw e.0 (elim (either (leb t x.due)) [
    | inl h ↦ rw h (ap (λ (zs : List Row). x ∷ zs) (closed_without t k (suc x.ticket) b xs s.1))
    | inr h ↦ rw h (closed_without t k (suc x.ticket) b xs s.1)
  ])
]
  where
    same_rest : x.ticket ≡ k → still_due t xs ≡ closed t k xs
    same_rest e = closed_other t k xs (subst (λ (n : ℕ). All (λ y. n ≢ y.ticket) xs) e (rising_other b x xs s.1))

pub closed_all : (t a b : ℕ) (xs : List Row) → 1 ≤ a → Rising a b xs → still_due t xs ≡ closed t 0 xs
closed_all t a b xs h s = closed_other t 0 xs (all_of_in (λ x. 0 ≢ x.ticket) xs (λ x i e. omega (arith, e, h, rising_above a b x xs s i)))

pub closed_append : (t k : ℕ) (xs ys : List Row) → closed t k (xs ++ ys) ≡ closed t k xs ++ closed t k ys
unfolding closed
closed_append t k [] ys = refl
closed_append t k (x ∷ xs) ys = elim (either (stays t k x)) [
  | inl e ↦ rw e (ap (λ (zs : List Row). x ∷ zs) (closed_append t k xs ys))
  | inr e ↦ rw e (closed_append t k xs ys)
]

pub closed_yes : (t k : ℕ) (x : Row) → stays t k x ≡ true → closed t k (x ∷ []) ≡ (x ∷ [])
unfolding closed
closed_yes t k x e = rw e

pub closed_no : (t k : ℕ) (x : Row) → stays t k x ≡ false → closed t k (x ∷ []) ≡ []
unfolding closed
closed_no t k x e = rw e

pub closed_stays : (t k : ℕ) (xs : List Row) → All (λ x. stays t k x ≡ true) xs → closed t k xs ≡ xs
unfolding closed
closed_stays t k [] a = refl
closed_stays t k (x ∷ xs) a = rw a.0 (ap (λ (zs : List Row). x ∷ zs) (closed_stays t k xs a.1))

pub length_closed : (t k : ℕ) (xs : List Row) → length (closed t k xs) ≤ length xs
unfolding closed
length_closed t k [] = omega arith
length_closed t k (x ∷ xs) = elim (either (stays t k x)) [
  | inl e ↦ rw e (omega (arith, length_closed t k xs))
  | inr e ↦ rw e (omega (arith, length_closed t k xs))
]

-- THE ROUND AFTER, by the kind of step
abbrev pub after_slot : Round → List Row → Round
after_slot r xs = going_on (suc r.slot) r.next xs r

module _ (r : Round) (f : Fine r) (rs : List Row) (c : RowsOfPlan r rs) where
  pub sent_none : r.rows ≡ [] → (p : Row) → goes r ≡ p → p.due ≤ first_end r (plan r) → sent r ≡ after_slot r []
  unfolding sent without still_due
  sent_none e p b h = rw (b, le-leb p.due (first_end r (plan r)) h, e)

  pub sent_ordinary : (p : Row) → goes r ≡ p → p.due ≤ first_end r (plan r) → sent r ≡ after_slot r (closed (suc r.slot) p.ticket r.rows)
  unfolding sent
  sent_ordinary p e h = rw (e, le-leb p.due (first_end r (plan r)) h, closed_without (suc r.slot) p.ticket 1 r.next r.rows f.rising)

  -- a leap onto a row
  pub sent_row : (p s : Row) (hs : List Row) → goes r ≡ p → first_end r (plan r) < p.due → substitute r (plan r) p ≡ s → In s r.rows →
      Linked r rs (tight_after r (plan r) p.due) (tight_after r (plan r) s.due) hs →
      sent r ≡ after_slot r (closed (suc r.slot) p.ticket
      (changed s.ticket (set_to s.due (mark r s.due) s) (moves r (tight_after r (plan r) p.due) hs r.rows)))
  unfolding sent row
  sent_row p s hs e h u i k =
      rw (
        e,
        lt-leb p.due (first_end r (plan r)) h,
        leapt_row r f rs c p s hs u i k,
        closed_without (suc r.slot) p.ticket 1 r.next
            (changed s.ticket (set_to s.due (mark r s.due) s) (moves r (tight_after r (plan r) p.due) hs r.rows))
            (rising_changed 1 r.next s.ticket (set_to s.due (mark r s.due) s) refl
            (moves r (tight_after r (plan r) p.due) hs r.rows) (rising_moves r 1 r.next (tight_after r (plan r) p.due) hs r.rows f.rising)),
      )

  -- onto a blank that is kept in p's row
  pub sent_kept : (p : Row) → goes r ≡ p → In p (plan r) → first_end r (plan r) < p.due →
      substitute r (plan r) p ≡ blank (segment_start r (plan r) p.due) → 1 ≤ mark r p.due →
      sent r ≡ after_slot r (closed (suc r.slot) 0
      (changed p.ticket (kept_at (segment_start r (plan r) p.due) (mark r p.due) p) r.rows))
  unfolding sent row
  sent_kept p e i h u m =
      rw (
        e,
        lt-leb p.due (first_end r (plan r)) h,
        leapt_blank r f rs c p i u,
        lt-ltb 0 (mark r p.due) m,
        closed_all (suc r.slot) 1 r.next (changed p.ticket (kept_at (segment_start r (plan r) p.due) (mark r p.due) p)
            r.rows) (omega arith)
            (rising_changed 1 r.next p.ticket (kept_at (segment_start r (plan r) p.due) (mark r p.due) p) refl r.rows f.rising),
      )

  -- onto one that isn't
  pub sent_gone : (p : Row) → goes r ≡ p → In p (plan r) → first_end r (plan r) < p.due →
      substitute r (plan r) p ≡ blank (segment_start r (plan r) p.due) → mark r p.due ≡ 0 →
      sent r ≡ after_slot r (closed (suc r.slot) p.ticket r.rows)
  unfolding sent
  sent_gone p e i h u m =
      rw (
        e,
        lt-leb p.due (first_end r (plan r)) h,
        leapt_blank r f rs c p i u,
        le-ltb 0 (mark r p.due) (omega (arith, m)),
        closed_without (suc r.slot) p.ticket 1 r.next r.rows f.rising,
      )

-- BYTES
pub rows_append : (xs ys : List Row) → rows_bytes (xs ++ ys) ≡ rows_bytes xs ++ rows_bytes ys
unfolding rows_bytes
rows_append [] ys = refl
rows_append (x ∷ xs) ys = ap (λ (bs : List ℕ). row_bytes x ++ bs) (rows_append xs ys) ∙ sym (append_assoc (row_bytes x) (rows_bytes xs) (rows_bytes ys))

pub rows_one : (x : Row) → rows_bytes (x ∷ []) ≡ row_bytes x
unfolding rows_bytes
rows_one x = append-nil (row_bytes x)

-- the first rows' bytes, and the others'
pub rows_split : (xs : List Row) (i : ℕ) (bs : List ℕ) → rows_bytes xs ++ bs ≡ rows_bytes (take i xs) ++ (rows_bytes (drop i xs) ++ bs)
rows_split xs i bs =
    ap (λ (zs : List Row). rows_bytes zs ++ bs) (sym (take-append-drop i xs))
    ∙ ap (λ (cs : List ℕ). cs ++ bs) (rows_append (take i xs) (drop i xs))
    ∙ append_assoc (rows_bytes (take i xs)) (rows_bytes (drop i xs)) bs

pub rows_long : (xs : List Row) (i : ℕ) → i ≤ length xs → length (rows_bytes (take i xs)) ≡ row_size * i
rows_long xs i h = omega (arith, length_rows (take i xs), length-take-le i xs h)

-- what was pasted, read back
pub drop_take_paste : (w : List ℕ) (a : ℕ) (s : List ℕ) (n : ℕ) → a ≤ length w → n ≤ length s → take n (drop a (paste w a s n)) ≡ take n s
drop_take_paste w a s n h k =
    ap (λ (cs : List ℕ). take n cs) (ap (λ (cs : List ℕ). drop a cs) (append_assoc (take a w) (take n s) (drop (a + n) w))
    ∙ drop_at (take a w) (take n s ++ drop (a + n) w) a (length-take-le a w h))
    ∙ take_at (take n s) (drop (a + n) w) n (length-take-le n s k)

-- CLOSING UP IN PLACE: after i rows, those of them that stay stand first, and the rest is as it was
abbrev pub kept_of : (slot gone : ℕ) → List Row → (i : ℕ) → ℕ
kept_of t k xs i = length (closed t k (take i xs))

pub record Closing (t k : ℕ) (hd : List ℕ) (xs : List Row) (zs : List ℕ) (i : ℕ) (w : List ℕ) : Type 0 where
  pub ahead : i ≤ length xs
  pub long : length w ≡ row_at (length xs) + length zs
  pub first : take (row_at (kept_of t k xs i)) w ≡ hd ++ rows_bytes (closed t k (take i xs))
  pub rest : drop (row_at i) w ≡ rows_bytes (drop i xs) ++ zs

pub closing_start : (t k : ℕ) (hd : List ℕ) (xs : List Row) (zs : List ℕ) → length hd ≡ head_size → Closing t k hd xs zs 0 (hd ++ (rows_bytes xs ++ zs))
unfolding closed rows_bytes
closing_start t k hd xs zs e =
    record {
      ahead = omega arith;
      long = omega (arith, e, length-append hd (rows_bytes xs ++ zs), length-append (rows_bytes xs) zs, length_rows xs);
      first = take_at hd (rows_bytes xs ++ zs) head_size e ∙ sym (append-nil hd);
      rest = drop_at hd (rows_bytes xs ++ zs) head_size e;
    }

pub closed_next : (t k : ℕ) (xs : List Row) (i : ℕ) (z : Row) → i < length xs →
    closed t k (take (suc i) xs) ≡ closed t k (take i xs) ++ closed t k (get_or xs i z ∷ [])
closed_next t k xs i z h = ap (closed t k) (take-suc xs i z h) ∙ closed_append t k (take i xs) (get_or xs i z ∷ [])

pub kept_more : (t k : ℕ) (xs : List Row) (i : ℕ) (z : Row) → i < length xs → stays t k (get_or xs i z) ≡ true → kept_of t k xs (suc i) ≡ suc (kept_of t k xs i)
kept_more t k xs i z h e =
    omega (
      arith,
      ap length (closed_next t k xs i z h),
      length-append (closed t k (take i xs)) (closed t k (get_or xs i z ∷ [])),
      ap length (closed_yes t k (get_or xs i z) e),
    )

pub kept_still : (t k : ℕ) (xs : List Row) (i : ℕ) (z : Row) → i < length xs → stays t k (get_or xs i z) ≡ false → kept_of t k xs (suc i) ≡ kept_of t k xs i
kept_still t k xs i z h e =
    omega (
      arith,
      ap length (closed_next t k xs i z h),
      length-append (closed t k (take i xs)) (closed t k (get_or xs i z ∷ [])),
      ap length (closed_no t k (get_or xs i z) e),
    )

pub kept_most : (t k : ℕ) (xs : List Row) (i : ℕ) → i ≤ length xs → kept_of t k xs i ≤ i
kept_most t k xs i h = omega (arith, length_closed t k (take i xs), length-take-le i xs h)

module _ (t k : ℕ) (hd : List ℕ) (xs : List Row) (zs : List ℕ) where
  -- the row at i
  pub row_here : (i : ℕ) (z : Row) → i < length xs → rows_bytes (drop i xs) ++ zs ≡ row_bytes (get_or xs i z) ++ (rows_bytes (drop (suc i) xs) ++ zs)
  unfolding rows_bytes
  row_here i z h =
      ap (λ (ys : List Row). rows_bytes ys ++ zs) (drop-cons xs i z h) ∙ append_assoc (row_bytes (get_or xs i z)) (rows_bytes (drop (suc i) xs)) zs

  pub bytes_here : (i : ℕ) (z : Row) (w : List ℕ) → i < length xs → Closing t k hd xs zs i w → take row_size (drop (row_at i) w) ≡ row_bytes (get_or xs i z)
  bytes_here i z w h q =
      ap (λ (cs : List ℕ). take row_size cs) (q.rest ∙ row_here i z h)
      ∙ take_at (row_bytes (get_or xs i z)) (rows_bytes (drop (suc i) xs) ++ zs) row_size (length_row (get_or xs i z))

  pub rest_here : (i : ℕ) (z : Row) (w : List ℕ) → i < length xs → Closing t k hd xs zs i w → drop (row_at (suc i)) w ≡ rows_bytes (drop (suc i) xs) ++ zs
  rest_here i z w h q =
      let e : row_at (suc i) ≡ row_at i + row_size = omega arith in
      ap (λ (n : ℕ). drop n w) e
      ∙ sym (drop-drop row_size (row_at i) w)
      ∙ ap (λ (cs : List ℕ). drop row_size cs) (q.rest ∙ row_here i z h)
      ∙ drop_at (row_bytes (get_or xs i z)) (rows_bytes (drop (suc i) xs) ++ zs) row_size (length_row (get_or xs i z))

  -- a row that goes: nothing is written, or anything behind the kept rows and not past it
  pub closing_skip : (i : ℕ) (z : Row) (w v : List ℕ) → i < length xs → Closing t k hd xs zs i w → stays t k (get_or xs i z) ≡ false →
      length v ≡ length w → take (row_at (kept_of t k xs i)) v ≡ take (row_at (kept_of t k xs i)) w → drop (row_at (suc i)) v ≡ drop (row_at (suc i)) w →
      Closing t k hd xs zs (suc i) v
  closing_skip i z w v h q e a b d =
      let c : closed t k (take (suc i) xs) ≡ closed t k (take i xs) =
      closed_next t k xs i z h ∙ ap (λ (ys : List Row). closed t k (take i xs) ++ ys) (closed_no t k (get_or xs i z) e) ∙ append-nil (closed t k (take i xs)) in
      record {
        ahead = h;
        long = omega (arith, a, q.long);
        first = ap (λ (n : ℕ). take (row_at n) v) (kept_still t k xs i z h e) ∙ b ∙ q.first ∙ ap (λ (ys : List Row). hd ++ rows_bytes ys) (sym c);
        rest = d ∙ rest_here i z w h q;
      }

  -- a row that stays: its bytes are copied behind the kept rows
  pub closing_copy : (i : ℕ) (z : Row) (w v : List ℕ) → i < length xs → Closing t k hd xs zs i w → stays t k (get_or xs i z) ≡ true →
      length v ≡ length w → take (row_at (kept_of t k xs i)) v ≡ take (row_at (kept_of t k xs i)) w →
      take row_size (drop (row_at (kept_of t k xs i)) v) ≡ take row_size (drop (row_at i) w) → drop (row_at (suc i)) v ≡ drop (row_at (suc i)) w →
      Closing t k hd xs zs (suc i) v
  closing_copy i z w v h q e a b m d =
      let x = get_or xs i z in
      let n = kept_of t k xs i in
      let c : closed t k (take (suc i) xs) ≡ closed t k (take i xs) ++ (x ∷ []) =
      closed_next t k xs i z h ∙ ap (λ (ys : List Row). closed t k (take i xs) ++ ys) (closed_yes t k x e) in
      let j : row_at (kept_of t k xs (suc i)) ≡ row_at n + row_size = omega (arith, kept_more t k xs i z h e) in
      record {
        ahead = h;
        long = omega (arith, a, q.long);
        first =
            ap (λ (l : ℕ). take l v) j
            ∙ take-add (row_at n) row_size v
            ∙ ap₂ (λ (us : List ℕ) (vs : List ℕ). us ++ vs) (b ∙ q.first) (m ∙ bytes_here i z w h q ∙ sym (rows_one x))
            ∙ append_assoc hd (rows_bytes (closed t k (take i xs))) (rows_bytes (x ∷ []))
            ∙ ap (λ (cs : List ℕ). hd ++ cs) (sym (rows_append (closed t k (take i xs)) (x ∷ [])))
            ∙ ap (λ (ys : List Row). hd ++ rows_bytes ys) (sym c);
        rest = d ∙ rest_here i z w h q;
      }

  -- the copy as one paste
  pub closing_paste : (i : ℕ) (z : Row) (w : List ℕ) → i < length xs → Closing t k hd xs zs i w → stays t k (get_or xs i z) ≡ true →
      Closing t k hd xs zs (suc i) (paste w (row_at (kept_of t k xs i)) (drop (row_at i) w) row_size)
  closing_paste i z w h q e =
      let n = kept_of t k xs i in
      let l = kept_most t k xs i q.ahead in
      let s = drop (row_at i) w in
      let v = paste w (row_at n) s row_size in
      let a : row_at n ≤ length w = omega (arith, q.long, l, h) in
      let b : row_size ≤ length s = omega (arith, q.long, h, length-drop (row_at i) w) in
      let d : take (row_at n + row_size) v ≡ take (row_at n) w ++ take row_size s = take-paste w (row_at n) s row_size a b in
      let y : length (take (row_at n) w) ≡ row_at n = length-take-le (row_at n) w a in
      let g : row_at (suc i) ≡ row_at n + row_size + (row_size * i - row_size * n) = omega (arith, l) in
      closing_copy i z w v h q e (length-paste w (row_at n) s row_size (omega (arith, q.long, l, h)) b)
      (sym (take-take (row_at n) (row_at n + row_size) v (omega arith)) ∙ ap (λ (cs : List ℕ). take (row_at n) cs) d
      ∙ take_at (take (row_at n) w) (take row_size s) (row_at n) y)
      (drop_take_paste w (row_at n) s row_size a b)
      (ap (λ (m : ℕ). drop m v) g ∙ sym (drop-drop (row_size * i - row_size * n) (row_at n + row_size) v)
      ∙ ap (λ (cs : List ℕ). drop (row_size * i - row_size * n) cs) (drop-paste w (row_at n) s row_size a b)
      ∙ drop-drop (row_size * i - row_size * n) (row_at n + row_size) w ∙ ap (λ (m : ℕ). drop m w) (sym g))

  -- at the end
  pub closing_rows : (w : List ℕ) → length hd ≡ head_size → Closing t k hd xs zs (length xs) w →
      (kept_of t k xs (length xs) ≡ length (closed t k xs)) × (take (row_at (length (closed t k xs))) w ≡ hd ++ rows_bytes (closed t k xs))
  closing_rows w e q =
      let a : closed t k (take (length xs) xs) ≡ closed t k xs = ap (closed t k) (take-length xs) in
      (ap length a, ap (λ (n : ℕ). take (row_at n) w) (sym (ap length a)) ∙ q.first ∙ ap (λ (ys : List Row). hd ++ rows_bytes ys) a)
