-- Tables read back as their rounds, and a sound round's table is accepted: read_back, length_table, table_good, next_sized.
use Rattle.std.specs.Prelude.{◌≡◌, refl, true, ◌&&◌, not, cond, List, [], ◌∷◌, ◌++◌, ℕ, zero, suc, ◌+◌, ◌*◌, ◌-◌, ◌/◌, ◌%◌, ◌≤◌, max, ltb, leb, eqb, get_or, drop}
use Rattle.std.proofs.Common.{ap, ap₂, inl, inr, append_assoc, arith, le-leb, eq-eqb, length-append, drop_at}
use Rattle.std.proofs.Math.ListN.{length, replicate}
use Rattle.std.proofs.lemmas.List.{length-replicate}
use Rattle.rules.specs.Limits.{head_size, row_size, most_rows, most_last, ticket_limit, used_at, slot_bytes, head_tail_widths, head_widths, head_zeros_at, tail_widths, row_widths, row_zeros_at}
use Rattle.rules.specs.Rows.{Frame, Setup, Tail, Row, HeadTail, Round, heavier, blank, round, row, All, blank_tail}
use Rattle.rules.specs.Plan.{in_plan, lightest_by, sends_before, best_from, plan, best, canonical_first, first_end, tight_after, mark_in, substitute, heaviest_outside, segment_start}
use Rattle.rules.specs.Steps.{opened, taken_row, taken, sealed, turn_of, goes, sent, without, changed, still_due, leapt, replaced, shifted, heaviest_between}
use Rattle.rules.specs.Table.{low, field, put, tail_values, row_values, front_row, head_tail_values, head_tail_in, head_values, head_bytes, row_bytes, rows_bytes, table, rows_in, round_in, length_good, rows_good, round_good, same, table_refusal, rows_of}
use Rattle.rules.specs.Calls.{Act, taking, sending, sealing, Call, acting, act, deed, round_refusal, leaves, next_round}
use Rattle.theory.specs.Tests.{either, both_ways}
use Rattle.theory.specs.All.{all_map, all_append}
use Rattle.theory.specs.Bounds.{RowFine, TailRight, TailFine, frame_right, kept_right, blank_right, HeadTailRight, unsealed_right, sealed_right, right_tests, head_tested}
use Rattle.theory.specs.Full.{plan_all, Fine, Rising}
use Rattle.theory.specs.Change.{all_changed, all_without, all_still}
use Rattle.theory.specs.Turn.{first_from_all}
use Rattle.theory.specs.Calls.{Takes, takes, next_keeps}
use Rattle.theory.specs.Layout.{got, Fit, got_put}

abbrev pub zero_byte : ℕ
zero_byte = 0

-- what fits the table's bytes
pub record Sized (r : Round) : Type 0 where
  pub last : r.last ≤ most_last
  pub room : r.room ≤ most_rows
  pub next : r.next ≤ ticket_limit
  pub long : length r.rows ≤ r.room
  pub tails : All TailFine r.rows
  pub tail : HeadTailRight r.tail

-- A ROW reads back: its numbers are in its bytes, and a row is its numbers
abbrev pub RowFits : Row → Type 0
RowFits x = Fit row_widths (row_values x)

pub row_values_are : (x y : Row) → row_values x ≡ row_values y → x ≡ y
row_values_are x y e i =
    record { ticket = value_at 0 i; due = value_at 1 i; weight = value_at 2 i; tail = record { kind = value_at 3 i; class = value_at 4 i } }
  where
    value_at : (n : ℕ) → get_or (row_values x) n 0 ≡ get_or (row_values y) n 0
    value_at n = ap (λ (vs : List ℕ). get_or vs n 0) e

pub row_back : (x : Row) (bs : List ℕ) → RowFits x → front_row (row_bytes x ++ bs) ≡ x
unfolding row row_bytes got
row_back x bs f =
    row_values_are (front_row (row_bytes x ++ bs)) x
    (got_put row_widths (row_values x) 0 (row_bytes x ++ bs) (replicate (row_size - row_zeros_at) 0 ++ bs) f
    (append_assoc (put row_widths (row_values x)) (replicate (row_size - row_zeros_at) 0) bs))

pub length_row : (x : Row) → length (row_bytes x) ≡ row_size
unfolding row_bytes put low
length_row x = refl

pub length_rows : (xs : List Row) → length (rows_bytes xs) ≡ row_size * length xs
unfolding rows_bytes
length_rows [] = refl
length_rows (x ∷ xs) = omega (arith, length-append (row_bytes x) (rows_bytes xs), length_row x, length_rows xs)

pub rows_back : (xs : List Row) (bs : List ℕ) → All RowFits xs → rows_in (length xs) (rows_bytes xs ++ bs) ≡ xs
unfolding rows_in rows_bytes
rows_back [] bs a = refl
rows_back (x ∷ xs) bs a =
    let e = append_assoc (row_bytes x) (rows_bytes xs) bs in
    let d : drop row_size (row_bytes x ++ (rows_bytes xs ++ bs)) ≡ rows_bytes xs ++ bs = drop_at (row_bytes x) (rows_bytes xs ++ bs) row_size (length_row x) in
    rw (e, d) (ap₂ (λ (y : Row) (ys : List Row). y ∷ ys) (row_back x (rows_bytes xs ++ bs) a.0) (rows_back xs bs a.1))

-- THE HEAD
pub length_head : (t l n u : ℕ) (m : HeadTail) → length (head_bytes t l n u m) ≡ head_size
unfolding head_bytes put low
length_head t l n u m = refl

-- a round's own
abbrev pub head_of : Round → List ℕ
head_of r = head_bytes r.slot r.last r.next (length r.rows) r.tail

pub length_head_of : (r : Round) → length (head_of r) ≡ head_size
length_head_of r = length_head r.slot r.last r.next (length r.rows) r.tail

pub table_is : (r : Round) → table r ≡ head_of r ++ (rows_bytes r.rows ++ replicate (row_size * (r.room - length r.rows)) 0)
unfolding table
table_is r = refl

pub length_table : (r : Round) → length r.rows ≤ r.room → length (table r) ≡ head_size + row_size * r.room
unfolding table
length_table r h =
    let zs = replicate (row_size * (r.room - length r.rows)) zero_byte in
    omega (
      arith,
      length-append (head_of r) (rows_bytes r.rows ++ zs),
      length_head_of r,
      length-append (rows_bytes r.rows) zs,
      length_rows r.rows,
      length-replicate (row_size * (r.room - length r.rows)) zero_byte,
    )

pub rising_le : (a b : ℕ) (xs : List Row) → Rising a b xs → a ≤ b
rising_le a b [] s = s
rising_le a b (x ∷ xs) s = omega (arith, s.0, rising_le (suc x.ticket) b xs s.1)

pub fits_bytes : (r : Round) (a : ℕ) (xs : List Row) → r.last ≤ most_last → r.next ≤ ticket_limit → All (RowFine r) xs → All TailFine xs →
    Rising a r.next xs → All RowFits xs
fits_bytes r a [] h i f k s = tt
fits_bytes r a (x ∷ xs) h i f k s = (
  (omega (arith, rising_le (suc x.ticket) r.next xs s.1), (omega (arith, f.0.due_by), (omega (arith, f.0.most), tail_fits x.tail k.0))),
  fits_bytes r (suc x.ticket) xs h i f.1 k.1 s.1,
)
  where
    tail_fits : (m : Tail) → TailRight m → Fit tail_widths (tail_values m)
    tail_fits m t = (omega (arith, t.kinds), (omega (arith, t.classes), tt))

pub room_back : (r : Round) → length r.rows ≤ r.room → (length (table r) - head_size) / row_size ≡ r.room
room_back r h = omega (arith, length_table r h)

pub rest_is : (r : Round) → drop head_size (table r) ≡ rows_bytes r.rows ++ replicate (row_size * (r.room - length r.rows)) 0
unfolding table
rest_is r = drop_at (head_of r) _ head_size (length_head_of r)

module _ (r : Round) (f : Fine r) (z : Sized r) where
  head_got : got 0 head_widths (table r) ≡ head_values r.slot r.last r.next (length r.rows) r.tail
  unfolding table head_bytes
  head_got =
      let vs = head_values r.slot r.last r.next (length r.rows) r.tail in
      let zs = replicate (head_size - head_zeros_at) zero_byte in
      let bs = rows_bytes r.rows ++ replicate (row_size * (r.room - length r.rows)) zero_byte in
      got_put head_widths vs 0 (table r) (zs ++ bs)
      (omega (arith, f.time, z.last), (omega (arith, z.last), (omega (arith, z.next), (omega (arith, z.long, z.room), tail_fits r.tail z.tail))))
      (append_assoc (put head_widths vs) zs bs)
    where
      tail_fits : (m : HeadTail) → HeadTailRight m → Fit head_tail_widths (head_tail_values m)
      tail_fits m t = (omega (arith, t.sealed_flag), tt)

  head_at : (n : ℕ) →
      get_or (got 0 head_widths (table r)) n 0 ≡ get_or (head_values r.slot r.last r.next (length r.rows) r.tail) n 0
  head_at n = ap (λ (vs : List ℕ). get_or vs n 0) head_got

  count_is : field used_at slot_bytes (table r) ≡ length r.rows
  unfolding got
  count_is = head_at 3

  rows_are : rows_in (field used_at slot_bytes (table r)) (drop head_size (table r)) ≡ r.rows
  rows_are =
      rw (count_is, rest_is r)
      (rows_back r.rows (replicate (row_size * (r.room - length r.rows)) 0)
      (fits_bytes r 1 r.rows z.last z.next f.fine z.tails f.rising))

  tail_back : head_tail_in (table r) ≡ r.tail
  unfolding got
  tail_back i = record { sealed = head_at 4 i }

  pub read_back : round_in (table r) ≡ r
  unfolding round_in rows_of round got
  read_back i =
      record { slot = head_at 0 i; last = head_at 1 i; next = head_at 2 i; room = room_back r z.long i; rows = rows_are i; tail = tail_back i }

pub rows_good_yes : (r : Round) (b : ℕ) (xs : List Row) → All (RowFine r) xs → All TailFine xs → Rising (suc b) r.next xs →
    rows_good r b xs ≡ true
unfolding rows_good
rows_good_yes r b [] f k s = refl
rows_good_yes r b (x ∷ xs) f k s =
    rw (right_tests r.slot r.last r.next b x
    (record { from = s.0; below = rising_le (suc x.ticket) r.next xs s.1; bounds = f.0; tail = k.0 }))
    (rows_good_yes r x.ticket xs f.1 k.1 s.1)

pub good : (r : Round) → Fine r → Sized r → round_good r ≡ true
unfolding round_good
good r f z =
    rw (head_tested r.slot r.last r.next (length r.rows) r.room r.tail (record {
      last_most = z.last;
      slot_most = f.time;
      next_least = rising_le 1 r.next r.rows f.rising;
      next_most = z.next;
      fit = z.long;
      tail = z.tail;
    }))
    (rows_good_yes r 0 r.rows f.fine z.tails f.rising)

pub same_same : (bs : List ℕ) → same bs bs ≡ true
unfolding same
same_same [] = refl
same_same (b ∷ bs) = rw (eq-eqb b b refl) (same_same bs)

pub length_good_yes : (r : Round) → length r.rows ≤ r.room → 1 ≤ r.room → r.room ≤ most_rows → length_good (length (table r)) ≡ true
unfolding length_good
length_good_yes r h i j =
    rw (
      le-leb (head_size + row_size) (length (table r)) (omega (arith, length_table r h)),
      eq-eqb ((length (table r) - head_size) % row_size) 0 (omega (arith, length_table r h)),
      le-leb ((length (table r) - head_size) / row_size) most_rows (omega (arith, length_table r h)),
    )

pub table_good : (r : Round) → Fine r → Sized r → 1 ≤ r.room → table_refusal (table r) ≡ 0
unfolding table_refusal
table_good r f z h =
    rw (length_good_yes r z.long h z.room, read_back r f z, good r f z, same_same (table r))

-- sizes under calls
pub length_changed : (k : ℕ) (y : Row) (xs : List Row) → length (changed k y xs) ≡ length xs
unfolding changed
length_changed k y [] = refl
length_changed k y (x ∷ xs) = elim (either (eqb x.ticket k)) [ inl e ↦ rw e | inr e ↦ rw e (omega (arith, length_changed k y xs)) ]

pub length_without : (k : ℕ) (xs : List Row) → length (without k xs) ≤ length xs
unfolding without
length_without k [] = omega arith
length_without k (x ∷ xs) =
    elim (either (eqb x.ticket k)) [ inl e ↦ rw e (omega arith) | inr e ↦ rw e (omega (arith, length_without k xs)) ]

pub length_still : (t : ℕ) (xs : List Row) → length (still_due t xs) ≤ length xs
unfolding still_due
length_still t [] = omega arith
length_still t (x ∷ xs) =
    elim (either (leb t x.due)) [ inl e ↦ rw e (omega (arith, length_still t xs)) | inr e ↦ rw e (omega (arith, length_still t xs)) ]

pub between_all : (P : Row → Type 0) (a b : ℕ) (xs : List Row) (x : Row) → P x → All P xs → P (heaviest_between a b xs x)
unfolding heaviest_between
between_all P a b [] x p q = p
between_all P a b (y ∷ ys) x p q =
    between_all P a b ys (cond ((ltb a y.due && leb y.due b) && heavier y x) y x)
    (both_ways P ((ltb a y.due && leb y.due b) && heavier y x) y x (λ _. q.0) (λ _. p)) q.1

pub outside_all : (P : Row → Type 0) (a : ℕ) (ps xs : List Row) (x : Row) → P x → All P xs → P (heaviest_outside a xs ps x)
unfolding heaviest_outside
outside_all P a ps [] x p q = p
outside_all P a ps (y ∷ ys) x p q =
    outside_all P a ps ys
    (cond (leb a y.due && (not (in_plan y ps) && heavier y x)) y x)
    (both_ways P (leb a y.due && (not (in_plan y ps) && heavier y x)) y x
    (λ _. q.0) (λ _. p)) q.1

-- as many rows, each with a good tail
abbrev pub InRoom : ℕ → List Row → Type 0
InRoom n xs = (length xs ≤ n) × All TailFine xs

pub in_room_changed : (n k : ℕ) (y : Row) (xs : List Row) → TailFine y → InRoom n xs → InRoom n (changed k y xs)
in_room_changed n k y xs h s = (omega (arith, length_changed k y xs, s.0), all_changed TailFine k y h xs s.1)

pub in_room_without : (n k : ℕ) (xs : List Row) → InRoom n xs → InRoom n (without k xs)
in_room_without n k xs s = (omega (arith, length_without k xs, s.0), all_without TailFine k xs s.1)

pub in_room_still : (n t : ℕ) (xs : List Row) → InRoom n xs → InRoom n (still_due t xs)
in_room_still n t xs s = (
  omega (arith, length_still t xs, s.0),
  all_map {Q = TailFine} (λ x (h : (t ≤ x.due) × TailFine x). h.1) (still_due t xs) (all_still TailFine t xs s.1),
)

pub in_room_shifted : (n m : ℕ) (r : Round) (ps : List Row) (e g : ℕ) (xs : List Row) → All TailFine ps → InRoom n xs → InRoom n (shifted m r ps e g xs)
unfolding shifted row blank
in_room_shifted n zero r ps e g xs k s = s
in_room_shifted n (suc m) r ps e g xs k s =
    let h = heaviest_between e g ps (blank (suc g)) in
    let y = row h.ticket e (max h.weight (mark_in r ps e)) h.tail in
    both_ways (InRoom n) (ltb e g) (shifted m r ps (tight_after r ps h.due) g (changed h.ticket y xs)) xs
    (λ _. in_room_shifted n m r ps (tight_after r ps h.due) g (changed h.ticket y xs) k
    (in_room_changed n h.ticket y xs (between_all TailFine e g ps (blank (suc g)) (blank_right (suc g)) k) s))
    (λ _. s)

pub in_room_replaced : (n : ℕ) (r : Round) (ps : List Row) (p s : Row) (xs : List Row) → TailFine s → InRoom n xs → InRoom n (replaced r ps p s xs)
unfolding replaced row
in_room_replaced n r ps p s xs k q =
    both_ways (InRoom n) (eqb s.ticket 0) _ _
    (λ _. both_ways (InRoom n) (ltb 0 (mark_in r ps s.due)) _ _
    (λ _. in_room_changed n p.ticket (row p.ticket s.due (mark_in r ps s.due) blank_tail) xs kept_right q)
    (λ _. in_room_without n p.ticket xs q))
    (λ _. in_room_without n p.ticket _
    (in_room_changed n s.ticket (row s.ticket s.due (mark_in r ps s.due) s.tail) xs k q))

pub plan_tails : (r : Round) → All TailFine r.rows → All TailFine (plan r)
plan_tails r a = plan_all TailFine r a (λ s h k. blank_right s)

pub best_from_all : (P : Row → Type 0) (r : Round) (ps xs : List Row) (b : Row) → P b → All P xs → P (best_from r ps xs b)
unfolding best_from
best_from_all P r ps [] b p a = p
best_from_all P r ps (x ∷ xs) b p a =
    best_from_all P r ps xs (cond (sends_before r ps x b) x b) (both_ways P (sends_before r ps x b) x b (λ _. a.0) (λ _. p)) a.1

pub turn_tail : (r : Round) (ps : List Row) → All TailFine ps → TailFine (turn_of r ps)
unfolding turn_of best canonical_first
turn_tail r [] a = both_ways TailFine (eqb r.tail.sealed 1) _ _ (λ _. blank_right r.slot) (λ _. blank_right r.slot)
turn_tail r (p ∷ ps) a =
    both_ways TailFine (eqb r.tail.sealed 1) _ _ (λ _. first_from_all TailFine ps p a.0 a.1)
    (λ _. best_from_all TailFine r (p ∷ ps) ps p a.0 a.1)

pub lightest_all : (P : Row → Type 0) (s : ℕ) (xs : List Row) (b : Row) → P b → All P xs → P (lightest_by s xs b)
unfolding lightest_by
lightest_all P s [] b p a = p
lightest_all P s (x ∷ xs) b p a =
    lightest_all P s xs (cond (leb x.due s && heavier b x) x b) (both_ways P (leb x.due s && heavier b x) x b (λ _. a.0) (λ _. p)) a.1

pub sub_tail : (r : Round) (p : Row) → TailFine p → All TailFine r.rows → TailFine (substitute r (plan r) p)
unfolding substitute
sub_tail r p k a =
    both_ways TailFine (leb p.due (first_end r (plan r))) _ _ (λ _. lightest_all TailFine (first_end r (plan r)) (plan r) p k (plan_tails r a))
    (λ _. outside_all TailFine (segment_start r (plan r) p.due) (plan r) r.rows (blank (segment_start r (plan r) p.due)) (blank_right _) a)

pub in_room_leapt : (n : ℕ) (r : Round) (p : Row) → TailFine p → InRoom n r.rows → InRoom n (leapt r (plan r) p)
unfolding leapt
in_room_leapt n r p k s =
    in_room_replaced n r (plan r) p (substitute r (plan r) p) _ (sub_tail r p k s.1) (in_room_shifted n (suc r.last) r (plan r) _ _ r.rows
    (plan_tails r s.1) s)

pub in_room_sent : (n : ℕ) (r : Round) → InRoom n r.rows → InRoom n (sent r).rows
unfolding sent round
in_room_sent n r s =
    in_room_still n (suc r.slot) _
    (both_ways (InRoom n) (leb (goes r).due (first_end r (plan r))) _ _ (λ _. in_room_without n (goes r).ticket r.rows s)
    (λ _. in_room_leapt n r (goes r) (turn_tail r (plan r) (plan_tails r s.1)) s))

pub sized_opened : (u : Setup) (k : ℕ) → u.last ≤ most_last → k ≤ most_rows → Sized (opened u k)
unfolding opened round
sized_opened u k h i = record { last = h; room = i; next = omega arith; long = omega arith; tails = tt; tail = unsealed_right }

pub sized_taken : (r : Round) (f : Frame) → Takes r f → Sized r → Sized (taken r f)
unfolding taken round row
sized_taken r f k z =
    let n = k.tickets in
    record {
      last = z.last;
      room = z.room;
      next = omega (arith, z.next);
      long = omega (arith, k.free, length-append r.rows (taken_row r.next f ∷ []));
      tails = all_append TailFine r.rows (taken_row r.next f ∷ []) z.tails (frame_right f.class k.class, tt);
      tail = z.tail;
    }

pub sized_sent : (r : Round) → Sized r → Sized (sent r)
unfolding sent round
sized_sent r z =
    let s = in_room_sent r.room r (z.long, z.tails) in
    record { last = z.last; room = z.room; next = z.next; long = s.0; tails = s.1; tail = z.tail }

pub sized_sealed : (r : Round) → Sized r → Sized (sealed r)
unfolding sealed round
sized_sealed r z = record { last = z.last; room = z.room; next = z.next; long = z.long; tails = z.tails; tail = sealed_right }

-- SIZES KEPT by every call
abbrev pub Held : ℕ → Round → Type 0
Held k r = (r.room ≡ k) × Sized r

pub act_sized : (k : ℕ) (a : Act) (r : Round) → round_refusal (acting a) r ≡ 0 → Held k r → Held k (leaves (acting a) r)
unfolding leaves deed act taken sent sealed round
act_sized k (taking f) r e h = (h.0, sized_taken r f (takes r f e) h.1)
act_sized k sending r e h = (h.0, sized_sent r h.1)
act_sized k sealing r e h = (h.0, sized_sealed r h.1)

pub next_sized : (k : ℕ) (c : Call) (r : Round) → Held k r → Held k (next_round c r)
unfolding opened round
next_sized k = next_keeps (Held k) (λ u r i h. (h.0, sized_opened u r.room i h.1.room)) (act_sized k)
