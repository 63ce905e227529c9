-- The used rows in turn: judged so far, and counted so far.
use mathlib.Core.Path.{◌≡◌, refl, sym, ap, ap₂, ◌∙◌}
use mathlib.Core.Bool.{Bool, true, false, ◌&&◌, ◌||◌, false≢true}
use mathlib.Core.List.{List}
use Prim.Native.Nat.{ℕ, zero, suc, ◌+◌, ◌-◌, ◌≤◌, ◌<◌, min}
use native.Mathlib.Omega.{arith}
use native.Mathlib.Numerals.{unary_clauses}
use lib.Dec.{ltb, leb, eqb}
use borrow.Author.Tests.{lt-ltb, lt-leb, leb-true}
use lib.ListN.{length, get_or, set, take, drop}
use lib.Seq.{drop-drop}
use Rattle.rules.specs.Limits.{row_size, most_weight, most_class, ticket_at, due_at, wide_bytes, slot_bytes}
use Rattle.rules.specs.Rows.{Row, Round, row}
use Rattle.rules.specs.Table.{field, every, round_in}
use Rattle.rules.specs.Conditions.{row_at}
use Rattle.theory.specs.Tests.{and_true}
use Rattle.theory.specs.Count.{bucket}
use Rattle.theory.specs.Fields.{field_drop, field_take}
use Rattle.theory.specs.Judge.{zeros, row_judged, rows_judged}
use Rattle.sorts.specs.declared.Round.{Round as Head}
use Rattle.seen.specs.declared.Seen.{Seen}
use Rattle.seen.specs.Fair.{fair}
use Rattle.row.specs.Judge.{Sees, kind_good}
use Rattle.round.specs.Rows.{at, top_of, place}
use Rattle.round.specs.Buckets.{LentCounts}
use Rattle.kinds.specs.Kinds.{kinds_good, FramesSeen, passing}
use Rattle.round.specs.Scan.{RowsLent, all_judged, RowsSay}
use Rattle.row.proofs.RowLaws.{row_parts, in_time, frame_good, and_on}
use Rattle.kinds.proofs.KindLaws.{lent, lent_is, kinds_next}
use Rattle.round.proofs.ReadLaws.{at_held}
use Rattle.round.proofs.CountLaws.{Counting, count_bound, count_more, counting_start, counting_end, round_is}

pub record BucketAt (r : Round) (i c : ℕ) : Type 0 where
  pub is : c ≡ place r i
  pub by : c ≤ top_of r

at_most : (a b c d : ℕ) → c ≡ min a b → b ≡ d → c ≤ d
at_most a b c d e f = omega (arith, e, f)

-- NO SLOT LEFT: only a round without rows is sound
late : (a b d e x z : Bool) → (d ≡ true → e ≡ false) → (a && (b && (d && (e && x)))) && z ≡ false
late false b d e x z h = refl
late true false d e x z h = refl
late true true false e x z h = refl
late true true true e x z h = rw (h refl)

late_row : (s l n b : ℕ) (xs : List ℕ) → l < s → row_judged s l n b xs ≡ false
unfolding row_judged every row
late_row s l n b xs h =
    let d = field 4 2 xs in
    late (ltb b (field 0 4 xs)) (ltb (field 0 4 xs) n) (leb s d) (leb d l)
    (leb 1 (field 6 4 xs) && (leb (field 6 4 xs) most_weight && (leb (field 10 1 xs) 1 && (leb (field 11 1 xs) most_class && ((eqb (field 10 1 xs) 0 || eqb (field 11 1 xs) most_class) && true)))))
    (zeros (drop 12 xs)) (λ e. lt-leb d l (omega (arith, leb-true s d e, h)))

-- no row is good whatever the slots, and no slot left is not whatever the rows
pub no_row : (t : List ℕ) (h : Head) → h.used ≡ 0 → true ≡ all_judged t h
unfolding rows_judged
no_row t h e = rw e

late_rows : (s l n b u : ℕ) (bs : List ℕ) → l < s → (u ≡ 0 → ⊥) → false ≡ rows_judged u s l n b bs
unfolding rows_judged
late_rows s l n b zero bs h k = absurd (k refl)
late_rows s l n b (suc u) bs h k = sym (rw (late_row s l n b (take row_size bs) h))

pub all_late : (t : List ℕ) (h : Head) → h.last.0 < h.slot.0 → (h.used ≡ 0 → ⊥) → false ≡ all_judged t h
all_late t h = late_rows h.slot.0 h.last.0 h.next.0 0 h.used _

-- JUDGED SO FAR: what is asked of all rows is what is left to ask of those before i, and what is asked of the others
pub record Judging (t : List ℕ) (h : Head) (i : ℕ) (s : Seen) : Type 0 where
  pub by : i ≤ h.used
  pub frames : FramesSeen t i s
  pub rest : all_judged t h ≡ (ltb s.ticket.0 h.next.0 && (fair s && kinds_good t i))
      && rows_judged (h.used - i) h.slot.0 h.last.0 h.next.0 s.ticket.0 (drop (row_at i) t)

pub judging_start : (t : List ℕ) (h : Head) → RowsLent t h → Judging t h 0 (record { ticket = record { 0 = 0 }; ahead = 0; weights = 0; plain = 0 })
unfolding kinds_good
judging_start t h k =
    record {
      by = omega arith;
      frames = λ e. refl;
      rest = rw (lt-ltb 0 h.next.0 k.next) (simp unary_clauses);
    }

rows_step : (s l n b : ℕ) (t : List ℕ) (u i : ℕ) → i < u →
    rows_judged (u - i) s l n b (drop (row_at i) t)
    ≡ row_judged s l n b (take row_size (drop (row_at i) t))
    && rows_judged (u - (i + 1)) s l n (field ticket_at wide_bytes (drop (row_at i) t)) (drop (row_at (i + 1)) t)
unfolding rows_judged
rows_step s l n b t u i h =
    let e : u - i ≡ suc (u - (i + 1)) = omega arith in
    let f : row_at (i + 1) ≡ row_at i + row_size = omega arith in
    rw (e, f, ← drop-drop row_size (row_at i) t)

module _ (t : List ℕ) (h : Head) (k : RowsLent t h) (time : h.slot.0 ≤ h.last.0) (i a span : ℕ) (e : a ≡ row_at i)
    (d : span ≡ h.last.0 - h.slot.0) (o : i < h.used) (b s : Seen) (w : Sees h.slot.0 b (lent t a) s) where
  -- as the table holds it
  seen_there : Sees h.slot.0 b (take row_size (drop (row_at i) t)) s
  seen_there = rw (← lent_is t a i e) w

  ticket_there : s.ticket.0 ≡ field ticket_at wide_bytes (drop (row_at i) t)
  ticket_there = seen_there.ticket ∙ field_take ticket_at wide_bytes row_size (drop (row_at i) t) (omega arith)

  -- its kind is one more to ask about, and good where all are frames
  one_more : kinds_good t (i + 1) ≡ kinds_good t i && kind_good (take row_size (drop (row_at i) t))
  one_more = kinds_next t i

  frames_on : Judging t h i b → FramesSeen t (i + 1) s
  frames_on j e = let f = seen_there.frames e in one_more ∙ rw (j.frames f.0, frame_good (take row_size (drop (row_at i) t)) f.1)

  -- what its judge asks at once goes in front of the rest
  judging_row : Judging t h i b →
      all_judged t h ≡ (ltb b.ticket.0 s.ticket.0 && leb s.ahead span) && ((ltb s.ticket.0 h.next.0 && (fair s && kinds_good t (i + 1)))
      && rows_judged (h.used - (i + 1)) h.slot.0 h.last.0 h.next.0 s.ticket.0 (drop (row_at (i + 1)) t))
  judging_row j =
      j.rest
      ∙ ap (λ (n : Bool). (ltb b.ticket.0 h.next.0 && (fair b && kinds_good t i)) && n)
      (rows_step h.slot.0 h.last.0 h.next.0 b.ticket.0 t h.used i o)
      ∙ row_parts h.slot.0 h.last.0 h.next.0 b (kinds_good t i) (take row_size (drop (row_at i) t)) s
      (rows_judged (h.used - (i + 1)) h.slot.0 h.last.0 h.next.0 (field ticket_at wide_bytes (drop (row_at i) t)) (drop (row_at (i + 1)) t))
      time k.last seen_there
      ∙ rw (← ticket_there, ← d, ← one_more)

  pub judging_on : (x : Bool) → x ≡ ltb b.ticket.0 s.ticket.0 && leb s.ahead span → x ≡ true → Judging t h i b → Judging t h (i + 1) s
  judging_on x p q j = record { by = omega (arith, o); frames = frames_on j; rest = judging_row j ∙ rw (sym p ∙ q) }

  pub judging_off : (x : Bool) → x ≡ ltb b.ticket.0 s.ticket.0 && leb s.ahead span → x ≡ false → Judging t h i b → false ≡ all_judged t h
  judging_off x p q j = sym (judging_row j ∙ rw (sym p ∙ q))

  -- its bucket, as the code finds it
  due_there : field due_at slot_bytes (take row_size (drop (row_at i) t)) ≡ (at (round_in t) i).due
  unfolding row
  due_there =
      field_take due_at slot_bytes row_size (drop (row_at i) t) (omega arith)
      ∙ field_drop (row_at i) due_at slot_bytes t
      ∙ sym (ap (λ (y : Row). y.due) (at_held t i (omega (arith, o, k.head.used))))

  pub bucket_there : (x : Bool) (top c : ℕ) → x ≡ ltb b.ticket.0 s.ticket.0 && leb s.ahead span → x ≡ true →
      top ≡ min h.used (h.last.0 - h.slot.0) → c ≡ min s.ahead top → BucketAt (round_in t) i c
  unfolding bucket
  bucket_there x top c p q m g =
      let n = round_is t h k in
      let due = field due_at slot_bytes (take row_size (drop (row_at i) t)) in
      let f = (and_true (ltb b.ticket.0 s.ticket.0) (leb s.ahead span) (sym p ∙ q)).1 in
      let y = in_time h.slot.0 h.last.0 due s.ahead time k.last seen_there.due in
      let from = leb-true h.slot.0 due (and_true (leb h.slot.0 due) (leb due h.last.0) (sym y ∙ ap (leb s.ahead) (sym d) ∙ f)).0 in
      let u = seen_there.due.up from in
      let last-bucket : top ≡ top_of (round_in t) = m ∙ rw (n.rows, n.slot, n.last) in
      let ahead : s.ahead ≡ (at (round_in t) i).due - (round_in t).slot = u ∙ rw (due_there, n.slot) in
      record { is = g ∙ ap₂ min ahead last-bucket; by = at_most s.ahead top c (top_of (round_in t)) g last-bucket }

pub judging_end : (t : List ℕ) (h : Head) (i : ℕ) (s : Seen) (x : Bool) → Judging t h i s → h.used ≤ i → x ≡ passing t h.used h.next.0 s → x ≡ all_judged t h
unfolding rows_judged
judging_end t h i s x j o e =
    let f : h.used - i ≡ 0 = omega (arith, o) in
    let g : i ≡ h.used = omega (arith, j.by, o) in
    sym (j.rest ∙ rw (f, g, ← e) (and_on x))

-- JUDGED AND COUNTED SO FAR
pub record Scanned (t : List ℕ) (h : Head) (i : ℕ) (s : Seen) (cs : List ℕ) : Type 0 where
  pub judging : Judging t h i s
  pub counting : Counting (round_in t) i cs

pub scanned_on : (t : List ℕ) (h : Head) (i : ℕ) (b s : Seen) (cs : List ℕ) (c : ℕ) → RowsLent t h → i < h.used → Judging t h (i + 1) s →
    BucketAt (round_in t) i c → Scanned t h i b cs → Scanned t h (i + 1) s (set cs c (get_or cs c 0 + 2048))
scanned_on t h i b s cs c k o j w z =
    record {
      judging = j;
      counting = count_more (round_in t) i cs c (omega (arith, o, (round_is t h k).rows)) w.is w.by z.counting;
    }

-- a bucket is one of the places, and its count small
pub scanned_room : (t : List ℕ) (h : Head) (i : ℕ) (s : Seen) (cs : List ℕ) (c : ℕ) → RowsLent t h → BucketAt (round_in t) i c → Scanned t h i s cs →
    (c < length cs) × (c ≤ 1024) × (get_or cs c 0 ≤ 2097152)
scanned_room t h i s cs c k w z =
    let n = round_is t h k in (
      omega (arith, w.by, z.counting.enough),
      omega (arith, w.by, n.rows, k.few),
      omega (arith, count_bound (round_in t) i cs c z.counting w.by, n.rows, k.few),
    )

-- WHAT IS SAID of all rows
pub say_none : (t : List ℕ) (h : Head) (cs : List ℕ) → RowsLent t h → LentCounts t cs → h.used ≡ 0 → RowsSay t h cs true
say_none t h cs k l e =
    record {
      judged = no_row t h e;
      counted = λ _ _. counting_end t h 0 cs k (omega arith) (omega (arith, e)) (counting_start t h cs k l);
    }

pub say_off : (t : List ℕ) (h : Head) (cs : List ℕ) → false ≡ all_judged t h → RowsSay t h cs false
say_off t h cs e = record { judged = e; counted = λ f _. absurd (false≢true f) }

pub say_all : (t : List ℕ) (h : Head) (i : ℕ) (s : Seen) (cs : List ℕ) (x : Bool) → RowsLent t h → h.used ≤ i → x ≡ passing t h.used h.next.0 s →
    Scanned t h i s cs → RowsSay t h cs x
say_all t h i s cs x k o e z =
    record { judged = judging_end t h i s x z.judging o e; counted = λ _ _. counting_end t h i cs k z.judging.by o z.counting }
