-- The judge of a whole table, and the scan.
use mathlib.Core.Path.{◌≡◌, sym, ap, ◌∙◌}
use mathlib.Core.Bool.{Bool, true, false, ◌&&◌, cond}
use mathlib.Core.List.{List}
use Prim.Native.Nat.{ℕ, ◌+◌, ◌-◌, ◌/◌, ◌%◌, ◌≤◌}
use native.Mathlib.Omega.{arith}
use lib.Dec.{leb, eqb}
use borrow.Author.Tests.{leb-true, eqb-true}
use lib.ListN.{length, drop}
use Rattle.rules.specs.Limits.{head_size, row_size, most_rows}
use Rattle.rules.specs.Table.{every, head_tail_in, head_tests, length_good, rows_of, table_refusal}
use Rattle.rules.specs.Conditions.{Bytes, slot_in, last_in, next_in, used_in, row_at}
use Rattle.theory.specs.Tests.{and_true}
use Rattle.theory.specs.Bounds.{tests_head}
use Rattle.theory.specs.Judge.{zeros, head_judged, judged}
use Rattle.theory.specs.Judged.{judged_refusal}
use Rattle.theory.specs.Checks.{refusal_two}
use Rattle.sorts.specs.declared.Round.{Round as Head}
use Rattle.std.specs.Prelude.{Ok}
use Rattle.head.specs.Head.{HeadOf}
use Rattle.round.specs.Scan.{RowsLent, all_judged, RowsSay}
use Rattle.round.specs.Judge.{Refuses, JudgeSays, ScanSays}

-- a length that is good has a head, and rows behind it
pub good_long : (n : ℕ) → length_good n ≡ true → (head_size ≤ n) × ((n - head_size) % row_size ≡ 0) × ((n - head_size) / row_size ≤ most_rows)
unfolding length_good
good_long n h =
    let a = and_true (leb (head_size + row_size) n) _ h in
    let b = and_true (eqb ((n - head_size) % row_size) 0) (leb ((n - head_size) / row_size) most_rows) a.1 in
    (omega (arith, leb-true (head_size + row_size) n a.0), eqb-true ((n - head_size) % row_size) 0 b.0, leb-true ((n - head_size) / row_size) most_rows b.1)

-- A HEAD that is sound, in bytes of a good length
pub record HeadSound (t : List ℕ) (h : Head) : Type 0 where
  pub bytes : Bytes t
  pub good : length_good (length t) ≡ true
  pub head : HeadOf t h
  pub sound : head_judged t ≡ true

-- a length that is found good has a head; a head found sound in it, with the bytes that the slice has
pub good_here : (t : List ℕ) (x : Bool) → x ≡ length_good (length t) → x ≡ true → length_good (length t) ≡ true
good_here t x e f = sym e ∙ f

pub head_here : (t : List ℕ) (h : Head) (x y : Bool) → Bytes t → x ≡ length_good (length t) → x ≡ true → HeadOf t h → y ≡ head_judged t → y ≡ true → HeadSound t h
head_here t h x y b e f k p q = record { bytes = b; good = sym e ∙ f; head = k; sound = sym p ∙ q }

-- the used rows of a sound head lie within the table, and whole rows follow them
pub record RowsFit (t : List ℕ) (h : Head) : Type 0 where
  pub lent : RowsLent t h
  pub whole : (length t - row_at h.used) % row_size ≡ 0

pub rows_fit : {t : List ℕ} {h : Head} → HeadSound t h → RowsFit t h
unfolding head_judged rows_of
rows_fit {t} {h} k =
    let l = good_long (length t) k.good in
    let tests = head_tests (slot_in t) (last_in t) (next_in t) (used_in t) (rows_of t) (head_tail_in t) in
    let r = tests_head (slot_in t) (last_in t) (next_in t) (used_in t) (rows_of t) (head_tail_in t) (and_true (every tests) _ k.sound).0 in
    let u : used_in t ≤ (length t - head_size) / row_size = r.fit in
    record {
      lent = record {
        head = k.head;
        few = omega (arith, u, l.2, k.head.used);
        room = omega (arith, u, k.head.used);
        within = omega (arith, u, l.0, k.head.used);
        last = omega (arith, r.last_most, k.head.last);
        next = omega (arith, r.next_least, k.head.next);
      };
      whole = omega (arith, u, l.0, l.1, k.head.used);
    }

-- THE JUDGE behind a sound head
abbrev pub rest_judged : (t : List ℕ) (h : Head) → Bool
rest_judged t h = all_judged t h && zeros (drop (row_at h.used) t)

judged_is : (t : List ℕ) (h : Head) → HeadSound t h → judged t ≡ rest_judged t h
unfolding judged
judged_is t h k = rw (k.sound, k.head.used, k.head.slot, k.head.last, k.head.next)

refusal_is : (t : List ℕ) (h : Head) → HeadSound t h → table_refusal t ≡ cond (rest_judged t h) 0 3
refusal_is t h k = judged_refusal t k.bytes k.good ∙ ap (λ (x : Bool). cond x 0 3) (judged_is t h k)

-- THE ANSWERS
pub refused_2 : (t : List ℕ) → length_good (length t) ≡ false → Refuses t 2
refused_2 t g = (sym (refusal_two t g), λ e. omega arith)

pub head_refused : (t : List ℕ) → Bytes t → length_good (length t) ≡ true → head_judged t ≡ false → Refuses t 3
unfolding judged
head_refused t b g e = (sym (judged_refusal t b g ∙ rw e), λ f. omega arith)

pub rows_refused : {t : List ℕ} {h : Head} {x : Bool} → HeadSound t h → x ≡ all_judged t h → x ≡ false → Refuses t 3
rows_refused {t} {h} k e f = (sym (refusal_is t h k ∙ rw (sym e ∙ f)), λ g. omega arith)

pub unused_refused : {t : List ℕ} {h : Head} {x : Bool} → HeadSound t h → all_judged t h ≡ true →
    x ≡ zeros (drop (row_at h.used) t) → x ≡ false → Refuses t 3
unused_refused {t} {h} k e p q = (sym (refusal_is t h k ∙ rw (e, sym p ∙ q)), λ g. omega arith)

pub judge_accepts : {t : List ℕ} {h : Head} {x : Bool} → HeadSound t h → all_judged t h ≡ true →
    x ≡ zeros (drop (row_at h.used) t) → x ≡ true → JudgeSays t (Ok h)
judge_accepts {t} {h} k e p q = (refusal_is t h k ∙ rw (e, sym p ∙ q), k.head)

-- THE SCAN accepts what the judge accepts, and has counted
pub scan_accepts : {t cs : List ℕ} {h : Head} {x y : Bool} → HeadSound t h → RowsSay t h cs x → x ≡ true →
    y ≡ zeros (drop (row_at h.used) t) → y ≡ true → ScanSays t cs (Ok h)
scan_accepts k s e p q = let j = judge_accepts k (sym s.judged ∙ e) p q in (j.0, j.1, s.counted e)
