-- A reply's line put behind the bytes written, and how long it is.
use mathlib.Core.Path.{◌≡◌, sym, ap, ◌∙◌}
use mathlib.Core.List.{List, [], ◌++◌, append-nil, append_assoc}
use Prim.Native.Nat.{ℕ, ◌+◌, ◌-◌, ◌≤◌}
use native.Mathlib.Omega.{arith}
use lib.ListN.{length, take, drop, length-append, length-take, length-drop, drop_of_length-le}
use lib.Seq.{length-take-le, take_all, drop-drop, take_at, drop_at}
use borrow.Rule.Slice.PartMut.{put_mid}
use Rattle.rules.specs.Calls.{Reply, refused, done, closed, ticket, step, amount, blank_due, ordinary, leap, silence, frame, kept_blank}
use Rattle.rules.specs.Lines.{reply_digits, reply_text, reply_room, out_digits}
use Rattle.theory.specs.Digits.{length_digits}
use Rattle.replying.specs.Replying.{Replies}

-- HOW LONG a reply is
pub reply_long : (r : Reply) → length (reply_text r) ≤ reply_room
unfolding reply_text reply_digits out_digits
reply_long (refused n) = simp (length-append, length_digits) (omega arith)
reply_long done = simp (length-append, length_digits) (omega arith)
reply_long closed = simp (length-append, length_digits) (omega arith)
reply_long (ticket k) = simp (length-append, length_digits) (omega arith)
reply_long (step (ordinary silence)) = simp (length-append, length_digits) (omega arith)
reply_long (step (ordinary (frame k))) = simp (length-append, length_digits) (omega arith)
reply_long (step (ordinary (kept_blank k))) = simp (length-append, length_digits) (omega arith)
reply_long (step (leap silence)) = simp (length-append, length_digits) (omega arith)
reply_long (step (leap (frame k))) = simp (length-append, length_digits) (omega arith)
reply_long (step (leap (kept_blank k))) = simp (length-append, length_digits) (omega arith)
reply_long (amount n) = omega arith
reply_long (blank_due s) = omega arith

pub refusal_long : length (reply_text (refused 1)) ≡ 5
unfolding reply_text reply_digits
refusal_long = simp (length-append, length_digits)

-- BYTES PUT behind those written: a line at the start of the buffer's part from w on
pub record LinePut (line o o' : List ℕ) (w r : ℕ) : Type 0 where
  pub size : r ≡ length line
  pub room : w + r ≤ length o
  pub long : length o' ≡ length o
  pub said : take (w + r) o' ≡ take w o ++ line
  pub kept : drop (w + r) o' ≡ drop (w + r) o

pub put_line : {line o part : List ℕ} {w r : ℕ} → w ≤ length o → Replies line (take (length o - w) (drop w o)) part r →
    length part ≡ length (take (length o - w) (drop w o)) → LinePut line o (put_mid w (length o - w) o part) w r
put_line {line} {o} {part} {w} {r} h p e =
    let n = length o - w in
    let d = length-drop w o in
    let l : length part ≡ n = omega (arith, e, length-take n (drop w o)) in
    let front = take w o ++ line in
    let rest = drop (w + r) o in
    let all : take n (drop w o) ≡ drop w o = take_all n (drop w o) (omega arith) in
    let none : drop n (drop w o) ≡ [] = drop_of_length-le (drop w o) {i = n} (omega arith) in
    let s : part ≡ line ++ rest = p.left ∙ rw (all, drop-drop, p.long) in
    let m : length part ≡ length line + length rest = ap length s ∙ length-append line rest in
    let room : w + r ≤ length o = omega (arith, p.long, length-drop (w + r) o) in
    let whole : put_mid w n o part ≡ front ++ rest = rw (none, append-nil, s) (sym (append_assoc (take w o) line rest)) in
    let f : length front ≡ w + r = length-append (take w o) line ∙ omega (arith, p.long, length-take-le w o h) in
    record {
      size = p.long;
      room = room;
      long = ap length whole ∙ length-append front rest ∙ omega (arith, length-drop (w + r) o);
      said = ap (take (w + r)) whole ∙ take_at front rest (w + r) f;
      kept = ap (drop (w + r)) whole ∙ drop_at front rest (w + r) f;
    }

pub reply_within : {line before after : List ℕ} {r : ℕ} → Replies line before after r → length after ≡ length before → r ≤ length after
reply_within {line} {before} p e =
    omega (arith, p.long, ap length p.left, length-append line (drop (length line) before), length-drop (length line) before)
