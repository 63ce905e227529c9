-- One read served: the four ways in which it ends.
use Rattle.std.specs.Prelude.{Some, None, is_none}
use mathlib.Core.Path.{◌≡◌, sym, ap, ◌∙◌}
use mathlib.Core.Bool.{true, false, ◌&&◌, ◌||◌, not, cond}
use mathlib.Core.List.{List, [], ◌∷◌, ◌++◌, append-nil, append_assoc}
use Prim.Native.Nat.{ℕ, ◌+◌, ◌-◌, ◌≤◌, ◌<◌}
use native.Mathlib.Omega.{arith}
use Rattle.std.specs.List.{copy_within}
use lib.ListN.{length, take, drop, length-append, length-drop}
use lib.Seq.{length-take-le, drop-drop, take-add, take_at, drop_at}
use borrow.Author.Tests.{lt-ltb, le-ltb}
use Rattle.rules.specs.Calls.{refused, run}
use Rattle.rules.specs.Lines.{reply_text, printed_from}
use Rattle.rules.specs.Reads.{begun_from, calls_of, stops, longest_line, overlong, served, written}
use Rattle.theory.specs.Served.{served_short}
use Rattle.answering.specs.declared.Progress.{Progress}
use Rattle.answering.specs.Answering.{lines, Answers}
use Rattle.serving.specs.declared.Served.{Served}
use Rattle.serving.specs.Serving.{held_in, after_read, to_write, Serves, Ending, RefusedBehind}

-- A READ OF SOME BYTES, by all the bytes that are there then
record OfSome (t h x there : List ℕ) : Type 0 where
  table : (served t h x).table ≡ run (calls_of (lines there)) t
  held : (served t h x).held ≡ cond (stops (lines there) || overlong (begun_from [] there)) [] (begun_from [] there)
  over : (served t h x).over ≡ (stops (lines there) || overlong (begun_from [] there))
  writes : written t h x
      ≡ printed_from (lines there) t ++ cond (not (stops (lines there)) && overlong (begun_from [] there)) (reply_text (refused 1)) []

some : (t h x there : List ℕ) → 0 < length x → there ≡ h ++ x → OfSome t h x there
unfolding served written
some t h [] there l e = absurd (omega arith)
some t h (b ∷ bs) there l e = record { table = rw e; held = rw e; over = rw e; writes = rw e }

some_of : (held got : ℕ) (input t : List ℕ) → 0 < got → held + got ≤ length input →
    OfSome t (take held input) (take got (drop held input)) (take (held + got) input)
some_of held got input t g h =
    some t (take held input) (take got (drop held input)) (take (held + got) input)
    (omega (arith, length-take-le got (drop held input) (omega (arith, length-drop held input)))) (take-add held got input)

drop_take : (r n : ℕ) (l : List ℕ) → r ≤ n → n ≤ length l → drop r (take n l) ≡ take (n - r) (drop r l)
drop_take r n l h k =
    let e : r + (n - r) ≡ n = omega arith in
    let s : take n l ≡ take r l ++ take (n - r) (drop r l) = sym (ap (λ m. take m l) e) ∙ take-add r (n - r) l in
    ap (drop r) s ∙ drop_at (take r l) (take (n - r) (drop r l)) r (length-take-le r l (omega arith))

-- no more is read than is there
pub read_within : (held got : ℕ) (input : List ℕ) {t out t' out' : List ℕ} {p : Progress} → held + got ≤ length input →
    Answers (take (held + got) input) t out t' out' p → p.read ≤ held + got
read_within held got input h a = omega (arith, a.within, length-take-le (held + got) input h)

-- NOTHING MORE IS READ
abbrev pub Over : (wrote : ℕ) → Served → Type 0
Over w r = (r.wrote ≡ w) × (r.held ≡ None)

-- at the end of the input, by the bytes held
pub serves_end : {held got w : ℕ} {input t out out' : List ℕ} {r : Served} → got ≡ 0 → held + got ≤ length input →
    Ending held out out' w → Over w r → Serves held got input t out input t out' r
unfolding served written
serves_end {held} {input = input} e h p q =
    let l : length (take held input) ≡ held = length-take-le held input (omega arith) in
    record {
      wrote = q.0 ∙ p.long ∙ rw (e, l);
      said = p.left ∙ rw (e, l);
      moved = rw e;
      holds = ap held_in q.1 ∙ rw e;
      kept = rw e;
      over = ap is_none q.1 ∙ rw e;
    }

module _ (held got : ℕ) (input : List ℕ) {t out t' out' : List ℕ} {p : Progress} (g : 0 < got) (h : held + got ≤ length input)
    (a : Answers (take (held + got) input) t out t' out' p) where
  -- after refusal 1
  pub serves_stopped : {r : Served} → p.stopped ≡ true → Over p.wrote r → Serves held got input t out input t' out' r
  serves_stopped {r} e q =
      let i = take (held + got) input in
      let s = some_of held got input t g h in
      let stop : stops (lines i) ≡ true = sym a.stopped ∙ e in
      let w : to_write held got input t ≡ printed_from (lines i) t = s.writes ∙ rw stop (append-nil (printed_from (lines i) t)) in
      let hold : (after_read held got input t).held ≡ [] = s.held ∙ rw stop in
      record {
        wrote = q.0 ∙ a.wrote ∙ sym (ap length w);
        said = a.said ∙ rw w;
        moved = a.moved ∙ sym s.table;
        holds = ap held_in q.1 ∙ sym (ap length hold);
        kept = rw hold;
        over = ap is_none q.1 ∙ sym (s.over ∙ rw stop);
      }

  module _ (e : p.stopped ≡ false) where
    goes : stops (lines (take (held + got) input)) ≡ false
    goes = sym a.stopped ∙ e

    -- the line begun
    begun_is : begun_from [] (take (held + got) input) ≡ take (held + got - p.read) (drop p.read input)
    begun_is =
        sym (a.rest e)
        ∙ drop_take p.read (held + got) input (read_within held got input h a) h

    begun_long : length (begun_from [] (take (held + got) input)) ≡ held + got - p.read
    begun_long = ap length (sym (a.rest e)) ∙ length-drop p.read (take (held + got) input) ∙ rw (length-take-le (held + got) input h)

    -- of which is longer than any command's
    pub serves_overlong : {w : ℕ} {out'' : List ℕ} {r : Served} → longest_line < held + got - p.read → RefusedBehind p.wrote out' out'' w → Over w r →
        Serves held got input t out input t' out'' r
    unfolding overlong
    serves_overlong {w} {out''} {r} k b q =
        let i = take (held + got) input in
        let ps = printed_from (lines i) t in
        let rf = reply_text (refused 1) in
        let s = some_of held got input t g h in
        let long : overlong (begun_from [] i) ≡ true = rw begun_long (lt-ltb longest_line (held + got - p.read) k) in
        let writes : to_write held got input t ≡ ps ++ rf = s.writes ∙ rw (goes, long) in
        let hold : (after_read held got input t).held ≡ [] = s.held ∙ rw (goes, long) in
        let front : take p.wrote out' ≡ ps = ap (take p.wrote) a.said ∙ take_at ps (drop (length ps) out) p.wrote (sym a.wrote) in
        let rest : drop p.wrote out' ≡ drop (length ps) out =
        ap (drop p.wrote) a.said ∙ drop_at ps (drop (length ps) out) p.wrote (sym a.wrote) in
        record {
          wrote = q.0 ∙ b.long ∙ rw (writes, length-append ps rf, a.wrote);
          said =
              b.left
              ∙ rw (front, rest, drop-drop (length rf) (length ps) out, writes, length-append ps rf)
              (sym (append_assoc ps rf (drop (length ps + length rf) out)));
          moved = a.moved ∙ sym s.table;
          holds = ap held_in q.1 ∙ sym (ap length hold);
          kept = rw hold;
          over = ap is_none q.1 ∙ sym (s.over ∙ rw (goes, long));
        }

    -- which is kept for the next read
    pub serves_on : {input' : List ℕ} {r : Served} → held + got - p.read ≤ longest_line → input' ≡ copy_within input p.read (held + got) 0 →
        (r.wrote ≡ p.wrote) × (r.held ≡ Some (held + got - p.read)) → Serves held got input t out input' t' out' r
    unfolding overlong
    serves_on {input'} {r} k m q =
        let i = take (held + got) input in
        let n = held + got - p.read in
        let none : 0 + n ≡ n = omega arith in
        let ps = printed_from (lines i) t in
        let s = some_of held got input t g h in
        let short : overlong (begun_from [] i) ≡ false = rw begun_long (le-ltb longest_line (held + got - p.read) k) in
        let writes : to_write held got input t ≡ ps = s.writes ∙ rw (goes, short) (append-nil ps) in
        let hold : (after_read held got input t).held ≡ begun_from [] i = s.held ∙ rw (goes, short) in
        record {
          wrote = q.0 ∙ a.wrote ∙ sym (ap length writes);
          said = a.said ∙ rw writes;
          moved = a.moved ∙ sym s.table;
          holds = ap held_in q.1 ∙ sym (ap length hold ∙ begun_long);
          kept = m ∙ ap (λ (k : ℕ). take n (drop p.read input) ++ drop k input) none ∙ rw (hold, begun_long, begun_is);
          over = ap is_none q.1 ∙ sym (s.over ∙ rw (goes, short));
        }

-- WHAT IS HELD is no longer than a command's line
pub held_short : {held got : ℕ} {input t out input' t' out' : List ℕ} {r : Served} → Serves held got input t out input' t' out' r → held_in r.held ≤ longest_line
held_short {held} {got} {input} {t} s = omega (arith, s.holds, served_short t (take held input) (take got (drop held input)))

-- and what is written is within the output
pub wrote_within : {held got : ℕ} {input t out input' t' out' : List ℕ} {r : Served} → Serves held got input t out input' t' out' r →
    r.wrote ≤ length out'
wrote_within {held} {got} {input} {t} {out} s =
    let w = to_write held got input t in
    omega (arith, s.wrote, ap length s.said, length-append w (drop (length w) out))
