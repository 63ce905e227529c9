-- The complete lines of an input answered one after another: the whole gives what is there so far, and then what the rest gives.
use mathlib.Core.Logic.{inl, inr}
use mathlib.Core.Path.{◌≡◌, sym, ap, ◌∙◌}
use mathlib.Core.Bool.{true, false}
use mathlib.Core.List.{List, [], ◌∷◌, ◌++◌, append-nil, append_assoc}
use Prim.Native.Nat.{ℕ, ◌+◌, ◌*◌, ◌-◌, ◌≤◌, ◌<◌}
use native.Mathlib.Omega.{arith}
use lib.ListN.{length, take, drop, length-drop, take-append-drop}
use lib.Seq.{length-take-le, drop-drop}
use Rattle.rules.specs.Calls.{refused, answer, left, run}
use Rattle.rules.specs.Lines.{Command, call_of, command, broken, read, read_refusal, reply_text, reply_room, reply_ratio, turn, printed_from}
use Rattle.rules.specs.Reads.{begun_from, asked, calls_of, stops}
use Rattle.theory.specs.Tests.{ltb?}
use Rattle.lines.specs.Ends.{NoEnd, FirstEnd}
use Rattle.lines.proofs.ReadLines.{short}
use Rattle.lines.proofs.Cuts.{cut, uncut}
use Rattle.answering.specs.declared.Progress.{Progress}
use Rattle.answering.specs.Answering.{lines, bytes_read, Answers}
use Rattle.answering.proofs.Put.{LinePut, reply_long, refusal_long}

-- A LINE and those behind it: a command's, and one that is broken
record Told (c : Command) (line : List ℕ) (more : List (List ℕ)) (t : List ℕ) : Type 0 where
  printed : printed_from (line ∷ more) t ≡ reply_text (answer (call_of c) t) ++ printed_from more (left (call_of c) t)
  called : run (calls_of (line ∷ more)) t ≡ run (calls_of more) (left (call_of c) t)
  goes_on : stops (line ∷ more) ≡ stops more
  size : bytes_read (line ∷ more) ≡ length line + bytes_read more

told : (c : Command) (line : List ℕ) (more : List (List ℕ)) (t : List ℕ) → command c ≡ read line → Told c line more t
unfolding printed_from turn calls_of asked run stops bytes_read read_refusal
told c line more t e = record { printed = rw (← e); called = rw (← e); goes_on = rw (← e); size = rw (← e) }

record Broken (line : List ℕ) (more : List (List ℕ)) (t : List ℕ) : Type 0 where
  printed : printed_from (line ∷ more) t ≡ reply_text (refused 1)
  called : run (calls_of (line ∷ more)) t ≡ t
  ends : stops (line ∷ more) ≡ true
  size : bytes_read (line ∷ more) ≡ length line

broken_first : (line : List ℕ) (more : List (List ℕ)) (t : List ℕ) → broken ≡ read line → Broken line more t
unfolding printed_from turn calls_of asked run stops bytes_read read_refusal
broken_first line more t e = record { printed = rw (← e); called = rw (← e); ends = rw (← e); size = rw (← e) (omega arith) }

-- a command's line has a byte of its number, and another, and the 0A
command_long : (c : Command) (line : List ℕ) → command c ≡ read line → 2 < length line
command_long c line e =
    elim (ltb? 2 (length line)) [
      | inl a ↦ a.1
      | inr a ↦ absurd (let f = e ∙ sym (short line a.1) in let z : ◌≡◌ {A = ℕ} 0 1 = cc in omega arith)
    ]

-- THE LINES ANSWERED so far
pub record Answering (input t z before after : List ℕ) (read wrote : ℕ) : Type 0 where
  pub room : reply_ratio * length input + reply_room ≤ length before
  pub within : read ≤ length input
  pub small : wrote ≤ reply_ratio * read
  pub long : length after ≡ length before
  pub kept : drop wrote after ≡ drop wrote before
  pub said : printed_from (lines input) t ≡ take wrote after ++ printed_from (lines (drop read input)) z
  pub moved : run (calls_of (lines input)) t ≡ run (calls_of (lines (drop read input))) z
  pub stopped : stops (lines input) ≡ stops (lines (drop read input))
  pub size : bytes_read (lines input) ≡ bytes_read (lines (drop read input)) + read
  pub begun : begun_from [] input ≡ begun_from [] (drop read input)

pub out_within : {input t z before after : List ℕ} {from wrote : ℕ} → Answering input t z before after from wrote → wrote ≤ length after
out_within s = omega (arith, s.room, s.within, s.small, s.long)

kept_on : (a b c : List ℕ) (w r : ℕ) → drop (w + r) a ≡ drop (w + r) b → drop w b ≡ drop w c → drop (w + r) a ≡ drop (w + r) c
kept_on a b c w r e f = e ∙ sym (drop-drop r w b) ∙ ap (drop r) f ∙ drop-drop r w c

-- all that is printed is written, and behind it the output is as it was
printed_whole : (before after ps : List ℕ) (w : ℕ) → w ≤ length after → drop w after ≡ drop w before → ps ≡ take w after →
    (w ≡ length ps) × (after ≡ ps ++ drop (length ps) before)
printed_whole before after ps w h e f =
    let l : w ≡ length ps = omega (arith, ap length f, length-take-le w after h) in
    (l, sym (take-append-drop w after) ∙ rw (e, ← f, ← l))

module _ {input t z before after : List ℕ} {from wrote : ℕ} (s : Answering input t z before after from wrote) where
  module _ {at r : ℕ} {o : List ℕ} (end : FirstEnd input from at) where
    -- a command's line more
    pub answering_more : (c : Command) {z' : List ℕ} {next put : ℕ} → command c ≡ read (take (at + 1 - from) (drop from input)) →
        (next ≡ at + 1) × (put ≡ wrote + r) → z' ≡ left (call_of c) z →
        LinePut (reply_text (answer (call_of c) z)) after o wrote r → Answering input t z' before o next put
    answering_more c {z'} {next} {put} e q f p =
        let n = at + 1 - from in
        let line = take n (drop from input) in
        let more = lines (drop (at + 1) input) in
        let x = told c line more z e in
        let k = cut input from at end in
        let l : length line ≡ n = length-take-le n (drop from input) (omega (arith, length-drop from input, end.after, end.within)) in
        record {
          room = s.room;
          within = omega (arith, q.0, end.within);
          small = omega (arith, q.0, q.1, s.small, p.size, reply_long (answer (call_of c) z), command_long c line e, l, end.after);
          long = p.long ∙ s.long;
          kept = rw q.1 (kept_on o after before wrote r p.kept s.kept);
          said =
              s.said
              ∙ ap (λ (xs : List ℕ). take wrote after ++ xs) (ap (λ ls. printed_from ls z) k.complete ∙ x.printed)
              ∙ sym (append_assoc (take wrote after) (reply_text (answer (call_of c) z)) (printed_from more (left (call_of c) z)))
              ∙ rw (← p.said, ← q.0, ← q.1, ← f);
          moved = s.moved ∙ ap (λ ls. run (calls_of ls) z) k.complete ∙ x.called ∙ rw (← f, ← q.0);
          stopped = s.stopped ∙ ap stops k.complete ∙ x.goes_on ∙ rw (← q.0);
          size = s.size ∙ rw (k.complete, x.size, l, q.0) (omega (arith, end.after));
          begun = s.begun ∙ k.begun ∙ rw (← q.0);
        }

    -- a broken line, which nothing follows
    pub answered_broken : {p : Progress} → broken ≡ read (take (at + 1 - from) (drop from input)) →
        (p.read ≡ at + 1) × (p.wrote ≡ wrote + r) × (p.stopped ≡ true) →
        LinePut (reply_text (refused 1)) after o wrote r → Answers input t before z o p
    answered_broken {p} e q l =
        let n = at + 1 - from in
        let line = take n (drop from input) in
        let more = lines (drop (at + 1) input) in
        let x = broken_first line more z e in
        let k = (cut input from at end).complete in
        let m : length line ≡ n = length-take-le n (drop from input) (omega (arith, length-drop from input, end.after, end.within)) in
        let said : printed_from (lines input) t ≡ take (wrote + r) o =
        s.said
        ∙ ap (λ (xs : List ℕ). take wrote after ++ xs) (ap (λ ls. printed_from ls z) k ∙ x.printed)
        ∙ sym l.said in
        let whole = printed_whole before o (printed_from (lines input) t) (wrote + r) (omega (arith, l.room, l.long))
        (kept_on o after before wrote r l.kept s.kept) said in
        let ends : stops (lines input) ≡ true = s.stopped ∙ ap stops k ∙ x.ends in
        record {
          stopped = q.2 ∙ sym ends;
          wrote = q.1 ∙ whole.0;
          said = whole.1;
          moved = sym (s.moved ∙ ap (λ ls. run (calls_of ls) z) k ∙ x.called);
          read = q.0 ∙ sym (s.size ∙ rw (k, x.size, m) (omega (arith, end.after)));
          within = omega (arith, q.0, end.within);
          small = omega (arith, q.0, q.1, s.small, l.size, refusal_long, end.after);
          rest = λ g. let c : ◌≡◌ {A = ℕ} 0 1 = cc in absurd (omega arith);
        }

  -- no complete line is left
  pub answered_all : {p : Progress} → (p.read ≡ from) × (p.wrote ≡ wrote) × (p.stopped ≡ false) → NoEnd input from (length input) →
      Answers input t before z after p
  unfolding printed_from calls_of run stops bytes_read
  answered_all {p} q f =
      let u = uncut input from f in
      let k = u.complete in
      let said : printed_from (lines input) t ≡ take wrote after = s.said ∙ rw k (append-nil (take wrote after)) in
      let whole = printed_whole before after (printed_from (lines input) t) wrote (out_within s) s.kept said in
      record {
        stopped = q.2 ∙ sym (s.stopped ∙ rw k);
        wrote = q.1 ∙ whole.0;
        said = whole.1;
        moved = sym (s.moved ∙ rw k);
        read = q.0 ∙ sym (s.size ∙ rw k (omega arith));
        within = omega (arith, q.0, s.within);
        small = omega (arith, q.0, q.1, s.small);
        rest = λ e. rw q.0 (sym (s.begun ∙ u.begun));
      }
