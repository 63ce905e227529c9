-- The program's loop: its table and the bytes held are those after the reads so far, whatever these were.
use Rattle.std.specs.Prelude.{Some, is_none}
use mathlib.Core.Path.{◌≡◌, sym, ap, ◌∙◌}
use mathlib.Core.Bool.{false, false≢true}
use mathlib.Core.Logic.{inl, inr}
use mathlib.Core.List.{List, [], ◌∷◌, ◌++◌}
use Prim.Native.Nat.{ℕ, ◌≤◌, ◌<◌}
use native.Mathlib.Omega.{arith}
use lib.ListN.{length, take, drop}
use lib.Seq.{length-take-le, take_at}
use borrow.Rule.Slice.PartMut.{put_mid}
use Rattle.rules.specs.Lines.{fresh_table}
use Rattle.rules.specs.Reads.{Between, served, between_after, SomeBytes}
use Rattle.theory.specs.Tests.{either}
use Rattle.serving.specs.declared.Served.{Served}
use Rattle.serving.specs.Serving.{held_in, after_read, Serves}

-- one read more
more : (t h : List ℕ) (xs : List (List ℕ)) (x : List ℕ) {z k : List ℕ} → between_after t h xs ≡ record { table = z; held = k; over = false } →
    (served z k x).over ≡ false →
    between_after t h (xs ++ (x ∷ [])) ≡ record { table = (served z k x).table; held = (served z k x).held; over = false }
unfolding between_after served
more t h [] x {z} {k} e o =
    let table : t ≡ z = ap (λ (b : Between). b.table) e in
    let held : h ≡ k = ap (λ (b : Between). b.held) e in
    rw (table, held, o)
more t h (y ∷ ys) x {z} {k} e o =
    let s = served t h y in
    elim (either s.over) [
      | inl a ↦ absurd (let f : s ≡ record { table = z; held = k; over = false } = rw a at e in false≢true (sym (ap (λ (b : Between). b.over) f) ∙ a))
      | inr a ↦ rw a (more s.table s.held ys x (rw a at e) o)
    ]

-- it has a byte: with none, nothing more is read
some_byte : (z k x : List ℕ) → (served z k x).over ≡ false → 1 ≤ length x
unfolding served
some_byte z k [] o = absurd (false≢true (sym o))
some_byte z k (b ∷ bs) o = omega arith

some_more : (xs : List (List ℕ)) (x : List ℕ) → SomeBytes xs → 1 ≤ length x → SomeBytes (xs ++ (x ∷ []))
some_more [] x s h = (h, tt)
some_more (y ∷ ys) x s h = (s.0, some_more ys x s.1 h)

-- after some reads, none of them the last
pub record SoFar (table input : List ℕ) (held : ℕ) : Type 0 where
  pub reads : List (List ℕ)
  pub some : SomeBytes reads
  pub after : between_after fresh_table [] reads ≡ record { table = table; held = take held input; over = false }

pub so_far_none : (t input : List ℕ) → t ≡ fresh_table → SoFar t input 0
unfolding between_after
so_far_none t input e = record { reads = []; some = tt; after = rw e }

-- the bytes held before are served with those read behind them, and those that are held then are held on
pub so_far_more : {t t' input read input' out out' : List ℕ} {held got with on : ℕ} {r : Served} → SoFar t input held → take held read ≡ take held input →
    Serves with got read t out input' t' out' r → with ≡ held → r.held ≡ Some on → SoFar t' input' on
so_far_more {t} {t'} {input} {read} {input'} {held = held} {got = got} {with = with} {on = on} {r = r} s k p e o =
    let x = take got (drop with read) in
    let h = (after_read with got read t).held in
    let front : take on input' ≡ h = ap (take on) p.kept ∙ take_at h (drop (length h) read) on (sym p.holds ∙ ap held_in o) in
    let goes = sym p.over ∙ ap is_none o in
    let before : take held input ≡ take with read = sym k ∙ rw e in
    record {
      reads = s.reads ++ (x ∷ []);
      some = some_more s.reads x s.some (some_byte t (take with read) x goes);
      after = more fresh_table [] s.reads x (s.after ∙ rw before) goes ∙ rw (p.moved, front);
    }

-- a read behind the bytes held leaves them as they are
pub held_stay : (held n : ℕ) (input part : List ℕ) → held < length input → take held (put_mid held n input part) ≡ take held input
held_stay held n input part h =
    take_at (take held input) (part ++ drop n (drop held input)) held (length-take-le held input (omega arith))
