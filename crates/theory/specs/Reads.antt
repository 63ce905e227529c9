-- STATIONROUND READ BY READ, however its input is cut: reads_print, reads_call, reads_begin, printed_by_reads.
use Rattle.std.specs.Prelude.{◌≡◌, refl, false, ◌&&◌, ◌||◌, not, cond, List, [], ◌∷◌, ◌++◌, ℕ, ◌≤◌, ltb, length}
use Rattle.std.proofs.Common.{sym, ap, ◌∙◌, inl, inr, true≢false, append-nil, arith, ltb-true}
use Rattle.rules.specs.Calls.{refused, run}
use Rattle.rules.specs.Lines.{reply_text, lines_from, printed_from, printed, fresh_table}
use Rattle.rules.specs.Reads.{complete_from, begun_from, calls_of, stops, longest_line, overlong, served, written, written_for, between_after, SomeBytes, joined}
use Rattle.rules.specs.Demands.{PrintedByReads}
use Rattle.theory.specs.Tests.{either}
use Rattle.theory.specs.Complete.{Unended, complete_append, begun_append, lines_append, held_complete, held_begun}
use Rattle.theory.specs.Served.{served_unended}
use Rattle.theory.specs.Printing.{prints_on, calls_on, overlong_prints, overlong_calls, end_prints}

-- ONE READ of some bytes, from its complete lines and the line begun behind them
rest_prints : (ls : List (List ℕ)) (rest more t : List ℕ) → let end = stops ls || overlong rest in
    printed_from (ls ++ lines_from rest more) t
    ≡ (printed_from ls t ++ cond (not (stops ls) && overlong rest) (reply_text (refused 1)) [])
    ++ cond end [] (printed_from (lines_from (cond end [] rest) more) (run (calls_of ls) t))
unfolding overlong
rest_prints ls rest more t = prints_on ls (lines_from rest more) t ∙ elim (either (stops ls)) [
  | inl e ↦ rw e (sym (append-nil (printed_from ls t ++ [])))
  | inr e ↦ elim (either (ltb longest_line (length rest))) [
    | inl l ↦ rw (e, l, overlong_prints rest more (run (calls_of ls) t) (ltb-true longest_line (length rest) l)) (sym (append-nil _))
    | inr l ↦ rw (e, l, append-nil)
  ]
]

rest_calls : (ls : List (List ℕ)) (rest more t : List ℕ) → let end = stops ls || overlong rest in
    run (calls_of (ls ++ complete_from rest more)) t
    ≡ cond end (run (calls_of ls) t) (run (calls_of (complete_from (cond end [] rest) more)) (run (calls_of ls) t))
unfolding overlong run
rest_calls ls rest more t = calls_on ls (complete_from rest more) t ∙ elim (either (stops ls)) [
  | inl e ↦ rw e
  | inr e ↦ elim (either (ltb longest_line (length rest))) [
    | inl l ↦ rw (e, l, overlong_calls rest more (ltb-true longest_line (length rest) l))
    | inr l ↦ rw (e, l)
  ]
]

-- ONE READ: what is written for it, and then what the rest prints, is what the whole prints; the same of the table and of the line begun
cut_lines : (h x more : List ℕ) → Unended h → lines_from h (x ++ more) ≡ complete_from [] (h ++ x) ++ lines_from (begun_from [] (h ++ x)) more
cut_lines h x more u = lines_append h x more ∙ rw (held_complete h x u, held_begun h x u)

cut_complete : (h x more : List ℕ) → Unended h → complete_from h (x ++ more) ≡ complete_from [] (h ++ x) ++ complete_from (begun_from [] (h ++ x)) more
cut_complete h x more u = complete_append h x more ∙ rw (held_complete h x u, held_begun h x u)

pub read_prints : (t h x more : List ℕ) → Unended h → 1 ≤ length x →
    printed_from (lines_from h (x ++ more)) t
    ≡ written t h x ++ cond (served t h x).over [] (printed_from (lines_from (served t h x).held more) (served t h x).table)
unfolding written served
read_prints t h [] more u s = absurd (omega arith)
read_prints t h (b ∷ bs) more u s =
    let input = h ++ (b ∷ bs) in
    ap (λ (ls : List (List ℕ)). printed_from ls t) (cut_lines h (b ∷ bs) more u)
    ∙ rest_prints (complete_from [] input) (begun_from [] input) more t

pub read_calls : (t h x more : List ℕ) → Unended h → 1 ≤ length x →
    run (calls_of (complete_from h (x ++ more))) t
    ≡ cond (served t h x).over (served t h x).table (run (calls_of (complete_from (served t h x).held more)) (served t h x).table)
unfolding served
read_calls t h [] more u s = absurd (omega arith)
read_calls t h (b ∷ bs) more u s =
    let input = h ++ (b ∷ bs) in
    ap (λ (ls : List (List ℕ)). run (calls_of ls) t) (cut_complete h (b ∷ bs) more u)
    ∙ rest_calls (complete_from [] input) (begun_from [] input) more t

pub read_begins : (t h x more : List ℕ) → Unended h → 1 ≤ length x → (served t h x).over ≡ false →
    begun_from h (x ++ more) ≡ begun_from (served t h x).held more
unfolding served
read_begins t h [] more u s e = absurd (omega arith)
read_begins t h (b ∷ bs) more u s e = begun_append h (b ∷ bs) more ∙ rw (e, held_begun h (b ∷ bs) u)

-- ALL READS
pub reads_print : (t h : List ℕ) (xs : List (List ℕ)) → Unended h → SomeBytes xs →
    written_for t h (xs ++ ([] ∷ [])) ≡ printed_from (lines_from h (joined xs)) t
unfolding written_for joined served
reads_print t h [] u s = append-nil (written t h []) ∙ sym (end_prints t h u)
reads_print t h (x ∷ xs) u s =
    let z = served t h x in
    ap (λ (bs : List ℕ). written t h x ++ cond z.over [] bs) (reads_print z.table z.held xs (served_unended t h x) s.1)
    ∙ sym (read_prints t h x (joined xs) u s.0)

pub reads_call : (t h : List ℕ) (xs : List (List ℕ)) → Unended h → SomeBytes xs →
    (between_after t h xs).table ≡ run (calls_of (complete_from h (joined xs))) t
unfolding between_after joined complete_from calls_of run
reads_call t h [] u s = refl
reads_call t h (x ∷ xs) u s =
    let z = served t h x in
    elim (either z.over) [
      | inl e ↦ rw e (sym (read_calls t h x (joined xs) u s.0 ∙ rw e))
      | inr e ↦ rw e (reads_call z.table z.held xs (served_unended t h x) s.1 ∙ sym (read_calls t h x (joined xs) u s.0 ∙ rw e))
    ]

pub reads_begin : (t h : List ℕ) (xs : List (List ℕ)) → Unended h → SomeBytes xs → (between_after t h xs).over ≡ false →
    (between_after t h xs).held ≡ begun_from h (joined xs)
unfolding between_after joined begun_from
reads_begin t h [] u s o = refl
reads_begin t h (x ∷ xs) u s o =
    let z = served t h x in
    elim (either z.over) [
      | inl e ↦ absurd (true≢false (rw e at o))
      | inr e ↦ rw e (reads_begin z.table z.held xs (served_unended t h x) s.1 (rw e at o) ∙ sym (read_begins t h x (joined xs) u s.0 e))
    ]

pub printed_by_reads : PrintedByReads
unfolding PrintedByReads printed
printed_by_reads reads s = (
  reads_print fresh_table [] reads tt s,
  reads_call fresh_table [] reads tt s,
  reads_begin fresh_table [] reads tt s,
)
