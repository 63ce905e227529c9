-- Entries written one after another: the first n, then what stood past them.
use mathlib.Core.Path.{◌≡◌, refl, sym, ap, ◌∙◌}
use mathlib.Core.List.{List, [], ◌∷◌, ◌++◌, map, map-append, append_assoc}
use Prim.Native.Nat.{ℕ, zero, suc, ◌≤◌, ◌<◌}
use native.Mathlib.Omega.{arith}
use lib.ListN.{length, get_or, set, take, drop, length-set, length-map}
use lib.Seq.{take-suc, take-length, drop-cons, length-take-le}
use Rattle.rules.specs.Rows.{Row, row, blank}
use Rattle.rules.specs.Looking.{View}
use Rattle.theory.specs.Soundness.{row_in}
use Rattle.row.specs.Entry.{EntryIn}
use Rattle.row.specs.declared.entry.Numbers.{Numbers}
use Rattle.listing.specs.declared.Entry.{Entry}
use Rattle.listing.specs.declared.View.{View as Asked}
use Rattle.listing.specs.declared.View.TheVariants as asked
use Rattle.listing.specs.Entries.{of_view, entry}
use Rattle.listing.specs.Listing.{entry_in, filled}

pub filled_long : (v : View) (n : ℕ) (t xs : List ℕ) (es : List Entry) → length (filled v n t xs es) ≡ length es
unfolding filled
filled_long v zero t xs es = refl
filled_long v (suc n) t xs es = length-set (filled v n t xs es) n (entry_in v t (get_or xs n 0)) ∙ filled_long v n t xs es

-- a store behind a list
set_behind : (xs ys : List Entry) (y e : Entry) → set (xs ++ (y ∷ ys)) (length xs) e ≡ xs ++ (e ∷ ys)
set_behind [] ys y e = refl
set_behind (x ∷ xs) ys y e = ap (λ (zs : List Entry). x ∷ zs) (set_behind xs ys y e)

module _ (v : View) (t xs : List ℕ) (rows : List Row) (es : List Entry) (room : length rows ≤ length es)
    (is : (i : ℕ) → i < length rows → row_in t (get_or xs i 0) ≡ get_or rows i (blank 0)) where
  filled_part : (n : ℕ) → n ≤ length rows → filled v n t xs es ≡ map (entry v) (take n rows) ++ drop n es
  unfolding filled
  filled_part zero h = refl
  filled_part (suc n) h =
      let d = entry v (blank 0) in
      let ys = map (entry v) (take n rows) in
      let e = entry v (get_or rows n (blank 0)) in
      let l : length ys ≡ n = length-map (take n rows) (entry v) ∙ length-take-le n rows (omega arith) in
      ap (λ (zs : List Entry). set zs n (entry_in v t (get_or xs n 0))) (filled_part n (omega arith)
      ∙ ap (λ (zs : List Entry). ys ++ zs) (drop-cons es n d (omega arith)))
      ∙ ap (λ (x : Row). set (ys ++ (get_or es n d ∷ drop (suc n) es)) n (entry v x)) (is n (omega arith))
      ∙ ap (λ (m : ℕ). set (ys ++ (get_or es n d ∷ drop (suc n) es)) m e) (sym l)
      ∙ set_behind ys (drop (suc n) es) (get_or es n d) e
      ∙ sym (append_assoc ys (e ∷ []) (drop (suc n) es))
      ∙ ap (λ (zs : List Entry). zs ++ drop (suc n) es) (sym (ap (map (entry v)) (take-suc rows n (blank 0) (omega arith))
      ∙ map-append (entry v) (take n rows) (get_or rows n (blank 0) ∷ [])))

  pub filled_all : filled v (length rows) t xs es ≡ map (entry v) rows ++ drop (length rows) es
  filled_all =
      filled_part (length rows) (omega arith)
      ∙ ap (λ (zs : List Row). map (entry v) zs ++ drop (length rows) es) (take-length rows)

-- the entry of the numbers that are read
pub entry_is : (v : Asked) (t : List ℕ) (i : ℕ) (n : Numbers) → EntryIn t i n →
    ◌≡◌ {A = Entry} (record { ticket = n.ticket; due = n.due; weight = n.weight }) (entry_in (of_view v) t i)
unfolding row
entry_is asked.Plan t i n e =
    λ j. record {
      ticket = record { 0 = e.ticket j };
      due = record { 0 = e.due j };
      weight = record { 0 = e.weight j };
    }

-- no entry, and one more
pub filled_none : (v : View) (t xs : List ℕ) (es : List Entry) → es ≡ filled v 0 t xs es
unfolding filled
filled_none v t xs es = refl

pub filled_more : (v : View) (n : ℕ) (t xs : List ℕ) (es : List Entry) →
    set (filled v n t xs es) n (entry_in v t (get_or xs n 0)) ≡ filled v (suc n) t xs es
unfolding filled
filled_more v n t xs es = refl
