-- Lengths by hand: a table's rows, 1 to 1,024, by the refusal of an opening; and stationround's table.
use mathlib.Core.Path.{◌≡◌, refl}
use mathlib.Core.Bool.{true, false, cond}
use mathlib.Core.List.{List, ◌∷◌, map, []}
use Prim.Native.Nat.{ℕ}
use lib.Dec.{eqb}
use lib.ListN.{length, replicate}
use Rattle.rules.specs.Rows.{Setup}
use Rattle.rules.specs.Table.{length_good, round_in}
use Rattle.rules.proofs.Played.{opens}
use Rattle.rules.specs.Calls.{Call, opening, first, act, question, deed, round_refusal, table_first, refusal}
use Rattle.rules.specs.Lines.{fresh_table}

-- a table's length is that of 1 to 1,024 rows: 0, 1, 2, 1,024 and 1,025; a byte less than 1 and 1,024 rows and one more; no byte at all
pub lengths_by_hand :
    map length_good (16 ∷ 40 ∷ 64 ∷ 24592 ∷ 24616 ∷ 39 ∷ 41 ∷ 24591 ∷ 24593 ∷ 0 ∷ [])
    ≡ false ∷ true ∷ true ∷ true ∷ false ∷ false ∷ false ∷ false ∷ false ∷ false ∷ []
unfolding length_good
lengths_by_hand = refl

-- an opening gets 2 by it, of whatever table
pub opening_length : (u : Setup) (t : List ℕ) → table_first (opening u) t ≡ cond (length_good (length t)) 0 2
unfolding table_first
opening_length u t = refl

pub refusal_is : (c : Call) (t : List ℕ) → refusal c t ≡ cond (eqb (table_first c t) 0) (round_refusal c (round_in t)) (table_first c t)
unfolding first refusal
refusal_is c t = refl

-- so too a table of so many bytes, opened: 0, 1 and 2 rows; a byte less than 1 row and one more; no byte at all
abbrev pub opened_at : (bytes : ℕ) → ℕ
opened_at n = refusal (opens 0) (replicate n 0)

pub lengths_opened : map opened_at (16 ∷ 40 ∷ 64 ∷ 39 ∷ 41 ∷ 0 ∷ []) ≡ 2 ∷ 0 ∷ 0 ∷ 2 ∷ 2 ∷ 2 ∷ []
unfolding length_good first act question deed round_refusal table_first refusal
lengths_opened = refl

-- 24,592 zeros
pub fresh_by_hand : fresh_table ≡ replicate 24592 0
fresh_by_hand = refl
