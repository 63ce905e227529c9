-- Some bytes of a row, of the head, or zeros written into a table: shift_bytes, weight_bytes, kept_bytes, head_sets, zeros_join.
use Rattle.std.specs.Prelude.{◌≡◌, refl, List, [], ◌∷◌, ◌++◌, ℕ, suc, ◌+◌, ◌*◌, ◌-◌, ◌≤◌, ◌<◌, length, get_or, set, take, drop, replicate}
use Rattle.std.proofs.Common.{sym, ap, ap₂, ◌∙◌, append_assoc, arith, length-append, length-set, drop-cons}
use Rattle.std.proofs.lemmas.List.{replicate-append-replicate, set-append_left, set_split}
use Rattle.std.proofs.lemmas.List.Edits.{sets}
use Rattle.rules.specs.Limits.{head_size, row_size, slot_at, used_at, due_at, weight_at, slot_bytes, wide_bytes, most_class}
use Rattle.rules.specs.Rows.{Row, HeadTail, row}
use Rattle.rules.specs.Steps.{set_to, kept_at, changed}
use Rattle.rules.specs.Table.{low, put, row_bytes, rows_bytes, head_bytes}
use Rattle.rules.specs.Conditions.{row_at}
use Rattle.theory.specs.Full.{Rising}
use Rattle.theory.specs.Back.{zero_byte, length_row}
use Rattle.theory.specs.Leaping.{changed_at}
use Rattle.theory.specs.Close.{rows_append, rows_split, rows_long}

-- stores within a middle part
pub set_mid : (ps ms ss : List ℕ) (c a : ℕ) → c < length ms → set (ps ++ (ms ++ ss)) (length ps + c) a ≡ ps ++ (set ms c a ++ ss)
set_mid [] ms ss c a h =
    let e : 0 + c ≡ c = omega arith in ap (λ (n : ℕ). set (ms ++ ss) n a) e ∙ set-append_left ms ss c a h
set_mid (p ∷ ps) ms ss c a h =
    let e : suc (length ps) + c ≡ suc (length ps + c) = omega arith in
    ap (λ (n : ℕ). set (p ∷ (ps ++ (ms ++ ss))) n a) e ∙ ap (λ (bs : List ℕ). p ∷ bs) (set_mid ps ms ss c a h)

pub sets_mid : (ps ms ss vs : List ℕ) (c : ℕ) → c + length vs ≤ length ms → sets (ps ++ (ms ++ ss)) (length ps + c) vs ≡ ps ++ (sets ms c vs ++ ss)
sets_mid ps ms ss [] c h = refl
sets_mid ps ms ss (a ∷ vs) c h =
    let e : suc (length ps + c) ≡ length ps + suc c = omega arith in
    ap₂ (λ (bs : List ℕ) (n : ℕ). sets bs n vs) (set_mid ps ms ss c a (omega arith)) e
    ∙ sets_mid ps (set ms c a) ss vs (suc c) (omega (arith, h, length-set ms c a))

-- SOME BYTES OF ROW i of a table: hd is its head, zs what follows the rows
pub row_part : (hd zs vs : List ℕ) (xs : List Row) (i c : ℕ) (z y : Row) → i < length xs → c + length vs ≤ row_size →
    sets (row_bytes (get_or xs i z)) c vs ≡ row_bytes y →
    hd ++ (rows_bytes (set xs i y) ++ zs) ≡ sets (hd ++ (rows_bytes xs ++ zs)) (length hd + (row_size * i + c)) vs
unfolding rows_bytes
row_part hd zs vs xs i c z y h k e =
    let ps = rows_bytes (take i xs) in
    let d = rows_bytes (drop (suc i) xs) ++ zs in
    let x = get_or xs i z in
    let a : rows_bytes xs ++ zs ≡ ps ++ (row_bytes x ++ d) =
    rows_split xs i zs ∙ ap (λ (bs : List ℕ). ps ++ bs)
    (ap (λ (ys : List Row). rows_bytes ys ++ zs) (drop-cons xs i z h) ∙ append_assoc (row_bytes x) (rows_bytes (drop (suc i) xs)) zs) in
    let b : rows_bytes (set xs i y) ++ zs ≡ ps ++ (row_bytes y ++ d) =
    ap (λ (ys : List Row). rows_bytes ys ++ zs) (set_split xs i y h)
    ∙ ap (λ (bs : List ℕ). bs ++ zs) (rows_append (take i xs) (y ∷ drop (suc i) xs))
    ∙ append_assoc ps (row_bytes y ++ rows_bytes (drop (suc i) xs)) zs
    ∙ ap (λ (bs : List ℕ). ps ++ bs) (append_assoc (row_bytes y) (rows_bytes (drop (suc i) xs)) zs) in
    let n : length hd + (row_size * i + c) ≡ length (hd ++ ps) + c = omega (arith, length-append hd ps, rows_long xs i (omega arith)) in
    ap (λ (bs : List ℕ). hd ++ bs) b
    ∙ sym (append_assoc hd ps (row_bytes y ++ d))
    ∙ ap (λ (bs : List ℕ). (hd ++ ps) ++ (bs ++ d)) (sym e)
    ∙ sym (sets_mid (hd ++ ps) (row_bytes x) d vs c (omega (arith, k, length_row x)))
    ∙ ap₂ (λ (bs : List ℕ) (m : ℕ). sets bs m vs) (append_assoc hd ps (row_bytes x ++ d) ∙ ap (λ (bs : List ℕ). hd ++ bs) (sym a)) (sym n)

-- due slot and weight
pub write_shift : (x : Row) (d w : ℕ) → sets (row_bytes x) due_at (low slot_bytes d ++ low wide_bytes w) ≡ row_bytes (set_to d w x)
unfolding row_bytes put low row
write_shift x d w = refl

-- the weight alone
pub write_weight : (x : Row) (w : ℕ) → sets (row_bytes x) weight_at (low wide_bytes w) ≡ row_bytes (set_to x.due w x)
unfolding row_bytes put low row
write_weight x w = refl

-- due slot, weight, kind and class
pub write_kept : (x : Row) (d w : ℕ) → sets (row_bytes x) due_at ((low slot_bytes d ++ low wide_bytes w) ++ (1 ∷ most_class ∷ [])) ≡ row_bytes (kept_at d w x)
unfolding row_bytes put low row
write_kept x d w = refl

-- THE SAME BY TICKET, as the steps change rows
pub shift_bytes : (a b : ℕ) (hd zs : List ℕ) (xs : List Row) (i : ℕ) (z : Row) (d w : ℕ) → Rising a b xs → i < length xs → length hd ≡ head_size →
    hd ++ (rows_bytes (changed (get_or xs i z).ticket (set_to d w (get_or xs i z)) xs) ++ zs)
    ≡ sets (hd ++ (rows_bytes xs ++ zs)) (row_at i + due_at) (low slot_bytes d ++ low wide_bytes w)
unfolding low
shift_bytes a b hd zs xs i z d w s h e =
    let n : length hd + (row_size * i + due_at) ≡ row_at i + due_at = omega (arith, e) in
    ap (λ (ys : List Row). hd ++ (rows_bytes ys ++ zs)) (changed_at a b xs i z (set_to d w (get_or xs i z)) s h)
    ∙ row_part hd zs (low slot_bytes d ++ low wide_bytes w) xs i due_at z (set_to d w (get_or xs i z)) h (omega arith) (write_shift (get_or xs i z) d w)
    ∙ ap (λ (m : ℕ). sets (hd ++ (rows_bytes xs ++ zs)) m (low slot_bytes d ++ low wide_bytes w)) n

pub weight_bytes : (a b : ℕ) (hd zs : List ℕ) (xs : List Row) (i : ℕ) (z : Row) (w : ℕ) → Rising a b xs → i < length xs → length hd ≡ head_size →
    hd ++ (rows_bytes (changed (get_or xs i z).ticket (set_to (get_or xs i z).due w (get_or xs i z)) xs) ++ zs)
    ≡ sets (hd ++ (rows_bytes xs ++ zs)) (row_at i + weight_at) (low wide_bytes w)
unfolding low
weight_bytes a b hd zs xs i z w s h e =
    let n : length hd + (row_size * i + weight_at) ≡ row_at i + weight_at = omega (arith, e) in
    ap (λ (ys : List Row). hd ++ (rows_bytes ys ++ zs)) (changed_at a b xs i z (set_to (get_or xs i z).due w (get_or xs i z)) s h)
    ∙ row_part hd zs (low wide_bytes w) xs i weight_at z (set_to (get_or xs i z).due w (get_or xs i z)) h (omega arith) (write_weight (get_or xs i z) w)
    ∙ ap (λ (m : ℕ). sets (hd ++ (rows_bytes xs ++ zs)) m (low wide_bytes w)) n

pub kept_bytes : (a b : ℕ) (hd zs : List ℕ) (xs : List Row) (i : ℕ) (z : Row) (d w : ℕ) → Rising a b xs → i < length xs → length hd ≡ head_size →
    hd ++ (rows_bytes (changed (get_or xs i z).ticket (kept_at d w (get_or xs i z)) xs) ++ zs)
    ≡ sets (hd ++ (rows_bytes xs ++ zs)) (row_at i + due_at) ((low slot_bytes d ++ low wide_bytes w) ++ (1 ∷ most_class ∷ []))
unfolding low
kept_bytes a b hd zs xs i z d w s h e =
    let n : length hd + (row_size * i + due_at) ≡ row_at i + due_at = omega (arith, e) in
    ap (λ (ys : List Row). hd ++ (rows_bytes ys ++ zs)) (changed_at a b xs i z (kept_at d w (get_or xs i z)) s h)
    ∙ row_part hd zs ((low slot_bytes d ++ low wide_bytes w) ++ (1 ∷ most_class ∷ [])) xs i due_at z (kept_at d w (get_or xs i z)) h (omega arith) (write_kept (get_or xs i z) d w)
    ∙ ap (λ (m : ℕ). sets (hd ++ (rows_bytes xs ++ zs)) m ((low slot_bytes d ++ low wide_bytes w) ++ (1 ∷ most_class ∷ []))) n

-- THE HEAD: current slot and rows in use
pub head_sets : (t l n c u k : ℕ) (m : HeadTail) (bs : List ℕ) →
    sets (sets (head_bytes t l n c m ++ bs) slot_at (low slot_bytes u)) used_at (low slot_bytes k) ≡ head_bytes u l n k m ++ bs
unfolding head_bytes put low
head_sets t l n c u k m bs = refl

-- ZEROS behind the rows that left, and those that were there
pub zeros_join : (m n room : ℕ) → m ≤ n → n ≤ room → replicate (row_size * (n - m)) zero_byte ++ replicate (row_size * (room - n)) zero_byte ≡ replicate
    (row_size * (room - m)) zero_byte
zeros_join m n room h k =
    let e : row_size * (n - m) + row_size * (room - n) ≡ row_size * (room - m) = omega arith in
    replicate-append-replicate (row_size * (n - m)) (row_size * (room - n)) zero_byte ∙ ap (λ (v : ℕ). replicate v zero_byte) e
