-- The table when all rows are closed up: zeros behind those kept, the head's slot and count.
use mathlib.Core.Path.{◌≡◌, sym, ap, ap₂, ◌∙◌, subst}
use mathlib.Core.List.{List, ◌++◌, append_assoc}
use Prim.Native.Nat.{ℕ, suc, ◌+◌, ◌*◌, ◌-◌, ◌≤◌}
use native.Mathlib.Omega.{arith}
use lib.ListN.{length, take, drop, replicate}
use lib.Seq.{sets, take-take, drop-length, length-take-le}
use Rattle.rules.specs.Limits.{row_size, slot_at, used_at, slot_bytes}
use Rattle.rules.specs.Rows.{Row, Round, round}
use Rattle.rules.specs.Conditions.{row_at}
use Rattle.rules.specs.Table.{low, head_bytes, rows_bytes, round_in, table_refusal}
use Rattle.theory.specs.Back.{zero_byte, head_of, length_head_of, table_is}
use Rattle.theory.specs.Sane.{sound}
use Rattle.theory.specs.Close.{closed, after_slot, closing_rows, length_closed}
use Rattle.theory.specs.Write.{head_sets, zeros_join}
use Rattle.head.specs.Head.{HeadOf}
use Rattle.sorts.specs.declared.Round.{Round as Head}
use Rattle.closing.specs.Close.{ClosedRows, closed_up}
use Rattle.closing.proofs.HeadLaws.{head_slot, head_used, table_room}

-- AT THE END
module _ (k : ℕ) (t w : List ℕ) (n : ℕ) (e : table_refusal t ≡ 0) (q : ClosedRows (suc (round_in t).slot) k t w n) where
  abbrev r : Round
  r = round_in t

  abbrev ks : List Row
  ks = closed (suc r.slot) k r.rows

  abbrev hd₀ : List ℕ
  hd₀ = head_of r

  abbrev zs₀ : List ℕ
  zs₀ = replicate (row_size * (r.room - length r.rows)) 0

  front_is : take (row_at n) (take (row_at (length r.rows)) w) ≡ hd₀ ++ rows_bytes ks
  front_is =
      take-take (row_at n) (row_at (length r.rows)) w (omega (arith, q.many, length_closed (suc r.slot) k r.rows))
      ∙ ap (λ (m : ℕ). take (row_at m) w) q.many
      ∙ (closing_rows (suc r.slot) k hd₀ r.rows zs₀ w (length_head_of r) q.rows).1

  behind_is : drop (row_at (length r.rows)) w ≡ zs₀
  unfolding rows_bytes
  behind_is = q.rows.rest ∙ ap (λ (xs : List Row). rows_bytes xs ++ zs₀) (drop-length r.rows)

  between_is : length (take (row_at (length r.rows)) w) - row_at n ≡ row_size * (length r.rows - length ks)
  between_is =
      let l = length-take-le (row_at (length r.rows)) w (omega (arith, q.rows.long)) in
      omega (arith, l, q.many, length_closed (suc r.slot) k r.rows)

  cleared_is : (take (row_at n) (take (row_at (length r.rows)) w) ++ replicate (length (take (row_at (length r.rows)) w) - row_at n) 0)
      ++ drop (row_at (length r.rows)) w
      ≡ hd₀ ++ (rows_bytes ks ++ replicate (row_size * (r.room - length ks)) 0)
  cleared_is =
      let bs = replicate (row_size * (length r.rows - length ks)) zero_byte in
      let h = (sound t e).sane.size in
      ap₂ (λ (us : List ℕ) (m : ℕ). (us ++ replicate m 0) ++ drop (row_at (length r.rows)) w) front_is between_is
      ∙ ap (λ (us : List ℕ). ((hd₀ ++ rows_bytes ks) ++ bs) ++ us) behind_is
      ∙ append_assoc (hd₀ ++ rows_bytes ks) bs zs₀
      ∙ ap (λ (us : List ℕ). (hd₀ ++ rows_bytes ks) ++ us) (zeros_join (length ks) (length r.rows) r.room
      (length_closed (suc r.slot) k r.rows) h.long)
      ∙ append_assoc hd₀ (rows_bytes ks) (replicate (row_size * (r.room - length ks)) 0)

  pub closed_table : (v x : List ℕ) (from end : ℕ) → from ≡ row_at n → end ≡ row_at (length r.rows) →
      v ≡ (take from (take end w) ++ replicate (length (take end w) - from) 0) ++ drop end w → x ≡ sets v slot_at (low slot_bytes (suc r.slot)) →
      sets x used_at (low slot_bytes n) ≡ closed_up k t
  unfolding closed_up round
  closed_table v x from end a b c d =
      ap (λ (bs : List ℕ). sets bs used_at (low slot_bytes n)) d
      ∙ ap (λ (bs : List ℕ). sets (sets bs slot_at (low slot_bytes (suc r.slot))) used_at (low slot_bytes n))
      (c ∙ ap₂ (λ (f g : ℕ). (take f (take g w) ++ replicate (length (take g w) - f) 0) ++ drop g w) a b ∙ cleared_is)
      ∙ head_sets r.slot r.last r.next (length r.rows) (suc r.slot) n r.tail (rows_bytes ks ++ replicate (row_size * (r.room - length ks)) 0)
      ∙ ap (λ (m : ℕ). head_bytes (suc r.slot) r.last r.next m r.tail ++ (rows_bytes ks ++ replicate (row_size * (r.room - length ks)) 0)) q.many
      ∙ sym (table_is (after_slot r ks))

-- how many are kept: their places are there
module _ {s k : ℕ} {t w : List ℕ} {n : ℕ} (q : ClosedRows s k t w n) (e : table_refusal t ≡ 0) {h : Head} (d : HeadOf t h) where
  pub kept_few : (n ≤ h.used) × (h.used ≤ 1024) × (row_at h.used ≤ length w)
  kept_few =
      let r = round_in t in
      let u = head_used d in (
        omega (arith, q.many, length_closed s k r.rows, u),
        (table_room t e u).0,
        omega (arith, q.rows.long, u),
      )

-- the same with the head's numbers
pub closed_written : (t w v x y : List ℕ) (h : Head) (k n s from end : ℕ) → table_refusal t ≡ 0 → HeadOf t h → ClosedRows (suc h.slot.0) k t w n →
    from ≡ row_at n → end ≡ row_at h.used → v ≡ take from (take end w) ++ replicate (length (take end w) - from) 0 →
    x ≡ sets (v ++ drop end w) slot_at (low slot_bytes s) → s ≡ h.slot.0 + 1 → y ≡ sets x used_at (low slot_bytes n) → y ≡ closed_up k t
closed_written t w v x y h k n s from end e d q a b c f o g =
    let i : suc h.slot.0 ≡ suc (round_in t).slot = omega (arith, head_slot d) in
    let j : s ≡ suc (round_in t).slot = omega (arith, head_slot d, o) in
    g
    ∙ closed_table k t w n e (subst (λ (m : ℕ). ClosedRows m k t w n) i q) (v ++ drop end w) x from end a (b ∙ ap row_at (head_used d))
    (ap (λ (bs : List ℕ). bs ++ drop end w) c) (f ∙ ap (λ (m : ℕ). sets (v ++ drop end w) slot_at (low slot_bytes m)) j)
