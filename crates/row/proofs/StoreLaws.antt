-- A row's numbers stored in a table.
use Rattle.std.proofs.Common.{◌≡◌, ℕ, suc, ◌+◌, List, ◌∙◌, arith}
use lib.Seq.{sets}
use Rattle.rules.specs.Limits.{ticket_at, due_at, weight_at, kind_at, class_at, slot_bytes, wide_bytes, class_bytes, kind_bytes, most_class}
use Rattle.rules.specs.Rows.{framed, row}
use Rattle.rules.specs.Conditions.{row_at}
use Rattle.rules.specs.Table.{low, put}
use Rattle.row.specs.Numbers.{row_numbers}
use Rattle.row.specs.Written.{with_shift, with_kept}

-- A ROW's five stores are one; the class z is stored at b
pub row_stored : (t u v w x y : List ℕ) (a k d m c b z : ℕ) → u ≡ sets t (a + ticket_at) (low wide_bytes k) → v ≡ sets u (a + due_at) (low slot_bytes d) →
    w ≡ sets v (a + weight_at) (low wide_bytes m) → x ≡ sets w (a + kind_at) (low kind_bytes 0) →
    y ≡ sets x b (low class_bytes z) → b ≡ a + class_at → z ≡ c → y ≡ sets t a (row_numbers k (framed d m c))
unfolding low put row row_numbers
row_stored t u v w x y a k d m c b z e f g h i j l =
    let o : a + 0 ≡ a = omega arith in
    let p : a + 4 ≡ suc (suc (suc (suc a))) = omega arith in
    let q : a + 6 ≡ suc (suc (suc (suc (suc (suc a))))) = omega arith in
    let r : a + 10 ≡ suc (suc (suc (suc (suc (suc (suc (suc (suc (suc a))))))))) = omega arith in
    let n : a + 11 ≡ suc (suc (suc (suc (suc (suc (suc (suc (suc (suc (suc a)))))))))) = omega arith in
    i ∙ (rw (j, l, h, g, f, e, o, p, q, r, n))

-- two stores side by side are one; at is where the row begins
pub shift_stored : (t u v : List ℕ) (at i d w : ℕ) → at ≡ row_at i → u ≡ sets t (at + due_at) (low slot_bytes d) →
    v ≡ sets u (at + weight_at) (low wide_bytes w) → v ≡ with_shift t i d w
unfolding low
shift_stored t u v at i d w e f g =
    let a : at + 6 ≡ suc (suc (at + 4)) = omega arith in g ∙ (rw (f, a, e))

pub kept_stored : (t u v x : List ℕ) (at i d w : ℕ) → at ≡ row_at i → u ≡ with_shift t i d w → v ≡ sets u (at + kind_at) (low kind_bytes 1) →
    x ≡ sets v (at + class_at) (low class_bytes most_class) → x ≡ with_kept t i d w
unfolding low
kept_stored t u v x at i d w e f g h =
    let a : at + 10 ≡ suc (suc (suc (suc (suc (suc (row_at i + 4)))))) = omega arith in
    let b : at + 11 ≡ suc (suc (suc (suc (suc (suc (suc (row_at i + 4))))))) = omega arith in h ∙ (rw (g, f, a, b))
