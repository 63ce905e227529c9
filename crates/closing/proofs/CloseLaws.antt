-- Rows closed up in place, run by run as the code goes.
use mathlib.Core.Path.{◌≡◌, refl, sym, ap, ap₂, ◌∙◌, subst}
use mathlib.Core.Logic.{inl, inr, ◌≢◌}
use mathlib.Core.Bool.{Bool, true, false, ◌&&◌, cond, true≢false}
use mathlib.Core.List.{List, [], ◌∷◌, ◌++◌, append_assoc}
use Prim.Native.Nat.{ℕ, zero, suc, ◌+◌, ◌*◌, ◌-◌, ◌≤◌, ◌<◌}
use native.Mathlib.Omega.{arith}
use lib.Dec.{leb, eqb}
use borrow.Author.Tests.{le-leb, lt-leb, lt-ltb, le-ltb, ne_eqb, eq-eqb}
use lib.ListN.{length, get_or, take, drop, replicate, length-append}
use lib.Seq.{paste, paste-zero, drop_at, drop-cons}
use Rattle.rules.specs.Limits.{head_size, row_size, due_at, slot_bytes}
use Rattle.rules.specs.Rows.{Row, Round, row, round, blank}
use Rattle.rules.specs.Conditions.{row_at, used_in, ticket_in, due_in}
use Rattle.rules.specs.Table.{field, rows_bytes, table, round_in, table_refusal}
use Rattle.theory.specs.Tests.{either, leb?, ltb?, eqb?}
use Rattle.theory.specs.Sum.{sum}
use Rattle.theory.specs.All.{all_in}
use Rattle.theory.specs.Feas.{below, num, below_yes}
use Rattle.theory.specs.Back.{head_of, length_head_of, table_is}
use Rattle.theory.specs.Fields.{field_drop}
use Rattle.theory.specs.Bounds.{RowFine}
use Rattle.theory.specs.Change.{rising_above, in_sum}
use Rattle.theory.specs.Clauses.{rows_count}
use Rattle.theory.specs.Sane.{sound}
use Rattle.theory.specs.Keys.{getD_in, tickets_less}
use Rattle.theory.specs.Close.{stays, closed, kept_of, kept_most, closing_start, kept_more, kept_still, closing_skip, closing_copy, closing_paste, closing_rows, rows_split, rows_long}
use Rattle.head.specs.Head.{HeadOf}
use Rattle.sorts.specs.declared.Round.{Round as Head}
use Rattle.round.proofs.ReadLaws.{at_held}
use Rattle.runs.proofs.CopyLaws.{paste_next}
use Rattle.closing.specs.Close.{DueNow, due_other, gone_ticket, DueBeside, Search, NextLeaving, LeftBehind, ClosingIn, ClosedRows}
use Rattle.closing.proofs.HeadLaws.{head_slot, head_used, table_room}

used_held : (t : List ℕ) → length (round_in t).rows ≡ used_in t
unfolding round_in round
used_held t = rows_count (used_in t) (drop head_size t)

-- THE TICKET THAT GOES is the one of its row; past the last row there is none
pub gone_held : (t : List ℕ) (g : ℕ) → g < used_in t → gone_ticket t g ≡ ticket_in t g
gone_held t g h = rw (lt-ltb g (used_in t) h)

pub gone_nothing : (t : List ℕ) (g : ℕ) → used_in t ≤ g → gone_ticket t g ≡ 0
gone_nothing t g h = rw (le-ltb g (used_in t) h)

pub gone_row : (t : List ℕ) (g : ℕ) → g < used_in t → gone_ticket t g ≡ (get_or (round_in t).rows g (blank 0)).ticket
unfolding row
gone_row t g h = gone_held t g h ∙ sym (ap (λ (x : Row). x.ticket) (at_held t g h))

-- whether a row stays
stays_yes : (s k : ℕ) (x : Row) → s ≤ x.due → (x.ticket ≡ k → ⊥) → stays s k x ≡ true
unfolding stays
stays_yes s k x h n = rw (le-leb s x.due h, ne_eqb x.ticket k n)

due_goes : (s k : ℕ) (x : Row) → x.due < s → stays s k x ≡ false
unfolding stays
due_goes s k x h = rw (lt-leb s x.due h)

ticket_goes : (s k : ℕ) (x : Row) → x.ticket ≡ k → stays s k x ≡ false
unfolding stays
ticket_goes s k x e = rw (eq-eqb x.ticket k e) (none (leb s x.due))
  where
    none : (b : Bool) → b && false ≡ false
    none true = refl
    none false = refl

-- A MEASURE of the rows from i on never grows further on
sum_next : (μ : Row → ℕ) (xs : List Row) (i : ℕ) → i < length xs → sum μ (drop i xs) ≡ μ (get_or xs i (blank 0)) + sum μ (drop (suc i) xs)
sum_next μ xs i h = ap (sum μ) (drop-cons xs i (blank 0) h)

sum_fall : (μ : Row → ℕ) (xs : List Row) (i m : ℕ) → i + m ≤ length xs → sum μ (drop (i + m) xs) ≤ sum μ (drop i xs)
sum_fall μ xs i zero h = let p : i + 0 ≡ i = omega arith in rw p (omega arith)
sum_fall μ xs i (suc m) h =
    let p : i + suc m ≡ suc (i + m) = omega arith in
    rw p (omega (arith, sum_fall μ xs i m (omega arith), sum_next μ xs (i + m) (omega arith)))

sum_later : (μ : Row → ℕ) (xs : List Row) (i j : ℕ) → i ≤ j → j ≤ length xs → sum μ (drop j xs) ≤ sum μ (drop i xs)
sum_later μ xs i j h k = let p : i + (j - i) ≡ j = omega arith in rw (p) at (sum_fall μ xs i (j - i) (omega arith))

-- the rows of one ticket, and those beside it
due_own : (s k : ℕ) → Row → ℕ
due_own s k x = cond (eqb x.ticket k) (below 0 s x) 0

due_parts : (s k : ℕ) (xs : List Row) → sum (due_other s k) xs + sum (due_own s k) xs ≡ num 0 s xs
unfolding due_own
due_parts s k [] = refl
due_parts s k (x ∷ xs) = elim (either (eqb x.ticket k)) [
  | inl e ↦ rw e (omega (arith, due_parts s k xs))
  | inr e ↦ rw e (omega (arith, due_parts s k xs))
]

module _ (r : Round) where
  abbrev head₁ : List ℕ
  head₁ = head_of r

  abbrev zeros₁ : List ℕ
  zeros₁ = replicate (row_size * (r.room - length r.rows)) 0

  abbrev at : ℕ → Row
  at i = get_or r.rows i (blank 0)

  -- the bytes from row i on
  rest_of : (i : ℕ) → i ≤ length r.rows → drop (row_at i) (table r) ≡ rows_bytes (drop i r.rows) ++ zeros₁
  rest_of i h =
      let ps = rows_bytes (take i r.rows) in
      let rest = rows_bytes (drop i r.rows) ++ zeros₁ in
      let n : length (head₁ ++ ps) ≡ row_at i = omega (arith, length-append head₁ ps, length_head_of r, rows_long r.rows i h) in
      ap (drop (row_at i)) (table_is r ∙ ap (λ (bs : List ℕ). head₁ ++ bs) (rows_split r.rows i zeros₁) ∙ sym (append_assoc head₁ ps rest))
      ∙ drop_at (head₁ ++ ps) rest (row_at i) n

  -- A RUN of rows that stay is one copy
  closing_run : (s k i n m : ℕ) (w : List ℕ) → i + m ≤ length r.rows → n ≡ kept_of s k r.rows i → ClosingIn s k r i w →
      ((j : ℕ) → i ≤ j → j < i + m → stays s k (at j) ≡ true) →
      (n + m ≡ kept_of s k r.rows (i + m)) × ClosingIn s k r (i + m) (paste w (row_at n) (drop (row_at i) w) (row_size * m))
  closing_run s k i n zero w h e q f =
      let p : i + 0 ≡ i = omega arith in
      let o : n + 0 ≡ n = omega arith in (
        o ∙ e ∙ ap (kept_of s k r.rows) (sym p),
        subst (λ (v : List ℕ). ClosingIn s k r (i + 0) v) (paste-zero w (row_at n) (drop (row_at i) w)) (subst (λ (j : ℕ). ClosingIn s k r j w) (sym p) q),
      )
  closing_run s k i n (suc m) w h e q f =
      let c = closing_run s k i n m w (omega arith) e q (λ j a b. f j a (omega (arith, b))) in
      let u = paste w (row_at n) (drop (row_at i) w) (row_size * m) in
      let g : stays s k (at (i + m)) ≡ true = f (i + m) (omega arith) (omega arith) in
      let l : i + m < length r.rows = omega arith in
      let p : suc (i + m) ≡ i + suc m = omega arith in
      let x : row_at (kept_of s k r.rows (i + m)) ≡ row_at n + row_size * m = omega (arith, c.0) in
      let y : row_at (i + m) ≡ row_at i + row_size * m = omega arith in
      let z : row_size * m + row_size ≡ row_size * suc m = omega arith in
      let b = kept_most s k r.rows i (omega arith) in
      let d : paste u (row_at (kept_of s k r.rows (i + m))) (drop (row_at (i + m)) u) row_size ≡ paste w (row_at n) (drop (row_at i) w) (row_size * suc m) =
      ap₂ (λ (a b : ℕ). paste u a (drop b u) row_size) x y
      ∙ paste_next w u (row_at n) (row_at i) (row_size * m) row_size (omega (arith, e, b)) (omega (arith, q.long, h)) refl
      ∙ ap (λ (a : ℕ). paste w (row_at n) (drop (row_at i) w) a) z in (
        omega (arith, c.0, kept_more s k r.rows (i + m) (blank 0) l g, ap (kept_of s k r.rows) p),
        subst (λ (j : ℕ). ClosingIn s k r j (paste w (row_at n) (drop (row_at i) w) (row_size * suc m))) p
            (subst (λ (v : List ℕ). ClosingIn s k r (suc (i + m)) v) d (closing_paste s k head₁ r.rows zeros₁ (i + m) (blank 0) u l c.1 g)),
      )

-- THE STATE: row i leaves or is past the last, the rows before it are closed up, and at most l due now are left from it on, beside the one that goes
pub record Runs (t : List ℕ) (g i n l : ℕ) (w : List ℕ) : Type 0 where
  pub by : i ≤ length (round_in t).rows
  pub long : length w ≡ length t
  pub kept : n ≡ kept_of (suc (round_in t).slot) (gone_ticket t g) (round_in t).rows i
  pub rows : ClosingIn (suc (round_in t).slot) (gone_ticket t g) (round_in t) i w
  pub left : sum (due_other (suc (round_in t).slot) (gone_ticket t g)) (drop i (round_in t).rows) ≤ l
  pub leaves : i < length (round_in t).rows → stays (suc (round_in t).slot) (gone_ticket t g) (at (round_in t) i) ≡ false

module _ {t : List ℕ} {h : Head} {g : ℕ} (e : table_refusal t ≡ 0) (d : HeadOf t h) (b : g ≤ h.used) where
  abbrev xs : List Row
  xs = (round_in t).rows

  abbrev s : ℕ
  s = suc (round_in t).slot

  abbrev k : ℕ
  k = gone_ticket t g

  abbrev row_of : ℕ → Row
  row_of = at (round_in t)

  abbrev μ : Row → ℕ
  μ = due_other s k

  due_is : (j : ℕ) → j < length xs → due_in t j ≡ (row_of j).due
  unfolding row
  due_is j l = sym (ap (λ (x : Row). x.due) (at_held t j (omega (arith, l, used_held t))))

  due_from : (j : ℕ) → j < length xs → (round_in t).slot ≤ (row_of j).due
  due_from j l = (all_in (RowFine (round_in t)) (row_of j) xs (sound t e).sane.fine.fine (getD_in xs (blank 0) j l)).due_from

  ticket_some : (j : ℕ) → j < length xs → 1 ≤ (row_of j).ticket
  ticket_some j l = rising_above 1 (round_in t).next (row_of j) xs (sound t e).sane.fine.rising (getD_in xs (blank 0) j l)

  gone_is : g < length xs → k ≡ (row_of g).ticket
  gone_is l = gone_row t g (omega (arith, l, used_held t))

  gone_none : length xs ≤ g → k ≡ 0
  gone_none l = gone_nothing t g (omega (arith, l, used_held t))

  -- the row that goes has its ticket, and no other has
  ticket_same : (j : ℕ) → j < length xs → j ≡ g → (row_of j).ticket ≡ k
  ticket_same j l q = ap (λ (n : ℕ). (row_of n).ticket) q ∙ sym (gone_is (omega (arith, l, q)))

  ticket_other : (j : ℕ) → j < length xs → (j ≡ g → ⊥) → (row_of j).ticket ≡ k → ⊥
  ticket_other j l n q = elim (ltb? g (length xs)) [
    | inr c ↦ omega (arith, q, gone_none c.1, ticket_some j l)
    | inl c ↦ elim (ltb? j g) [
      | inl a ↦ omega (arith, q, gone_is c.1, less j g a.1 c.1)
      | inr a ↦ elim (ltb? g j) [
        | inl o ↦ omega (arith, q, gone_is c.1, less g j o.1 l)
        | inr o ↦ n (omega (arith, a.1, o.1))
      ]
    ]
  ]
    where
      less : (i j : ℕ) → i < j → j < length xs → (row_of i).ticket < (row_of j).ticket
      less i j = tickets_less 1 (round_in t).next xs (blank 0) i j (sound t e).sane.fine.rising

  -- a row due now beside the one that goes counts
  one_less : (j : ℕ) → j < length xs → j ≢ g → (row_of j).due < s → sum μ (drop j xs) ≡ suc (sum μ (drop (suc j) xs))
  one_less j l n c =
      let y : μ (row_of j) ≡ 1 = rw (ne_eqb (row_of j).ticket k (ticket_other j l n)) (below_yes 0 s (row_of j) (omega arith) c) in
      omega (arith, sum_next μ xs j l, y)

  pub gone_room : g < h.used → (g < 1024) × (row_at (suc g) ≤ length t)
  gone_room l = let z = table_room t e (head_used d) in (omega (arith, l, z.0), omega (arith, l, z.1))

  -- HOW MANY beside it, where so many are due now in all
  pub beside_most : {n : ℕ} → DueNow t n → DueBeside t g n
  beside_most c = omega (arith, c, due_parts s k xs)

  pub beside_less : {n : ℕ} → DueNow t n → g < h.used → due_in t g ≡ h.slot.0 → suc (sum μ xs) ≤ n
  unfolding due_own
  beside_less c l u =
      let p : g < length xs = omega (arith, l, head_used d) in
      let y : due_own s k (row_of g) ≡ 1 =
      rw (eq-eqb (row_of g).ticket k (ticket_same g p refl)) (below_yes 0 s (row_of g) (omega arith) (omega (arith, due_is g p, u, head_slot d))) in
      omega (arith, c, due_parts s k xs, y, in_sum (due_own s k) (row_of g) xs (getD_in xs (blank 0) g p))

  module _ {i : ℕ} {w : List ℕ} (q : ClosingIn s k (round_in t) i w) (o : length w ≡ length t) {f : ℕ} (m : i ≤ f) where
    -- what is not closed up yet is as it was
    due_still : (j : ℕ) → f ≤ j → j < length xs → due_in w j ≡ (row_of j).due
    due_still j a l =
        let p : row_at i + (row_size * (j - i) + due_at) ≡ row_at j + due_at = omega (arith, a, m) in
        let y : drop (row_at i) w ≡ drop (row_at i) t = q.rest ∙ sym (rest_of (round_in t) i q.ahead) ∙ ap (drop (row_at i)) (sound t e).bytes in
        ap (λ (n : ℕ). field n slot_bytes w) (sym p)
        ∙ sym (field_drop (row_at i) (row_size * (j - i) + due_at) slot_bytes w)
        ∙ ap (field (row_size * (j - i) + due_at) slot_bytes) y
        ∙ field_drop (row_at i) (row_size * (j - i) + due_at) slot_bytes t
        ∙ ap (λ (n : ℕ). field n slot_bytes t) p
        ∙ due_is j l

    due_now : (j : ℕ) → f ≤ j → j < length xs → j ≢ g → due_in w j ≡ h.slot.0 → sum μ (drop j xs) ≡ suc (sum μ (drop (suc j) xs))
    due_now j a l n c = one_less j l n (omega (arith, due_still j a l, c, head_slot d))

    searched : {l : ℕ} → f ≤ h.used → sum μ (drop f xs) ≤ l → Search h.slot.0 g f h.used l w
    searched {l} n c =
        let z = table_room t e (head_used d) in
        record {
          by = n;
          gone_by = b;
          few = z.0;
          long = omega (arith, z.1, o);
          none = λ v j x y n u.
              let p : j < length xs = omega (arith, y, head_used d) in
              absurd (omega (arith, v, c, due_now j x p n u, sum_later μ xs f j x (omega (arith, p))));
        }

    module _ {n : ℕ} (v : NextLeaving h.slot.0 g f h.used w n) where
      next_by : n ≤ length xs
      next_by = omega (arith, v.before.by, head_used d)

      next_stay : (j : ℕ) → f ≤ j → j < n → stays s k (row_of j) ≡ true
      next_stay j x y =
          let p : j < length xs = omega (arith, y, next_by) in
          stays_yes s k (row_of j) (late p) (ticket_other j p (v.other j x y))
        where
          late : j < length xs → s ≤ (row_of j).due
          late p = elim (eqb? (row_of j).due (round_in t).slot) [
            | inl c ↦ absurd (v.before.none j x y (due_still j x p ∙ c.1 ∙ sym (head_slot d)))
            | inr c ↦ let u = c.1 in omega (arith, due_from j p)
          ]

      next_leaves : n < length xs → stays s k (row_of n) ≡ false
      next_leaves p = elim (v.leaves (omega (arith, p, head_used d))) [
        | inl c ↦ due_goes s k (row_of n) (omega (arith, due_still n v.before.onward p, c, head_slot d))
        | inr c ↦ ticket_goes s k (row_of n) (ticket_same n p c)
      ]

  -- BEFORE THE FIRST RUN: the rows in front stay where they are
  start : ClosingIn s k (round_in t) 0 t
  start =
      subst (λ (v : List ℕ). ClosingIn s k (round_in t) 0 v) (sym (table_is (round_in t)) ∙ (sound t e).bytes)
      (closing_start s k (head_of (round_in t)) xs (zeros₁ (round_in t)) (length_head_of (round_in t)))

  pub search_start : {l : ℕ} → DueBeside t g l → Search h.slot.0 g 0 h.used l t
  search_start c = searched start refl (omega arith) (omega arith) c

  in_front : (n : ℕ) → n ≤ length xs → ((j : ℕ) → j < n → stays s k (row_of j) ≡ true) → (n ≡ kept_of s k xs n) × ClosingIn s k (round_in t) n t
  unfolding closed
  in_front zero l f = (refl, start)
  in_front (suc n) l f =
      let c = in_front n (omega arith) (λ j a. f j (omega (arith, a))) in
      let y = f n (omega arith) in (
        omega (arith, c.0, kept_more s k xs n (blank 0) l y),
        closing_copy s k (head_of (round_in t)) xs (zeros₁ (round_in t)) n (blank 0) t t l c.1 y refl refl
            (ap (λ (x : ℕ). take row_size (drop (row_at x) t)) (sym c.0)) refl,
      )

  pub runs_start : {l i : ℕ} → DueBeside t g l → NextLeaving h.slot.0 g 0 h.used t i → Runs t g i i l t
  runs_start {l} {i} c v =
      let n = next_by start refl (omega arith) v in
      let q = in_front i n (λ j. next_stay start refl (omega arith) v j (omega arith)) in
      record {
        by = n;
        long = refl;
        kept = q.0;
        rows = q.1;
        left = omega (arith, c, sum_later μ xs 0 i (omega arith) n);
        leaves = next_leaves start refl (omega arith) v;
      }

  -- ONE ROW LEAVES, AND A RUN MOVES
  module _ {i n l : ℕ} {w : List ℕ} (q : Runs t g i n l w) (p : i < h.used) where
    leaves_due : i ≢ g → (row_of i).due < s
    unfolding stays
    leaves_due n =
        let j : i < length xs = omega (arith, p, head_used d) in
        elim (leb? s (row_of i).due) [
          | inr a ↦ a.1
          | inl a ↦ absurd (true≢false (sym (stays_yes s k (row_of i) a.1 (ticket_other i j n)) ∙ q.leaves j))
        ]

    pub some_left : i ≢ g → 1 ≤ l
    some_left n = omega (arith, one_less i (omega (arith, p, head_used d)) n (leaves_due n), q.left)

    gone_on : ClosingIn s k (round_in t) (i + 1) w
    gone_on =
        let j : i < length xs = omega (arith, p, head_used d) in
        let y : suc i ≡ i + 1 = omega arith in
        subst (λ (a : ℕ). ClosingIn s k (round_in t) a w) y
        (closing_skip s k (head_of (round_in t)) xs (zeros₁ (round_in t)) i (blank 0) w w j q.rows (q.leaves j) refl refl refl)

    still_kept : n ≡ kept_of s k xs (i + 1)
    still_kept =
        let j : i < length xs = omega (arith, p, head_used d) in
        let y : suc i ≡ i + 1 = omega arith in
        q.kept ∙ sym (kept_still s k xs i (blank 0) j (q.leaves j)) ∙ ap (kept_of s k xs) y

    module _ {m : ℕ} (c : LeftBehind g i l m) where
      left_after : sum μ (drop (i + 1) xs) ≤ m
      left_after =
          let j : i < length xs = omega (arith, p, head_used d) in
          let y : suc i ≡ i + 1 = omega arith in
          let z = ap (λ (a : ℕ). sum μ (drop a xs)) y in
          elim c [
            | inl a ↦ omega (arith, z, a.1, q.left, sum_later μ xs i (suc i) (omega arith) j)
            | inr a ↦ omega (arith, z, a.1, q.left, one_less i j a.0 (leaves_due a.0))
          ]

      pub search_more : Search h.slot.0 g (i + 1) h.used m w
      search_more = searched gone_on q.long (omega arith) (omega (arith, p)) left_after

      module _ {a : ℕ} (v : NextLeaving h.slot.0 g (i + 1) h.used w a) where
        pub run_room : (n ≤ i + 1) × (i + 1 ≤ a) × (a ≤ 1024) × (row_at a ≤ length w)
        run_room =
            let z = table_room t e (head_used d) in (
              omega (arith, still_kept, kept_most s k xs (i + 1) (omega (arith, p, head_used d))),
              v.before.onward,
              omega (arith, v.before.by, z.0),
              omega (arith, v.before.by, z.1, q.long),
            )

        pub runs_more : {u : List ℕ} → length u ≡ length w → u ≡ paste w (row_at n) (drop (row_at (i + 1)) w) (row_size * (a - (i + 1))) →
            Runs t g a (n + (a - (i + 1))) m u
        runs_more {u} o f =
            let x : i + 1 + (a - (i + 1)) ≡ a = omega (arith, v.before.onward) in
            let y = next_by gone_on q.long (omega arith) v in
            let z = closing_run (round_in t) s k (i + 1) n (a - (i + 1)) w (omega (arith, x, y)) still_kept gone_on
            (λ j b c. next_stay gone_on q.long (omega arith) v j b (omega (arith, c, x))) in
            record {
              by = y;
              long = o ∙ q.long;
              kept = z.0 ∙ ap (kept_of s k xs) x;
              rows = subst (λ (bs : List ℕ). ClosingIn s k (round_in t) a bs) (sym f)
                  (subst (λ (j : ℕ). ClosingIn s k (round_in t) j (paste w (row_at n) (drop (row_at (i + 1)) w) (row_size * (a - (i + 1))))) x z.1);
              left = omega (arith, left_after, sum_later μ xs (i + 1) a v.before.onward y);
              leaves = next_leaves gone_on q.long (omega arith) v;
            }

  pub runs_end : {i n l : ℕ} {w : List ℕ} → Runs t g i n l w → h.used ≤ i → ClosedRows (suc h.slot.0) k t w n
  runs_end {i} {n} {l} {w} q o =
      let f : i ≡ length xs = omega (arith, q.by, o, head_used d) in
      let c : ClosingIn s k (round_in t) (length xs) w = subst (λ (j : ℕ). ClosingIn s k (round_in t) j w) f q.rows in
      let y = closing_rows s k (head_of (round_in t)) xs (zeros₁ (round_in t)) w (length_head_of (round_in t)) c in
      let a : s ≡ suc h.slot.0 = omega (arith, head_slot d) in
      subst (λ (z : ℕ). ClosedRows z k t w n) a record { rows = c; many = q.kept ∙ ap (kept_of s k xs) f ∙ y.0 }
