-- What ranks and keys tell, and that keys are the order heavier: rank_less, ranked_key, key_weight, key_due, key_row, key_some, lacks_more, heavier_key, keys_apart.
use Rattle.std.specs.Prelude.{◌≡◌, ◌⊎◌, true, false, ℕ, zero, suc, ◌+◌, ◌*◌, ◌-◌, ◌≤◌, ◌<◌, ltb, length}
use Rattle.std.proofs.Common.{sym, ap, ◌∙◌, inl, inr, arith, lt-ltb, le-ltb, ltb-true, ltb-false}
use Rattle.rules.specs.Rows.{Row, Round, blank, heavier, Heavier}
use Rattle.theory.specs.Tests.{ltb?}
use Rattle.theory.specs.All.{all_in}
use Rattle.theory.specs.Bounds.{RowFine}
use Rattle.theory.specs.Full.{Fine}
use Rattle.theory.specs.Order.{NotOver, heavier?}
use Rattle.theory.specs.Keys.{getD_in, tickets_rise}
use Rattle.round.specs.Rows.{DueAt, WeightAt, ClassAt, at}
use Rattle.keys.specs.Key.{key, rank, slot_of, ranked, weight_of, lack_of, due_of, row_of, blank_key, key_at, MayLack, Lacks}

-- RANKS are compared by due slot, then by class; and a key is made of one
pub rank_less : (d c e f : ℕ) → f ≤ 3 → rank d c < rank e f → (d < e) ⊎ ((d ≡ e) × (c < f))
rank_less d c e f h l = elim (ltb? d e) [ inl a ↦ inl a.1 | inr a ↦ inr (omega (arith, a.1, h, l), omega (arith, a.1, h, l)) ]

pub rank_same : (d c e f : ℕ) → c ≤ 3 → f ≤ 3 → rank d c ≡ rank e f → (d ≡ e) × (c ≡ f)
rank_same d c e f h k q = (omega arith, omega arith)

-- of no class, or the smallest, they tell which due slot is earlier
pub rank_near : (d c e : ℕ) → rank d c < rank e 0 → d < e
rank_near d c e h = omega arith

pub rank_far : (d c e : ℕ) → c ≤ 3 → rank e 0 ≤ rank d c → e ≤ d
rank_far d c e h k = omega arith

pub rank_due : (d c : ℕ) → c ≤ 3 → slot_of (rank d c) ≡ d
rank_due d c h = omega arith

pub rank_fits : (d c : ℕ) → d ≤ 4095 → c ≤ 3 → rank d c ≤ 16383
rank_fits d c h k = omega arith

pub ranked_key : (w d c i : ℕ) → ranked w (rank d c) i ≡ key w d c i
unfolding key ranked
ranked_key w d c i = omega arith

-- WHAT A KEY TELLS
pub key_weight : (w d c i : ℕ) → w ≤ 16777216 → d ≤ 4095 → c ≤ 3 → i < 1024 → weight_of (key w d c i) ≡ w
unfolding key
key_weight w d c i h k l m = omega arith

pub key_due : (w d c i : ℕ) → d ≤ 4095 → c ≤ 3 → i < 1024 → due_of (key w d c i) ≡ d
unfolding key
key_due w d c i k l m = omega arith

pub key_row : (w d c i : ℕ) → i < 1024 → row_of (key w d c i) ≡ i
unfolding key
key_row w d c i m = omega arith

-- no key is 0, and only what weighs nothing has a blank's
pub key_some : (w d c i : ℕ) → w ≤ 16777216 → 1 ≤ key w d c i
unfolding key
key_some w d c i h = omega arith

pub key_most : (w d c i : ℕ) → 1 ≤ w → d ≤ 4095 → c ≤ 3 → i < 1024 → key w d c i < blank_key
unfolding key
key_most w d c i h k l m = omega arith

-- the key of a row as the code reads it
pub key_read : (r : Round) (i d w c k : ℕ) → DueAt r i d → WeightAt r i w → ClassAt r i c → k ≡ key w d c i → k ≡ key_at r i
key_read r i d w c k a b s e =
    e ∙ ap (λ (x : ℕ). key x d c i) b.is ∙ ap (λ (x : ℕ). key (at r i).weight x c i) a.is
    ∙ ap (λ (x : ℕ). key (at r i).weight (at r i).due x i) s.is

-- a flag is 1 or 0
pub flag_fits : (k f : ℕ) → k ≤ blank_key → f ≤ 1 → k * f < 18446744073709551616
flag_fits k zero h l = omega arith
flag_fits k (suc zero) h l = omega arith
flag_fits k (suc (suc f)) h l = absurd (omega arith)

-- MANY ROWS, one by one
pub lacks_none : Lacks 0 0 0
lacks_none = omega arith

pub lacks_more : (n l w k : ℕ) → k ≤ blank_key → Lacks n l w → Lacks (n + 1) (l + lack_of k) (w + weight_of k)
lacks_more n l w k h e = omega arith

pub may_lack : (n l w : ℕ) → n ≤ 1024 → Lacks n l w → MayLack n l
may_lack n l w h e = (h, omega arith)

-- one more does not overflow
pub lack_fits : (n l w k : ℕ) → n ≤ 1024 → k ≤ blank_key → Lacks n l w → l + lack_of k < 18446744073709551616
lack_fits n l w k h b e = omega arith

-- what they lack tells what they weigh
pub lacks_once : (n l v w : ℕ) → Lacks n l v → Lacks n l w → v ≡ w
lacks_once n l v w d e = omega arith

-- A LESSER KEY IS A HEAVIER ROW, where indices rise as tickets do
pub heavier_by_key : (a b : Row) (i j : ℕ) → i < 1024 → j < 1024 → a.due ≤ 4095 → b.due ≤ 4095 → a.weight ≤ 16777216 → b.weight ≤ 16777216 →
    a.tail.class ≤ 3 → b.tail.class ≤ 3 → ltb a.ticket b.ticket ≡ ltb i j →
    heavier a b ≡ ltb (key a.weight a.due a.tail.class i) (key b.weight b.due b.tail.class j)
unfolding key
heavier_by_key a b i j h k m n o p q s e = elim (heavier? a b) [
  | inl u ↦ u.0 ∙ sym (lt-ltb _ _ (above u.1))
  | inr u ↦ u.0 ∙ sym (le-ltb _ _ (below u.1))
]
  where
    above : Heavier a b → (16777217 - a.weight) * 16777216 + a.due * 4096 + a.tail.class * 1024 + i
        < (16777217 - b.weight) * 16777216 + b.due * 4096 + b.tail.class * 1024 + j
    above (inl u) = omega arith
    above (inr (u, inl v)) = omega arith
    above (inr (u, inr (v, inl w))) = omega arith
    above (inr (u, inr (v, inr (w, x)))) = let c : i < j = ltb-true i j (sym e ∙ lt-ltb a.ticket b.ticket x) in omega arith

    below : NotOver a b → (16777217 - b.weight) * 16777216 + b.due * 4096 + b.tail.class * 1024 + j
        ≤ (16777217 - a.weight) * 16777216 + a.due * 4096 + a.tail.class * 1024 + i
    below (inl u) = omega arith
    below (inr (u, inl v)) = omega arith
    below (inr (u, inr (v, inl w))) = omega arith
    below (inr (u, inr (v, inr (w, x)))) = let c : j ≤ i = ltb-false i j (sym e ∙ le-ltb a.ticket b.ticket x) in omega arith

module _ (r : Round) (f : Fine r) (small : length r.rows ≤ 1024) (cap : r.last ≤ 4095) where
  pub row_fine : (i : ℕ) → i < length r.rows → RowFine r (at r i)
  row_fine i h = all_in (RowFine r) (at r i) r.rows f.fine (getD_in r.rows (blank 0) i h)

  pub weight_is : (i : ℕ) → i < length r.rows → weight_of (key_at r i) ≡ (at r i).weight
  weight_is i h =
      let b = row_fine i h in key_weight (at r i).weight (at r i).due (at r i).tail.class i b.most (omega (arith, b.due_by)) b.class (omega (arith, h))

  pub due_is : (i : ℕ) → i < length r.rows → due_of (key_at r i) ≡ (at r i).due
  due_is i h =
      let b = row_fine i h in
      key_due (at r i).weight (at r i).due (at r i).tail.class i (omega (arith, b.due_by)) b.class (omega (arith, h))

  pub row_is : (i : ℕ) → i < length r.rows → row_of (key_at r i) ≡ i
  row_is i h = key_row (at r i).weight (at r i).due (at r i).tail.class i (omega (arith, h))

  pub some_key : (i : ℕ) → i < length r.rows → (1 ≤ key_at r i) × (key_at r i < blank_key)
  some_key i h =
      let b = row_fine i h in (
        key_some (at r i).weight (at r i).due (at r i).tail.class i b.most,
        key_most (at r i).weight (at r i).due (at r i).tail.class i b.some (omega (arith, b.due_by)) b.class (omega (arith, h)),
      )

  -- different rows have different keys
  pub keys_apart : (i j : ℕ) → i < length r.rows → j < length r.rows → key_at r i ≡ key_at r j → i ≡ j
  keys_apart i j h k e = sym (row_is i h) ∙ ap row_of e ∙ row_is j k

  -- and the order is heavier
  pub heavier_key : (i j : ℕ) → i < length r.rows → j < length r.rows → heavier (at r i) (at r j) ≡ ltb (key_at r i) (key_at r j)
  heavier_key i j h k =
      let b = row_fine i h in
      let c = row_fine j k in
      heavier_by_key (at r i) (at r j) i j (omega (arith, h)) (omega (arith, k)) (omega (arith, b.due_by)) (omega (arith, c.due_by)) b.most c.most
      b.class c.class
      (tickets_rise 1 r.next r.rows (blank 0) i j f.rising h k)

  pub lesser_key : (i j : ℕ) → i < length r.rows → j < length r.rows → key_at r i < key_at r j → heavier (at r i) (at r j) ≡ true
  lesser_key i j h k l = heavier_key i j h k ∙ lt-ltb (key_at r i) (key_at r j) l

  pub greater_key : (i j : ℕ) → i < length r.rows → j < length r.rows → key_at r j ≤ key_at r i → heavier (at r i) (at r j) ≡ false
  greater_key i j h k l = heavier_key i j h k ∙ le-ltb (key_at r i) (key_at r j) l
