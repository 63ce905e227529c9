-- The sweep's steps on flags as the code takes them.
use mathlib.Core.Path.{◌≡◌, refl, sym, ap, ◌∙◌}
use mathlib.Core.Logic.{◌⊎◌, inl, inr}
use mathlib.Core.Bool.{true, false, not}
use mathlib.Core.List.{List}
use Prim.Native.Nat.{ℕ, zero, suc, ◌+◌, ◌≤◌, ◌<◌}
use native.Mathlib.Omega.{arith}
use lib.Dec.{eqb}
use lib.ListN.{length, get_or, set, replicate, length-set, get_or-replicate}
use lib.Seq.{get_or-set_same, get_or-set_other}
use Rattle.keys.specs.Key.{row_of}
use Rattle.theory.specs.Tests.{ltb?, eqb?}
use Rattle.leaving.specs.Sweep.{tally, before, Mid, Queue, Swept, FirstCrowded, Crowd}
use Rattle.leaving.specs.Sweep.{key_on, row_on, ahead_on, weight_on, kept?, kept_on, left_on}
use Rattle.leaving.proofs.TallyLaws.{tally_yes, tally_no, tally_zero, tally_off, tally_all, tally_le, tally_both, tally_few, before_yes}
use Rattle.leaving.proofs.StepLaws.{mid_none, joins, stays, exchanges}

-- a flag taken away
pub off? : (gs : List ℕ) (i j : ℕ) → i < length gs →
    ((j ≡ i) × (kept? (set gs i 0) j ≡ false)) ⊎ ((j ≡ i → ⊥) × (kept? (set gs i 0) j ≡ kept? gs j))
off? gs i j h = elim (eqb? j i) [
  | inl k ↦
      let e : j ≡ i = k.1 in
      inl (e, ap (λ (v : ℕ). eqb v 1) (ap (λ (v : ℕ). get_or (set gs i 0) v 0) e ∙ get_or-set_same gs i 0 0 h))
  | inr k ↦ inr (k.1, ap (λ (v : ℕ). eqb v 1) (get_or-set_other gs i j 0 0 k.1))
]

-- different places have different keys
pub keys_differ : (ks : List ℕ) (slot n m : ℕ) → Queue ks slot n m → (p q : ℕ) → p < m → q < m → key_on ks p ≡ key_on ks q → p ≡ q
keys_differ ks slot n m Q p q h k e = Q.apart p q h k (ap row_of e)

-- no more rows are kept than slots are near
pub count_few : (ks gs : List ℕ) (slot n m p count w : ℕ) → Queue ks slot n m → Swept ks gs slot m p count w → (count ≤ n) × (count ≤ p)
count_few ks gs slot n m p count w Q S = (
  omega (
    arith,
    S.mid.all,
    S.mid.fits n,
    tally_le (λ _. 1) (before (ahead_on ks slot) n) (kept_on ks gs) p (λ j h e.
        omega (arith, before_yes (ahead_on ks slot) n j (Q.early j (omega (arith, h, S.by))))),
  ),
  omega (arith, S.mid.all, tally_few (λ _. 1) (kept_on ks gs) p (λ j. omega arith)),
)

-- ONE PLACE
module _ (ks gs : List ℕ) (slot n m p count w : ℕ) (Q : Queue ks slot n m) (S : Swept ks gs slot m p count w) (h : p < m) where
  on : kept_on ks gs p ≡ true
  on = S.waits p (omega arith) h

  up_to : (q : ℕ) → q ≤ p → ahead_on ks slot q ≤ ahead_on ks slot p
  up_to q k = Q.rises q p k h

  pub swept_joins : count ≤ ahead_on ks slot p → Swept ks gs slot m (suc p) (suc count) w
  swept_joins free =
      record {
        by = h;
        rows = S.rows;
        waits = λ q a b. S.waits q (omega (arith, a)) b;
        mid = joins (key_on ks) (ahead_on ks slot) p count up_to (kept_on ks gs) S.mid on free;
        lost = S.lost ∙ sym (tally_no (weight_on ks) (left_on ks gs) p (ap not on));
        bits = S.bits;
        sums = λ f. omega (arith, S.sums f, tally_no (λ q. f (row_on ks q)) (left_on ks gs) p (ap not on));
      }

  -- the row at place z leaves, lighter than all others kept
  module _ (z : ℕ) (hz : z ≤ p) (was : kept_on ks gs z ≡ true) where
    abbrev hs : List ℕ
    hs = set gs (row_on ks z) 0

    in_z : row_on ks z < length gs
    in_z = S.rows z (omega (arith, hz, h))

    gone : kept_on ks hs z ≡ false
    gone = elim (off? gs (row_on ks z) (row_on ks z) in_z) [ inl a ↦ a.1 | inr a ↦ absurd (a.0 refl) ]

    other : (q : ℕ) → q < m → (q ≡ z → ⊥) → kept_on ks hs q ≡ kept_on ks gs q
    other q a d = elim (off? gs (row_on ks z) (row_on ks q) in_z) [
      | inl b ↦ absurd (d (Q.apart q z a (omega (arith, hz, h)) b.0))
      | inr b ↦ b.1
    ]

    -- what a sum over the rows kept loses, and one over the others gains
    pub kept_less : (f : ℕ → ℕ) → tally f (kept_on ks hs) (suc p) + f z ≡ tally f (kept_on ks gs) p + f p
    kept_less f =
        omega (
          arith,
          tally_off f (kept_on ks gs) (kept_on ks hs) (suc p) z (omega (arith, hz)) was gone (λ j a d. other j (omega (arith, a, h)) d),
          tally_yes f (kept_on ks gs) p on,
        )

    left_more : (f : ℕ → ℕ) → tally f (left_on ks hs) (suc p) ≡ tally f (left_on ks gs) p + f z
    left_more f =
        omega (
          arith,
          kept_less f,
          tally_both f (kept_on ks gs) (suc p),
          tally_both f (kept_on ks hs) (suc p),
          tally_yes f (kept_on ks gs) p on,
          tally_no f (left_on ks gs) p (ap not on),
        )

    rows_less : (f : ℕ → ℕ) → tally f (kept? hs) (length gs) + f (row_on ks z) ≡ tally f (kept? gs) (length gs)
    rows_less f =
        tally_off f (kept? gs) (kept? hs) (length gs) (row_on ks z) in_z was gone (λ j a d. elim (off? gs (row_on ks z) j in_z) [
          | inl b ↦ absurd (d b.0)
          | inr b ↦ b.1
        ])

    mid_then : ahead_on ks slot p < count → ((j : ℕ) → j ≤ p → kept_on ks gs j ≡ true → (j ≡ z → ⊥) → key_on ks j < key_on ks z) →
        Mid (key_on ks) (ahead_on ks slot) (kept_on ks hs) (suc p) count
    mid_then full most = elim (eqb? z p) [
      | inl a ↦
          let e : z ≡ p = a.1 in
          stays (key_on ks) (ahead_on ks slot) p count up_to (kept_on ks gs) (kept_on ks hs) S.mid
          (ap (kept_on ks hs) (sym e) ∙ gone)
          (λ j b. other j (omega (arith, b, h)) (λ q. omega (arith, q, e, b)))
          full
          (λ j b c. omega (arith, most j (omega (arith, b)) c (λ q. omega (arith, q, e, b)), ap (key_on ks) e))
      | inr a ↦
          let d = a.1 in
          exchanges (key_on ks) (ahead_on ks slot) p count up_to (kept_on ks gs) (kept_on ks hs) S.mid z (omega (arith, hz)) was gone
          (other p h (λ q. d (sym q)) ∙ on)
          (λ j b c. other j (omega (arith, b, h)) c)
          full
          (λ j b c e. most j (omega (arith, b)) c e)
          (most p (omega arith) on (λ q. d (sym q)))
    ]

    bits_then : (i : ℕ) → i < length gs → get_or hs i 0 ≤ 1
    bits_then i k = elim (eqb? i (row_on ks z)) [
      | inl a ↦ rw a.1 (omega (arith, get_or-set_same gs (row_on ks z) 0 0 in_z))
      | inr a ↦ omega (arith, get_or-set_other gs (row_on ks z) i 0 0 a.1, S.bits i k)
    ]

    pub swept_leaves : ahead_on ks slot p < count → ((j : ℕ) → j ≤ p → kept_on ks gs j ≡ true → (j ≡ z → ⊥) → key_on ks j < key_on ks z) →
        Swept ks (set gs (row_on ks z) 0) slot m (suc p) count (w + weight_on ks z)
    swept_leaves full most =
        let l = length-set gs (row_on ks z) 0 in
        record {
          by = h;
          rows = λ q a. omega (arith, l, S.rows q a);
          waits = λ q a b. other q b (λ e. omega (arith, e, a, hz)) ∙ S.waits q (omega (arith, a)) b;
          mid = mid_then full most;
          lost = omega (arith, S.lost, left_more (weight_on ks));
          bits = λ i k. bits_then i (omega (arith, k, l));
          sums = λ f. rw l (omega (arith, S.sums f, rows_less f, left_more (λ q. f (row_on ks q))));
        }

-- AT FIRST every row waits, and up to the first crowded place each joins
pub ones_up : (n j : ℕ) → j < n → kept? (replicate n 1) j ≡ true
ones_up n j h = ap (λ (v : ℕ). eqb v 1) (get_or-replicate n j 1 0 h)

module _ (ks gs : List ℕ) (slot free over : ℕ) (C : Crowd ks gs slot free over) where
  abbrev m : ℕ
  m = free + over

  up : (i : ℕ) → i < length gs → kept? gs i ≡ true
  up i k = ap (λ (xs : List ℕ). kept? xs i) C.flags ∙ ones_up (length gs) i k

  pub swept_none : Swept ks gs slot (free + over) 0 0 0
  swept_none =
      record {
        by = omega arith;
        rows = C.rows;
        waits = λ q a b. up (row_on ks q) (C.rows q b);
        mid = mid_none (key_on ks) (ahead_on ks slot) (kept_on ks gs);
        lost = sym (tally_zero (weight_on ks) (left_on ks gs));
        bits = λ i k. omega (arith, ap (λ (xs : List ℕ). get_or xs i 0) C.flags, get_or-replicate {A = ℕ} (length gs) i 1 0 k);
        sums = λ f. omega (arith, tally_all f (kept? gs) (length gs) up, tally_zero (λ q. f (row_on ks q)) (left_on ks gs));
      }

  pub swept_front : (c : ℕ) → FirstCrowded ks slot c → c ≤ free + over → (p : ℕ) → p ≤ c → Swept ks gs slot (free + over) p p 0
  swept_front c F b zero k = swept_none
  swept_front c F b (suc p) k =
      swept_joins ks gs slot free (free + over) p p 0 C.queue (swept_front c F b p (omega (arith, k))) (omega (arith, k, b)) (F.under p k)

  -- the first crowded place is one of the queue
  pub crowded_in : (c : ℕ) → FirstCrowded ks slot c → c < free + over
  crowded_in c F = elim (ltb? c (free + over)) [
    | inl a ↦ a.1
    | inr a ↦ absurd (omega (arith, F.under free (omega (arith, a.1, C.some)), C.queue.early free (omega (arith, C.some))))
  ]
