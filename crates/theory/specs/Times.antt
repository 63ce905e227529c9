-- Going out in time: a set with slots is feasible, a feasible one has slots, one rank each: timed_feas, rank_due, slots_of, in_slots.
use Rattle.std.specs.Prelude.{◌≡◌, refl, ◌⊎◌, ◌≢◌, Bool, true, false, ◌&&◌, ◌||◌, not, List, [], ◌∷◌, ℕ, zero, suc, ◌+◌, ◌-◌, ◌≤◌, ◌<◌, ltb, leb, eqb}
use Rattle.std.proofs.Common.{subst, inl, inr, true≢false, arith, leb-true, le-leb, ne_eqb}
use Rattle.std.proofs.lemmas.Bool.{false≢true}
use Rattle.rules.specs.Rows.{Row, Round, chosen, rows_only, All, In}
use Rattle.rules.specs.Plan.{plan}
use Rattle.rules.specs.Demands.{member, in_time}
use Rattle.theory.specs.Tests.{positive, either, ltb?, eqb?, and_true, not_true', one_if}
use Rattle.theory.specs.Sum.{sum, sum_le}
use Rattle.theory.specs.All.{ticketless_blanks, all_map, all_of_in}
use Rattle.theory.specs.Feas.{below, below?, num, below_yes, Feas}
use Rattle.theory.specs.Full.{Fine, Rising, blanks, plan_sum}
use Rattle.theory.specs.Change.{in_sum}

-- SLOTS, NO TWO THE SAME
abbrev pub EachSlot : (ℕ → Type 0) → List ℕ → Type 0
EachSlot P [] = Unit {0}
EachSlot P (s ∷ ss) = P s × EachSlot P ss

abbrev pub NoSlotTwice : List ℕ → Type 0
NoSlotTwice [] = Unit {0}
NoSlotTwice (s ∷ ss) = (member s ss ≡ false) × NoSlotTwice ss

-- how many are v; how many are before e
unfoldable pub is : (v s : ℕ) → ℕ
is v s = one_if (eqb s v)

pub is? : (v s : ℕ) → ((is v s ≡ 1) × (s ≡ v)) ⊎ ((is v s ≡ 0) × (s ≢ v))
unfolding is
is? v s = elim (eqb? s v) [ inl a ↦ inl (rw a.0, a.1) | inr a ↦ inr (rw a.0, a.1) ]

unfoldable pub lt : (e s : ℕ) → ℕ
lt e s = one_if (ltb s e)

pub lt? : (e s : ℕ) → ((lt e s ≡ 1) × (s < e)) ⊎ ((lt e s ≡ 0) × (e ≤ s))
unfolding lt
lt? e s = elim (ltb? s e) [ inl a ↦ inl (rw a.0, a.1) | inr a ↦ inr (rw a.0, a.1) ]

abbrev pub count_slots : (ℕ → ℕ) → List ℕ → ℕ
count_slots μ [] = 0
count_slots μ (s ∷ ss) = μ s + count_slots μ ss

pub absent : (v : ℕ) (ss : List ℕ) → member v ss ≡ false → count_slots (is v) ss ≡ 0
unfolding member
absent v [] e = refl
absent v (s ∷ ss) e =
    elim (eqb? s v) [
      | inl a ↦ let z : true ≡ false = (rw a.0 at e) in absurd (true≢false z)
      | inr a ↦ elim (is? v s) [
        | inl b ↦ absurd (a.1 b.1)
        | inr b ↦ omega (arith, absent v ss (rw a.0 at e))
      ]
    ]

pub once : (v : ℕ) (ss : List ℕ) → NoSlotTwice ss → count_slots (is v) ss ≤ 1
once v [] d = omega arith
once v (s ∷ ss) d =
    elim (is? v s) [
      | inl a ↦ omega (arith, absent v ss (subst (λ (x : ℕ). member x ss ≡ false) a.1 d.0))
      | inr a ↦ omega (arith, once v ss d.1)
    ]

pub count_slots_suc : (e : ℕ) (ss : List ℕ) → count_slots (lt (suc e)) ss ≡ count_slots (lt e) ss + count_slots (is e) ss
count_slots_suc e [] = refl
count_slots_suc e (s ∷ ss) =
    elim (lt? (suc e) s) [
      | inl a ↦ elim (lt? e s) [
        | inl b ↦ elim (is? e s) [ inl c ↦ absurd (omega arith) | inr c ↦ omega (arith, count_slots_suc e ss) ]
        | inr b ↦ elim (is? e s) [ inl c ↦ omega (arith, count_slots_suc e ss) | inr c ↦ absurd (omega arith) ]
      ]
      | inr a ↦ elim (lt? e s) [
        | inl b ↦ absurd (omega arith)
        | inr b ↦ elim (is? e s) [ inl c ↦ absurd (omega arith) | inr c ↦ omega (arith, count_slots_suc e ss) ]
      ]
    ]

pub count_slots_none : (t : ℕ) (ss : List ℕ) → EachSlot (λ s. t ≤ s) ss → count_slots (lt t) ss ≡ 0
count_slots_none t [] a = refl
count_slots_none t (s ∷ ss) a = elim (lt? t s) [ inl b ↦ absurd (omega (arith, a.0)) | inr b ↦ omega (arith, count_slots_none t ss a.1) ]

pub few : (t n : ℕ) (ss : List ℕ) → NoSlotTwice ss → EachSlot (λ s. t ≤ s) ss → count_slots (lt (t + n)) ss ≤ n
few t zero ss d a =
    let z : t + 0 ≡ t = omega arith in rw z (omega (arith, count_slots_none t ss a))
few t (suc n) ss d a =
    let z : t + suc n ≡ suc (t + n) = omega arith in rw z (omega (arith, count_slots_suc (t + n) ss, once (t + n) ss d, few t n ss d a))

-- a set with slots
pub record Timed (t : ℕ) (xs : List Row) (ss : List ℕ) : Type 0 where
  pub distinct : NoSlotTwice ss
  pub from : EachSlot (λ s. t ≤ s) ss
  pub count : (e : ℕ) → num 0 e xs ≤ count_slots (lt e) ss

pub timed : (t : ℕ) (xs : List Row) (ss : List ℕ) → in_time t xs ss ≡ true → Timed t xs ss
unfolding in_time
timed t [] [] e = record { distinct = tt; from = tt; count = λ e. omega arith }
timed t [] (s ∷ ss) e = absurd (false≢true e)
timed t (x ∷ xs) [] e = absurd (false≢true e)
timed t (x ∷ xs) (s ∷ ss) e =
    let a = and_true (leb t s && leb s x.due) (not (member s ss) && in_time t xs ss) e in
    let b = and_true (leb t s) (leb s x.due) a.0 in
    let c = and_true (not (member s ss)) (in_time t xs ss) a.1 in
    let q = timed t xs ss c.1 in
    record {
      distinct = (not_true' (member s ss) c.0, q.distinct);
      from = (leb-true t s b.0, q.from);
      count = λ e. elim (below? 0 e x) [
        | inl k ↦ elim (lt? e s) [ inl l ↦ omega (arith, q.count e) | inr l ↦ absurd (omega (arith, leb-true s x.due b.1)) ]
        | inr (inl k) ↦ absurd (omega arith)
        | inr (inr k) ↦ omega (arith, q.count e)
      ];
    }

pub timed_feas : (r : Round) (xs : List Row) (ss : List ℕ) → in_time r.slot xs ss ≡ true → Feas r xs
timed_feas r xs ss i e h k =
    let q = timed r.slot xs ss i in
    let z : r.slot + (e - r.slot) ≡ e = omega arith in
    omega (arith, q.count e, rw z at (few r.slot (e - r.slot) ss q.distinct q.from))

pub all_of_chosen : (P : Row → Type 0) (ms : List Bool) (xs : List Row) → All P xs → All P (chosen ms xs)
unfolding chosen
all_of_chosen P [] xs a = tt
all_of_chosen P (m ∷ ms) [] a = tt
all_of_chosen P (true ∷ ms) (x ∷ xs) a = (a.0, all_of_chosen P ms xs a.1)
all_of_chosen P (false ∷ ms) (x ∷ xs) a = all_of_chosen P ms xs a.1

-- SLOTS FOR A FEASIBLE SET: by rank
unfoldable pub one_ahead : Row → Row → ℕ
one_ahead y x = one_if (ltb y.due x.due || (eqb y.due x.due && ltb y.ticket x.ticket))

abbrev pub Ahead : Row → Row → Type 0
Ahead y x = (y.due < x.due) ⊎ ((y.due ≡ x.due) × (y.ticket < x.ticket))

pub one_ahead? : (y x : Row) → ((one_ahead y x ≡ 1) × Ahead y x) ⊎ ((one_ahead y x ≡ 0) × (Ahead y x → ⊥))
unfolding one_ahead
one_ahead? y x =
    elim (ltb? y.due x.due) [
      | inl a ↦ inl (rw a.0, inl a.1)
      | inr a ↦ elim (eqb? y.due x.due) [
        | inl b ↦ elim (ltb? y.ticket x.ticket) [
          | inl c ↦ inl (rw (a.0, b.0, c.0), inr (b.1, c.1))
          | inr c ↦ inr (rw (a.0, b.0, c.0), λ k. elim k [ inl l ↦ omega arith | inr l ↦ omega (arith, l.1) ])
        ]
        | inr b ↦ inr (rw (a.0, b.0), λ k. elim k [ inl l ↦ omega arith | inr l ↦ b.1 l.0 ])
      ]
    ]

pub ahead_trans : (z y x : Row) → Ahead z y → Ahead y x → Ahead z x
ahead_trans z y x (inl a) (inl b) = inl (omega arith)
ahead_trans z y x (inl a) (inr b) = inl (omega arith)
ahead_trans z y x (inr a) (inl b) = inl (omega arith)
ahead_trans z y x (inr a) (inr b) = inr (omega arith, omega arith)

pub ahead_not : (x : Row) → Ahead x x → ⊥
ahead_not x (inl a) = omega arith
ahead_not x (inr a) = omega arith

abbrev pub row_rank : Row → List Row → ℕ
row_rank x xs = sum (λ y. one_ahead y x) xs

pub sum_less : (μ ν : Row → ℕ) → ((x : Row) → μ x ≤ ν x) → (x : Row) → μ x + 1 ≤ ν x → (xs : List Row) → In x xs → sum μ xs + 1 ≤ sum ν xs
sum_less μ ν h x k [] i = absurd i
sum_less μ ν h x k (y ∷ ys) (inl e) = omega (arith, subst (λ (z : Row). μ z + 1 ≤ ν z) e k, sum_le μ ν h ys)
sum_less μ ν h x k (y ∷ ys) (inr i) = omega (arith, h y, sum_less μ ν h x k ys i)

pub rank_less : (x y : Row) (xs : List Row) → In x xs → Ahead x y → row_rank x xs + 1 ≤ row_rank y xs
rank_less x y xs i a =
    sum_less (λ z. one_ahead z x) (λ z. one_ahead z y)
    (λ z. elim (one_ahead? z x) [
      | inl b ↦ elim (one_ahead? z y) [ inl c ↦ omega arith | inr c ↦ absurd (c.1 (ahead_trans z x y b.1 a)) ]
      | inr b ↦ omega arith
    ]) x
    (elim (one_ahead? x x) [
      | inl b ↦ absurd (ahead_not x b.1)
      | inr b ↦ elim (one_ahead? x y) [ inl c ↦ omega arith | inr c ↦ absurd (c.1 a) ]
    ]) xs i

pub rank_due : (x : Row) (xs : List Row) → In x xs → row_rank x xs + 1 ≤ num 0 (suc x.due) xs
rank_due x xs i =
    sum_less (λ z. one_ahead z x) (below 0 (suc x.due))
    (λ z. elim (one_ahead? z x) [
      | inl b ↦ elim b.1 [
        | inl c ↦ omega (arith, below_yes 0 (suc x.due) z (omega arith) (omega arith))
        | inr c ↦ omega (arith, below_yes 0 (suc x.due) z (omega arith) (omega arith))
      ]
      | inr b ↦ omega arith
    ]) x
    (elim (one_ahead? x x) [
      | inl b ↦ absurd (ahead_not x b.1)
      | inr b ↦ omega (arith, below_yes 0 (suc x.due) x (omega arith) (omega arith))
    ]) xs i

unfoldable pub slots_of : (t : ℕ) (all xs : List Row) → List ℕ
slots_of t all [] = []
slots_of t all (x ∷ xs) = (t + row_rank x all) ∷ slots_of t all xs

abbrev pub Apart : List Row → Type 0
Apart [] = Unit {0}
Apart (x ∷ xs) = All (λ y. x.ticket ≢ y.ticket) xs × Apart xs

pub rank_apart : (x y : Row) (xs : List Row) → In x xs → In y xs → x.ticket ≢ y.ticket → row_rank x xs ≢ row_rank y xs
rank_apart x y xs i j n =
    elim (ltb? x.due y.due) [
      | inl a ↦ omega (arith, rank_less x y xs i (inl a.1))
      | inr a ↦ elim (ltb? y.due x.due) [
        | inl b ↦ omega (arith, rank_less y x xs j (inl b.1))
        | inr b ↦ elim (ltb? x.ticket y.ticket) [
          | inl c ↦ omega (arith, rank_less x y xs i (inr (omega arith, c.1)))
          | inr c ↦ omega (arith, rank_less y x xs j (inr (omega arith, omega arith)))
        ]
      ]
    ]

pub slot_fresh : (t : ℕ) (x : Row) (all xs : List Row) → In x all → All (λ y. In y all) xs → All (λ y. x.ticket ≢ y.ticket) xs →
    member (t + row_rank x all) (slots_of t all xs) ≡ false
unfolding member slots_of
slot_fresh t x all [] i a b = refl
slot_fresh t x all (y ∷ ys) i a b =
    let n = rank_apart x y all i a.0 b.0 in
    rw (ne_eqb (t + row_rank y all) (t + row_rank x all) (λ e. n (omega arith))) (slot_fresh t x all ys i a.1 b.1)

pub in_slots : (t : ℕ) (all xs : List Row) → All (λ y. In y all) xs → Apart xs → All (λ x. t + row_rank x all ≤ x.due) xs →
    in_time t xs (slots_of t all xs) ≡ true
unfolding in_time slots_of
in_slots t all [] a b c = refl
in_slots t all (x ∷ xs) a b c =
    rw (le-leb t (t + row_rank x all) (omega arith), le-leb (t + row_rank x all) x.due c.0, slot_fresh t x all xs a.0 a.1 b.0)
    (in_slots t all xs a.1 b.1 c.1)

-- the plan's rows
pub sum_rows_only : (μ : Row → ℕ) (xs : List Row) → sum μ (rows_only xs) ≤ sum μ xs
unfolding rows_only
sum_rows_only μ [] = omega arith
sum_rows_only μ (x ∷ xs) =
    elim (either (eqb x.ticket 0)) [
      | inl e ↦ rw e (omega (arith, sum_rows_only μ xs))
      | inr e ↦ rw e (omega (arith, sum_rows_only μ xs))
    ]

pub all_rows_only : (P : Row → Type 0) (xs : List Row) → All P xs → All (λ x. (1 ≤ x.ticket) × P x) (rows_only xs)
unfolding rows_only
all_rows_only P [] a = tt
all_rows_only P (x ∷ xs) a =
    elim (eqb? x.ticket 0) [
      | inl e ↦ rw e.0 (all_rows_only P xs a.1)
      | inr e ↦ rw e.0 ((positive x.ticket e.1, a.0), all_rows_only P xs a.1)
    ]

abbrev pub ticks : ℕ → Row → ℕ
ticks k x = is k x.ticket

pub no_ticks : (k : ℕ) (xs : List Row) → All (λ x. x.ticket ≢ k) xs → sum (ticks k) xs ≡ 0
no_ticks k [] a = refl
no_ticks k (x ∷ xs) a = elim (is? k x.ticket) [ inl b ↦ absurd (a.0 b.1) | inr b ↦ omega (arith, no_ticks k xs a.1) ]

pub rising_ticks : (a b k : ℕ) (xs : List Row) → Rising a b xs → (sum (ticks k) xs ≤ 1) × (k < a → sum (ticks k) xs ≡ 0)
rising_ticks a b k [] s = (omega arith, λ _. refl)
rising_ticks a b k (x ∷ xs) s =
    let q = rising_ticks (suc x.ticket) b k xs s.1 in
    elim (is? k x.ticket) [
      | inl c ↦ (omega (arith, q.1 (omega arith)), λ h. absurd (omega (arith, s.0)))
      | inr c ↦ (omega (arith, q.0), λ h. omega (arith, q.1 (omega (arith, s.0))))
    ]

pub apart_of : (xs : List Row) → ((k : ℕ) → 1 ≤ k → sum (ticks k) xs ≤ 1) → All (λ x. 1 ≤ x.ticket) xs → Apart xs
apart_of [] h a = tt
apart_of (x ∷ xs) h a = (
  all_of_in (λ y. x.ticket ≢ y.ticket) xs (λ y i.
      elim (is? x.ticket x.ticket) [
        | inl b ↦ elim (is? x.ticket y.ticket) [
          | inl c ↦ absurd (omega (arith, h x.ticket a.0, in_sum (ticks x.ticket) y xs i))
          | inr c ↦ omega arith
        ]
        | inr b ↦ absurd (b.1 refl)
      ]),
  apart_of xs (λ k l. omega (arith, h k l)) a.1,
)

pub plan_ticks : (r : Round) → Fine r → (k : ℕ) → 1 ≤ k → sum (ticks k) (rows_only (plan r)) ≤ 1
plan_ticks r f k h =
    omega (
      arith,
      sum_rows_only (ticks k) (plan r),
      plan_sum (ticks k) r,
      (rising_ticks 1 r.next k r.rows f.rising).0,
      no_ticks k (blanks r) (all_map {Q = λ x. x.ticket ≢ k} (λ x (a : x.ticket ≡ 0). omega arith) (blanks r) (ticketless_blanks _ _ _)),
    )
