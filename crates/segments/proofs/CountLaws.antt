-- How many of the plan's rows stand at the first places, and that a slot is tight where these fill every slot by it.
use mathlib.Core.Path.{◌≡◌, sym, ap, ◌∙◌}
use mathlib.Core.Logic.{inl, inr}
use mathlib.Core.Bool.{Bool, false, cond}
use mathlib.Core.List.{List}
use Prim.Native.Nat.{ℕ, zero, suc, ◌+◌, ◌≤◌, ◌<◌}
use native.Mathlib.Omega.{arith}
use lib.Dec.{eqb}
use lib.ListN.{length, get_or, take}
use lib.Seq.{take_all}
use Rattle.rules.specs.Rows.{Row, Round, blank, chosen}
use Rattle.theory.specs.Tests.{eqb?, ltb?, one_if}
use Rattle.theory.specs.Feas.{below, num, below_yes, below_late}
use Rattle.theory.specs.Index.{chosen_next}
use Rattle.theory.specs.Flags.{raised, raised_at, length_raised, with_flag}
use Rattle.round.specs.Rows.{at}
use Rattle.keys.specs.Sorted.{many_due, placed}
use Rattle.keys.proofs.DueOrder.{placed_front}
use Rattle.keys.specs.DueSums.{each, before_slot}
use Rattle.keys.proofs.DueSums.{each_same, each_more, placed_sum}

-- 1 for a row in the plan
abbrev pub flag : List ℕ → (row : ℕ) → ℕ
flag fs i = one_if (eqb (get_or fs i 0) 1)

-- THE PLAN'S ROWS at the first p places
abbrev pub kept_to : Round → (n : ℕ) → List ℕ → (p : ℕ) → ℕ
kept_to r n fs p = each (λ q. flag fs (placed r n q)) p

pub kept_next : (r : Round) (n : ℕ) (fs : List ℕ) (p : ℕ) → kept_to r n fs (suc p) ≡ kept_to r n fs p + flag fs (placed r n p)
unfolding each
kept_next r n fs p = omega arith

pub flag_yes : (fs : List ℕ) (i : ℕ) → get_or fs i 0 ≡ 1 → flag fs i ≡ 1
flag_yes fs i e = elim (eqb? (get_or fs i 0) 1) [ inl a ↦ rw a.0 | inr a ↦ absurd (a.1 e) ]

pub flag_no : (fs : List ℕ) (i : ℕ) → (get_or fs i 0 ≡ 1 → ⊥) → flag fs i ≡ 0
flag_no fs i n = elim (eqb? (get_or fs i 0) 1) [ inl a ↦ absurd (n a.1) | inr a ↦ rw a.0 ]

-- among the rows of the table by index
counted_row : (fs : List ℕ) (r : Round) (e i : ℕ) → i < length fs →
    before_slot (flag fs) r e i ≡ cond (get_or (raised fs) i false) (below 0 e (at r i)) 0
counted_row fs r e i h =
    rw (raised_at fs i h) (elim (eqb? (get_or fs i 0) 1) [
      | inl a ↦ rw a.0 (elim (ltb? (at r i).due e) [
        | inl b ↦ rw b.0 (sym (below_yes 0 e (at r i) (omega arith) b.1))
        | inr b ↦ rw b.0 (sym (below_late 0 e (at r i) b.1))
      ])
      | inr a ↦ rw a.0 (elim (ltb? (at r i).due e) [ inl b ↦ rw b.0 | inr b ↦ rw b.0 ])
    ])

first_rows : (fs : List ℕ) (r : Round) (e i : ℕ) → length fs ≡ length r.rows → i ≤ length r.rows →
    each (before_slot (flag fs) r e) i ≡ num 0 e (chosen (take i (raised fs)) (take i r.rows))
unfolding each chosen
first_rows fs r e zero l h = omega arith
first_rows fs r e (suc i) l h =
    omega (
      arith,
      first_rows fs r e i l (omega (arith, h)),
      counted_row fs r e i (omega (arith, l, h)),
      chosen_next (below 0 e) (blank 0) (raised fs) r.rows i h (length_raised fs ∙ l),
    )

all_rows : (fs : List ℕ) (r : Round) (e : ℕ) → length fs ≡ length r.rows →
    each (before_slot (flag fs) r e) (length r.rows) ≡ num 0 e (with_flag r fs)
all_rows fs r e l =
    first_rows fs r e (length r.rows) l (omega arith)
    ∙ ap (λ (bs : List Bool). num 0 e (chosen bs (take (length r.rows) r.rows))) (take_all (length r.rows) (raised fs) (omega (arith, length_raised fs, l)))
    ∙ ap (λ (xs : List Row). num 0 e (chosen (raised fs) xs)) (take_all (length r.rows) r.rows (omega arith))

-- BY A SLOT
pub kept_slot : (r : Round) (n s : ℕ) (fs : List ℕ) → length fs ≡ length r.rows → ((i : ℕ) → i < length r.rows → r.slot ≤ (at r i).due) → s ≤ n →
    kept_to r n fs (many_due r s) ≡ num 0 (r.slot + s) (with_flag r fs)
kept_slot r n s fs l d h =
    each_same (λ q. flag fs (placed r n q)) (λ q. flag fs (placed r s q)) (many_due r s) (λ q k. ap (flag fs) (placed_front r s n q h k))
    ∙ placed_sum (flag fs) r s d ∙ all_rows fs r (r.slot + s) l

pub kept_more : (r : Round) (n : ℕ) (fs : List ℕ) (p q : ℕ) → p ≤ q → kept_to r n fs p ≤ kept_to r n fs q
kept_more r n fs p q h = each_more (λ q. flag fs (placed r n q)) p q h
