-- The first of all rows, row by row.
use mathlib.Core.Path.{◌≡◌, sym, ap, ◌∙◌, subst}
use mathlib.Core.Logic.{inl, inr}
use Prim.Native.Nat.{ℕ, ◌+◌, ◌≤◌, ◌<◌}
use native.Mathlib.Omega.{arith}
use lib.ListN.{length}
use Rattle.rules.specs.Rows.{Round, blank}
use Rattle.theory.specs.Tests.{eqb?}
use Rattle.theory.specs.Order.{NotBefore, heavier_no, not_before_self, not_before_trans}
use Rattle.theory.specs.Full.{Fine}
use Rattle.theory.specs.Keys.{getD_in}
use Rattle.theory.specs.Index.{each_row}
use Rattle.round.specs.Rows.{at, DueAt}
use Rattle.keys.specs.Key.{key_at, row_of}
use Rattle.keys.proofs.KeyLaws.{row_is, greater_key}
use Rattle.first.specs.First.{IsFirst, Behind, Ahead, first_of, Sees, Leads}
use Rattle.first.specs.declared.First.{First}

-- of one row more: each of those before, or the new one
split : (P : ℕ → Type 0) (n : ℕ) → ((j : ℕ) → j < n → P j) → P n → (j : ℕ) → j < n + 1 → P j
split P n a b j h = elim (eqb? j n) [
  | inl e ↦ subst P (sym e.1) b
  | inr e ↦ let k = e.1 in a j (omega arith)
]

-- there is one row alone
pub first_alone : (r : Round) → length r.rows ≡ 1 → IsFirst r r.rows 0
first_alone r e =
    let l : 0 < length r.rows = omega (arith, e) in
    let self = split (λ j. NotBefore (at r j) (at r 0)) 0 (λ j h. absurd (omega (arith, h))) (not_before_self (at r 0)) in
    record {
      below = l;
      inside = getD_in r.rows (blank 0) 0 l;
      first = each_row (λ y. NotBefore y (at r 0)) (blank 0) r.rows (λ j u. self j (omega (arith, u, e)));
    }

pub lead_start : (r : Round) (d k : ℕ) → DueAt r 0 d → k ≡ key_at r 0 → Leads r 1 (first_of d k)
lead_start r d k a e =
    record {
      row = 0;
      below = omega arith;
      due = a.is;
      key = e;
      first = split (λ j. NotBefore (at r j) (at r 0)) 0 (λ j h. absurd (omega (arith, h))) (not_before_self (at r 0));
    }

module _ (r : Round) (f : Fine r) (small : length r.rows ≤ 1024) (cap : r.last ≤ 4095) (n : ℕ) (l : n < length r.rows) (x : First) (g : Leads r n x)
    (d : ℕ) (a : DueAt r n d) where
  stays : NotBefore (at r n) (at r g.row) → Leads r (n + 1) x
  stays h =
      record {
        row = g.row;
        below = omega (arith, g.below);
        due = g.due;
        key = g.key;
        first = split (λ j. NotBefore (at r j) (at r g.row)) n g.first h;
      }

  -- row n is due later
  pub lead_passes : x.due < d → Leads r (n + 1) x
  lead_passes h = stays (inl (omega (arith, h, a.is, g.due)))

  -- it is compared: of one due slot the key tells
  module _ (k : ℕ) (e : k ≡ key_at r n) (by : d ≤ x.due) where
    within : g.row < length r.rows
    within = omega (arith, g.below, l)

    behind : Behind d k x → NotBefore (at r n) (at r g.row)
    behind q = inr (
      omega (arith, q.0, a.is, g.due),
      heavier_no (at r n) (at r g.row) (greater_key r f small cap n g.row l within (omega (arith, q.1, e, g.key))),
    )

    ahead : Ahead d k x → NotBefore (at r g.row) (at r n)
    ahead q = elim (eqb? d x.due) [
      | inl h ↦ inr (
        omega (arith, h.1, a.is, g.due),
        heavier_no (at r g.row) (at r n) (greater_key r f small cap g.row n within l (omega (arith, q h.1, e, g.key))),
      )
      | inr h ↦ let m = h.1 in inl (omega (arith, m, by, a.is, g.due))
    ]

    pub lead_sees : (y : First) → Sees x d k y → Leads r (n + 1) y
    lead_sees y (inl q) = subst (λ (v : First). Leads r (n + 1) v) (sym q.1) (stays (behind q.0))
    lead_sees y (inr q) =
        subst (λ (v : First). Leads r (n + 1) v) (sym q.1) (record {
          row = n;
          below = omega arith;
          due = a.is;
          key = e;
          first = split (λ j. NotBefore (at r j) (at r n)) n
              (λ j h. not_before_trans (at r j) (at r g.row) (at r n) (g.first j h) (ahead q.0))
              (not_before_self (at r n));
        })

-- of all rows
pub lead_end : (r : Round) → Fine r → length r.rows ≤ 1024 → r.last ≤ 4095 → (i n : ℕ) (x : First) → i ≤ n → n ≤ i → n ≡ length r.rows → Leads r i x →
    (j : ℕ) → j ≡ row_of x.key → IsFirst r r.rows j
lead_end r f small cap i n x h k e g j q =
    let l : g.row < length r.rows = omega (arith, g.below, h, e) in
    let m : g.row ≡ j = sym (q ∙ ap row_of g.key ∙ row_is r f small cap g.row l) in
    subst (IsFirst r r.rows) m (record {
      below = l;
      inside = getD_in r.rows (blank 0) g.row l;
      first = each_row (λ y. NotBefore y (at r g.row)) (blank 0) r.rows (λ j u. g.first j (omega (arith, u, k, e)));
    })
