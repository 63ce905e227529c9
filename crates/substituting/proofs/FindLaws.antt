-- Tickets rise with rows, so halves tell where one is.
use mathlib.Core.Path.{◌≡◌}
use mathlib.Core.Logic.{inl, inr}
use mathlib.Core.List.{List, [], ◌∷◌}
use Prim.Native.Nat.{ℕ, zero, suc, ◌+◌, ◌≤◌, ◌<◌}
use native.Mathlib.Omega.{arith}
use lib.ListN.{length, get_or}
use Rattle.rules.specs.Rows.{Row, blank}
use Rattle.rules.specs.Table.{round_in}
use Rattle.theory.specs.Tests.{ltb?}
use Rattle.theory.specs.Full.{Rising}
use Rattle.theory.specs.Change.{rising_above}
use Rattle.theory.specs.Keys.{getD_in}
use Rattle.sorts.specs.declared.Round.{Round as Head}
use Rattle.round.specs.Rows.{Ready, TicketAt, at}
use Rattle.round.proofs.ReadLaws.{known}
use Rattle.substituting.specs.Finding.{Parts}

pub rising_by_row : (a b : ℕ) (xs : List Row) (z : Row) → Rising a b xs → (i j : ℕ) → i ≤ j → j < length xs → (get_or xs i z).ticket ≤ (get_or xs j z).ticket
rising_by_row a b [] z s i j h l = absurd (omega arith)
rising_by_row a b (x ∷ xs) z s zero zero h l = omega arith
rising_by_row a b (x ∷ xs) z s zero (suc j) h l =
    let m = rising_above (suc x.ticket) b (get_or xs j z) xs s.1 (getD_in xs z j (omega arith)) in omega (arith, m)
rising_by_row a b (x ∷ xs) z s (suc i) zero h l = absurd (omega arith)
rising_by_row a b (x ∷ xs) z s (suc i) (suc j) h l = rising_by_row (suc x.ticket) b xs z s.1 i j (omega arith) (omega arith)

module _ (t : List ℕ) (h : Head) (ready : Ready t h) (k : ℕ) where
  pub tickets_rise : (i j : ℕ) → i ≤ j → j < length (round_in t).rows → (at (round_in t) i).ticket ≤ (at (round_in t) j).ticket
  tickets_rise = rising_by_row 1 (round_in t).next (round_in t).rows (blank 0) (known t h ready).fine.rising

  pub parts_all : Parts (round_in t) k 0 h.used
  parts_all =
      let u = (known t h ready).used in
      record { order = omega arith; by = omega (arith, u); before = λ i l. absurd (omega arith); behind = λ i a b. absurd (omega (arith, u, a, b)) }

  pub parts_met : (low high : ℕ) → Parts (round_in t) k low high → high ≤ low → Parts (round_in t) k low low
  parts_met low high p e =
      record { order = omega arith; by = omega (arith, p.order, p.by); before = p.before; behind = λ i a b. p.behind i (omega (arith, a, e)) b }

  module _ (low high mid : ℕ) (p : Parts (round_in t) k low high) (c : ℕ) (is : TicketAt (round_in t) mid c) where
    pub parts_low : mid < high → c < k → Parts (round_in t) k (mid + 1) high
    parts_low l e =
        record {
          order = omega arith;
          by = p.by;
          before = λ i a. let m = tickets_rise i mid (omega (arith, a)) (omega (arith, l, p.by)) in omega (arith, m, e, is.is);
          behind = p.behind;
        }

    pub parts_high : low ≤ mid → mid < high → k ≤ c → Parts (round_in t) k low mid
    parts_high o l e =
        record {
          order = o;
          by = omega (arith, l, p.by);
          before = p.before;
          behind = λ i a b. let m = tickets_rise mid i a b in omega (arith, m, e, is.is);
        }

  -- WHERE IT WOULD BE, and whether it is there
  module _ (n : ℕ) (p : Parts (round_in t) k n n) where
    pub none_behind : n ≡ h.used → (i : ℕ) → i < length (round_in t).rows → (at (round_in t) i).ticket ≡ k → ⊥
    none_behind e i l d = let m = p.before i (omega (arith, e, l, (known t h ready).used)) in omega (arith, m, d)

    pub none_there : (c : ℕ) → TicketAt (round_in t) n c → (c ≡ k → ⊥) → n < length (round_in t).rows →
        (i : ℕ) → i < length (round_in t).rows → (at (round_in t) i).ticket ≡ k → ⊥
    none_there c is x b i l d = elim (ltb? i n) [
      | inl a ↦ let m = p.before i a.1 in omega (arith, m, d)
      | inr a ↦ let m = tickets_rise n i a.1 l in let o = p.behind n (omega arith) b in x (omega (arith, m, o, d, is.is))
    ]
