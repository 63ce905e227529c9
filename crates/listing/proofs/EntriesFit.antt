-- Every entry listed still fits: entry i is due in slot current + i or later.
use mathlib.Core.Path.{◌≡◌, refl, sym, ap, ◌∙◌}
use mathlib.Core.Logic.{inl, inr}
use mathlib.Core.List.{List, [], ◌∷◌, ◌++◌, map}
use Prim.Native.Nat.{ℕ, zero, suc, ◌+◌, ◌≤◌, ◌<◌}
use native.Mathlib.Omega.{arith}
use lib.ListN.{length, get_or, drop}
use Rattle.rules.specs.Rows.{Row, Round}
use Rattle.rules.specs.Plan.{listed}
use Rattle.rules.specs.Table.{round_in}
use Rattle.rules.specs.Demands.{ListedFits, TablesBack}
use Rattle.rules.specs.Calls.{refused, amount}
use Rattle.rules.specs.Looking.{Shown, the_plan, shows, list_refusal, list_answer, list_left}
use Rattle.theory.specs.Tests.{eqb?}
use Rattle.theory.specs.Listed.{listed_fits}
use Rattle.theory.specs.Listings.{list_accepted}
use Rattle.theory.specs.Stays.{tables_back}
use Rattle.listing.specs.declared.Entry.{Entry}
use Rattle.listing.specs.Entries.{entry, ListedEntriesFit}

-- from rows to their entries
entries_due : (a : ℕ) (xs : List Row) → ((ys zs : List Row) (x : Row) → xs ≡ ys ++ (x ∷ zs) → a + length ys ≤ x.due) →
    (rest : List Entry) (z : Entry) (i : ℕ) → i < length xs → a + i ≤ (get_or (map (entry the_plan) xs ++ rest) i z).due.0
entries_due a [] h rest z i l = absurd (omega (arith, l))
entries_due a (x ∷ xs) h rest z zero l = h [] xs x refl
entries_due a (x ∷ xs) h rest z (suc i) l =
    omega (arith, entries_due (suc a) xs (λ ys zs y e. omega (arith, h (x ∷ ys) zs y (ap (λ (vs : List Row). x ∷ vs) e))) rest z i (omega (arith, l)))

-- a count is answered only where nothing is refused
accepted : {A : Type 0} (shown : Round → Shown A) (t : List ℕ) (room n : ℕ) → amount n ≡ list_answer shown t room →
    (list_refusal shown t room ≡ 0) × (n ≡ length (shown (round_in t)).items)
unfolding list_answer
accepted shown t room n e = elim (eqb? (list_refusal shown t room) 0) [
  | inl h ↦ let f : amount n ≡ amount (length (shown (round_in t)).items) = (rw h.0 at e) in (h.1, cc)
  | inr h ↦ let f : amount n ≡ refused (list_refusal shown t room) = (rw h.0 at e) in let z : ◌≡◌ {A = ℕ} 0 1 = cc in absurd (omega (arith, z))
]

pub listed_entries_fit : ListedEntriesFit
unfolding ListedEntriesFit ListedFits TablesBack list_left shows
listed_entries_fit a t u es zs says n e i h z =
    let k = accepted (shows the_plan) t (length es) n (sym e ∙ says.0) in
    let good = (tables_back.1 t (list_accepted (shows the_plan) t (length es) k.0).0).1.0 in
    let left = entries_due (round_in t).slot (listed (round_in t)) (listed_fits (round_in t) good) (drop (length (listed (round_in t))) es) z i
    (omega (arith, h, k.1)) in
    rw (says.1, k.0) left
