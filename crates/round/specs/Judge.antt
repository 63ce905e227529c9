-- What the judge of a table says, and what the scan.
use Rattle.std.specs.Prelude.{◌≡◌, true, List, ℕ, ◌≤◌, length, Result, Ok, Err}
use Rattle.rules.specs.Table.{round_in, length_good, table_refusal}
use Rattle.sorts.specs.declared.Round.{Round as Head}
use Rattle.refusals.specs.declared.Refusal.{Refusal}
use Rattle.refusals.specs.Refusals.{refusal_number}
use Rattle.head.specs.Head.{HeadOf}
use Rattle.round.specs.Buckets.{Counted, LentCounts}

-- the first refusal that applies
abbrev pub Refuses : List ℕ → (number : ℕ) → Type 0
Refuses t n = (n ≡ table_refusal t) × (n ≡ 0 → ⊥)

-- THE JUDGE: a sound table's head
abbrev pub JudgeSays : List ℕ → Result Head Refusal → Type 0
JudgeSays t (Ok h) = (table_refusal t ≡ 0) × HeadOf t h
JudgeSays t (Err r) = Refuses t (refusal_number r)

-- THE SCAN, lent places wherever the length is good: the same, and where a slot is left the places hold the counts
abbrev pub ScanAsks : (t cs : List ℕ) → Type 0
ScanAsks t cs = length_good (length t) ≡ true → LentCounts t cs

abbrev pub ScanSays : (t cs : List ℕ) → Result Head Refusal → Type 0
ScanSays t cs (Ok h) = (table_refusal t ≡ 0) × HeadOf t h × (h.slot.0 ≤ h.last.0 → Counted (round_in t) cs)
ScanSays t cs (Err r) = Refuses t (refusal_number r)
