-- Demand 1 as conditions: what a sound table is, and when each number is given.
use Rattle.std.specs.Prelude.{◌≡◌, ◌⊎◌, true, false, List, [], ◌∷◌, ℕ, suc, ◌+◌, ◌*◌, ◌≤◌, ◌<◌, length, get_or}
use Rattle.rules.specs.Limits.{head_size, row_size, most_rows, most_last, most_weight, ticket_limit, most_class, slot_at, last_at, next_at, used_at, sealed_at, head_zeros_at, ticket_at, due_at, weight_at, kind_at, class_at, row_zeros_at, slot_bytes, wide_bytes, kind_bytes, class_bytes, flag_bytes}
use Rattle.rules.specs.Rows.{Row, In}
use Rattle.rules.specs.Plan.{plan, in_plan, listed}
use Rattle.rules.specs.Table.{field, rows_of, round_in}
use Rattle.rules.specs.Calls.{Act, taking, sending, sealing, Question, marking, totalling, Call, opening, acting, asking}
use Rattle.rules.specs.Looking.{View, the_plan}
use Rattle.rules.specs.Lines.{Command, text, stands}

infix 10 ◌⟺◌
abbrev pub ◌⟺◌ : Type 0 → Type 0 → Type 0
A ⟺ B = (A → B) × (B → A)

abbrev pub Bytes : List ℕ → Type 0
Bytes t = (i : ℕ) → get_or t i 0 < 256

-- the numbers in a table, by their places
abbrev pub slot_in : List ℕ → ℕ
slot_in t = field slot_at slot_bytes t

abbrev pub last_in : List ℕ → ℕ
last_in t = field last_at slot_bytes t

abbrev pub next_in : List ℕ → ℕ
next_in t = field next_at wide_bytes t

abbrev pub used_in : List ℕ → ℕ
used_in t = field used_at slot_bytes t

abbrev pub sealed_in : List ℕ → ℕ
sealed_in t = field sealed_at flag_bytes t

abbrev pub row_at : (row : ℕ) → ℕ
row_at i = head_size + row_size * i

abbrev pub ticket_in : List ℕ → (row : ℕ) → ℕ
ticket_in t i = field (row_at i + ticket_at) wide_bytes t

abbrev pub due_in : List ℕ → (row : ℕ) → ℕ
due_in t i = field (row_at i + due_at) slot_bytes t

abbrev pub weight_in : List ℕ → (row : ℕ) → ℕ
weight_in t i = field (row_at i + weight_at) wide_bytes t

abbrev pub kind_in : List ℕ → (row : ℕ) → ℕ
kind_in t i = field (row_at i + kind_at) kind_bytes t

abbrev pub class_in : List ℕ → (row : ℕ) → ℕ
class_in t i = field (row_at i + class_at) class_bytes t

-- A SOUND TABLE: one fact for each clause of document 01, of L1 the head's byte 10, and of L2 two for a row's byte 11
pub record Sound (t : List ℕ) : Type 0 where
  pub head_zeros : (i : ℕ) → head_zeros_at ≤ i → i < head_size → get_or t i 0 ≡ 0
  pub row_zeros : (i j : ℕ) → i < used_in t → row_zeros_at ≤ j → j < row_size → get_or t (row_at i + j) 0 ≡ 0
  pub kinds : (i : ℕ) → i < used_in t → kind_in t i ≤ 1
  pub classes : (i : ℕ) → i < used_in t → class_in t i ≤ most_class
  pub kept_class : (i : ℕ) → i < used_in t → kind_in t i ≡ 1 → class_in t i ≡ most_class
  pub rows_fit : used_in t ≤ rows_of t
  pub last_most : last_in t ≤ most_last
  pub slot_most : slot_in t ≤ suc (last_in t)
  pub next_least : 1 ≤ next_in t
  pub next_most : next_in t ≤ ticket_limit
  pub sealed_flag : sealed_in t ≤ 1
  pub tickets_from : (i : ℕ) → i < used_in t → 1 ≤ ticket_in t i
  pub tickets_rise : (i : ℕ) → suc i < used_in t → ticket_in t i < ticket_in t (suc i)
  pub tickets_below : (i : ℕ) → i < used_in t → ticket_in t i < next_in t
  pub dues_from : (i : ℕ) → i < used_in t → slot_in t ≤ due_in t i
  pub dues_by : (i : ℕ) → i < used_in t → due_in t i ≤ last_in t
  pub weights_least : (i : ℕ) → i < used_in t → 1 ≤ weight_in t i
  pub weights_most : (i : ℕ) → i < used_in t → weight_in t i ≤ most_weight
  pub unused_zeros : (i : ℕ) → row_at (used_in t) ≤ i → i < length t → get_or t i 0 ≡ 0

-- THE CONDITIONS, by number
abbrev pub LengthBad : List ℕ → Type 0
LengthBad t = (k : ℕ) → 1 ≤ k → k ≤ most_rows → length t ≡ head_size + row_size * k → ⊥

abbrev pub Unsound : List ℕ → Type 0
Unsound t = Sound t → ⊥

abbrev pub Past : List ℕ → Type 0
Past t = last_in t < slot_in t

abbrev pub WeightBad : (weight : ℕ) → Type 0
WeightBad w = (w ≡ 0) ⊎ (most_weight < w)

abbrev pub SlotBad : (slot : ℕ) → List ℕ → Type 0
SlotBad s t = (s < slot_in t) ⊎ (last_in t < s)

abbrev pub NoRow : (ticket : ℕ) → List ℕ → Type 0
NoRow k t = (i : ℕ) → i < used_in t → ticket_in t i ≡ k → ⊥

abbrev pub NotPlanned : (ticket : ℕ) → List ℕ → Type 0
NotPlanned k t = (x : Row) → In x (round_in t).rows → x.ticket ≡ k → in_plan x (plan (round_in t)) ≡ false

-- a line is the text of no command with a payload that could stand in one
abbrev pub NoCommand : (line : List ℕ) → Type 0
NoCommand line = (c : Command) (ps : List ℕ) → stands c ps ≡ true → line ≡ text c ps → ⊥

-- the first number whose condition holds, 0 where none does
abbrev pub when : (number : ℕ) (holds : Type 0) (later : ℕ → Type 0) → ℕ → Type 0
when k H later n = (H × (n ≡ k)) ⊎ ((H → ⊥) × later n)

abbrev pub accepted : ℕ → Type 0
accepted n = n ≡ 0

-- A CONDITION with the number that it gives, and the number that a list of them gives
pub record Condition : Type 1 where
  pub holds : Type 0
  pub number : ℕ

infix 10 ◌gives◌
abbrev pub ◌gives◌ : (holds : Type 0) → (number : ℕ) → Condition
H gives n = record { holds = H; number = n }

abbrev pub Given : List Condition → ℕ → Type 0
Given [] = accepted
Given (c ∷ cs) = when c.number c.holds (Given cs)

-- CONDITIONS of each call in their order; of opening the length alone
abbrev pub if_sound : List ℕ → (later : List Condition) → List Condition
if_sound t cs = (LengthBad t gives 2) ∷ (Unsound t gives 3) ∷ cs

unfoldable pub act_conditions : Act → List ℕ → List Condition
act_conditions (taking f) t =
    (Past t gives 5) ∷ ((sealed_in t ≡ 1) gives 13) ∷ (WeightBad f.weight gives 6) ∷ (SlotBad f.due t gives 7)
    ∷ ((most_class < f.class) gives 14) ∷ ((next_in t ≡ ticket_limit) gives 8) ∷ ((used_in t ≡ rows_of t) gives 9) ∷ []
act_conditions sending t = (Past t gives 5) ∷ []
act_conditions sealing t = (Past t gives 5) ∷ []

unfoldable pub question_conditions : Question → List ℕ → List Condition
question_conditions (marking s) t = (Past t gives 5) ∷ (SlotBad s t gives 7) ∷ []
question_conditions totalling t = (Past t gives 5) ∷ []

unfoldable pub conditions : Call → List ℕ → List Condition
conditions (opening u) t = (LengthBad t gives 2) ∷ ((most_last < u.last) gives 4) ∷ []
conditions (acting a) t = if_sound t (act_conditions a t)
conditions (asking q) t = if_sound t (question_conditions q t)

unfoldable pub refusal_given : Call → List ℕ → ℕ → Type 0
refusal_given c t = Given (conditions c t)

unfoldable pub substitute_given : (ticket : ℕ) → List ℕ → ℕ → Type 0
substitute_given k t = Given (if_sound t ((Past t gives 5) ∷ (NoRow k t gives 10) ∷ (NotPlanned k t gives 11) ∷ []))

unfoldable pub list_given : View → (room : ℕ) → List ℕ → ℕ → Type 0
list_given the_plan n t = Given (if_sound t ((Past t gives 5) ∷ ((n < length (listed (round_in t))) gives 12) ∷ []))

unfoldable pub read_given : (line : List ℕ) → ℕ → Type 0
read_given line = when 1 (NoCommand line) accepted
