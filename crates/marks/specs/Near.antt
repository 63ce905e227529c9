-- What the passes over the plan's keys find.
use Rattle.std.specs.Prelude.{◌≡◌, List, ℕ, suc, ◌+◌, ◌-◌, ◌≤◌, ◌<◌, length, get_or}
use Rattle.rules.specs.Rows.{Round}
use Rattle.rules.specs.Plan.{mark}
use Rattle.theory.specs.Feas.{num}
use Rattle.theory.specs.Segments.{Segment}
use Rattle.theory.specs.Flags.{with_flag}
use Rattle.round.specs.Rows.{at}
use Rattle.keys.specs.Key.{key_at, blank_key}
use Rattle.sub.specs.Substitute.{Substitutes}
use Rattle.sub.specs.declared.Sub.{Sub}
use Rattle.marks.specs.Given.{Given, Asked}
use Rattle.marks.specs.declared.find.Found.{Found}

-- THE SEGMENT of a slot, and of the plan's rows due by its end the lightest
pub record Finds (r : Round) (fs : List ℕ) (n asked : ℕ) (x : Found) : Type 0 where
  pub end : ℕ
  pub near : end < r.slot + n
  pub from : x.first ≤ asked
  pub by : asked ≤ end
  pub segment : Segment r (with_flag r fs) x.first end
  pub row : ℕ
  pub there : row < length r.rows
  pub kept : get_or fs row 0 ≡ 1
  pub due : (at r row).due ≤ end
  pub low : key_at r row ≡ x.low
  pub most : (i : ℕ) → i < length r.rows → get_or fs i 0 ≡ 1 → (at r i).due ≤ end → key_at r i ≤ x.low

abbrev pub FindsSay : (ks fs : List ℕ) (many slot asked : ℕ) → Found → Type 0
FindsSay ks fs many slot asked x = (r : Round) (n : ℕ) → Asked r ks fs many slot n asked → Finds r fs n asked x

-- THE FIRST END from a slot on, not before the slot asked about; of the plan's rows due by it the lightest, by its key
pub record Ends (r : Round) (fs : List ℕ) (n first asked k : ℕ) : Type 0 where
  pub end : ℕ
  pub near : end < r.slot + n
  pub by : asked ≤ end
  pub full : num 0 (suc end) (with_flag r fs) ≡ suc end - r.slot
  pub none : (u : ℕ) → first ≤ u → u < end → num 0 (suc u) (with_flag r fs) ≡ suc u - r.slot → ⊥
  pub row : ℕ
  pub there : row < length r.rows
  pub kept : get_or fs row 0 ≡ 1
  pub due : (at r row).due ≤ end
  pub low : key_at r row ≡ k
  pub most : (i : ℕ) → i < length r.rows → get_or fs i 0 ≡ 1 → (at r i).due ≤ end → key_at r i ≤ k

abbrev pub LightestSay : (ks fs : List ℕ) (many slot asked : ℕ) → (key : ℕ) → Type 0
LightestSay ks fs many slot asked k = (r : Round) (n : ℕ) → Asked r ks fs many slot n asked → Ends r fs n asked asked k

-- THE MARK of whatever round is given
abbrev pub MarksSay : (ks fs : List ℕ) (many slot asked : ℕ) → (mark : ℕ) → Type 0
MarksSay ks fs many slot asked m = (r : Round) (n : ℕ) → Asked r ks fs many slot n asked → m ≡ mark r asked

-- THE HEAVIEST ROW LEFT OUT that is due from a slot on, by its key; blank_key where there is none
pub record LeftRow (r : Round) (fs : List ℕ) (from k : ℕ) : Type 0 where
  pub row : ℕ
  pub there : row < length r.rows
  pub out : get_or fs row 0 ≡ 1 → ⊥
  pub due : from ≤ (at r row).due
  pub is : key_at r row ≡ k

pub record Left (r : Round) (fs : List ℕ) (from k : ℕ) : Type 0 where
  pub by : k ≤ blank_key
  pub least : (i : ℕ) → i < length r.rows → (get_or fs i 0 ≡ 1 → ⊥) → from ≤ (at r i).due → k ≤ key_at r i
  pub some : k < blank_key → LeftRow r fs from k

abbrev pub LeftSay : (ks fs : List ℕ) (many from : ℕ) → (key : ℕ) → Type 0
LeftSay ks fs many from k = (r : Round) (slot n : ℕ) → Given r ks fs many slot n → Left r fs from k

-- THE SUBSTITUTE of each of the plan's rows due in a slot
abbrev pub SubstitutesSay : (ks fs : List ℕ) (many slot due : ℕ) → Sub → Type 0
SubstitutesSay ks fs many slot d s =
    (r : Round) (n i : ℕ) → Asked r ks fs many slot n d → i < length r.rows → get_or fs i 0 ≡ 1 → (at r i).due ≡ d → Substitutes r i s
