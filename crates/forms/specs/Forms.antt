-- A line's form as the code has it, and a command's values.
use Rattle.std.specs.Prelude.{◌≡◌, Bool, ◌&&◌, List, ℕ, length, take}
use Rattle.rules.specs.Lines as rules
use Rattle.rules.specs.Lines.{all_digits, fit_digits, front_size, payload_fits, Command, values_of}
use Rattle.forms.specs.Small.{most_numbers}
use Rattle.forms.specs.declared.form.Form.{Form}

-- as many values as a form has numbers
abbrev pub values_in : Form → List ℕ → List ℕ
values_in f vs = take (length f.widths.now) vs

-- whether values fit their digits, and a payload can follow
abbrev pub can_stand : Form → (values payload : List ℕ) → Bool
can_stand f vs ps = fit_digits f.widths.now (values_in f vs) && (all_digits ps && payload_fits f.payload (length ps))

-- made of these parts
pub record Formed (ns : List ℕ) (m : ℕ) (p : Bool) (r : Form) : Type 0 where
  pub widths : r.widths.now ≡ ns
  pub front : r.front ≡ m
  pub payload : r.payload ≡ p

-- THE SAME FORM as the rules'
pub record HasForm (f : rules.Form) (r : Form) : Type 0 where
  pub widths : r.widths.now ≡ f.widths
  pub front : r.front ≡ front_size f
  pub payload : r.payload ≡ f.payload

-- a command's values, first in an array
pub record HasValues (c : Command) (r : List ℕ) : Type 0 where
  pub room : length r ≡ most_numbers
  pub values : take (length (values_of c)) r ≡ values_of c
