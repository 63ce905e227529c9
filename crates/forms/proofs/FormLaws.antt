-- A form's digits before the payload.
use mathlib.Core.Path.{◌≡◌, sym, ap, ◌∙◌}
use mathlib.Core.List.{List}
use Prim.Native.Nat.{ℕ, ◌+◌}
use Rattle.rules.specs.Limits.{short_digits}
use Rattle.rules.specs.Lines as rules
use Rattle.rules.specs.Lines.{count_digits, forms, found, form_numbered, front_size}
use Rattle.forms.specs.declared.form.Form.{Form}
use Rattle.forms.specs.Forms.{HasForm}

-- the digits before the payload are the line's number and its numbers
pub front_count : {f : rules.Form} {r : Form} → HasForm f r → r.front ≡ short_digits + count_digits r.widths.now
unfolding front_size
front_count h = h.front ∙ ap (λ (ns : List ℕ). short_digits + count_digits ns) (sym h.widths)
