-- The numbers and values that the definitions of Cases give forget nothing.
use mathlib.Core.Path.{◌≡◌, refl, sym, ap, ◌∙◌}
use Rattle.std.specs.Prelude.{Option, Some, None}
use Rattle.rules.specs.Lines as rules
use Rattle.forms.specs.declared.Command.{Command}
use Rattle.forms.specs.declared.Command.TheVariants.{Open, Take, Send, Seal, Classed}
use Rattle.forms.specs.Cases.{of_command, of_reading}

-- the case of a command
abbrev back : rules.Command → Command
back (rules.open_line l) = Open record { 0 = l }
back (rules.take_line d w) = Take record { 0 = d } record { 0 = w }
back rules.send_line = Send
back rules.seal_line = Seal
back (rules.class_line d w c) = Classed record { 0 = d } record { 0 = w } record { 0 = c }

back_of : (x : Command) → back (of_command x) ≡ x
back_of (Open l) = refl
back_of (Take d w) = refl
back_of Send = refl
back_of Seal = refl
back_of (Classed d w c) = refl

pub command_once : (x y : Command) → of_command x ≡ of_command y → x ≡ y
command_once x y e = sym (back_of x) ∙ ap back e ∙ back_of y

pub reading_once : (x y : Option Command) → of_reading x ≡ of_reading y → x ≡ y
reading_once (Some c) (Some d) e = ap Some (command_once c d cc)
reading_once (Some c) None e = cc
reading_once None (Some d) e = cc
reading_once None None e = refl
