-- Document 01's numbers and values for each case of a command, and of what a line is read as.
use Rattle.std.specs.Prelude.{Option, Some, None}
use Rattle.rules.specs.Lines as rules
use Rattle.rules.specs.Lines.{open_line, take_line, send_line, seal_line, class_line, command, broken}
use Rattle.forms.specs.declared.Command.{Command}
use Rattle.forms.specs.declared.Command.TheVariants.{Open, Take, Send, Seal, Classed}

-- lines 00 to 04
abbrev pub of_command : Command → rules.Command
of_command (Open last) = open_line last.0
of_command (Take due weight) = take_line due.0 weight.0
of_command Send = send_line
of_command Seal = seal_line
of_command (Classed due weight class) = class_line due.0 weight.0 class.0

-- a command, or refusal 1
abbrev pub of_reading : Option Command → rules.Reading
of_reading (Some c) = command (of_command c)
of_reading None = broken
