-- The tail of a head as a value.
use Rattle.rules.specs.Rows.{HeadTail}
use Rattle.sorts.specs.declared.Round.{Round}

abbrev pub tail_of : Round → HeadTail
tail_of h = record { sealed = h.sealed }
