-- Each refusal's number of document 01, and a result's: 0 where nothing is refused.
use Rattle.std.specs.Prelude.{ℕ, Result, Ok, Err}
use Rattle.refusals.specs.declared.Refusal.{Refusal}
use Rattle.refusals.specs.declared.Refusal.TheVariants.{BadLine, BadLength, NotSound, LastTooLate, RoundOver, BadWeight, BadSlot, NoTicketLeft, TableFull, NoSuchTicket, NotInPlan, NoRoom, Sealed, BadClass}

abbrev pub refusal_number : Refusal → ℕ
refusal_number BadLine = 1
refusal_number BadLength = 2
refusal_number NotSound = 3
refusal_number LastTooLate = 4
refusal_number RoundOver = 5
refusal_number BadWeight = 6
refusal_number BadSlot = 7
refusal_number NoTicketLeft = 8
refusal_number TableFull = 9
refusal_number NoSuchTicket = 10
refusal_number NotInPlan = 11
refusal_number NoRoom = 12
refusal_number Sealed = 13
refusal_number BadClass = 14

abbrev pub refusal_in : {A : Type 0} → Result A Refusal → ℕ
refusal_in (Ok a) = 0
refusal_in (Err r) = refusal_number r
