-- Each call's result as a reply of document 01: its number and values, case by case.
use Rattle.std.specs.Prelude.{ℕ, Result, Ok, Err}
use Rattle.rules.specs.Calls.{Reply, refused, done, closed, ticket, step, amount, blank_due}
use Rattle.rules.specs.Calls as rules
use Rattle.sorts.specs.declared.Ticket.{Ticket}
use Rattle.sorts.specs.declared.Weight.{Weight}
use Rattle.refusals.specs.declared.Refusal.{Refusal}
use Rattle.refusals.specs.Refusals.{refusal_number}
use Rattle.replies.specs.declared.Out.{Out}
use Rattle.replies.specs.declared.Out.TheVariants.{Silence, Frame, KeptBlank}
use Rattle.replies.specs.declared.Step.{Step}
use Rattle.replies.specs.declared.Step.TheVariants.{Ordinary, Leap}
use Rattle.replies.specs.declared.Substitute.{Substitute}
use Rattle.replies.specs.declared.Substitute.TheVariants.{Row, Blank}

abbrev pub of_opened : Result (Unit {0}) Refusal → Reply
of_opened (Ok u) = done
of_opened (Err r) = refused (refusal_number r)

abbrev pub of_taken : Result Ticket Refusal → Reply
of_taken (Ok k) = ticket k.0
of_taken (Err r) = refused (refusal_number r)

abbrev pub of_out : Out → rules.Out
of_out Silence = rules.silence
of_out (Frame k) = rules.frame k.0
of_out (KeptBlank k) = rules.kept_blank k.0

abbrev pub of_step : Step → rules.Step
of_step (Ordinary o) = rules.ordinary (of_out o)
of_step (Leap o) = rules.leap (of_out o)

abbrev pub of_sent : Result Step Refusal → Reply
of_sent (Ok s) = step (of_step s)
of_sent (Err r) = refused (refusal_number r)

abbrev pub of_sealed : Result (Unit {0}) Refusal → Reply
of_sealed (Ok u) = closed
of_sealed (Err r) = refused (refusal_number r)

abbrev pub of_marked : Result Weight Refusal → Reply
of_marked (Ok w) = amount w.0
of_marked (Err r) = refused (refusal_number r)

abbrev pub of_totalled : Result ℕ Refusal → Reply
of_totalled (Ok n) = amount n
of_totalled (Err r) = refused (refusal_number r)

abbrev pub of_substitute : Substitute → Reply
of_substitute (Row k) = ticket k.0
of_substitute (Blank s) = blank_due s.0

abbrev pub of_substituted : Result Substitute Refusal → Reply
of_substituted (Ok s) = of_substitute s
of_substituted (Err r) = refused (refusal_number r)
