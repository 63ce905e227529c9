-- What a call answers as a reply of document 01, case by case.
use Rattle.std.specs.Prelude.{Result, Ok, Err}
use Rattle.rules.specs.Calls.{Reply, refused, done, closed, ticket, step}
use Rattle.refusals.specs.declared.Refusal.{Refusal}
use Rattle.refusals.specs.Refusals.{refusal_number}
use Rattle.replies.specs.Replies.{of_step}
use Rattle.saying.specs.declared.Accepted.{Accepted}
use Rattle.saying.specs.declared.Accepted.TheVariants.{Opened, Taken, Sent, Sealed}

abbrev pub of_said : Result Accepted Refusal → Reply
of_said (Ok Opened) = done
of_said (Ok (Taken k)) = ticket k.0
of_said (Ok (Sent s)) = step (of_step s)
of_said (Ok Sealed) = closed
of_said (Err r) = refused (refusal_number r)
