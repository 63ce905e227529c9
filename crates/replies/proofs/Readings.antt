-- What document 01 says of each call's result forgets nothing: equal replies come from equal results.
use Rattle.std.proofs.Common.{◌≡◌, ℕ, refl, ap}
use Rattle.std.specs.Prelude.{Result, Ok, Err}
use Rattle.theory.specs.Tests.{clash}
use Rattle.sorts.specs.declared.Ticket.{Ticket}
use Rattle.sorts.specs.declared.Weight.{Weight}
use Rattle.sorts.proofs.Sorts.{slot_read, weight_read, ticket_read}
use Rattle.refusals.specs.declared.Refusal.{Refusal}
use Rattle.refusals.proofs.Numbers.{refusal_read}
use Rattle.replies.specs.declared.Out.{Out}
use Rattle.replies.specs.declared.Out.TheVariants.{Silence, Frame, KeptBlank}
use Rattle.replies.specs.declared.Step.{Step}
use Rattle.replies.specs.declared.Step.TheVariants.{Ordinary, Leap}
use Rattle.replies.specs.declared.Substitute.{Substitute}
use Rattle.replies.specs.declared.Substitute.TheVariants.{Row, Blank}
use Rattle.replies.specs.Replies.{of_opened, of_taken, of_out, of_step, of_sent, of_sealed, of_marked, of_totalled, of_substitute, of_substituted}

pub opened_read : (a b : Result (Unit {0}) Refusal) → of_opened a ≡ of_opened b → a ≡ b
opened_read (Ok k) (Ok m) e = refl
opened_read (Ok k) (Err n) e = clash cc
opened_read (Err m) (Ok k) e = clash cc
opened_read (Err m) (Err n) e = ap Err (refusal_read m n cc)

pub taken_read : (a b : Result Ticket Refusal) → of_taken a ≡ of_taken b → a ≡ b
taken_read (Ok k) (Ok m) e = ap Ok (ticket_read k m cc)
taken_read (Ok k) (Err n) e = clash cc
taken_read (Err m) (Ok k) e = clash cc
taken_read (Err m) (Err n) e = ap Err (refusal_read m n cc)

pub out_read : (a b : Out) → of_out a ≡ of_out b → a ≡ b
out_read Silence Silence e = refl
out_read Silence (Frame m) e = clash cc
out_read Silence (KeptBlank m) e = clash cc
out_read (Frame k) Silence e = clash cc
out_read (Frame k) (Frame m) e = ap Frame (ticket_read k m cc)
out_read (Frame k) (KeptBlank m) e = clash cc
out_read (KeptBlank k) Silence e = clash cc
out_read (KeptBlank k) (Frame m) e = clash cc
out_read (KeptBlank k) (KeptBlank m) e = ap KeptBlank (ticket_read k m cc)

pub step_read : (a b : Step) → of_step a ≡ of_step b → a ≡ b
step_read (Ordinary o) (Ordinary p) e = ap Ordinary (out_read o p cc)
step_read (Ordinary o) (Leap p) e = clash cc
step_read (Leap o) (Ordinary p) e = clash cc
step_read (Leap o) (Leap p) e = ap Leap (out_read o p cc)

pub sent_read : (a b : Result Step Refusal) → of_sent a ≡ of_sent b → a ≡ b
sent_read (Ok k) (Ok m) e = ap Ok (step_read k m cc)
sent_read (Ok k) (Err n) e = clash cc
sent_read (Err m) (Ok k) e = clash cc
sent_read (Err m) (Err n) e = ap Err (refusal_read m n cc)

pub sealed_read : (a b : Result (Unit {0}) Refusal) → of_sealed a ≡ of_sealed b → a ≡ b
sealed_read (Ok k) (Ok m) e = refl
sealed_read (Ok k) (Err n) e = clash cc
sealed_read (Err m) (Ok k) e = clash cc
sealed_read (Err m) (Err n) e = ap Err (refusal_read m n cc)

pub marked_read : (a b : Result Weight Refusal) → of_marked a ≡ of_marked b → a ≡ b
marked_read (Ok k) (Ok m) e = ap Ok (weight_read k m cc)
marked_read (Ok k) (Err n) e = clash cc
marked_read (Err m) (Ok k) e = clash cc
marked_read (Err m) (Err n) e = ap Err (refusal_read m n cc)

pub totalled_read : (a b : Result ℕ Refusal) → of_totalled a ≡ of_totalled b → a ≡ b
totalled_read (Ok k) (Ok m) e = cc
totalled_read (Ok k) (Err n) e = clash cc
totalled_read (Err m) (Ok k) e = clash cc
totalled_read (Err m) (Err n) e = ap Err (refusal_read m n cc)

pub substitute_read : (a b : Substitute) → of_substitute a ≡ of_substitute b → a ≡ b
substitute_read (Row k) (Row m) e = ap Row (ticket_read k m cc)
substitute_read (Row k) (Blank u) e = clash cc
substitute_read (Blank s) (Row m) e = clash cc
substitute_read (Blank s) (Blank u) e = ap Blank (slot_read s u cc)

pub substituted_read : (a b : Result Substitute Refusal) → of_substituted a ≡ of_substituted b → a ≡ b
substituted_read (Ok s) (Ok u) e = ap Ok (substitute_read s u e)
substituted_read (Ok (Row k)) (Err n) e = clash cc
substituted_read (Ok (Blank s)) (Err n) e = clash cc
substituted_read (Err m) (Ok (Row k)) e = clash cc
substituted_read (Err m) (Ok (Blank s)) e = clash cc
substituted_read (Err m) (Err n) e = ap Err (refusal_read m n cc)
