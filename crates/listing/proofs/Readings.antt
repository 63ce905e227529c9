-- What document 01 says of a listing's result forgets nothing: equal replies come from equal results.
use Rattle.std.proofs.Common.{◌≡◌, ℕ, ap}
use Rattle.std.specs.Prelude.{Result, Ok, Err}
use Rattle.theory.specs.Tests.{clash}
use Rattle.refusals.specs.declared.Refusal.{Refusal}
use Rattle.refusals.proofs.Numbers.{refusal_read}
use Rattle.listing.specs.Entries.{of_listed}

pub listed_read : (a b : Result ℕ Refusal) → of_listed a ≡ of_listed b → a ≡ b
listed_read (Ok m) (Ok n) e = cc
listed_read (Ok m) (Err n) e = clash cc
listed_read (Err m) (Ok n) e = clash cc
listed_read (Err m) (Err n) e = ap Err (refusal_read m n cc)
