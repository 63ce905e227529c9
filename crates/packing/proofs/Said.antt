-- A result packed by what an accepted value says has the number of the call's reply.
use mathlib.Core.Path.{◌≡◌, ap}
use Rattle.std.specs.Prelude.{Result, Ok, Err}
use Rattle.rules.specs.Calls.{Reply, refused}
use Rattle.refusals.specs.declared.Refusal.{Refusal}
use Rattle.refusals.specs.Refusals.{refusal_number}
use Rattle.packing.specs.Packing.{pack, reply_of}

-- said and the call's own reading of its results give an accepted value one number, and each refusal is read by its own
pub packed_as : {A : Type 0} (said : A → Reply) (read : Result A Refusal → Reply) → ((a : A) → pack (said a) ≡ pack (read (Ok a))) →
    ((r : Refusal) → refused (refusal_number r) ≡ read (Err r)) → (q : Result A Refusal) → pack (reply_of said q) ≡ pack (read q)
packed_as said read f g (Ok a) = f a
packed_as said read f g (Err r) = ap pack (g r)
