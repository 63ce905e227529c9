-- What a listing of the plan promises, written out: by definition it is this text.
use mathlib.Core.Path.{◌≡◌, refl}
use mathlib.Core.List.{List}
use Prim.Native.Nat.{ℕ}
use lib.ListN.{length}
use Rattle.rules.specs.Calls.{Reply}
use Rattle.rules.specs.Looking.{the_plan, shows, list_refusal, list_answer, list_left}
use Rattle.rules.proofs.ListShapes.{plan_answer, plan_left}
use Rattle.listing.specs.declared.Entry.{Entry}
use Rattle.listing.specs.Entries.{entry, Lists}

pub lists_shape : (a : Reply) (t z : List ℕ) (es zs : List Entry) →
    Lists the_plan a t z es zs ≡ ((a ≡ plan_answer t (length es)) × (zs ≡ plan_left (entry the_plan) t es) × (z ≡ t))
unfolding list_refusal list_answer list_left shows
lists_shape a t z es zs = refl
