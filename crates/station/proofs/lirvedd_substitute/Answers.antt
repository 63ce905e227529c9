-- `station::lirvedd_substitute` meets its contract.
use mathlib.Core.Path.{refl, ◌∙◌}
use native.Mathlib.Omega.{arith}
use Rattle.replies.specs.Replies.{of_substituted}
use Rattle.packing.proofs.Said.{packed_as}
use Rattle.station.proofs.Exported.{substitute_exported}
use Rattle.station.proofs.lirvedd_substitute.Goals as goal

pub returns : goal.returns
returns c =
    substitute_exported _ _ _ _ _ _ (omega arith) (c.pack_reply.ensures ∙ packed_as _ of_substituted (λ _. refl) (λ _. refl) c.substitute_of.result)
    c.substitute_of.ensures
