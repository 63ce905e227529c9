-- `station::lirvedd_open` meets its contract.
use mathlib.Core.Path.{refl, ◌∙◌}
use native.Mathlib.Omega.{arith}
use Rattle.replies.specs.Replies.{of_opened}
use Rattle.packing.proofs.Said.{packed_as}
use Rattle.station.proofs.Exported.{opening_exported}
use Rattle.station.proofs.lirvedd_open.Goals as goal

pub returns : goal.returns
returns c =
    opening_exported _ _ _ _ _ _ (omega arith) (c.pack_reply.ensures ∙ packed_as _ of_opened (λ _. refl) (λ _. refl) c.open_round.result)
    c.open_round.ensures
