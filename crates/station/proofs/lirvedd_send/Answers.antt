-- `station::lirvedd_send` meets its contract.
use mathlib.Core.Path.{refl, ◌∙◌}
use Rattle.replies.specs.Replies.{of_sent}
use Rattle.packing.proofs.Said.{packed_as}
use Rattle.station.proofs.Exported.{exported}
use Rattle.station.proofs.lirvedd_send.Goals as goal

pub returns : goal.returns
returns c =
    exported _ _ _ _ _ (c.pack_reply.ensures ∙ packed_as _ of_sent (λ _. refl) (λ _. refl) c.send_slot.result) c.send_slot.ensures
