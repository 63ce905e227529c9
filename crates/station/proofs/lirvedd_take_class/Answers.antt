-- `station::lirvedd_take_class` meets its contract.
use mathlib.Core.Path.{refl, ◌∙◌}
use native.Mathlib.Omega.{arith}
use Rattle.replies.specs.Replies.{of_taken}
use Rattle.packing.proofs.Said.{packed_as}
use Rattle.station.proofs.Exported.{taking_exported}
use Rattle.station.proofs.lirvedd_take_class.Goals as goal

pub returns : goal.returns
returns c =
    taking_exported _ _ _ _ _ _ _ _ _ _ (omega arith) (omega arith) (omega arith)
    (c.pack_reply.ensures ∙ packed_as _ of_taken (λ _. refl) (λ _. refl) c.take_frame.result) c.take_frame.ensures
