-- `station::lirvedd_mark` meets its contract.
use mathlib.Core.Path.{refl, ◌∙◌}
use native.Mathlib.Omega.{arith}
use Rattle.replies.specs.Replies.{of_marked}
use Rattle.packing.proofs.Said.{packed_as}
use Rattle.station.proofs.Exported.{marking_exported}
use Rattle.station.proofs.lirvedd_mark.Goals as goal

pub returns : goal.returns
returns c =
    marking_exported _ _ _ _ _ _ (omega arith) (c.pack_reply.ensures ∙ packed_as _ of_marked (λ _. refl) (λ _. refl) c.mark_of.result) c.mark_of.ensures
