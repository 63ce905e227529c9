-- `station::lirvedd_seal` meets its contract.
use native.Mathlib.Omega.{arith}
use mathlib.Core.Path.{◌≡◌, refl}
use Rattle.rules.specs.Calls.{done}
use Rattle.replies.specs.Replies.{of_sealed}
use Rattle.packing.specs.Packing.{pack, reply_of}
use Rattle.packing.proofs.Said.{packed_as}
use Rattle.station.proofs.Exported.{exported}
use Rattle.station.proofs.lirvedd_seal.Goals as goal

pub returns : goal.returns
returns c =
    let p : pack (reply_of (λ _. done) c.seal_round.result) ≡ pack (of_sealed c.seal_round.result) = packed_as _ of_sealed (λ _. refl) (λ _. refl) _ in
    exported _ _ _ _ _ (omega (arith, c.pack_reply.ensures, p)) c.seal_round.ensures
