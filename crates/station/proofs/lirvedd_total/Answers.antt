-- `station::lirvedd_total` meets its contract.
use mathlib.Core.Path.{refl, sym, subst, ◌∙◌}
use Rattle.replies.specs.Replies.{of_totalled}
use Rattle.packing.specs.Packing.{SmallAmount}
use Rattle.packing.proofs.Said.{packed_as}
use Rattle.station.proofs.Exported.{exported}
use Rattle.station.proofs.Amounts.{total_answer_small}
use Rattle.station.proofs.lirvedd_total.Goals as goal

pub pack_reply-requires : goal.pack_reply-requires
pack_reply-requires c =
    λ n e. subst (λ q. SmallAmount (of_totalled q)) e (subst SmallAmount (sym c.plan_total.ensures.0) (total_answer_small c.args.table.now))

pub returns : goal.returns
returns c =
    exported _ _ _ _ _ (c.pack_reply.ensures ∙ packed_as _ of_totalled (λ _. refl) (λ _. refl) c.plan_total.result) c.plan_total.ensures
