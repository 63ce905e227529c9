-- `crowded::send_crowded` meets its contract.
use borrow.Author.Rules.{rules}
use Rattle.crowded.proofs.CrowdedLaws.{is_asked, led}
use Rattle.crowded.proofs.send_crowded.Goals as goal

pub send_led-requires : goal.send_led-requires
send_led-requires c =
    led _ _ _ _ _ _ _ _ _ c.requires _ _ _ _ (λ u. search (is_asked, rules)) c.plan_of-planned.ensures _ _ (search rules) (search rules)
