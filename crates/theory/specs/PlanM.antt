-- The plan of every sound round, reachable or not, is algorithm PlanM's: planm, plans.
use Rattle.std.specs.Prelude.{◌≡◌, true, suc, ◌≤◌}
use Rattle.std.proofs.Common.{arith}
use Rattle.rules.specs.Rows.{Round, heavier}
use Rattle.rules.specs.Plan.{plan, tight_after}
use Rattle.rules.specs.PlanM.{PlanM}
use Rattle.rules.specs.Demands.{Plans}
use Rattle.theory.specs.All.{all_in}
use Rattle.theory.specs.Order.{heavier_yes}
use Rattle.theory.specs.Feas.{due_below}
use Rattle.theory.specs.Full.{Fine, plan_feas, plan_length, plan_members}
use Rattle.theory.specs.Tights.{tight_next, segment_from_tight}
use Rattle.theory.specs.Same.{listed_planned}
use Rattle.theory.specs.Sane.{good_fine}
use Rattle.theory.specs.Listed.{listed_strictly}
use Rattle.theory.specs.Select.{plan_selection}
use Rattle.theory.specs.Picks.{mark_attained, mark_least, first_substitute, later_substitute, best_picked, next_shifted}
use Rattle.theory.specs.Turn.{unsealed_goes}
use Rattle.theory.specs.First.{goes_first}

pub planm : (r : Round) → Fine r → PlanM r
planm r f =
    record {
      full = (plan_length r f).0;
      fits = λ s h k. omega (arith, due_below s (plan r), plan_feas r f (suc s) (omega arith) (omega arith));
      members = plan_members r;
      rows_once = listed_planned r f;
      outside = λ x y i n j h. heavier_yes y x
          (all_in (λ y. y.due ≤ tight_after r (plan r) x.due → heavier y x ≡ true) y (plan r) ((plan_selection r f).out x i n) j h);
      tight_next = tight_next r f;
      segment = segment_from_tight r f;
      mark_attained = mark_attained r f;
      mark_least = mark_least r f;
      first_substitute = first_substitute r f;
      later_substitute = later_substitute r f;
      pick = best_picked r f;
      unsealed = λ e. unsealed_goes r (λ q. omega (arith, e, q));
      sealed = λ o e. goes_first r f o e;
      next_shifted = next_shifted r f;
      in_order = listed_strictly r f;
    }

pub plans : Plans
unfolding Plans
plans r g = planm r (good_fine r g)
