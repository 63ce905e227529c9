-- One segment closed, and where one ends.
use Rattle.std.specs.Prelude.{Bool, false, cond, ℕ, suc, leb, ltb, eqb}
use Rattle.rules.specs.PlanM.{score}
use Rattle.keys.specs.Key.{weight_of}
use Rattle.lead.specs.declared.Lead.{Lead}

-- A NEW SEGMENT ENDS in a due slot: the plan's rows so far fill every slot by it, and it is not the open one's end
unfoldable pub ends_here : (due edge end : ℕ) → Bool
ends_here d s e = cond (eqb d e) false (ltb d s)

-- ONE SEGMENT CLOSED: the lead after it
unfoldable pub closed : Lead → (heavy other : ℕ) → Lead
closed l h o =
    cond (leb l.score (score (weight_of h) (weight_of o)))
    (record { count = suc l.count; score = score (weight_of h) (weight_of o); key = h; segment = l.count; other = o })
    (record { count = suc l.count; score = l.score; key = l.key; segment = l.segment; other = l.other })
