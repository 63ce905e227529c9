-- What a sending that leaves rows out is lent.
use Rattle.std.specs.Prelude.{◌≢◌, List, ℕ, ◌+◌, ◌≤◌, length}
use Rattle.rules.specs.Table.{round_in}
use Rattle.sorts.specs.declared.Round.{Round as Head}
use Rattle.buckets.specs.declared.Reach.{Reach}
use Rattle.round.specs.Rows.{Ready}
use Rattle.plan.specs.Plans.{Lent, HeaviestFrom}
use Rattle.plan.specs.declared.Planned.{Planned}
use Rattle.segments.specs.Given.{Given}
use Rattle.closing.specs.Close.{DueNow}

-- what the plan is, and a place for each segment's lightest
pub record Crowded (t cs ks fs hs ls : List ℕ) (h : Head) (x : Reach) (expiring : ℕ) : Type 0 where
  pub lent : Lent t cs ks fs hs h x
  pub lows : h.used ≤ length ls
  pub due : DueNow t expiring

-- THE PLAN MADE, unsealed with the heaviest far row, and a place for each segment's end, top and lightest
pub record Led (t cs ks fs hs ls : List ℕ) (h : Head) (x : Reach) (p : Planned) (expiring : ℕ) : Type 0 where
  pub ready : Ready t h
  pub given : Given (round_in t) ks fs (length ks) h.slot.0 x.free
  pub far : h.sealed ≢ 1 → HeaviestFrom (round_in t) ((round_in t).slot + x.free) p.far
  pub ends : x.free ≤ length cs
  pub tops : x.free ≤ length hs
  pub lows : x.free ≤ length ls
  pub due : DueNow t expiring
