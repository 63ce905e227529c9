-- Which row goes where no row is left out.
use Rattle.std.specs.Prelude.{◌≡◌, Bool, true, false, List, ℕ, ◌+◌, ◌≤◌, ◌<◌, length}
use Rattle.rules.specs.PlanM.{score}
use Rattle.rules.specs.Rows.{Round}
use Rattle.rules.specs.Table.{round_in}
use Rattle.theory.specs.Lead.{Leads}
use Rattle.theory.specs.Segments.{Segment}
use Rattle.round.specs.Rows.{Ready, at}
use Rattle.round.specs.Buckets.{Counted}
use Rattle.sorts.specs.declared.Round.{Round as Head}
use Rattle.keys.specs.Key.{slot_of}
use Rattle.buckets.specs.Reach.{Reaches}
use Rattle.buckets.specs.declared.Reach.{Reach}
use Rattle.passes.specs.Best.{Heaviest}
use Rattle.passes.specs.declared.best.Best.{Best}
use Rattle.passes.specs.declared.look.Found.{Found}
use Rattle.whole.specs.declared.Whole.{Whole}
use Rattle.whole.specs.declared.Whole.TheVariants.{First, Far, Kept}

-- WHAT IS GIVEN: a sound table with rows, their counts, and that all rows fit
pub record Given (t cs : List ℕ) (h : Head) (x : Reach) : Type 0 where
  pub ready : Ready t h
  pub some : 1 ≤ h.used
  pub counted : Counted (round_in t) cs
  pub reaches : Reaches (round_in t) x
  pub none : x.over ≡ 0

-- the heaviest row b is due past the first segment, which ends at slot e
pub record Past (t cs : List ℕ) (h : Head) (x : Reach) (b : Best) (e : ℕ) : Type 0 where
  pub given : Given t cs h x
  pub best : Heaviest (round_in t) 0 h.last.0 b
  pub near : e < (round_in t).slot + x.free
  pub segment : Segment (round_in t) (round_in t).rows (round_in t).slot e
  pub past : e < slot_of b.rank

-- whether the first segment's row goes: its score is no less
abbrev pub FirstGoes : Best → Found → Bool → Type 0
FirstGoes b f true = score b.weight 0 ≤ score f.first.weight f.lightest
FirstGoes b f false = score f.first.weight f.lightest < score b.weight 0

-- row i leads all rows
pub record Leading (r : Round) (i : ℕ) : Type 0 where
  pub below : i < length r.rows
  pub leads : Leads r r.rows r.slot (at r i)

-- a lightest row due by slot e
pub record LightestBy (r : Round) (e m : ℕ) : Type 0 where
  pub row : ℕ
  pub below : row < length r.rows
  pub by : (at r row).due ≤ e
  pub least : (j : ℕ) → j < length r.rows → (at r j).due ≤ e → (at r row).weight ≤ (at r j).weight
  pub weight : (at r row).weight ≡ m

-- the three ways; z is the first slot that the rows don't fill
pub record PicksFirst (r : Round) (z i : ℕ) : Type 0 where
  pub leading : Leading r i
  pub last : ℕ
  pub near : last < z
  pub segment : Segment r r.rows r.slot last
  pub by : (at r i).due ≤ last

pub record PicksFar (r : Round) (z i : ℕ) : Type 0 where
  pub leading : Leading r i
  pub far : z ≤ (at r i).due

pub record PicksKept (r : Round) (z i first m : ℕ) : Type 0 where
  pub leading : Leading r i
  pub later : r.slot < first
  pub last : ℕ
  pub near : last < z
  pub segment : Segment r r.rows first last
  pub from : first ≤ (at r i).due
  pub by : (at r i).due ≤ last
  pub mark : LightestBy r last m

-- THE PICK
abbrev pub Picked : Round → (free : ℕ) → Whole → Type 0
Picked r z (First i) = PicksFirst r (r.slot + z) i
Picked r z (Far i) = PicksFar r (r.slot + z) i
Picked r z (Kept i b m) = PicksKept r (r.slot + z) i b.0 m.0
