-- Far rows around a slot, by bucket, and where segments begin among them.
use Rattle.std.specs.Prelude.{◌≡◌, cond, List, ℕ, suc, ◌+◌, ◌*◌, ◌-◌, ◌≤◌, ◌<◌, min, ltb, length, get_or, replicate}
use Rattle.rules.specs.Rows.{Row}
use Rattle.rules.specs.Table.{round_in}
use Rattle.theory.specs.Sum.{sum}
use Rattle.theory.specs.Marks.{box}
use Rattle.sorts.specs.declared.Round.{Round as Head}
use Rattle.round.specs.Rows.{Ready, at}
use Rattle.buckets.specs.Reach.{Reaches}
use Rattle.buckets.specs.declared.Reach.{Reach}
use Rattle.buckets.specs.Stretch.{upto}
use Rattle.far.specs.declared.Window.{Window}

-- n buckets behind slot d, as many before it, from slot z on
abbrev pub window_at : (z n d : ℕ) → Window
window_at z n d = record { low = d - min (d - z) n; mid = min (d - z) n; top = min (d - z) n + n }

abbrev pub bucket_in : Window → (due : ℕ) → ℕ
bucket_in w d = cond (ltb d w.low) (w.top + 1) (min (d - w.low) (w.top + 1))

-- how many of some rows are due in each slot of the window
pub record CountedIn (xs : List Row) (w : Window) (cs : List ℕ) : Type 0 where
  pub enough : suc w.top < length cs
  pub count : (v : ℕ) → v ≤ w.top → get_or cs v 0 ≡ sum (box 0 (w.low + v) (suc (w.low + v))) xs

-- by no bucket behind mid more rows than buckets
pub record Roomy (cs : List ℕ) (mid top : ℕ) : Type 0 where
  pub order : mid ≤ top
  pub small : top ≤ 2048
  pub enough : top < length cs
  pub few : upto (suc top) cs ≤ 1024
  pub room : (e : ℕ) → mid < e → e ≤ suc top → upto e cs ≤ e

-- A SEGMENT BEGINS at bucket b where every row from b on finds one; the last such bucket up to mid
abbrev pub Flat : List ℕ → (top b : ℕ) → Type 0
Flat cs top b = (v : ℕ) → b ≤ v → v ≤ suc top → upto v cs ≤ upto b cs + (v - b)

pub record Begins (cs : List ℕ) (mid top b : ℕ) : Type 0 where
  pub by : b ≤ mid
  pub flat : Flat cs top b
  pub none : (u : ℕ) → b < u → u ≤ mid → Flat cs top u → ⊥

-- WHAT IS ASKED: the substitute of a row due from free on, with places for counts, all 0
pub record FarRow (t cs : List ℕ) (h : Head) (x : Reach) (i : ℕ) : Type 0 where
  pub ready : Ready t h
  pub reaches : Reaches (round_in t) x
  pub there : i < h.used
  pub far : h.slot.0 + x.free ≤ (at (round_in t) i).due
  pub room : 2 * h.used + 2 ≤ length cs
  pub none : cs ≡ replicate (length cs) 0
