-- How far rows fill every slot.
use Rattle.std.specs.Prelude.{◌≡◌, true, List, ℕ, zero, suc, ◌+◌, ◌*◌, ◌-◌, ◌/◌, ◌≤◌, ◌<◌, min, max, length, get_or}
use Rattle.rules.specs.Rows.{Row, Round}
use Rattle.rules.specs.Plan.{feasible}
use Rattle.theory.specs.Sum.{sum}
use Rattle.theory.specs.Count.{under, Sweep}
use Rattle.theory.specs.Near.{Near}
use Rattle.round.specs.Rows.{top_of}
use Rattle.sorts.specs.declared.Round.{Round as Head}
use Rattle.buckets.specs.declared.Reach.{Reach}

-- how many of some rows are in buckets below s
abbrev pub before : Round → List Row → (s : ℕ) → ℕ
before r xs s = sum (under r.slot (top_of r) s) xs

-- the last bucket, by the head's numbers
abbrev pub head_top : Head → ℕ
head_top h = min h.used (h.last.0 - h.slot.0)

-- the rows that the first s counts tell
abbrev pub upto : (s : ℕ) → List ℕ → ℕ
upto zero cs = 0
upto (suc s) cs = upto s cs + get_or cs s 0 / 2048

-- 2,048 for each of at most 1,024 rows
pub record Multiples (cs : List ℕ) (top : ℕ) : Type 0 where
  pub enough : top < length cs
  pub small : top ≤ 1024
  pub count : (v : ℕ) → v ≤ top → get_or cs v 0 ≡ 2048 * (get_or cs v 0 / 2048)
  pub few : upto (suc top) cs ≤ 1024

-- a bucket takes 2,047 from the greatest level, unless the level behind it is greater
abbrev pub passed : (most level : ℕ) → ℕ
passed m l = max (m + 2047) l

-- SO FAR: 2,048 for each row in the first s buckets, and the greatest level, raised by what they took
pub record Levels (cs : List ℕ) (top s l m : ℕ) : Type 0 where
  pub counts : Multiples cs top
  pub by : s ≤ suc top
  pub sum : l ≡ 2048 * upto s cs
  pub over : ℕ
  pub free : ℕ
  pub most : m ≡ 2048 * over + free + 2047 * s
  pub sweep : Sweep (λ v. upto v cs) s 0 over free

-- what the counts alone say
pub record ReachSays (cs : List ℕ) (top : ℕ) (x : Reach) : Type 0 where
  pub sweep : Sweep (λ s. upto s cs) (suc top) 0 x.over x.free

-- WHERE THE PLAN IS FULL: before the slot that is free buckets ahead; over rows are left out, and with none all rows fit
pub record Reaches (r : Round) (x : Reach) : Type 0 where
  pub sweep : Sweep (before r r.rows) (suc (top_of r)) 0 x.over x.free
  pub near : Near r (r.slot + x.free)
  pub fits : x.over ≡ 0 → feasible r r.rows ≡ true
