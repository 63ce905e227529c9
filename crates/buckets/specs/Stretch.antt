-- A segment by counts: 2,048 for each row of a bucket.
use Rattle.std.specs.Prelude.{◌≡◌, ◌≢◌, List, ℕ, zero, suc, ◌+◌, ◌*◌, ◌≤◌, ◌<◌, length, get_or}
use Rattle.buckets.specs.declared.stretch.Stretch.{Stretch}

-- the sum of the first s counts
abbrev pub upto : (s : ℕ) → List ℕ → ℕ
upto zero cs = 0
upto (suc s) cs = upto s cs + get_or cs s 0

-- by no bucket before free more rows than buckets, and by free as many
pub record Full (cs : List ℕ) (free : ℕ) : Type 0 where
  pub enough : free ≤ length cs
  pub small : free ≤ 1025
  pub fits : (v : ℕ) → v ≤ free → upto v cs ≤ 2048 * v
  pub full : upto free cs ≡ 2048 * free

-- by no bucket up to b more rows than buckets
pub record Fits (cs : List ℕ) (b : ℕ) : Type 0 where
  pub enough : b ≤ length cs
  pub small : b ≤ 1025
  pub fits : (v : ℕ) → v ≤ b → upto v cs ≤ 2048 * v

-- the last beginning up to bucket b
pub record Begins (cs : List ℕ) (b x : ℕ) : Type 0 where
  pub from : x ≤ b
  pub edge : upto x cs ≡ 2048 * x
  pub none : (v : ℕ) → x < v → v ≤ b → upto v cs ≢ 2048 * v

-- THE SEGMENT of bucket b, before free
pub record Stretches (cs : List ℕ) (free b : ℕ) (x : Stretch) : Type 0 where
  pub from : x.first ≤ b
  pub by : b ≤ x.last
  pub near : x.last < free
  pub edge : upto x.first cs ≡ 2048 * x.first
  pub end : upto (suc x.last) cs ≡ 2048 * suc x.last
  pub none : (u : ℕ) → x.first ≤ u → u < x.last → upto (suc u) cs ≢ 2048 * suc u
