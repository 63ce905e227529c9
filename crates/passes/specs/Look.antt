-- What the second pass finds: the first segment's heaviest row and lightest weight, and the mark of another segment.
use Rattle.std.specs.Prelude.{◌≡◌, ◌⊎◌, ℕ, ◌≤◌, ◌<◌, min}
use Rattle.rules.specs.Rows.{Round}
use Rattle.passes.specs.Best.{Sees, Heaviest, Least}
use Rattle.passes.specs.declared.look.Found.{Found}

-- a row noted, due by the first segment's end or not
pub record NotedFirst (f : Found) (w d y i e : ℕ) (x : Found) : Type 0 where
  pub by : d ≤ e
  pub first : Sees f.first w y i x.first
  pub lightest : x.lightest ≡ min f.lightest w
  pub mark : x.mark ≡ min f.mark w

pub record NotedPast (f : Found) (w d e : ℕ) (x : Found) : Type 0 where
  pub past : e < d
  pub first : x.first ≡ f.first
  pub lightest : x.lightest ≡ f.lightest
  pub mark : x.mark ≡ min f.mark w

abbrev pub Notes : Found → (weight due rank row end : ℕ) → Found → Type 0
Notes f w d y i e x = NotedFirst f w d y i e x ⊎ NotedPast f w d e x

-- OF THE ROWS FROM n ON
pub record Looks (r : Round) (n end own : ℕ) (f : Found) : Type 0 where
  pub first : Heaviest r n end f.first
  pub lightest : Least r n end f.lightest
  pub mark : Least r n own f.mark
