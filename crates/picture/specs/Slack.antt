-- A segment's ends by the slack of rows alone, anywhere: slots that no later slot has less slack than. Assumes nothing.
use Rattle.std.specs.Prelude.{List, ℕ, ◌≤◌, ◌<◌}
use Rattle.rules.specs.Rows.{Row, Round}
use Rattle.theory.specs.Slack.{slack}

-- no later slot has less slack; some later slot has less
abbrev pub Least : Round → List Row → (s : ℕ) → Type 0
Least r rs s = (u : ℕ) → s ≤ u → u ≤ r.last → slack r rs s ≤ slack r rs u

abbrev pub LessLater : Round → List Row → (s : ℕ) → Type 0
LessLater r rs s = (u : ℕ) × (s ≤ u) × (u ≤ r.last) × (slack r rs u < slack r rs s)
