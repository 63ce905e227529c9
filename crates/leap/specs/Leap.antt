-- What a leap goes by.
use Rattle.std.specs.Prelude.{◌≡◌, List, ℕ, suc, ◌≤◌, ◌<◌, length, get_or}
use Rattle.rules.specs.Rows.{blank, In}
use Rattle.rules.specs.Plan.{plan}
use Rattle.rules.specs.PlanM.{Outside}
use Rattle.rules.specs.Steps.{goes}
use Rattle.rules.specs.Table.{round_in}
use Rattle.picture.specs.Picture.{Heaviest}
use Rattle.sorts.specs.declared.Round.{Round as Head}
use Rattle.round.specs.Rows.{Ready, at}
use Rattle.keys.specs.Key.{key_at}
use Rattle.lead.specs.declared.Lead.{Lead}
use Rattle.chain.specs.Chain.{Pieces}

-- THE HEAVIEST ROW of a later segment leaps: segments by numbers, its own number and its key
pub record Leaps (t : List ℕ) (h : Head) (es ts ls : List ℕ) (l : Lead) : Type 0 where
  pub ready : Ready t h
  pub pieces : Pieces (round_in t) l.count es ts ls
  pub later : suc l.segment < l.count
  pub row : ℕ
  pub below : row < length (round_in t).rows
  pub key : l.key ≡ key_at (round_in t) row
  pub goes : goes (round_in t) ≡ at (round_in t) row
  pub member : In (at (round_in t) row) (plan (round_in t))
  pub from : suc (get_or es (suc l.segment) 0) ≤ (at (round_in t) row).due
  pub by : (at (round_in t) row).due ≤ get_or es l.segment 0

-- onto the blank of its segment, where no row left out is due from its first slot on
pub record LeapsBlank (t : List ℕ) (h : Head) (es ts ls : List ℕ) (l : Lead) : Type 0 where
  pub leaps : Leaps t h es ts ls l
  pub none : Heaviest (Outside (round_in t) (suc (get_or es (suc l.segment) 0))) (blank (suc (get_or es (suc l.segment) 0)))

-- onto the heaviest row left out that is due from there on
pub record LeapsRow (t : List ℕ) (h : Head) (es ts ls : List ℕ) (l : Lead) : Type 0 where
  pub leaps : Leaps t h es ts ls l
  pub row : ℕ
  pub below : row < length (round_in t).rows
  pub key : l.other ≡ key_at (round_in t) row
  pub left : Heaviest (Outside (round_in t) (suc (get_or es (suc l.segment) 0))) (at (round_in t) row)
  pub near : (at (round_in t) row).due ≤ get_or es 0 0
