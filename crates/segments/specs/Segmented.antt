-- The near segments in arrays, numbered from the back, and the one that leads.
use Rattle.std.specs.Prelude.{◌≡◌, ◌⊎◌, List, [], ◌∷◌, ℕ, ◌+◌, ◌≤◌, ◌<◌, length, get_or}
use Rattle.rules.specs.Rows.{Row, Round, blank}
use Rattle.round.specs.Rows.{at}
use Rattle.keys.specs.Key.{blank_key, key_at}
use Rattle.picture.specs.Picture.{Segment}
use Rattle.picture.specs.Substitutes.{stand_in}
use Rattle.picture.specs.Pick.{top_score}
use Rattle.picture.specs.Leads.{Leads}
use Rattle.picture.specs.Own.{DrawnOwn, Numbered}
use Rattle.lead.specs.declared.Lead.{Lead}
use Rattle.segments.specs.Given.{Given}

-- the key of a row of the round; or of a blank
pub record Keyed (r : Round) (x : Row) (k : ℕ) : Type 0 where
  pub row : ℕ
  pub there : row < length r.rows
  pub is : x ≡ at r row
  pub key : k ≡ key_at r row

abbrev pub Named : Round → (blank_due : ℕ) → Row → (key : ℕ) → Type 0
Named r b x k = Keyed r x k ⊎ ((x ≡ blank b) × (k ≡ blank_key))

-- STORED: at a segment's number its last slot, its top's key, the weight of its own lightest
pub record HoldsSegment (r : Round) (es ts ls : List ℕ) (g : Segment) (k : ℕ) : Type 0 where
  pub end : get_or es k 0 ≡ g.last
  pub top : Keyed r g.top (get_or ts k 0)
  pub low : get_or ls k 0 ≡ g.low.weight

abbrev pub Stored : Round → (es ts ls : List ℕ) → List Segment → Type 0
Stored r es ts ls [] = Unit {0}
Stored r es ts ls (g ∷ gs) = HoldsSegment r es ts ls g (length gs) × Stored r es ts ls gs

-- THE LEADER: its number, its score, its top's key, its substitute's key
pub record Leader (r : Round) (gs : List Segment) (l : Lead) : Type 0 where
  pub of : Segment
  pub numbered : Numbered of l.segment gs
  pub leads : Leads r gs of
  pub score : l.score ≡ top_score r of
  pub key : Keyed r of.top l.key
  pub other : Named r of.first (stand_in r of) l.other

-- THE SEGMENTS of the n slots that rows fill
pub record Segmented (r : Round) (n : ℕ) (es ts ls : List ℕ) (l : Lead) : Type 0 where
  pub segments : List Segment
  pub drawn : DrawnOwn r r.slot (r.slot + n) segments
  pub count : l.count ≡ length segments
  pub stored : Stored r es ts ls segments
  pub leader : Leader r segments l
  pub ends : l.count ≤ length es
  pub tops : l.count ≤ length ts
  pub lows : l.count ≤ length ls

-- of whatever round is given
abbrev pub SegmentsSay : (ks fs : List ℕ) (many slot n : ℕ) (es ts ls : List ℕ) → Lead → Type 0
SegmentsSay ks fs many slot n es ts ls l = (r : Round) → Given r ks fs many slot n → Segmented r n es ts ls l
