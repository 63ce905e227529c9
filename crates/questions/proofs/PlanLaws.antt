-- What the plan gives to those who ask about it.
use mathlib.Core.Path.{◌≡◌}
use mathlib.Core.Bool.{false}
use mathlib.Core.List.{List}
use Prim.Native.Nat.{ℕ, ◌+◌, ◌≤◌, ◌<◌}
use native.Mathlib.Omega.{arith}
use lib.ListN.{length, get_or, take}
use Rattle.rules.specs.Plan.{mark}
use Rattle.rules.specs.Table.{round_in}
use Rattle.sorts.specs.declared.Round.{Round as Head}
use Rattle.round.specs.Rows.{Ready, at}
use Rattle.round.proofs.ReadLaws.{known}
use Rattle.keys.proofs.SliceLaws.{front_sorted, front_many}
use Rattle.buckets.specs.Reach.{Reaches}
use Rattle.buckets.specs.declared.Reach.{Reach}
use Rattle.plan.specs.Plans.{Plans}
use Rattle.plan.specs.declared.Planned.{Planned}
use Rattle.sub.specs.Substitute.{Substitutes}
use Rattle.sub.specs.declared.Sub.{Sub}
use Rattle.marks.specs.Given.{Asked, LentAsked}
use Rattle.marks.specs.Near.{MarksSay, SubstitutesSay}
use Rattle.marks.specs.Total.{Lost}
use Rattle.marks.proofs.KeptLaws.{given}
use Rattle.marks.proofs.AskLaws.{lost_is, lost_none}
use Rattle.questions.specs.Seen.{Seen, Gives}

-- the first of its keys are the near rows', and the rows left out weigh what it lost
module _ (t : List ℕ) (h : Head) (x : Reach) (k : Ready t h) (ks fs : List ℕ) (p : Planned) (c : Plans (round_in t) x false ks fs p) where
  pub plan_gives : Gives (round_in t) x (take p.many ks) fs
  plan_gives =
      record {
        sorted = front_sorted (round_in t) x.free ks p.many c.many c.sorted;
        all = front_many (round_in t) x.free ks p.many c.many c.sorted;
        chosen = c.chosen;
      }

  pub plan_lost : Lost (round_in t) p.lost
  plan_lost = lost_is (round_in t) (known t h k).fine fs p.lost c.chosen c.lost

-- a slot before free is asked about
module _ (t : List ℕ) (h : Head) (x : Reach) (k : Ready t h) (w : Reaches (round_in t) x) (ks fs : List ℕ) (g : Gives (round_in t) x ks fs)
    (s : ℕ) (a : h.slot.0 ≤ s) (b : s < h.slot.0 + x.free) where
  asked : Asked (round_in t) ks fs (length ks) h.slot.0 x.free s
  asked = record { given = given t ks fs h x (length ks) k w g.sorted g.chosen g.all; from = a; by = b }

  pub plan_asked : LentAsked ks fs (length ks) h.slot.0 s
  plan_asked = record { of = round_in t; n = x.free; given = asked }

  pub plan_mark : (v : ℕ) → MarksSay ks fs (length ks) h.slot.0 s v → v ≡ mark (round_in t) s
  plan_mark v m = m (round_in t) x.free asked

  pub plan_substitute : (i : ℕ) (v : Sub) → i < h.used → get_or fs i 0 ≡ 1 → (at (round_in t) i).due ≡ s → SubstitutesSay ks fs (length ks) h.slot.0 s v →
      Substitutes (round_in t) i v
  plan_substitute i v l o e m = m (round_in t) x.free i asked (omega (arith, l, (known t h k).used)) o e

-- nothing is lost where no row is left out
pub no_loss : (t cs : List ℕ) (h : Head) (x : Reach) → Seen t cs h x → x.over ≡ 0 → Lost (round_in t) 0
no_loss t cs h x s e = lost_none (round_in t) (known t h s.ready).fine x s.reaches e
