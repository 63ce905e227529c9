-- The rival's stash, the source's adversary stash: for each slot ahead nothing yet, a number owed, or a waiting row held with the number it counts for.
use Rattle.std.specs.Prelude.{◌≡◌, false, List, [], ◌∷◌, ℕ, suc, ◌+◌, ◌≤◌, min}
use Rattle.std.proofs.Common.{sym, ap, ◌∙◌, subst, inl, inr, arith}
use Rattle.rules.specs.Rows.{All, In, Round, Row}
use Rattle.rules.specs.Plan.{mark}
use Rattle.rules.specs.Demands.{member}
use Rattle.theory.specs.Sum.{sum}
use Rattle.theory.specs.Full.{Fine}
use Rattle.theory.specs.MarksFall.{mark_falls}

-- AN ENTRY for one slot
pub data StashEntry : Type 0 where
  idle : StashEntry
  owe : (m : ℕ) → StashEntry
  hold : (x : Row) (m : ℕ) → StashEntry

-- the rows held
abbrev pub held : List StashEntry → List Row
held [] = []
held (idle ∷ es) = held es
held (owe m ∷ es) = held es
held (hold x m ∷ es) = x ∷ held es

-- what all entries count for
abbrev pub claims : List StashEntry → ℕ
claims [] = 0
claims (idle ∷ es) = claims es
claims (owe m ∷ es) = m + claims es
claims (hold x m ∷ es) = m + claims es

-- A GOOD STASH from slot s to the last: a number owed is at most its slot's mark, a row held is due then or later and weighs what it counts for
abbrev pub Good : Round → (s : ℕ) → List StashEntry → Type 0
Good r s [] = s ≡ suc r.last
Good r s (idle ∷ es) = (s ≤ r.last) × Good r (suc s) es
Good r s (owe m ∷ es) = (s ≤ r.last) × (m ≤ mark r s) × Good r (suc s) es
Good r s (hold x m ∷ es) = (s ≤ r.last) × (s ≤ x.due) × (m ≤ x.weight) × Good r (suc s) es

-- slots that are not booked have nothing yet
abbrev pub Idle : (booked : List ℕ) → (s : ℕ) → List StashEntry → Type 0
Idle us s [] = Unit {0}
Idle us s (e ∷ es) = (member s us ≡ false → e ≡ idle) × Idle us (suc s) es

-- a change of the stash that keeps this
abbrev pub Keeps : (s : ℕ) → (es zs : List StashEntry) → Type 0
Keeps s es zs = (us : List ℕ) → Idle us s es → Idle us s zs

-- an entry that holds a row is not idle
pub hold_idle : (x : Row) (m : ℕ) (e : StashEntry) → hold x m ≡ idle → e ≡ idle
hold_idle x m e q = absurd (subst (λ (z : StashEntry). is_hold z) q tt)
  where
    is_hold : StashEntry → Type 0
    is_hold idle = ⊥
    is_hold (owe m) = ⊥
    is_hold (hold x m) = Unit {0}

-- rows held are due from the stash's first slot on
pub good_late : (r : Round) (t s : ℕ) (es : List StashEntry) → t ≤ s → Good r s es → All (λ x. t ≤ x.due) (held es)
good_late r t s [] h g = tt
good_late r t s (idle ∷ es) h g = good_late r t (suc s) es (omega arith) g.1
good_late r t s (owe m ∷ es) h g = good_late r t (suc s) es (omega arith) g.2
good_late r t s (hold x m ∷ es) h g = (omega (arith, g.1), good_late r t (suc s) es (omega arith) g.3)

-- a stash stays good where no mark sinks
pub good_stays : (r z : Round) → z.last ≡ r.last → (t s : ℕ) (es : List StashEntry) → t ≤ s → ((v : ℕ) → t ≤ v → v ≤ r.last → mark r v ≤ mark z v) →
    Good r s es → Good z s es
good_stays r z e t s [] h m g = g ∙ sym (ap suc e)
good_stays r z e t s (idle ∷ es) h m g = (omega (arith, g.0), good_stays r z e t (suc s) es (omega arith) m g.1)
good_stays r z e t s (owe n ∷ es) h m g =
    (omega (arith, g.0), omega (arith, g.1, m s h g.0), good_stays r z e t (suc s) es (omega arith) m g.2)
good_stays r z e t s (hold x n ∷ es) h m g = (omega (arith, g.0), g.1, g.2, good_stays r z e t (suc s) es (omega arith) m g.3)

-- A HELD ROW EXCHANGED: o for the rows cs, and the paid part of its weight for what is left, q
pub record Exchanged (r : Round) (o : Row) (cs : List Row) (q s : ℕ) (es : List StashEntry) : Type 0 where
  pub stash : List StashEntry
  pub sums : (μ : Row → ℕ) → sum μ (held stash) + μ o ≡ sum μ (held es) + sum μ cs
  pub counts : claims es + q ≤ claims stash + o.weight
  pub good : Good r s stash
  pub keeps : Keeps s es stash

-- any held row can be, where the new entry is good wherever the old one is
module _ (r : Round) (o : Row) (cs : List Row) (q : ℕ) (new : ℕ → StashEntry)
    (fits : (s m : ℕ) (es : List StashEntry) → r.slot ≤ s → s ≤ r.last → s ≤ o.due → Good r (suc s) es → Good r s (new m ∷ es))
    (holds : (μ : Row → ℕ) (m : ℕ) (es : List StashEntry) → sum μ (held (new m ∷ es)) ≡ sum μ cs + sum μ (held es))
    (counts : (m : ℕ) (es : List StashEntry) → m ≤ o.weight → m + claims es + q ≤ claims (new m ∷ es) + o.weight) where
  exchange : (s : ℕ) (es : List StashEntry) → r.slot ≤ s → In o (held es) → Good r s es → Exchanged r o cs q s es
  exchange s [] t i g = absurd i
  exchange s (idle ∷ es) t i g =
      let z = exchange (suc s) es (omega arith) i g.1 in
      record { stash = idle ∷ z.stash; sums = z.sums; counts = z.counts; good = (g.0, z.good); keeps = λ us d. (d.0, z.keeps us d.1) }
  exchange s (owe m ∷ es) t i g =
      let z = exchange (suc s) es (omega arith) i g.2 in
      record {
        stash = owe m ∷ z.stash;
        sums = z.sums;
        counts = omega (arith, z.counts);
        good = (g.0, g.1, z.good);
        keeps = λ us d. (d.0, z.keeps us d.1);
      }
  exchange s (hold x m ∷ es) t (inl e) g =
      record {
        stash = new m ∷ es;
        sums = λ μ. omega (arith, holds μ m es, ap μ e);
        counts = omega (arith, counts m es (omega (arith, g.2, ap (λ (z : Row). z.weight) e)));
        good = fits s m es t g.0 (omega (arith, g.1, ap (λ (z : Row). z.due) e)) g.3;
        keeps = λ us d. (λ b. hold_idle x m (new m) (d.0 b), d.1);
      }
  exchange s (hold x m ∷ es) t (inr i) g =
      let z = exchange (suc s) es (omega arith) i g.3 in
      record {
        stash = hold x m ∷ z.stash;
        sums = λ μ. omega (arith, z.sums μ);
        counts = omega (arith, z.counts);
        good = (g.0, g.1, g.2, z.good);
        keeps = λ us d. (d.0, z.keeps us d.1);
      }

-- A HELD ROW GIVEN UP for a number owed, at most its weight and the mark of its due slot
pub give_up : (r : Round) → Fine r → (o : Row) (q : ℕ) → q ≤ mark r o.due → q ≤ o.weight → o.due ≤ r.last → (s : ℕ) (es : List StashEntry) →
    r.slot ≤ s → In o (held es) → Good r s es → Exchanged r o [] q s es
give_up r f o q h k l =
    exchange r o [] q (λ m. owe (min m q)) (λ s m es t a b g. (a, omega (arith, h, mark_falls r f s o.due t b l), g)) (λ μ m es. omega arith)
    (λ m es a. omega arith)

-- A HELD ROW TRADED for another that is due no earlier and no heavier
pub trade : (r : Round) (o c : Row) → o.due ≤ c.due → c.weight ≤ o.weight → (s : ℕ) (es : List StashEntry) → r.slot ≤ s → In o (held es) → Good r s es →
    Exchanged r o (c ∷ []) c.weight s es
trade r o c h k =
    exchange r o (c ∷ []) c.weight (λ m. hold c (min m c.weight)) (λ s m es t a b g. (a, omega arith, omega arith, g)) (λ μ m es. omega arith)
    (λ m es a. omega arith)
