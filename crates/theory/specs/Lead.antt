-- The pick as a pass from the far slots back: Leads, lead_far, lead_takes, lead_keeps, segment_champion, lead_best.
use Rattle.std.specs.Prelude.{◌≡◌, ◌⊎◌, false, List, ℕ, suc, ◌≤◌, ◌<◌}
use Rattle.std.proofs.Common.{inl, inr, arith}
use Rattle.rules.specs.Rows.{Row, Round, heavier, canonical, In}
use Rattle.rules.specs.Plan.{plan, best}
use Rattle.theory.specs.Tests.{ltb?}
use Rattle.theory.specs.Full.{Fine}
use Rattle.theory.specs.Score.{score_of}
use Rattle.theory.specs.Members.{RowsOfPlan, of_rows_fine}
use Rattle.theory.specs.Best.{best_is, earlier_beats, beats_trans}
use Rattle.theory.specs.Near.{Near, far_beats}
use Rattle.theory.specs.Segments.{Segment, segment_beats}

-- q doesn't go before p
abbrev pub Behind : Round → Row → Row → Type 0
Behind r q p = (score_of r q < score_of r p) ⊎ ((score_of r q ≡ score_of r p) × (canonical q p ≡ false))

-- THE LEADER of the rows due from d on
pub record Leads (r : Round) (rs : List Row) (d : ℕ) (p : Row) : Type 0 where
  pub inside : In p rs
  pub from : d ≤ p.due
  pub ahead : (q : Row) → In q rs → d ≤ q.due → Behind r q p

-- the heaviest row of a stretch whose rows have substitutes of one weight
pub record Champion (r : Round) (rs : List Row) (b d : ℕ) (m : Row) : Type 0 where
  pub inside : In m rs
  pub from : b ≤ m.due
  pub before : m.due < d
  pub ahead : (q : Row) → In q rs → b ≤ q.due → q.due < d → Behind r q m

module _ (r : Round) (f : Fine r) (o : r.slot ≤ r.last) (rs : List Row) (c : RowsOfPlan r rs) where
  -- an earlier stretch takes the lead with a score no less
  pub lead_takes : (b d : ℕ) (p m : Row) → Leads r rs d p → Champion r rs b d m → score_of r p ≤ score_of r m → Leads r rs b m
  lead_takes b d p m l h s =
      record {
        inside = h.inside;
        from = h.from;
        ahead = λ q i a. elim (ltb? q.due d) [
          | inl k ↦ h.ahead q i a k.1
          | inr k ↦ beats_trans r f o rs c m p q (earlier_beats r f o rs c m p (omega (arith, h.before, l.from)) s) (l.ahead q i k.1)
        ];
      }

  pub lead_keeps : (b d : ℕ) (p m : Row) → b ≤ d → Leads r rs d p → Champion r rs b d m → score_of r m < score_of r p → Leads r rs b p
  lead_keeps b d p m g l h s =
      record {
        inside = l.inside;
        from = omega (arith, g, l.from);
        ahead = λ q i a. elim (ltb? q.due d) [
          | inl k ↦ beats_trans r f o rs c p m q (inl s) (h.ahead q i a k.1)
          | inr k ↦ l.ahead q i k.1
        ];
      }

  -- THE LEADER of all goes
  pub lead_best : (p : Row) → Leads r rs r.slot p → best r (plan r) ≡ p
  lead_best p l = best_is r f o rs c p l.inside (λ q i. l.ahead q i (of_rows_fine r f rs c q i).due_from)

  -- the heaviest far row, and a segment's
  pub lead_far : (z : ℕ) → Near r z → (p : Row) → In p rs → z ≤ p.due → ((q : Row) → In q rs → z ≤ q.due → heavier q p ≡ false) → Leads r rs z p
  lead_far z k p i h g = record { inside = i; from = h; ahead = λ q j a. far_beats r f rs c z k o p q i j h a (g q j a) }

  pub segment_champion : (z : ℕ) → Near r z → (b e : ℕ) → e < z → Segment r rs b e → (m : Row) → In m rs → b ≤ m.due → m.due ≤ e →
      ((q : Row) → In q rs → b ≤ q.due → q.due ≤ e → heavier q m ≡ false) → Champion r rs b (suc e) m
  segment_champion z k b e n s m i h l g =
      record {
        inside = i;
        from = h;
        before = omega (arith, l);
        ahead = λ q j a d. segment_beats r f o rs c z k b e n s m q i j h l a (omega (arith, d)) (g q j a (omega (arith, d)));
      }
