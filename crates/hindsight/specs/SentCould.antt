-- WHAT WENT OUT COULD HAVE, proved: sent_could_have. Each row that is a frame waits as it was offered, its due slot no later than at first; what
-- goes out is such a frame, so the choice that puts each frame in the slot in which it went can be kept.
use Rattle.std.specs.Prelude.{◌≡◌, ℕ, suc, ◌+◌, ◌≤◌, ◌<◌}
use Rattle.std.proofs.Math.Path.{refl, sym, ap}
use Rattle.std.proofs.Common.{◌∙◌, inl, inr, eq-eqb, ne_eqb}
use mathlib.Core.List.{List, [], ◌∷◌, ◌++◌}
use native.Mathlib.Omega.{arith}
use Rattle.rules.specs.Limits.{most_last, most_rows}
use Rattle.rules.specs.Rows.{All, In, Round, Row, round, row, Setup, Frame}
use Rattle.rules.specs.Steps.{goes, opened, sealed, sent, taken, taken_row}
use Rattle.rules.specs.Calls.{Call, frame, out_of}
use Rattle.rules.specs.StepsOf.{Other}
use Rattle.rules.specs.Demands.{NoOpening, member}
use Rattle.rules.specs.Hindsight.{Choice, Most, MostReckoned, SentCouldHave, Told, could_have, counts_for, earned, gained, most, noted, nothing, offer, offers, sent_in, shut, took, went}
use Rattle.theory.specs.All.{all_append, all_in, all_map, all_of_in}
use Rattle.theory.specs.Bounds.{RowFine}
use Rattle.theory.specs.Full.{Fine}
use Rattle.theory.specs.Third.{opened_sane}
use Rattle.hindsight.specs.OverCalls.{opened_replies, over_calls, tale}
use Rattle.hindsight.specs.Most.{most_reckoned}
use Rattle.hindsight.specs.Waiting.{EachWaiting, FrameGoes, KeptFrom, Some, Waits, offers_with, before_more, can_keep, each_map, each_more, each_without, kept_sooner, leaves_all, with_it, with_gains, with_kept, some_each, some_more, some_without, without_it}
use Rattle.hindsight.specs.FramesLeft.{counts?, was}

-- a row waits as it was offered: due no later than then
abbrev pub Offered : Row → Waits → Type 0
Offered x e = (e.ticket ≡ x.ticket) × (x.due ≤ e.offered.to)

-- if it is a frame
abbrev pub WaitsIn : List Waits → Row → Type 0
WaitsIn es x = x.tail.kind ≡ 0 → Some (Offered x) es

-- what waits has a ticket given, was offered by now, and weighs what its ticket counts for
abbrev pub Known : Round → (worth : ℕ → ℕ) → Waits → Type 0
Known r g e = (e.ticket < r.next) × (e.offered.from ≤ r.slot) × (g e.ticket ≡ e.offered.weight)

-- HOW IT STANDS
pub record BooksStand (r : Round) (g : ℕ → ℕ) (es : List Waits) : Type 0 where
  pub each : EachWaiting (Known r g) es
  pub rows : All (WaitsIn es) r.rows

-- SOME CHOICE from now on gains what goes out from now on
pub record Gains (r : Round) (g : ℕ → ℕ) (es : List Waits) (u : ℕ) (ts : List Told) : Type 0 where
  pub choice : Choice
  pub keeps : KeptFrom r.slot (offers_with es (offers ts r.slot)) choice []
  pub enough : earned ts g u ≤ u + gained (offers_with es (offers ts r.slot)) choice

-- however it stands
abbrev pub Could : (r end : Round) → List Told → Type 0
Could r z ts = (g : ℕ → ℕ) (es : List Waits) (u : ℕ) → BooksStand r g es → Gains r g es u ts

-- NO CALL is left: a choice that leaves all
pub could_end : (r : Round) → Fine r → Could r r []
unfolding offers earned
could_end r f g es u s = record { choice = []; keeps = leaves_all r.slot (offers_with es []) []; enough = omega arith }

-- NOTHING is told
pub could_untold : (r z : Round) (ts : List Told) → Could r z ts → Could r z (nothing ∷ ts)
unfolding offers earned
could_untold r z ts c g es u s = let q = c g es u s in record { choice = q.choice; keeps = q.keeps; enough = q.enough }

-- A FRAME IS TAKEN: one more waits
module _ (r : Round) (n : Frame) where
  abbrev pub newly_waiting : Waits
  newly_waiting = record { ticket = r.next; offered = offer r.slot n.due n.weight }

  -- it stands so with the newcomer
  pub taken_stands : (g : ℕ → ℕ) (es : List Waits) → BooksStand r g es → BooksStand (taken r n) (noted r.next n.weight g) (es ++ (newly_waiting ∷ []))
  unfolding taken round row noted offer
  taken_stands g es s =
      let x = taken_row r.next n in
      let fs = es ++ (newly_waiting ∷ []) in
      record {
        each = each_more (Known (taken r n) (noted r.next n.weight g)) es newly_waiting
            (each_map {Q = Known (taken r n) (noted r.next n.weight g)}
            (λ e (a : Known r g e). (omega (arith, a.0), a.1, rw (ne_eqb e.ticket r.next (λ z. omega (arith, z, a.0))) a.2)) es s.each)
            (omega arith, omega arith, rw (eq-eqb r.next r.next refl));
        rows = all_append (WaitsIn fs) r.rows (x ∷ [])
            (all_map {Q = WaitsIn fs} (λ y (a : WaitsIn es y) z. some_more (Offered y) es newly_waiting (inl (a z))) r.rows s.rows)
            (λ z. some_more (Offered x) es newly_waiting (inr (refl, omega arith)), tt);
      }

  -- the newcomer's offer is the first of those to come
  pub could_taken : (z : Round) (ts : List Told) → Could (taken r n) z ts → Could r z (took r.next n.due n.weight ∷ ts)
  unfolding taken round offers earned offer
  could_taken z ts c g es u s =
      let q = c (noted r.next n.weight g) (es ++ (newly_waiting ∷ [])) u (taken_stands g es s) in
      let b = before_more es newly_waiting (offers ts r.slot) in
      record {
        choice = q.choice;
        keeps = rw b at q.keeps;
        enough = rw b at q.enough;
      }

-- A SLOT IS SENT: a frame goes out that waits, or nothing that counts
module _ (r : Round) (f : Fine r) (o : r.slot ≤ r.last) (g : ℕ → ℕ) (es : List Waits) (s : BooksStand r g es) where
  -- a frame that waits after it waited before, and is not what goes out
  still_offered : (y : Row) → In y (sent r).rows → y.tail.kind ≡ 0 → Some (Offered y) es × Other y (goes r)
  still_offered y i k =
      let v = was r f y k o i in
      let x = v.0 in (
        some_each {R = Offered y} (λ e (a : Known r g e) (b : Offered x e). (b.0 ∙ v.2.0, omega (arith, b.1, v.2.1))) es s.each
            (all_in (WaitsIn es) x r.rows s.rows v.1 v.2.2),
        λ z. v.2.3 (v.2.0 ∙ z),
      )

  -- what is known stays so
  still_known : EachWaiting (Known (sent r) g) es
  unfolding sent round
  still_known = each_map {Q = Known (sent r) g} (λ e (a : Known r g e). (a.0, omega (arith, a.1), a.2)) es s.each

  -- nothing that counts
  sent_none : (z : Round) (u : ℕ) (ts : List Told) → counts_for g (out_of (goes r)) ≡ 0 → Could (sent r) z ts →
      Gains r g es u (went (out_of (goes r)) ∷ ts)
  unfolding sent round offers earned
  sent_none z u ts n c =
      let q = c g es (u + counts_for g (out_of (goes r)))
      (record { each = still_known; rows = all_of_in (WaitsIn es) (sent r).rows (λ y i k. (still_offered y i k).0) }) in
      record {
        choice = q.choice;
        keeps = kept_sooner r.slot (offers_with es (offers ts (suc r.slot))) q.choice [] [] (λ v i e. e) q.keeps;
        enough = omega (arith, q.enough, n);
      }

  -- a frame: its entry leaves those that wait
  sent_one : (z : Round) (u : ℕ) (ts : List Told) → In (goes r) r.rows → (goes r).tail.kind ≡ 0 → Could (sent r) z ts →
      Gains r g es u (went (frame (goes r).ticket) ∷ ts)
  unfolding sent round offers earned counts_for member
  sent_one z u ts i k c =
      let p = goes r in
      let t = r.slot in
      let w = g p.ticket in
      let due = (all_in (RowFine r) p r.rows f.fine i).due_from in
      let h = some_each {R = FrameGoes t p.ticket w}
      (λ e (a : Known r g e) (b : Offered p e). (b.0, a.1, omega (arith, due, b.1), sym a.2 ∙ ap g b.0)) es s.each
      (all_in (WaitsIn es) p r.rows s.rows i k) in
      let fs = without_it t p.ticket w es h in
      let q = c g fs (u + w) (record {
        each = each_without t p.ticket w (Known (sent r) g) es h still_known;
        rows = all_of_in (WaitsIn fs) (sent r).rows (λ y j m.
            let b = still_offered y j m in
            some_without t p.ticket w (Offered y) (λ e a d. b.1 (sym a.0 ∙ d)) es h b.0);
      }) in
      let ys = offers ts (suc t) in
      record {
        choice = with_it t p.ticket w es h q.choice;
        keeps = with_kept t p.ticket w es h ys q.choice [] refl q.keeps;
        enough = omega (arith, q.enough, with_gains t p.ticket w es h ys q.choice);
      }

-- whatever goes
pub could_sent : (r z : Round) → Fine r → r.slot ≤ r.last → (ts : List Told) → Could (sent r) z ts → Could r z (went (out_of (goes r)) ∷ ts)
could_sent r z f o ts c g es u s =
    elim (counts? r f o) [
      | inl a ↦ rw a.2 (sent_one r f o g es s z u ts a.0 a.1 c)
      | inr a ↦ sent_none r f o g es s z u ts (a g) c
    ]

-- A ROUND IS SEALED: rows, slot and next ticket stay
pub could_shut : (r z : Round) → Fine r → (ts : List Told) → Could (sealed r) z ts → Could r z (shut ∷ ts)
unfolding sealed round offers earned
could_shut r z f ts c g es u s =
    let q = c g es u (record { each = s.each; rows = s.rows }) in
    record { choice = q.choice; keeps = q.keeps; enough = q.enough }

-- OF A ROUND BY THE MODEL: it stands so from the opening on
pub sent_could : (v : Setup) (k : ℕ) (cs : List Call) → v.last ≤ most_last → 1 ≤ k → k ≤ most_rows → NoOpening cs →
    sent_in (tale cs (opened v k)) ≤ could_have (tale cs (opened v k))
unfolding opened round sent_in could_have Most MostReckoned
sent_could v k cs h i j n =
    let r = opened v k in
    let ts = tale cs r in
    let q = over_calls Could could_untold could_end (λ r z _ n _ ts c. could_taken r n z ts c) could_sent could_shut cs r (opened_sane v k h i j).fine n
    (λ x. 0) [] 0 (record { each = tt; rows = tt }) in
    let m : Most (offers ts 0) (most (offers ts 0) []) = most_reckoned (offers ts 0) in
    omega (arith, q.enough, m.1 q.choice (can_keep 0 (offers ts 0) q.choice [] q.keeps))

-- ON BYTES: the replies are the model's
pub sent_could_have : SentCouldHave
unfolding SentCouldHave
sent_could_have t k v cs e i j h n = rw (opened_replies t k v cs e i j h) (sent_could v k cs h i j n)
