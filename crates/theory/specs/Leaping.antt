-- What a leap leaves, by each kind of substitute, from the plan's rows alone: final_row, moves_each, leapt_row, leapt_blank.
use Rattle.std.specs.Prelude.{◌≡◌, refl, ◌≢◌, cond, ℕ, zero, suc, ◌≤◌, ◌<◌, ltb, eqb, length, get_or, set}
use Rattle.std.proofs.Math.Path.{sym, ap}
use Rattle.std.proofs.Common.{ap₂, ◌∙◌, inl, inr, arith}
use mathlib.Core.List.{List, [], ◌∷◌, ◌++◌}
use borrow.Author.Tests.{eq-eqb, ne_eqb}
use Rattle.rules.specs.Rows.{Row, Round, blank, row, All, In, blank_tail}
use Rattle.rules.specs.Plan.{plan, tight_after, segment_start, least_weight, mark_in, mark, substitute}
use Rattle.rules.specs.Steps.{changed, without, replaced, leapt}
use Rattle.theory.specs.Tests.{ltb?, eqb?}
use Rattle.theory.specs.All.{in_mid, all_map, all_in}
use Rattle.theory.specs.Bounds.{RowFine}
use Rattle.theory.specs.Full.{Fine, Rising, plan_feas, plan_full, plan_due}
use Rattle.theory.specs.Marks.{next, start}
use Rattle.theory.specs.Change.{rising_above, rising_changed}
use Rattle.theory.specs.Send.{next_by}
use Rattle.theory.specs.Leap.{no_shift}
use Rattle.theory.specs.Same.{row_ticket}
use Rattle.theory.specs.Unique.{rising_other}
use Rattle.theory.specs.Keys.{getD_in}
use Rattle.theory.specs.Members.{RowsOfPlan}
use Rattle.theory.specs.Chain.{Linked, shifted_to_end, moves, chain_is, chain_other}

-- THE ROWS AFTER THE SHIFTS, each on its own
unfoldable pub each : (Row → Row) → List Row → List Row
each m [] = []
each m (x ∷ xs) = m x ∷ each m xs

unfoldable pub final_row : Round → (e : ℕ) → (hs : List Row) → Row → Row
final_row r e [] x = x
final_row r e (h ∷ hs) x = cond (eqb x.ticket h.ticket) (shifted_to_end r e h) (final_row r (tight_after r (plan r) h.due) hs x)

pub final_other : (r : Round) (e : ℕ) (hs : List Row) (x : Row) → All (λ h. h.ticket ≢ x.ticket) hs → final_row r e hs x ≡ x
unfolding final_row
final_other r e [] x a = refl
final_other r e (h ∷ hs) x a = rw (ne_eqb x.ticket h.ticket (λ q. a.0 (sym q))) (final_other r (tight_after r (plan r) h.due) hs x a.1)

-- the end before a link
unfoldable pub end_after : Round → (e : ℕ) → List Row → ℕ
end_after r e [] = e
end_after r e (h ∷ hs) = end_after r (tight_after r (plan r) h.due) hs

pub moved_ticket : (r : Round) (e : ℕ) (h : Row) → (shifted_to_end r e h).ticket ≡ h.ticket
unfolding shifted_to_end row
moved_ticket r e h = refl

pub each_changed : (m n : Row → Row) (k a b : ℕ) (y : Row) → m y ≡ n y → ((x : Row) → x.ticket ≢ k → m x ≡ n x) → (xs : List Row) → Rising a b xs →
    ((x : Row) → x.ticket ≡ k → n x ≡ m y) → each m (changed k y xs) ≡ each n xs
unfolding each changed
each_changed m n k a b y e o [] s h = refl
each_changed m n k a b y e o (x ∷ xs) s h = elim (eqb? x.ticket k) [
  | inl q ↦ rw q.0 (ap₂ (λ (z : Row) (zs : List Row). z ∷ zs) (sym (h x q.1))
      (all_same xs (all_map {Q = λ z. z.ticket ≢ k} (λ z (u : x.ticket ≢ z.ticket) (v : z.ticket ≡ k). u (q.1 ∙ sym v)) xs (rising_other b x xs s.1))))
  | inr q ↦ rw q.0 (ap₂ (λ (z : Row) (zs : List Row). z ∷ zs) (o x q.1) (each_changed m n k (suc x.ticket) b y e o xs s.1 h))
]
  where
    all_same : (zs : List Row) → All (λ z. z.ticket ≢ k) zs → each m zs ≡ each n zs
    all_same [] u = refl
    all_same (z ∷ zs) u = ap₂ (λ (z : Row) (zs : List Row). z ∷ zs) (o z u.0) (all_same zs u.1)

pub rising_moves : (r : Round) (a b e : ℕ) (hs xs : List Row) → Rising a b xs → Rising a b (moves r e hs xs)
unfolding moves
rising_moves r a b e [] xs s = s
rising_moves r a b e (h ∷ hs) xs s =
    rising_moves r a b (tight_after r (plan r) h.due) hs (changed h.ticket (shifted_to_end r e h) xs)
    (rising_changed a b h.ticket (shifted_to_end r e h) (moved_ticket r e h) xs s)

-- a row changed by its ticket is one changed by its index
pub changed_at : (a b : ℕ) (xs : List Row) (i : ℕ) (z y : Row) → Rising a b xs → i < length xs → changed (get_or xs i z).ticket y xs ≡ set xs i y
unfolding changed
changed_at a b [] i z y s h = absurd (omega arith)
changed_at a b (x ∷ xs) zero z y s h = rw (eq-eqb x.ticket x.ticket refl)
changed_at a b (x ∷ xs) (suc i) z y s h =
    rw (ne_eqb x.ticket (get_or xs i z).ticket
    (λ e. omega (arith, e, rising_above (suc x.ticket) b (get_or xs i z) xs s.1 (getD_in xs z i (omega arith)))))
    (ap (λ (zs : List Row). x ∷ zs) (changed_at (suc x.ticket) b xs i z y s.1 (omega arith)))

-- a change after a pass that keeps tickets is one more case of the pass
unfoldable pub or_changed : (k : ℕ) → (y : Row) → (Row → Row) → Row → Row
or_changed k y m x = cond (eqb x.ticket k) y (m x)

pub changed_each : (k : ℕ) (y : Row) (m : Row → Row) → ((x : Row) → (m x).ticket ≡ x.ticket) → (a b : ℕ) (xs : List Row) → Rising a b xs →
    changed k y (each m xs) ≡ each (or_changed k y m) xs
unfolding changed each or_changed
changed_each k y m h a b [] s = refl
changed_each k y m h a b (x ∷ xs) s = elim (eqb? x.ticket k) [
  | inl e ↦ rw (e.0, eq-eqb (m x).ticket k (h x ∙ e.1)) (ap (λ (zs : List Row). y ∷ zs) (rest xs
      (all_map {Q = λ z. z.ticket ≢ k} (λ z (u : x.ticket ≢ z.ticket) (v : z.ticket ≡ k). u (e.1 ∙ sym v)) xs (rising_other b x xs s.1))))
  | inr e ↦ rw (e.0, ne_eqb (m x).ticket k (λ q. e.1 (sym (h x) ∙ q)))
      (ap (λ (zs : List Row). m x ∷ zs) (changed_each k y m h (suc x.ticket) b xs s.1))
]
  where
    rest : (zs : List Row) → All (λ z. z.ticket ≢ k) zs → each m zs ≡ each (λ x. cond (eqb x.ticket k) y (m x)) zs
    rest [] u = refl
    rest (z ∷ zs) u = rw (ne_eqb z.ticket k u.0) (ap (λ (ws : List Row). m z ∷ ws) (rest zs u.1))

pub final_ticket : (r : Round) (e : ℕ) (hs : List Row) (x : Row) → (final_row r e hs x).ticket ≡ x.ticket
unfolding final_row
final_ticket r e [] x = refl
final_ticket r e (h ∷ hs) x = elim (eqb? x.ticket h.ticket) [
  | inl q ↦ rw q.0 (moved_ticket r e h ∙ sym q.1)
  | inr q ↦ rw q.0 (final_ticket r (tight_after r (plan r) h.due) hs x)
]

pub length_each : (m : Row → Row) (xs : List Row) → length (each m xs) ≡ length xs
unfolding each
length_each m [] = refl
length_each m (x ∷ xs) = ap suc (length_each m xs)

pub each_at : (m : Row → Row) (xs : List Row) (i : ℕ) (z : Row) → i < length xs → get_or (each m xs) i z ≡ m (get_or xs i z)
unfolding each
each_at m [] i z h = absurd (omega arith)
each_at m (x ∷ xs) zero z h = refl
each_at m (x ∷ xs) (suc i) z h = each_at m xs i z (omega arith)

pub each_self : (r : Round) (e : ℕ) (zs : List Row) → each (final_row r e []) zs ≡ zs
unfolding each final_row
each_self r e [] = refl
each_self r e (z ∷ zs) = ap (λ (ws : List Row). z ∷ ws) (each_self r e zs)

pub mark_in_is : (r : Round) (b : ℕ) → mark_in r (plan r) b ≡ mark r b
unfolding mark
mark_in_is r b = refl

module _ (r : Round) (f : Fine r) (rs : List Row) (c : RowsOfPlan r rs) where
  pub moves_each : (a b e g : ℕ) (hs xs : List Row) → Rising a b xs → Linked r rs e g hs → moves r e hs xs ≡ each (final_row r e hs) xs
  unfolding moves final_row
  moves_each a b e g [] xs s k = sym (each_self r e xs)
  moves_each a b e g (h ∷ hs) xs s k =
      let e2 = tight_after r (plan r) h.due in
      let y = shifted_to_end r e h in
      let u : final_row r e2 hs y ≡ y =
      final_other r e2 hs y (all_map {Q = λ z. z.ticket ≢ y.ticket} (λ z (w : h.ticket ≢ z.ticket) (q : z.ticket ≡ y.ticket). w
      (sym (q ∙ moved_ticket r e h))) hs
      (chain_other r f rs c e g h hs k)) in
      moves_each a b e2 g hs (changed h.ticket y xs) (rising_changed a b h.ticket y (moved_ticket r e h) xs s) k.1
      ∙ each_changed (final_row r e2 hs) (final_row r e (h ∷ hs)) h.ticket a b y
      (u ∙ sym (hit y (moved_ticket r e h))) (λ x n. sym (miss x n)) xs s (λ x q. hit x q ∙ sym u)
    where
      hit : (x : Row) → x.ticket ≡ h.ticket → final_row r e (h ∷ hs) x ≡ shifted_to_end r e h
      hit x q = rw (eq-eqb x.ticket h.ticket q)

      miss : (x : Row) → x.ticket ≢ h.ticket → final_row r e (h ∷ hs) x ≡ final_row r (tight_after r (plan r) h.due) hs x
      miss x q = rw (ne_eqb x.ticket h.ticket q)

  -- a link gets the end before it, every other row stays
  pub final_link : (e g : ℕ) (ks ls : List Row) (h x : Row) → Linked r rs e g (ks ++ (h ∷ ls)) → x.ticket ≡ h.ticket →
      final_row r e (ks ++ (h ∷ ls)) x ≡ shifted_to_end r (end_after r e ks) h
  unfolding final_row end_after
  final_link e g [] ls h x k q = rw (eq-eqb x.ticket h.ticket q)
  final_link e g (z ∷ ks) ls h x k q =
      rw (ne_eqb x.ticket z.ticket (λ d. all_in (λ y. z.ticket ≢ y.ticket) h (ks ++ (h ∷ ls))
      (chain_other r f rs c e g z (ks ++ (h ∷ ls)) k) (in_mid h ks ls) (sym d ∙ q)))
      (final_link (tight_after r (plan r) z.due) g ks ls h x k.1 q)

  -- WITH A ROW for substitute
  pub leapt_row : (p s : Row) (hs : List Row) → substitute r (plan r) p ≡ s → In s r.rows →
      Linked r rs (tight_after r (plan r) p.due) (tight_after r (plan r) s.due) hs →
      leapt r (plan r) p ≡ without p.ticket
      (changed s.ticket (row s.ticket s.due (mark r s.due) s.tail) (moves r (tight_after r (plan r) p.due) hs r.rows))
  unfolding leapt replaced mark
  leapt_row p s hs e i k =
      let n = next r (plan r) s.due (all_in (RowFine r) s r.rows f.fine i).due_by (plan_full r f) in
      let t = all_in (λ y. 1 ≤ y.ticket) s r.rows (row_ticket r f) i in
      rw (
        e,
        ne_eqb s.ticket 0 (λ q. omega (arith, q, t)),
        chain_is r f rs c (suc r.last) (tight_after r (plan r) p.due) (tight_after r (plan r) s.due) hs r.rows (omega (arith, n.by)) k,
      )

  -- the segment's own blank: one end, one mark, no shift
  pub start_end : (p : Row) → In p (plan r) → tight_after r (plan r) (segment_start r (plan r) p.due) ≡ tight_after r (plan r) p.due
  start_end p i =
      let u = all_in (λ x. (r.slot ≤ x.due) × (x.due ≤ r.last)) p (plan r) (plan_due r f) i in
      let b = segment_start r (plan r) p.due in
      let st = start r (plan r) p.due (plan_feas r f) f.time u.0 in
      let n = next r (plan r) p.due u.1 (plan_full r f) in
      let m = next r (plan r) b (omega (arith, st.by, u.1)) (plan_full r f) in
      omega (
        arith,
        next_by r (plan r) b (tight_after r (plan r) b) (tight_after r (plan r) p.due) m (omega (arith, st.by, n.from)) n.tight,
        elim (ltb? (tight_after r (plan r) b) p.due) as (λ _. tight_after r (plan r) p.due ≤ tight_after r (plan r) b) [
          | inl a ↦ absurd (st.none (tight_after r (plan r) b) m.from a.1 m.tight)
          | inr a ↦ next_by r (plan r) p.due (tight_after r (plan r) p.due) (tight_after r (plan r) b) n a.1 m.tight
        ],
      )

  pub start_mark : (p : Row) → In p (plan r) → mark r (segment_start r (plan r) p.due) ≡ mark r p.due
  unfolding mark mark_in
  start_mark p i = ap (λ z. least_weight z (plan r) 16777216) (start_end p i)

  -- WITH A BLANK
  pub leapt_blank : (p : Row) → In p (plan r) → substitute r (plan r) p ≡ blank (segment_start r (plan r) p.due) →
      leapt r (plan r) p ≡ cond (ltb 0 (mark r p.due))
      (changed p.ticket (row p.ticket (segment_start r (plan r) p.due) (mark r p.due) blank_tail) r.rows) (without p.ticket r.rows)
  unfolding leapt replaced blank
  leapt_blank p i e =
      let b = segment_start r (plan r) p.due in
      let m : mark_in r (plan r) b ≡ mark r p.due = mark_in_is r b ∙ start_mark p i in
      rw (e, no_shift (suc r.last) r (tight_after r (plan r) p.due) (tight_after r (plan r) b) r.rows (omega (arith, start_end p i)), m)
