-- The frames that a sending leaves: where each comes from, and that what goes out is a waiting frame or counts nothing.
use Rattle.std.specs.Prelude.{◌≡◌, ◌⊎◌, List, [], ◌∷◌, ℕ, suc, ◌≤◌}
use Rattle.std.proofs.Common.{sym, ◌∙◌, inl, inr, arith}
use Rattle.std.proofs.Math.Path.{ap}
use Rattle.rules.specs.Rows.{In, Round, Row, row}
use Rattle.rules.specs.Plan.{first_end, plan}
use Rattle.rules.specs.Steps.{goes, sent}
use Rattle.rules.specs.Calls.{frame, out_of}
use Rattle.rules.specs.StepsOf.{Becomes, Chain, Every, GoesOut, Leap, Leaves, Other, Shift, Shifted, Unchanged, end_of, stands_in}
use Rattle.rules.specs.Hindsight.{counts_for}
use Rattle.theory.specs.Tests.{eqb?, leb?}
use Rattle.theory.specs.All.{blank_ticket}
use Rattle.theory.specs.Full.{Fine, plan_member}
use Rattle.theory.specs.Change.{rising_same}
use Rattle.theory.specs.Turn.{goes_in}
use Rattle.theory.specs.RowByRow.{nothing_else}
use Rattle.theory.specs.Steps.{makes}

-- WHERE A FRAME THAT WAITS COMES FROM: a frame of the round before, its ticket the same and its due slot no earlier; not what goes out
abbrev pub Was : Round → Row → Row → Type 0
Was r y x = (x.ticket ≡ y.ticket) × (y.due ≤ x.due) × (x.tail.kind ≡ 0) × Other x (goes r)

-- a row shifted goes to an earlier slot
pub shifted_was : (r : Round) → Fine r → (g : ℕ) (x : Row) → In x r.rows → (e c : ℕ) (cs : List Shift) → Chain r g c cs →
    Every (λ d. In d.h r.rows × Other d.h (goes r) × Other d.h (stands_in r)) cs → Shifted cs x e → (e ≤ x.due) × Other x (goes r)
shifted_was r f g x i e c [] ch w s = absurd s
shifted_was r f g x i e c (d ∷ cs) ch w (inl s) =
    let q : x ≡ d.h = rising_same 1 r.next x d.h r.rows f.rising i w.0.0 s.0 in
    (omega (arith, s.1, ch.1, ch.2.after, ap (λ (z : Row). z.due) q), λ z. w.0.1 (sym s.0 ∙ z))
shifted_was r f g x i e c (d ∷ cs) ch w (inr s) = shifted_was r f g x i e (end_of r d.h) cs ch.3 w.1 s

module _ (r : Round) (f : Fine r) (y : Row) (k : y.tail.kind ≡ 0) where
  -- in an ordinary step
  pub unchanged_was : (x : Row) → Unchanged r x y → Was r y x
  unchanged_was x u = (
    ap (λ (z : Row). z.ticket) (sym u.1),
    omega (arith, ap (λ (z : Row). z.due) u.1),
    omega (arith, k, ap (λ (z : Row). z.tail.kind) u.1),
    u.0,
  )

  -- in a leap: a kept blank is no frame
  pub becomes_was : (zs : List Row) (l : Leap r zs) (x : Row) → In x r.rows → Becomes r l.shifts x y → Was r y x
  unfolding row
  becomes_was zs l x i (inl b) = absurd (omega (arith, k, ap (λ (z : Row). z.tail.kind) b.2))
  becomes_was zs l x i (inr (inl b)) =
      let s = shifted_was r f (end_of r (stands_in r)) x i b.0 (end_of r (goes r)) l.shifts l.chain l.waiting b.1 in (
        ap (λ (z : Row). z.ticket) (sym b.2),
        omega (arith, s.0, ap (λ (z : Row). z.due) b.2),
        omega (arith, k, ap (λ (z : Row). z.tail.kind) b.2),
        s.1,
      )
  becomes_was zs l x i (inr (inr (inl b))) = (
    ap (λ (z : Row). z.ticket) (sym b.2),
    omega (arith, ap (λ (z : Row). z.due) b.2),
    omega (arith, k, ap (λ (z : Row). z.tail.kind) b.2),
    b.1,
  )
  becomes_was zs l x i (inr (inr (inr b))) = unchanged_was x (b.0, b.3)

  -- in either
  pub was : r.slot ≤ r.last → In y (sent r).rows → (x : Row) × In x r.rows × Was r y x
  was o j =
      let m = makes r f o in
      let t = suc r.slot in
      elim (leb? (goes r).due (first_end r (plan r))) [
        | inl h ↦
            let v = nothing_else t (GoesOut r) (Unchanged r) r.rows (sent r).rows (m.ordinary h.1) y j in
            (v.0, v.1, unchanged_was v.0 v.2)
        | inr h ↦
            let l = m.leap h.1 in
            let v = nothing_else t (Leaves r) (Becomes r l.shifts) r.rows (sent r).rows l.each_row y j in
            (v.0, v.1, becomes_was (sent r).rows l v.0 v.1 v.2)
      ]

-- A FRAME GOES OUT that is a waiting row, or nothing that counts
pub counts? : (r : Round) → Fine r → r.slot ≤ r.last →
    (In (goes r) r.rows × ((goes r).tail.kind ≡ 0) × (out_of (goes r) ≡ frame (goes r).ticket)) ⊎ ((g : ℕ → ℕ) → counts_for g (out_of (goes r)) ≡ 0)
unfolding out_of counts_for
counts? r f o =
    let p = goes r in
    elim (eqb? p.ticket 0) [
      | inl e ↦ inr (λ g. rw e.0)
      | inr e ↦ elim (eqb? p.tail.kind 0) [
        | inl c ↦ elim (plan_member r p (goes_in r f o)) [
          | inl i ↦ inl (i, c.1, rw (e.0, c.0))
          | inr b ↦ absurd (e.1 (blank_ticket p b.0))
        ]
        | inr c ↦ inr (λ g. rw (e.0, c.0))
      ]
    ]
