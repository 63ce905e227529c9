-- Silence, a row that leaves alone, and a blank kept in a row.
use mathlib.Core.Path.{◌≡◌, refl, sym, ap, ◌∙◌, subst}
use mathlib.Core.Bool.{Bool, true, false, cond}
use mathlib.Core.List.{List, [], ◌∷◌}
use Prim.Native.Nat.{ℕ, suc, ◌≤◌, ◌<◌}
use native.Mathlib.Omega.{arith}
use lib.ListN.{length}
use borrow.Author.Tests.{ne_eqb}
use Rattle.sorts.specs.declared.Ticket.{Ticket}
use Rattle.rules.specs.Rows.{Row, Round, row, blank}
use Rattle.rules.specs.Plan.{planned}
use Rattle.rules.specs.Steps.{kept_at, changed}
use Rattle.rules.specs.Conditions.{row_at}
use Rattle.rules.specs.Table.{table_refusal, round_in}
use Rattle.row.specs.Written.{with_kept}
use Rattle.theory.specs.Bounds.{kept_right}
use Rattle.theory.specs.Feas.{num, below_1}
use Rattle.theory.specs.Members.{planned_rows}
use Rattle.theory.specs.Sane.{sound}
use Rattle.theory.specs.Whole.{Sends, sends_silence}
use Rattle.sorts.specs.declared.Round.{Round as Head}
use Rattle.head.specs.Head.{HeadOf}
use Rattle.round.specs.Rows.{Ready, TicketAt, KeptAt, at}
use Rattle.round.proofs.ReadLaws.{known, reads_within}
use Rattle.closing.specs.Close.{DueNow, gone_ticket, closed_up}
use Rattle.chain.proofs.MoveLaws.{table_kept}
use Rattle.rules.specs.Calls as rules
use Rattle.replies.specs.declared.Out.{Out}
use Rattle.replies.specs.declared.Out.TheVariants.{Frame, KeptBlank}
use Rattle.replies.specs.declared.Step.{Step}
use Rattle.replies.specs.declared.Step.TheVariants.{Ordinary, Leap}
use Rattle.replies.specs.Replies.{of_out, of_step}
use Rattle.went.specs.Send.{OutOf, Silent, Gone, SentSays, LeavesAlone, KeepsBlank}
use Rattle.went.proofs.StandLaws.{Stood, stood, stood_closed, alone_closed, self_table, sent_says, fit_self, fit_changed}
use Rattle.went.proofs.LeaveLaws.{gone_row, gone_none, late_changed, due_stood}

-- WHAT GOES OUT
pub kept_goes : {r : Round} {i : ℕ} {k : Ticket} → TicketAt r i k.0 → KeptAt r i true → OutOf (at r i) (KeptBlank k)
unfolding rules.out_of
kept_goes {r} {i} {k} a b = record { is = rw (ne_eqb (at r i).ticket 0 (λ q. omega (arith, q, a.is, a.some)), b) (ap rules.kept_blank a.is) }

pub frame_goes : {r : Round} {i : ℕ} {k : Ticket} → TicketAt r i k.0 → KeptAt r i false → OutOf (at r i) (Frame k)
unfolding rules.out_of
frame_goes {r} {i} {k} a b = record { is = rw (ne_eqb (at r i).ticket 0 (λ q. omega (arith, q, a.is, a.some)), b) (ap rules.frame a.is) }

-- SILENCE
no_rows : (xs : List Row) → length xs ≡ 0 → xs ≡ []
no_rows [] e = refl
no_rows (x ∷ xs) e = absurd (omega arith)

pub num_most : (e : ℕ) (xs : List Row) → num 0 e xs ≤ length xs
num_most e [] = omega arith
num_most e (x ∷ xs) = omega (arith, below_1 0 e x, num_most e xs)

module _ {t : List ℕ} {h : Head} (k : Ready t h) where
  -- what sending says, where it is a blank's turn
  pub silence_says : Sends (round_in t) (blank (round_in t).slot) true 0 (round_in t).rows → {u : List ℕ} {w : Step} → Silent t u w → SentSays t u w
  unfolding blank rules.out_of
  silence_says e {u} {w} s =
      let r = round_in t in
      sent_says t h k (blank r.slot) false 0 r.rows u w e (alone_closed t u 0 s.leaves) s.answers

  -- where no row waits it is, and none is due now
  module _ (e : h.used ≡ 0) where
    none_waits : (round_in t).rows ≡ []
    none_waits = no_rows (round_in t).rows (omega (arith, e, (known t h k).used))

    pub none_sends : Sends (round_in t) (blank (round_in t).slot) true 0 (round_in t).rows
    none_sends =
        let r = round_in t in
        let n = known t h k in
        subst (λ (xs : List Row). Sends r (blank r.slot) true 0 xs) (sym none_waits)
        (sends_silence r n.fine n.time (planned r) (planned_rows r n.fine) none_waits)

    pub none_due : DueNow t 0
    none_due = omega (arith, e, (known t h k).used, num_most (suc (round_in t).slot) (round_in t).rows)

-- ALONE, in either step
pub alone_says : {t : List ℕ} {h : Head} (leaps : Bool) {j : ℕ} {v : List ℕ} {o : Out} (w : Step) → LeavesAlone t h leaps j → Gone t v j o →
    of_step w ≡ cond leaps (rules.leap (of_out o)) (rules.ordinary (of_out o)) → SentSays t v w
alone_says {t} {h} leaps {j} {v} {o} w a g d =
    let r = round_in t in
    sent_says t h a.ready (at r j) leaps (at r j).ticket r.rows v w a.sends
    (alone_closed t v (at r j).ticket (g.leaves ∙ ap (λ (k : ℕ). closed_up k t) (gone_row t h a.ready.head j a.below)))
    (rw (← g.out.is) d)

pub alone_asks : {t : List ℕ} {h : Head} {leaps : Bool} {j n : ℕ} → LeavesAlone t h leaps j → DueNow t n → Ready t h × (j < h.used) × DueNow t n
alone_asks a d = (a.ready, a.below, d)

pub alone_goes : {t : List ℕ} {h : Head} {j : ℕ} {v : List ℕ} {o : Out} → LeavesAlone t h false j → Gone t v j o → SentSays t v (Ordinary o)
alone_goes {o = o} a g = alone_says false (Ordinary o) a g refl

pub alone_leaps : {t : List ℕ} {h : Head} {j : ℕ} {v : List ℕ} {o : Out} → LeavesAlone t h true j → Gone t v j o → SentSays t v (Leap o)
alone_leaps {o = o} a g = alone_says true (Leap o) a g refl

-- THE BLANK KEPT
module _ {t : List ℕ} {h : Head} {j b m : ℕ} (a : KeepsBlank t h j b m) where
  abbrev r : Round
  r = round_in t

  abbrev ys : List Row
  ys = changed (at r j).ticket (kept_at b m (at r j)) r.rows

  there : j < length r.rows
  there = omega (arith, a.below, (known t h a.ready).used)

  pub kept_there : (j < 1024) × (row_at (suc j) ≤ length t)
  kept_there =
      let n = known t h a.ready in
      (omega (arith, there, n.small), omega (arith, (reads_within t h a.ready j a.below).1))

  module _ {u : List ℕ} (d : u ≡ with_kept t j b m) where
    kept_stood : Stood t h ys u
    unfolding row
    kept_stood =
        let z = (sound t a.ready.sound).sane in
        stood t h ys u a.ready
        (fit_changed r r.rows (at r j).ticket (kept_at b m (at r j)) (fit_self r z) refl
        (record { due_from = omega (arith, a.later); due_by = a.by; some = a.some; most = a.most; class = omega arith })
        kept_right)
        (d
        ∙ ap (λ (bs : List ℕ). with_kept bs j b m) (self_table t a.ready.sound)
        ∙ sym (table_kept r r.rows 1 j z.fine.rising there b m))

    pub kept_good : (table_refusal u ≡ 0) × HeadOf u h
    kept_good = (kept_stood.sound, kept_stood.head)

    -- no more rows are due now
    pub kept_due : {n : ℕ} → DueNow t n → DueNow u n
    unfolding row
    kept_due {n} q =
        due_stood t h ys u kept_stood n q (late_changed (suc r.slot) (at r j).ticket (kept_at b m (at r j)) (omega (arith, a.later)) r.rows)

    pub kept_says : {v : List ℕ} {o : Out} → OutOf (at r j) o → v ≡ closed_up (gone_ticket u h.used) u → SentSays t v (Leap o)
    kept_says {v} {o} g s =
        sent_says t h a.ready (at r j) true 0 ys v (Leap o) a.sends
        (stood_closed t h ys u v 0 kept_stood (s ∙ ap (λ (n : ℕ). closed_up n u) (gone_none u h kept_stood.head))) (ap rules.leap g.is)
