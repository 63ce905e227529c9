-- The heaviest row of a later segment leaps, onto a blank or onto a row left out.
use mathlib.Core.Path.{◌≡◌, refl, sym, ap, ap₂, ◌∙◌, subst}
use mathlib.Core.Logic.{inl, inr, ◌≢◌}
use mathlib.Core.Bool.{true, false}
use mathlib.Core.List.{List}
use Prim.Native.Nat.{ℕ, suc, ◌+◌, ◌≤◌, ◌<◌}
use native.Mathlib.Omega.{arith}
use lib.ListN.{length, get_or}
use Rattle.rules.specs.Rows.{Row, Round, row, blank, All, In}
use Rattle.rules.specs.Plan.{plan, planned, in_plan, mark}
use Rattle.rules.specs.Steps.{changed}
use Rattle.rules.specs.Conditions.{row_at}
use Rattle.rules.specs.Table.{table, table_refusal, round_in}
use Rattle.row.specs.Written.{with_weight}
use Rattle.theory.specs.Tests.{ltb?}
use Rattle.theory.specs.All.{all_in, all_map, blank_weight}
use Rattle.theory.specs.Bounds.{RowFine, TailFine}
use Rattle.theory.specs.Chain.{moves, chain_after}
use Rattle.theory.specs.Change.{rising_same}
use Rattle.theory.specs.Full.{Fine}
use Rattle.theory.specs.Keys.{getD_in}
use Rattle.theory.specs.Leaping.{rising_moves}
use Rattle.theory.specs.Marks.{mark_limit}
use Rattle.theory.specs.Members.{RowsOfPlan, planned_rows, of_rows_in, in_plan_is, not_found}
use Rattle.theory.specs.Sane.{sound}
use Rattle.theory.specs.Whole.{Sends, length_moves}
use Rattle.picture.specs.Picture.{Spans}
use Rattle.picture.proofs.LeapSends.{blank_sends, row_sends}
use Rattle.sorts.specs.declared.Round.{Round as Head}
use Rattle.head.specs.Head.{HeadOf}
use Rattle.round.specs.Rows.{at}
use Rattle.round.proofs.ReadLaws.{Known, known}
use Rattle.keys.proofs.KeyLaws.{row_fine, due_is, row_is}
use Rattle.keys.specs.Key.{due_of, row_of}
use Rattle.closing.specs.Close.{DueNow, gone_ticket, closed_up}
use Rattle.lead.specs.declared.Lead.{Lead}
use Rattle.chain.specs.Chain.{start_of, LiesIn, Lowered, Chained, having, Shifts}
use Rattle.chain.proofs.MarkLaws.{start_later, marked, mark_some}
use Rattle.chain.proofs.MoveLaws.{table_weight, moves_other, length_having}
use Rattle.rules.specs.Calls.{leap}
use Rattle.replies.specs.declared.Out.{Out}
use Rattle.replies.specs.declared.Step.TheVariants.{Leap}
use Rattle.went.specs.Send.{OutOf, SentSays, KeepsBlank}
use Rattle.leap.specs.Leap.{Leaps, LeapsBlank, LeapsRow}
use Rattle.went.proofs.StandLaws.{RowsFit, Stood, stood, stood_closed, sent_says, fit_self, fit_changed, fit_moves}
use Rattle.went.proofs.LeaveLaws.{changed_tickets, moves_tickets, gone_stood, same_changed, late_moves, due_stood}

mark_most : (r : Round) (e : ℕ) → mark r e ≤ 16777216
unfolding mark
mark_most r e = mark_limit r (plan r) e

row_ticket_is : (x : Row) (d m : ℕ) → (row x.ticket d m x.tail).ticket ≡ x.ticket
unfolding row
row_ticket_is x d m = refl

module _ {t : List ℕ} {h : Head} {es ts ls : List ℕ} {l : Lead} (w : Leaps t h es ts ls l) where
  abbrev r : Round
  r = round_in t

  abbrev own : ℕ
  own = l.segment

  -- the first slot of its segment, and the last
  abbrev b : ℕ
  b = suc (get_or es (suc own) 0)

  abbrev e : ℕ
  e = get_or es own 0

  pub leap_known : Known t h
  leap_known = known t h w.ready

  pub own_spans : Spans (round_in t) (suc (get_or es (suc l.segment) 0)) (get_or es l.segment 0)
  own_spans =
      subst (λ (v : ℕ). Spans r v e) (start_later r.slot l.count es own w.later) (w.pieces.piece own (omega (arith, w.later))).spans

  pub own_later : (round_in t).slot < suc (get_or es (suc l.segment) 0)
  own_later = let q = (w.pieces.piece (suc own) w.later).spans in omega (arith, q.from, q.by)

  -- the key names the row that goes
  pub leap_row_is : {j : ℕ} → j ≡ row_of l.key → j ≡ w.row
  leap_row_is {j} d =
      let n = leap_known in
      d ∙ ap row_of w.key ∙ row_is r n.fine n.small n.cap w.row w.below

  pub leap_used : {j : ℕ} → j ≡ row_of l.key → j < h.used
  leap_used d = omega (arith, leap_row_is d, w.below, leap_known.used)

-- ONTO A BLANK
module _ {t : List ℕ} {h : Head} {es ts ls : List ℕ} {l : Lead} (w : LeapsBlank t h es ts ls l) where
  pub blank_fits : get_or es (l.segment + 1) 0 ≤ 4095
  blank_fits =
      let q : suc l.segment ≡ l.segment + 1 = omega arith in
      let s = (w.leaps.pieces.piece (suc l.segment) w.leaps.later).spans in
      omega (arith, s.ahead, (leap_known w.leaps).cap, ap (λ (k : ℕ). get_or es k 0) q)

  pub blank_keeps : {us : List ℕ} → Lowered l.count l.segment ls us → {j : ℕ} → j ≡ row_of l.key →
      KeepsBlank t h j (get_or es (l.segment + 1) 0 + 1) (get_or us l.segment 0)
  blank_keeps {us} m {j} d =
      let r = round_in t in
      let v = w.leaps in
      let n = leap_known v in
      let own = l.segment in
      let k : own < l.count = omega (arith, v.later) in
      let s = own_spans v in
      let x = (marked r n.fine l.count own es ts ls us v.pieces m).mark own (omega arith) k in
      let y = mark_some r n.fine l.count own es ts ls us v.pieces m own (omega arith) k in
      let q : suc own ≡ own + 1 = omega arith in
      let q1 : suc (get_or es (suc own) 0) ≡ get_or es (own + 1) 0 + 1 = omega (arith, ap (λ (k : ℕ). get_or es k 0) q) in
      let i = leap_row_is v d in
      record {
        ready = v.ready;
        below = leap_used v d;
        later = omega (arith, own_later v, q1);
        by = omega (arith, s.by, s.ahead, q1);
        some = y;
        most = omega (arith, x, mark_most r (get_or es own 0));
        sends =
            rw (i, ← q1, x)
            (blank_sends r n.fine n.time (planned r) (planned_rows r n.fine) (suc (get_or es (suc own) 0)) (get_or es own 0) s (at r v.row)
            v.goes v.member v.from v.by (own_later v) w.none (omega (arith, x, y)));
      }

-- ONTO A ROW LEFT OUT
module _ {t : List ℕ} {h : Head} {es ts ls : List ℕ} {l : Lead} (w : LeapsRow t h es ts ls l) where
  abbrev v : Leaps t h es ts ls l
  v = w.leaps

  abbrev f : Fine (round_in t)
  f = (known t h w.leaps.ready).fine

  abbrev rs : List Row
  rs = planned (round_in t)

  abbrev y : Row
  y = at (round_in t) w.row

  c : RowsOfPlan (round_in t) (planned (round_in t))
  c = planned_rows (round_in t) f

  y_in : In y (round_in t).rows
  y_in = getD_in (round_in t).rows (blank 0) w.row w.below

  y_fine : RowFine (round_in t) y
  y_fine = let n = leap_known v in row_fine (round_in t) n.fine n.small n.cap w.row w.below

  y_out : in_plan y rs ≡ false
  y_out = elim w.left.of.1 [
    | inl a ↦ sym (in_plan_is (round_in t) f rs c y a.0) ∙ a.1
    | inr a ↦ absurd (omega (arith, blank_weight y a.0, y_fine.some))
  ]

  other_due : {d : ℕ} → d ≡ due_of l.other → d ≡ y.due
  other_due {d} a =
      let n = leap_known v in
      a ∙ ap due_of w.key ∙ due_is (round_in t) n.fine n.small n.cap w.row w.below

  other_row : {j : ℕ} → j ≡ row_of l.other → j ≡ w.row
  other_row {j} a =
      let n = leap_known v in a ∙ ap row_of w.key ∙ row_is (round_in t) n.fine n.small n.cap w.row w.below

  pub swap_own : l.segment < length es
  swap_own = omega (arith, v.later, v.pieces.ends)

  pub swap_near : {d : ℕ} → d ≡ due_of l.other → d ≤ get_or es 0 0
  swap_near a = omega (arith, other_due a, w.near)

  module _ {d to : ℕ} (a : d ≡ due_of l.other) (z : LiesIn es l.segment d to) where
    to_in : to < l.count
    to_in = omega (arith, z.by, v.later)

    to_from : start_of (round_in t).slot l.count es to ≤ y.due
    to_from = elim (ltb? to l.segment) [
      | inl q ↦ omega (
        arith,
        start_later (round_in t).slot l.count es to (omega (arith, q.1, v.later)),
        z.behind q.1,
        other_due a,
      )
      | inr q ↦
          let i : to ≡ l.segment = omega (arith, q.1, z.by) in
          omega (
            arith,
            ap (start_of (round_in t).slot l.count es) i,
            start_later (round_in t).slot l.count es l.segment v.later,
            w.left.of.0,
          )
    ]

    -- WHAT THE PASS GOES BY
    pub swap_chained : {us : List ℕ} → Lowered l.count to ls us → Chained t es ts us to l.segment
    swap_chained {us} m =
        record {
          head = h;
          ready = v.ready;
          count = l.count;
          lows = ls;
          pieces = v.pieces;
          marks = marked (round_in t) f l.count to es ts ls us v.pieces m;
          order = z.by;
          within = omega (arith, v.later);
        }

    module _ {us : List ℕ} (m : Lowered l.count to ls us) {u : List ℕ} (s : Shifts (round_in t) (get_or es l.segment 0) (get_or es to 0) u) {j : ℕ}
        (jo : j ≡ row_of l.other) where
      abbrev g : ℕ
      g = get_or es to 0

      abbrev eo : ℕ
      eo = get_or es l.segment 0

      abbrev xs : List Row
      xs = moves (round_in t) eo s.links (round_in t).rows

      abbrev mk : ℕ
      mk = get_or us to 0

      abbrev ys : List Row
      ys = changed y.ticket (row y.ticket y.due mk y.tail) xs

      mk_is : mk ≡ mark (round_in t) g
      mk_is = (marked (round_in t) f l.count to es ts ls us v.pieces m).mark to (omega arith) to_in

      xs_long : length xs ≡ length (round_in t).rows
      xs_long = length_moves (round_in t) eo s.links (round_in t).rows

      -- the row left out is no link
      y_other : All (λ x. x.ticket ≢ y.ticket) s.links
      y_other =
          all_map {Q = λ x. x.ticket ≢ y.ticket}
          (λ x (q : (In x rs) × (eo < x.due) × (x.due ≤ g)) (k : x.ticket ≡ y.ticket).
          not_found (round_in t) f rs c y y_in y_out
          (subst (λ (o : Row). In o rs) (rising_same 1 (round_in t).next x y (round_in t).rows f.rising (of_rows_in (round_in t) f rs c x q.0) y_in k)
          q.0))
          s.links (chain_after (round_in t) f rs c eo g s.links s.chain)

      y_there : get_or xs w.row (blank 0) ≡ y
      y_there = moves_other (round_in t) f rs c eo g s.links w.row s.chain w.below y_other

      -- the pass leaves room for the store
      pub swap_small : j < 1024
      swap_small = omega (arith, other_row jo, w.below, (leap_known v).small)

      pub swap_there : row_at (suc j) ≤ length u
      swap_there =
          let q = sound t v.ready.sound in
          omega (
            arith,
            other_row jo,
            w.below,
            ap length s.bytes,
            length_having (round_in t) xs xs_long q.sane.size.long,
            q.sane.size.long,
          )

      swap_sends : Sends (round_in t) (at (round_in t) v.row) false (at (round_in t) v.row).ticket ys
      swap_sends =
          rw mk_is
          (row_sends (round_in t) f (leap_known v).time rs c (suc (get_or es (suc l.segment) 0)) eo (own_spans v) (at (round_in t) v.row) v.goes
          v.member v.from v.by (own_later v) y y_in w.left (start_of (round_in t).slot l.count es to) g (v.pieces.piece to to_in).spans
          to_from (omega (arith, other_due a, z.end)) s.links s.chain)

      fits : RowsFit (round_in t) ys
      unfolding row
      fits =
          let q = (sound t v.ready.sound).sane in
          let o = own_spans v in
          fit_changed (round_in t) xs y.ticket (row y.ticket y.due mk y.tail)
          (fit_moves (round_in t) q rs c eo g s.links (round_in t).rows s.chain (omega (arith, o.from, o.by)) o.ahead (fit_self (round_in t) q))
          refl (record {
            due_from = y_fine.due_from;
            due_by = y_fine.due_by;
            some = mark_some (round_in t) f l.count to es ts ls us v.pieces m to (omega arith) to_in;
            most = omega (arith, mk_is, mark_most (round_in t) g);
            class = y_fine.class;
          })
          (all_in TailFine y (round_in t).rows q.size.tails y_in)

      module _ {x : List ℕ} {mw : ℕ} (k : x ≡ with_weight u j mw) (km : mw ≡ get_or us to 0) where
        swap_stood : Stood t h ys x
        swap_stood =
            let i = w.row in
            stood t h ys x v.ready fits
            (k
            ∙ ap (λ (o : ℕ). with_weight u j o) km
            ∙ ap₂ (λ (n : ℕ) (bs : List ℕ). with_weight bs n mk) (other_row jo) s.bytes
            ∙ sym (table_weight (round_in t) xs 1 i (rising_moves (round_in t) 1 (round_in t).next eo s.links (round_in t).rows f.rising)
            (omega (arith, w.below, xs_long)) mk)
            ∙ ap (λ (o : Row). table (having (round_in t) (changed o.ticket (row o.ticket o.due mk o.tail) xs))) y_there)

        -- no more rows are due now
        pub swap_due : {n : ℕ} → DueNow t n → DueNow x n
        unfolding row
        swap_due {n} q =
            let o = own_spans v in
            let i : In y xs = subst (λ (p : Row). In p xs) y_there (getD_in xs (blank 0) w.row (omega (arith, w.below, xs_long))) in
            due_stood t h ys x swap_stood n q (omega (
              arith,
              same_changed (suc (round_in t).slot) 1 (round_in t).next y (row y.ticket y.due mk y.tail) xs
                  (rising_moves (round_in t) 1 (round_in t).next eo s.links (round_in t).rows f.rising) i refl,
              late_moves (round_in t) f rs c (suc (round_in t).slot) eo g (omega (arith, own_later v, o.by)) s.links (round_in t).rows s.chain,
            ))

        pub swap_good : (table_refusal x ≡ 0) × HeadOf x h
        swap_good = (swap_stood.sound, swap_stood.head)

        pub swap_says : {o : ℕ} → o ≡ row_of l.key → {wt : Out} → OutOf (at (round_in t) o) wt → {n : List ℕ} → n ≡ closed_up (gone_ticket x o) x →
            SentSays t n (Leap wt)
        swap_says {o} q {wt} p {n} d1 =
            let i = leap_row_is v q in
            let p2 : OutOf (at (round_in t) v.row) wt = subst (λ (k : ℕ). OutOf (at (round_in t) k) wt) i p in
            let tk : (get_or ys v.row (blank 0)).ticket ≡ (at (round_in t) v.row).ticket =
            changed_tickets y.ticket (row y.ticket y.due mk y.tail) (row_ticket_is y y.due mk) xs v.row
            ∙ moves_tickets (round_in t) eo s.links (round_in t).rows v.row in
            sent_says t h v.ready (at (round_in t) v.row) true (at (round_in t) v.row).ticket ys n (Leap wt) swap_sends
            (stood_closed t h ys x n (at (round_in t) v.row).ticket swap_stood
            (d1 ∙ ap (λ (k : ℕ). closed_up k x) (ap (gone_ticket x) i ∙ gone_stood t h ys x swap_stood v.row (omega (arith, v.below, (leap_known v).used)) tk)))
            (ap leap p2.is)
