-- A sending's ways, from what passes over rows, counts and segments find: Sends, sends_planned, sends_idle, sends_first, sends_far, sends_kept, sends_row.
use Rattle.std.specs.Prelude.{◌≡◌, refl, ◌≢◌, Bool, true, false, cond, List, [], ◌∷◌, ℕ, suc, ◌≤◌, ◌<◌, leb}
use Rattle.std.proofs.Common.{sym, ap₂, ◌∙◌, subst, arith, le-leb, leb-true}
use Rattle.std.proofs.Math.Path.{ap}
use Rattle.std.proofs.Math.ListN.{length}
use Rattle.std.proofs.lemmas.Bool.{lt-leb}
use Rattle.rules.specs.Rows.{Row, Round, blank, heavier, row, In, blank_tail}
use Rattle.rules.specs.Plan.{plan, in_plan, tight_after, first_end}
use Rattle.rules.specs.Steps.{changed, goes, sent, is_ordinary}
use Rattle.rules.specs.Table.{round_in, table_refusal}
use Rattle.rules.specs.Calls.{step, sending, ordinary, leap, out_of, answer, acting}
use Rattle.theory.specs.Order.{NotBefore}
use Rattle.theory.specs.Full.{Fine}
use Rattle.theory.specs.Back.{length_changed}
use Rattle.theory.specs.Members.{RowsOfPlan, of_rows_fine, found_member}
use Rattle.theory.specs.Best.{ordinary_is}
use Rattle.theory.specs.Chain.{Linked, moves, shifted_to_end}
use Rattle.theory.specs.Close.{after_slot, closed, sent_ordinary, sent_none, sent_row, sent_kept}
use Rattle.theory.specs.Near.{Near, far_sent}
use Rattle.theory.specs.Segments.{Segment, segment_end, segment_begin, first_segment, later_segment, segment_row, segment_none, segment_mark}
use Rattle.theory.specs.Turn.{unsealed_goes}
use Rattle.theory.specs.First.{silent_goes, silence_ordinary, first_due, goes_as_first, first_ordinary, first_row, first_blank_now, blank_now}
use Rattle.theory.specs.Lead.{Leads, lead_best}
use Rattle.theory.specs.Sender.{answer_sent}

-- WHAT A STEP DOES: p goes; of the rows xs those still due are left, but for one ticket
pub record Sends (r : Round) (p : Row) (plain : Bool) (gone : ℕ) (xs : List Row) : Type 0 where
  pub goes : goes r ≡ p
  pub step : is_ordinary r ≡ plain
  pub leaves : sent r ≡ after_slot r (closed (suc r.slot) gone xs)
  pub long : length xs ≡ length r.rows

pub length_moves : (r : Round) (e : ℕ) (hs xs : List Row) → length (moves r e hs xs) ≡ length xs
unfolding moves
length_moves r e [] xs = refl
length_moves r e (h ∷ hs) xs =
    length_moves r (tight_after r (plan r) h.due) hs (changed h.ticket (shifted_to_end r e h) xs) ∙ length_changed h.ticket (shifted_to_end r e h) xs

module _ (r : Round) (f : Fine r) (o : r.slot ≤ r.last) (rs : List Row) (c : RowsOfPlan r rs) where
  -- no rows
  pub sends_silence : r.rows ≡ [] → Sends r (blank r.slot) true 0 []
  unfolding closed
  sends_silence e =
      let g = silent_goes r f o rs c e in
      let t = silence_ordinary r f o rs c e in
      record {
        goes = g;
        step = t;
        leaves = sent_none r f rs c e (blank r.slot) g (leb-true (blank r.slot).due (first_end r (plan r))
            (sym (ordinary_is r f o rs c (blank r.slot) g) ∙ t));
        long = ap length (sym e);
      }

  -- SEALED: the plan's canonical first, a row due before the blanks
  pub sends_planned : r.tail.sealed ≡ 1 → (z : ℕ) → Near r z → (p : Row) → In p rs → p.due < z → ((q : Row) → In q rs → NotBefore q p) →
      Sends r p true p.ticket r.rows
  sends_planned u z k p i h n =
      let w = first_row r f o rs c z k p i h n in
      let g = goes_as_first r f o u p w in
      record {
        goes = g;
        step = first_ordinary r f o u;
        leaves = sent_ordinary r f rs c p g (first_due r f o p w);
        long = refl;
      }

  -- or silence while rows wait: no slot is filled by them
  pub sends_idle : r.tail.sealed ≡ 1 → Near r r.slot → Sends r (blank r.slot) true 0 r.rows
  unfolding blank
  sends_idle u k =
      let w = first_blank_now r f o rs c (blank_now r f o rs c k) in
      let g = goes_as_first r f o u (blank r.slot) w in
      record {
        goes = g;
        step = first_ordinary r f o u;
        leaves = sent_ordinary r f rs c (blank r.slot) g (first_due r f o (blank r.slot) w);
        long = refl;
      }

  -- UNSEALED: the leader
  module _ (unsealed : r.tail.sealed ≢ 1) (z : ℕ) (k : Near r z) (p : Row) (l : Leads r rs r.slot p) where
    leader_goes : goes r ≡ p
    leader_goes = unsealed_goes r unsealed ∙ lead_best r f o rs c p l

    -- ORDINARY: the leader is in the first segment
    pub sends_first : (e : ℕ) → e < z → Segment r rs r.slot e → p.due ≤ e → Sends r p true p.ticket r.rows
    sends_first e n s h =
        let g = leader_goes in
        let a = first_segment r f o rs c z k r.slot e n s refl in
        record {
          goes = g;
          step = ordinary_is r f o rs c p g ∙ le-leb p.due (first_end r (plan r)) (omega (arith, a, h));
          leaves = sent_ordinary r f rs c p g (omega (arith, a, h));
          long = refl;
        }

    -- A LEAP FROM AFAR: nothing stays behind
    pub sends_far : z ≤ p.due → Sends r p false p.ticket r.rows
    sends_far h =
        let g = leader_goes in
        let a = far_sent r f rs c z k o p g l.inside h in
        record { goes = g; step = a.0; leaves = a.1; long = refl }

    module _ (b e : ℕ) (n : e < z) (s : Segment r rs b e) (a : r.slot < b) (i : b ≤ p.due) (j : p.due ≤ e) where
      -- a leap onto the segment's blank: it is kept in p's row with the mark, x being a lightest row due by the segment's end
      pub sends_kept : ((y : Row) → In y r.rows → in_plan y rs ≡ false → y.due < b) → (x : Row) → In x rs → x.due ≤ e →
          ((y : Row) → In y rs → y.due ≤ e → x.weight ≤ y.weight) → Sends r p false 0 (changed p.ticket (row p.ticket b x.weight blank_tail) r.rows)
      sends_kept g x u v m =
          let q = leader_goes in
          let d = segment_begin r f o rs c z k b e n s p.due i j in
          let t = later_segment r f o rs c z k b e n s a in
          let w = segment_mark r f o rs c z k b e n s p.due i j x u v m in
          record {
            goes = q;
            step = ordinary_is r f o rs c p q ∙ lt-leb p.due (first_end r (plan r)) (omega (arith, t, i));
            leaves =
                sent_kept r f rs c p q (found_member r f rs c p l.inside) (omega (arith, t, i)) (segment_none r f o rs c z k b e n s a p i j g
                ∙ ap blank (sym d))
                (omega (arith, w, (of_rows_fine r f rs c x u).some))
                ∙ ap₂ (λ (v : ℕ) (w : ℕ). after_slot r (closed (suc r.slot) 0 (changed p.ticket (row p.ticket v w blank_tail) r.rows))) d w;
            long = length_changed p.ticket (row p.ticket b x.weight blank_tail) r.rows;
          }

      -- a leap onto a row y outside: the chain hs of shifts from e to the end g of y's segment; x a lightest row due by g
      pub sends_row : (y : Row) → In y r.rows → in_plan y rs ≡ false → b ≤ y.due →
          ((w : Row) → In w r.rows → in_plan w rs ≡ false → b ≤ w.due → heavier w y ≡ false) →
          (b2 g : ℕ) → g < z → Segment r rs b2 g → b2 ≤ y.due → y.due ≤ g → (hs : List Row) → Linked r rs e g hs →
          (x : Row) → In x rs → x.due ≤ g → ((w : Row) → In w rs → w.due ≤ g → x.weight ≤ w.weight) →
          Sends r p false p.ticket (changed y.ticket (row y.ticket y.due x.weight y.tail) (moves r e hs r.rows))
      sends_row y u v w m b2 g n2 s2 i2 j2 hs ch x d h mm =
          let q = leader_goes in
          let t = later_segment r f o rs c z k b e n s a in
          let e1 = segment_end r f o rs c z k b e n s p.due i j in
          let g1 = segment_end r f o rs c z k b2 g n2 s2 y.due i2 j2 in
          let mk = segment_mark r f o rs c z k b2 g n2 s2 y.due i2 j2 x d h mm in
          let ch2 : Linked r rs (tight_after r (plan r) p.due) (tight_after r (plan r) y.due) hs =
          subst (λ (v : ℕ). Linked r rs v (tight_after r (plan r) y.due) hs) (sym e1) (subst (λ (v : ℕ). Linked r rs e v hs) (sym g1) ch) in
          record {
            goes = q;
            step = ordinary_is r f o rs c p q ∙ lt-leb p.due (first_end r (plan r)) (omega (arith, t, i));
            leaves =
                sent_row r f rs c p y hs q (omega (arith, t, i)) (segment_row r f o rs c z k b e n s a p i j y u v w m) u ch2
                ∙ ap₂ (λ (v : ℕ) (w : ℕ). after_slot r (closed (suc r.slot) p.ticket
                (changed y.ticket (row y.ticket y.due w y.tail) (moves r v hs r.rows)))) e1 mk;
            long =
                length_changed y.ticket (row y.ticket y.due x.weight y.tail) (moves r e hs r.rows) ∙ length_moves r e hs r.rows;
          }

-- THE ANSWER on a sound table
pub sends_answer : (t : List ℕ) (p : Row) (plain : Bool) (gone : ℕ) (xs : List Row) → table_refusal t ≡ 0 → (round_in t).slot ≤ (round_in t).last →
    Sends (round_in t) p plain gone xs → answer (acting sending) t ≡ step (cond plain (ordinary (out_of p)) (leap (out_of p)))
unfolding is_ordinary
sends_answer t p plain gone xs s o w =
    answer_sent t s o p w.goes
    ∙ ap (λ (v : Bool). step (cond v (ordinary (out_of p)) (leap (out_of p))))
    (sym (ap (λ (x : Row). leb x.due (first_end (round_in t) (plan (round_in t)))) w.goes) ∙ w.step)
