-- Every round that calls make is sound, and no mark of a slot ahead sinks: takes, taken_fine, sent_fine, next_fine, after_stays.
use Rattle.std.specs.Prelude.{◌≡◌, refl, ◌≢◌, Bool, true, false, ◌&&◌, ◌||◌, cond, List, [], ◌∷◌, ◌++◌, ℕ, suc, ◌≤◌, ◌<◌, ltb, leb, eqb, length}
use Rattle.std.proofs.Common.{◌∙◌, true≢false, arith, ltb-false, leb-true, leb-false, eqb-true}
use Rattle.std.proofs.lemmas.Bool.{eqb-false}
use Rattle.rules.specs.Limits.{most_last, most_weight, ticket_limit, most_class}
use Rattle.rules.specs.Rows.{Frame, Setup, Row, Round, round, row, In}
use Rattle.rules.specs.Plan.{plan, first_end, mark}
use Rattle.rules.specs.Steps.{opened, taken_row, taken, sealed, goes, sent, without, still_due, leapt}
use Rattle.rules.specs.Calls.{Act, taking, sending, sealing, Question, marking, totalling, Call, opening, acting, asking, Test, first_of, over, not_ahead, open_tests, take_tests, send_tests, seal_tests, mark_tests, act, question, deed, round_refusal, leaves, next_round, after}
use Rattle.rules.specs.Demands.{NoOpening}
use Rattle.theory.specs.Tests.{and_true, both_ways}
use Rattle.theory.specs.Sum.{sum_append}
use Rattle.theory.specs.All.{all_map, all_append}
use Rattle.theory.specs.Bounds.{RowFine}
use Rattle.theory.specs.Full.{Fine, Rising}
use Rattle.theory.specs.Marks.{box, mark_stays}
use Rattle.theory.specs.Change.{all_still, all_without, rising_still, rising_without, still_box}
use Rattle.theory.specs.Send.{ordinary_fills}
use Rattle.theory.specs.Turn.{goes_in}
use Rattle.theory.specs.Bounds.{RowOk}
use Rattle.theory.specs.Leap.{Left, leapt_left, fills_alone, rows_kept}

-- what no refusal says
pub no_refusal : (c : Bool) (n z : ℕ) → cond c (suc n) z ≡ 0 → (c ≡ false) × (z ≡ 0)
no_refusal true n z e = absurd (omega arith)
no_refusal false n z e = (refl, e)

pub or_false : (a b : Bool) → (a || b) ≡ false → (a ≡ false) × (b ≡ false)
or_false true b e = absurd (true≢false e)
or_false false b e = (refl, e)

-- of a list of tests, each with a number above 0: none holds
abbrev pub NoneHolds : List Test → Type 0
NoneHolds [] = Unit {0}
NoneHolds (x ∷ xs) = (x.holds ≡ false) × NoneHolds xs

abbrev pub numbered : List Test → Bool
numbered [] = true
numbered (x ∷ xs) = leb 1 x.number && numbered xs

pub none_first : (b : Bool) (n z : ℕ) → 1 ≤ n → cond b n z ≡ 0 → (b ≡ false) × (z ≡ 0)
none_first true n z h e = absurd (omega (arith, h, e))
none_first false n z h e = (refl, e)

pub none_holds : (xs : List Test) → numbered xs ≡ true → first_of xs ≡ 0 → NoneHolds xs
none_holds [] n e = tt
none_holds (x ∷ xs) n e =
    let p = and_true (leb 1 x.number) (numbered xs) n in
    let h = none_first x.holds x.number (first_of xs) (leb-true 1 x.number p.0) e in (h.0, none_holds xs p.1 h.1)

-- the round is not over; a slot is ahead
pub not_over : (r : Round) → (over r.slot r.last).holds ≡ false → r.slot ≤ r.last
not_over r e = ltb-false r.last r.slot e

pub ahead : (r : Round) (s : ℕ) → (not_ahead r.slot r.last s).holds ≡ false → (r.slot ≤ s) × (s ≤ r.last)
ahead r s e =
    let h = or_false (ltb s r.slot) (ltb r.last s) e in (ltb-false s r.slot h.0, ltb-false r.last s h.1)

-- AN ACCEPTED TAKING
pub record Takes (r : Round) (f : Frame) : Type 0 where
  pub time : r.slot ≤ r.last
  pub unsealed : r.tail.sealed ≢ 1
  pub some : 1 ≤ f.weight
  pub limit : f.weight ≤ most_weight
  pub from : r.slot ≤ f.due
  pub by : f.due ≤ r.last
  pub class : f.class ≤ most_class
  pub tickets : r.next ≢ ticket_limit
  pub free : length r.rows < r.room

pub takes : (r : Round) (f : Frame) → round_refusal (acting (taking f)) r ≡ 0 → Takes r f
unfolding round_refusal deed act
takes r f e =
    let h = none_holds (take_tests r.slot r.last r.next (length r.rows) r.room r.tail f) refl e in
    let w = or_false (eqb f.weight 0) (ltb most_weight f.weight) h.1.1.0 in
    let d = ahead r f.due h.1.1.1.0 in
    let n = eqb-false f.weight 0 w.0 in
    record {
      time = not_over r h.0;
      unsealed = eqb-false r.tail.sealed 1 h.1.0;
      some = omega arith;
      limit = ltb-false most_weight f.weight w.1;
      from = d.0;
      by = d.1;
      class = ltb-false most_class f.class h.1.1.1.1.0;
      tickets = eqb-false r.next ticket_limit h.1.1.1.1.1.0;
      free = leb-false r.room (length r.rows) h.1.1.1.1.1.1.0;
    }

-- an accepted sending; a sealing; an opening; a mark answered
pub sends : (r : Round) → round_refusal (acting sending) r ≡ 0 → r.slot ≤ r.last
unfolding round_refusal deed act
sends r e = not_over r (none_holds (send_tests r.slot r.last) refl e).0

pub seals : (r : Round) → round_refusal (acting sealing) r ≡ 0 → r.slot ≤ r.last
unfolding round_refusal deed act
seals r e = not_over r (none_holds (seal_tests r.slot r.last) refl e).0

pub opens : (u : Setup) (r : Round) → round_refusal (opening u) r ≡ 0 → u.last ≤ most_last
unfolding round_refusal deed
opens u r e = ltb-false most_last u.last (none_holds (open_tests u) refl e).0

pub marks_ahead : (r : Round) (s : ℕ) → round_refusal (asking (marking s)) r ≡ 0 → (r.slot ≤ s) × (s ≤ r.last)
unfolding round_refusal deed question
marks_ahead r s e = ahead r s (none_holds (mark_tests r.slot r.last s) refl e).1.0

-- WHAT EVERY CALL KEEPS: a claim about rounds needs openings and acts alone, since a question leaves the round
pub question_leaves : (q : Question) (r : Round) → leaves (asking q) r ≡ r
unfolding leaves deed question
question_leaves (marking s) r = refl
question_leaves totalling r = refl

module _ (P : Round → Type 0) (opened-keeps : (u : Setup) (r : Round) → u.last ≤ most_last → P r → P (opened u r.room))
    (acts-keep : (a : Act) (r : Round) → round_refusal (acting a) r ≡ 0 → P r → P (leaves (acting a) r)) where
  accepted_keeps : (c : Call) (r : Round) → P r → round_refusal c r ≡ 0 → P (leaves c r)
  unfolding leaves deed
  accepted_keeps (opening u) r p e = opened-keeps u r (opens u r e) p
  accepted_keeps (acting a) r p e = acts-keep a r e p
  accepted_keeps (asking q) r p e = rw (question_leaves q r) p

  pub next_keeps : (c : Call) (r : Round) → P r → P (next_round c r)
  unfolding next_round
  next_keeps c r p =
      both_ways P (eqb (round_refusal c r) 0) (leaves c r) r (λ e. accepted_keeps c r p (eqb-true (round_refusal c r) 0 e)) (λ e. p)

-- EVERY ROUND is sound
pub opened_fine : (u : Setup) (k : ℕ) → Fine (opened u k)
unfolding opened round
opened_fine u k = record { time = omega arith; fine = tt; rising = omega arith }

pub rising_more : (a b : ℕ) (x : Row) (xs : List Row) → x.ticket ≡ b → Rising a b xs → Rising a (suc b) (xs ++ (x ∷ []))
rising_more a b x [] e s = (omega arith, omega arith)
rising_more a b x (y ∷ ys) e s = (s.0, rising_more (suc y.ticket) b x ys e s.1)

pub taken_fine : (r : Round) → Fine r → (f : Frame) → Takes r f → Fine (taken r f)
unfolding taken round row
taken_fine r g f k =
    record {
      time = g.time;
      fine = all_append (RowFine r) r.rows (taken_row r.next f ∷ []) g.fine
          (record { due_from = k.from; due_by = k.by; some = k.some; most = k.limit; class = k.class }, tt);
      rising = rising_more 1 r.next (taken_row r.next f) r.rows refl g.rising;
    }

-- sending
pub ordinary_left : (r : Round) → Fine r → r.slot ≤ r.last → (p : Row) → In p (plan r) → p.due ≤ first_end r (plan r) →
    Left r (without p.ticket r.rows)
ordinary_left r f o p i h =
    record {
      okay = all_without (RowOk r) p.ticket r.rows (rows_kept r f 0).okay;
      rising = rising_without 1 r.next p.ticket r.rows f.rising;
      fills = λ w d e v m a b. ordinary_fills r f o p i h w d e m v a b;
    }

abbrev pub sent_rows : Round → List Row
sent_rows r =
    cond (leb (goes r).due (first_end r (plan r))) (without (goes r).ticket r.rows) (leapt r (plan r) (goes r))

pub sent_left : (r : Round) → Fine r → r.slot ≤ r.last → Left r (sent_rows r)
sent_left r f o =
    let p = goes r in
    let i = goes_in r f o in
    both_ways (Left r) (leb p.due (first_end r (plan r))) (without p.ticket r.rows) (leapt r (plan r) p)
    (λ e. ordinary_left r f o p i (leb-true p.due (first_end r (plan r)) e))
    (λ e. leapt_left r f p i (leb-false p.due (first_end r (plan r)) e))

pub sent_fine : (r : Round) → Fine r → r.slot ≤ r.last → Fine (sent r)
unfolding sent round
sent_fine r f o =
    let l = sent_left r f o in
    record {
      time = omega arith;
      fine = all_map {Q = RowFine (sent r)} (λ x (h : (suc r.slot ≤ x.due) × RowOk r x).
          record { due_from = h.0; due_by = h.1.due_by; some = h.1.some; most = h.1.most; class = h.1.class })
          (still_due (suc r.slot) (sent_rows r)) (all_still (RowOk r) (suc r.slot) (sent_rows r) l.okay);
      rising = rising_still 1 r.next (suc r.slot) (sent_rows r) l.rising;
    }

-- sealing changes no row and no slot
pub sealed_fine : (r : Round) → Fine r → Fine (sealed r)
unfolding sealed round
sealed_fine r f = record { time = f.time; fine = f.fine; rising = f.rising }

pub act_fine : (a : Act) (r : Round) → round_refusal (acting a) r ≡ 0 → Fine r → Fine (leaves (acting a) r)
unfolding leaves deed act
act_fine (taking f) r e g = taken_fine r g f (takes r f e)
act_fine sending r e g = sent_fine r g (sends r e)
act_fine sealing r e g = sealed_fine r g

pub next_fine : (c : Call) (r : Round) → Fine r → Fine (next_round c r)
next_fine = next_keeps Fine (λ u r h g. opened_fine u r.room) act_fine

-- NO MARK SINKS
abbrev pub Stays : ℕ → Round → Round → Type 0
Stays s r z = (z.last ≡ r.last) × (r.slot ≤ z.slot) × (z.slot ≤ s → s ≤ r.last → mark r s ≤ mark z s)

pub taken_stays : (s : ℕ) (r : Round) → Fine r → (f : Frame) → Takes r f → Stays s r (taken r f)
unfolding taken round
taken_stays s r g f k = (
  refl,
  omega arith,
  λ h i. mark_stays r (taken r f) g (taken_fine r g f k) (omega arith) refl s h i
      (λ u e m v a b. omega (arith, fills_alone r g u s e v m a b, sum_append (box u v (suc e)) r.rows (taken_row r.next f ∷ []))),
)

pub sent_stays : (s : ℕ) (r : Round) → Fine r → r.slot ≤ r.last → Stays s r (sent r)
unfolding sent round
sent_stays s r f o = (
  refl,
  omega arith,
  λ h i. mark_stays r (sent r) f (sent_fine r f o) (omega arith) refl s h i
      (λ u e m v a b. omega (arith, (sent_left r f o).fills u s e v m a b, still_box u (suc r.slot) v (suc e) a b (sent_rows r))),
)

pub sealed_stays : (s : ℕ) (r : Round) → Fine r → Stays s r (sealed r)
unfolding sealed round
sealed_stays s r f = (
  refl,
  omega arith,
  λ h i. mark_stays r (sealed r) f (sealed_fine r f) (omega arith) refl s h i (λ u e m v a b. fills_alone r f u s e v m a b),
)

pub same_stays : (s : ℕ) (r : Round) → Stays s r r
same_stays s r = (refl, omega arith, λ h i. omega arith)

pub act_stays : (s : ℕ) (a : Act) (r : Round) → Fine r → round_refusal (acting a) r ≡ 0 → Stays s r (leaves (acting a) r)
unfolding leaves deed act
act_stays s (taking f) r g e = taken_stays s r g f (takes r f e)
act_stays s sending r g e = sent_stays s r g (sends r e)
act_stays s sealing r g e = sealed_stays s r g

-- where an opening among the calls is refused
pub next_stays : (s : ℕ) (c : Call) (cs : List Call) (r : Round) → Fine r → NoOpening (c ∷ cs) → Stays s r (next_round c r) × NoOpening cs
unfolding next_round NoOpening
next_stays s (opening u) cs r g n = (
  both_ways (Stays s r) (eqb (round_refusal (opening u) r) 0) (leaves (opening u) r) r
      (λ e. let h = opens u r (eqb-true (round_refusal (opening u) r) 0 e) in absurd (omega (arith, n.0))) (λ e. same_stays s r),
  n.1,
)
next_stays s (acting a) cs r g n = (
  both_ways (Stays s r) (eqb (round_refusal (acting a) r) 0) (leaves (acting a) r) r
      (λ e. act_stays s a r g (eqb-true (round_refusal (acting a) r) 0 e)) (λ e. same_stays s r),
  n,
)
next_stays s (asking q) cs r g n = (
  both_ways (Stays s r) (eqb (round_refusal (asking q) r) 0) (leaves (asking q) r) r
      (λ e. rw (question_leaves q r) (same_stays s r)) (λ e. same_stays s r),
  n,
)

pub after_stays : (s : ℕ) (cs : List Call) (r : Round) → Fine r → NoOpening cs → Stays s r (after cs r)
unfolding after
after_stays s [] r f n = same_stays s r
after_stays s (c ∷ cs) r f n =
    let a = next_stays s c cs r f n in
    let b = after_stays s cs (next_round c r) (next_fine c r f) a.1 in (
      b.0 ∙ a.0.0,
      omega (arith, a.0.1, b.1),
      λ h i. omega (arith, a.0.2 (omega (arith, b.1)) i, b.2 h (omega (arith, a.0.0))),
    )

pub after_append : (cs ds : List Call) (r : Round) → after (cs ++ ds) r ≡ after ds (after cs r)
unfolding after
after_append [] ds r = refl
after_append (c ∷ cs) ds r = after_append cs ds (next_round c r)
