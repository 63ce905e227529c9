-- Tables in between: sound ones of the same head, with other rows.
use mathlib.Core.Path.{◌≡◌, refl, sym, ap, ◌∙◌}
use mathlib.Core.Bool.{Bool, true, false, not, cond}
use mathlib.Core.List.{List, [], ◌∷◌}
use Prim.Native.Nat.{ℕ, suc, ◌≤◌}
use native.Mathlib.Omega.{arith}
use lib.ListN.{length, drop}
use Rattle.rules.specs.Limits.{head_size}
use Rattle.rules.specs.Rows.{Row, Round, round, row, All}
use Rattle.rules.specs.Plan.{plan, tight_after, mark}
use Rattle.rules.specs.Steps.{changed}
use Rattle.rules.specs.Conditions.{used_in}
use Rattle.rules.specs.Table.{table, round_in, table_refusal}
use Rattle.rules.specs.Calls as rules
use Rattle.theory.specs.All.{all_in}
use Rattle.theory.specs.Bounds.{RowFine}
use Rattle.theory.specs.Full.{Fine, Rising}
use Rattle.theory.specs.Change.{all_changed, rising_changed}
use Rattle.theory.specs.Back.{Sized, read_back, table_good, length_changed}
use Rattle.theory.specs.Bounds.{TailFine}
use Rattle.theory.specs.Clauses.{rows_count}
use Rattle.theory.specs.Sane.{Sane, sound}
use Rattle.theory.specs.Marks.{mark_limit}
use Rattle.theory.specs.Members.{RowsOfPlan, of_rows_fine, of_rows_in}
use Rattle.theory.specs.Chain.{Linked, shifted_to_end, moves, link_end}
use Rattle.theory.specs.Close.{closed, after_slot}
use Rattle.theory.specs.Whole.{Sends, sends_answer}
use Rattle.theory.specs.Sender.{sending_leaves}
use Rattle.head.specs.Head.{HeadOf}
use Rattle.sorts.specs.declared.Round.{Round as Head}
use Rattle.round.proofs.ReadLaws.{known}
use Rattle.round.specs.Rows.{Ready}
use Rattle.closing.specs.Close.{closed_up}
use Rattle.chain.specs.Chain.{having}
use Rattle.replies.specs.declared.Step.{Step}
use Rattle.replies.specs.Replies.{of_step}
use Rattle.went.specs.Send.{SentSays}

-- rows that a sound table of a round can have
pub record RowsFit (r : Round) (xs : List Row) : Type 0 where
  pub fine : All (RowFine r) xs
  pub tails : All TailFine xs
  pub rising : Rising 1 r.next xs
  pub long : length xs ≡ length r.rows

-- a table u with the head of t and the rows xs
pub record Stood (t : List ℕ) (h : Head) (xs : List Row) (u : List ℕ) : Type 0 where
  pub sound : table_refusal u ≡ 0
  pub head : HeadOf u h
  pub holds : round_in u ≡ having (round_in t) xs

head_made : (u : List ℕ) (h : Head) → h.slot.0 ≡ (round_in u).slot → h.last.0 ≡ (round_in u).last → h.next.0 ≡ (round_in u).next →
    h.used ≡ length (round_in u).rows → h.room ≡ (round_in u).room → h.sealed ≡ (round_in u).tail.sealed → HeadOf u h
unfolding round_in round
head_made u h a b c d e f = record { slot = a; last = b; next = c; used = d ∙ rows_count (used_in u) (drop head_size u); room = e; sealed = f }

head_next : (t : List ℕ) (h : Head) → HeadOf t h → h.next.0 ≡ (round_in t).next
unfolding round_in round
head_next t h d = d.next

head_room : (t : List ℕ) (h : Head) → HeadOf t h → h.room ≡ (round_in t).room
unfolding round_in round
head_room t h d = d.room

pub stood : (t : List ℕ) (h : Head) (xs : List Row) (u : List ℕ) → Ready t h → RowsFit (round_in t) xs → u ≡ table (having (round_in t) xs) → Stood t h xs u
unfolding round
stood t h xs u k f e =
    let r = round_in t in
    let z = (sound t k.sound).sane in
    let fine : Fine (having r xs) = record { time = z.fine.time; fine = f.fine; rising = f.rising } in
    let size : Sized (having r xs) =
    record { last = z.size.last; room = z.size.room; next = z.size.next; long = omega (arith, f.long, z.size.long); tails = f.tails; tail = z.size.tail } in
    let back : round_in u ≡ having r xs = ap round_in e ∙ read_back (having r xs) fine size in
    record {
      sound = ap table_refusal e ∙ table_good (having r xs) fine size z.some;
      head =
          head_made u h ((known t h k).slot ∙ sym (ap (λ (y : Round). y.slot) back)) ((known t h k).last ∙ sym (ap (λ (y : Round). y.last) back))
          (head_next t h k.head ∙ sym (ap (λ (y : Round). y.next) back))
          ((known t h k).used ∙ sym f.long ∙ sym (ap (λ (y : Round). length y.rows) back))
          (head_room t h k.head ∙ sym (ap (λ (y : Round). y.room) back))
          ((known t h k).sealed ∙ sym (ap (λ (y : Round). y.tail.sealed) back));
      holds = back;
    }

-- a sound table has its own rows
pub self_table : (t : List ℕ) → table_refusal t ≡ 0 → t ≡ table (having (round_in t) (round_in t).rows)
unfolding round
self_table t e = sym (sound t e).bytes

-- closed up, it is the table after the slot
pub stood_closed : (t : List ℕ) (h : Head) (xs : List Row) (u v : List ℕ) (g : ℕ) → Stood t h xs u → v ≡ closed_up g u →
    v ≡ table (after_slot (round_in t) (closed (suc (round_in t).slot) g xs))
unfolding closed_up round
stood_closed t h xs u v g s e = e ∙ ap (λ (y : Round). table (after_slot y (closed (suc y.slot) g y.rows))) s.holds

pub alone_closed : (t v : List ℕ) (g : ℕ) → v ≡ closed_up g t → v ≡ table (after_slot (round_in t) (closed (suc (round_in t).slot) g (round_in t).rows))
unfolding closed_up
alone_closed t v g e = e

-- WHAT IS SAID of what is sent
flipped : (b : Bool) (x y : rules.Step) → cond (not b) x y ≡ cond b y x
flipped true x y = refl
flipped false x y = refl

pub sent_says : (t : List ℕ) (h : Head) → Ready t h → (p : Row) (leaps : Bool) (g : ℕ) (xs : List Row) (v : List ℕ) (w : Step) →
    Sends (round_in t) p (not leaps) g xs →
    v ≡ table (after_slot (round_in t) (closed (suc (round_in t).slot) g xs)) →
    of_step w ≡ cond leaps (rules.leap (rules.out_of p)) (rules.ordinary (rules.out_of p)) → SentSays t v w
sent_says t h k p leaps g xs v w s e d =
    let o : (round_in t).slot ≤ (round_in t).last = omega (arith, k.time, (known t h k).slot, (known t h k).last) in
    record {
      leaves = e ∙ sym (ap table s.leaves) ∙ sym (sending_leaves t k.sound o);
      answers = sends_answer t p (not leaps) g xs k.sound o s
          ∙ ap rules.step (flipped leaps (rules.ordinary (rules.out_of p)) (rules.leap (rules.out_of p)) ∙ sym d);
    }

-- ROWS THAT FIT: the round's own, one changed, and those of a chain moved
pub fit_self : (r : Round) → Sane r → RowsFit r r.rows
fit_self r z = record { fine = z.fine.fine; tails = z.size.tails; rising = z.fine.rising; long = refl }

pub fit_changed : (r : Round) (xs : List Row) (k : ℕ) (y : Row) → RowsFit r xs → y.ticket ≡ k → RowFine r y → TailFine y → RowsFit r (changed k y xs)
fit_changed r xs k y f e a b =
    record {
      fine = all_changed (RowFine r) k y a xs f.fine;
      tails = all_changed TailFine k y b xs f.tails;
      rising = rising_changed 1 r.next k y e xs f.rising;
      long = length_changed k y xs ∙ f.long;
    }

pub fit_moves : (r : Round) (z : Sane r) (rs : List Row) (c : RowsOfPlan r rs) (e g : ℕ) (hs xs : List Row) → Linked r rs e g hs → r.slot ≤ e →
    e ≤ r.last → RowsFit r xs →
    RowsFit r (moves r e hs xs)
unfolding moves shifted_to_end row mark
fit_moves r z rs c e g [] xs k a b f = f
fit_moves r z rs c e g (h ∷ hs) xs k a b f =
    let i = k.0.inside in
    let w = of_rows_fine r z.fine rs c h i in
    let n = link_end r z.fine rs c h i in
    fit_moves r z rs c (tight_after r (plan r) h.due) g hs (changed h.ticket (shifted_to_end r e h) xs) k.1 (omega (arith, w.due_from, n.from)) n.by
    (fit_changed r xs h.ticket (shifted_to_end r e h) f refl (record {
      due_from = a;
      due_by = b;
      some = omega (arith, w.some);
      most = omega (arith, w.most, mark_limit r (plan r) e);
      class = w.class;
    })
    (all_in TailFine h r.rows z.size.tails (of_rows_in r z.fine rs c h i)))
