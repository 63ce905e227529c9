-- Whether a row is in the plan, what stands in for it, and what the call says then.
use mathlib.Core.Path.{◌≡◌, refl, sym, ap, ◌∙◌}
use mathlib.Core.Logic.{inl, inr}
use mathlib.Core.Bool.{true}
use mathlib.Core.List.{List, [], ◌∷◌}
use mathlib.Core.Option.{none, some}
use Rattle.std.specs.Prelude.{Ok, Err}
use Prim.Native.Nat.{ℕ, zero, suc, ◌+◌, ◌≤◌, ◌<◌}
use native.Mathlib.Omega.{arith}
use lib.Dec.{eqb}
use borrow.Author.Tests.{eq-eqb, ne_eqb}
use lib.ListN.{length, get_or, replicate, get_or-replicate}
use Rattle.rules.specs.Rows.{Row, Round, blank}
use Rattle.rules.specs.Plan.{plan, in_plan, flags, planned}
use Rattle.rules.specs.Table.{round_in, table_refusal}
use Rattle.rules.specs.Calls.{Reply, refused, first, first_of, over}
use Rattle.rules.specs.Looking.{with_ticket, stand_in, substitute_answer}
use Rattle.theory.specs.Tests.{either}
use Rattle.theory.specs.Full.{Fine, Rising}
use Rattle.theory.specs.Change.{rising_above}
use Rattle.theory.specs.Members.{certified_found, in_plan_is}
use Rattle.theory.specs.Unique.{certified_at, plan_certified}
use Rattle.theory.specs.Near.{near_out}
use Rattle.theory.specs.Keys.{getD_in}
use Rattle.theory.specs.Flags.{raised, Chosen, raised_at, all_chosen}
use Rattle.sorts.specs.declared.Round.{Round as Head}
use Rattle.refusals.specs.declared.Refusal.{Refusal}
use Rattle.refusals.specs.Refusals.{refusal_number}
use Rattle.round.specs.Rows.{Ready, DueAt, at}
use Rattle.round.proofs.ReadLaws.{known}
use Rattle.buckets.specs.Reach.{Reaches}
use Rattle.buckets.specs.declared.Reach.{Reach}
use Rattle.sub.specs.Substitute.{Substitutes}
use Rattle.sub.specs.declared.Sub.{Sub}
use Rattle.sub.specs.declared.Sub.TheVariants.{Row as Row-of, Blank}
use Rattle.marks.specs.Given.{LentAsked}
use Rattle.questions.specs.Seen.{Gives}
use Rattle.questions.proofs.PlanLaws.{plan_asked, plan_substitute}
use Rattle.substituting.specs.Finding.{StoodIn, There, Named, Flagged}

-- IN THE PLAN: by its flag, as a far row, and where no row is left out
module _ (t : List ℕ) (h : Head) (ready : Ready t h) (i : ℕ) (l : i < h.used) where
  pub row_there : i < length (round_in t).rows
  row_there = omega (arith, l, (known t h ready).used)

  pub flag_there : (fs : List ℕ) → Chosen (round_in t) fs → i < length fs
  flag_there fs c = omega (arith, row_there, c.long)

  pub planned_by : (fs : List ℕ) → Chosen (round_in t) fs → in_plan (at (round_in t) i) (plan (round_in t)) ≡ eqb (get_or fs i 0) 1
  planned_by fs c = certified_at (round_in t) (known t h ready).fine (raised fs) c.certified (blank 0) i row_there ∙ raised_at fs i (flag_there fs c)

  pub flag_in : (fs : List ℕ) → Chosen (round_in t) fs → get_or fs i 0 ≡ 1 → in_plan (at (round_in t) i) (plan (round_in t)) ≡ true
  flag_in fs c e = planned_by fs c ∙ eq-eqb (get_or fs i 0) 1 e

  pub every_in : (x : Reach) → Reaches (round_in t) x → x.over ≡ 0 → in_plan (at (round_in t) i) (plan (round_in t)) ≡ true
  every_in x w e =
      let n = length (round_in t).rows in
      flag_in (replicate n 1) (all_chosen (round_in t) (w.fits e)) (get_or-replicate {A = ℕ} n i 1 0 row_there)

  pub far_in : (x : Reach) → Reaches (round_in t) x → h.slot.0 + x.free ≤ (at (round_in t) i).due → in_plan (at (round_in t) i) (plan (round_in t)) ≡ true
  unfolding planned
  far_in x w d =
      let r = round_in t in
      let k = known t h ready in
      let f = k.fine in
      let c = certified_found r f (flags (plan r) r.rows) (plan_certified r f) in
      let j = getD_in r.rows (blank 0) i row_there in
      elim (either (in_plan (at r i) (plan r))) [
        | inl e ↦ e
        | inr e ↦
            let m = near_out r f (planned r) c (r.slot + x.free) w.near (at r i) j (sym (in_plan_is r f (planned r) c (at r i) j) ∙ e) in
            absurd (omega (arith, m, d, k.slot))
      ]

  -- WHAT STANDS IN for it
  pub stands_outside : (fs : List ℕ) → Chosen (round_in t) fs → (get_or fs i 0 ≡ 1 → ⊥) → StoodIn (round_in t) i (refused 11)
  unfolding stand_in
  stands_outside fs c n = rw (planned_by fs c ∙ ne_eqb (get_or fs i 0) 1 n)

  pub stands : (s : Sub) (a : Reply) → in_plan (at (round_in t) i) (plan (round_in t)) ≡ true → Substitutes (round_in t) i s → Named (round_in t) s a →
      StoodIn (round_in t) i a
  unfolding stand_in blank
  stands (Row-of j) a p s e =
      let u = (known t h ready).fine.rising in
      let m : 1 ≤ (at (round_in t) j).ticket = rising_above 1 (round_in t).next (at (round_in t) j) (round_in t).rows u
      (getD_in (round_in t).rows (blank 0) j s.0) in
      rw (p, s.1, ne_eqb (at (round_in t) j).ticket 0 (λ z. omega (arith, z, m))) e
  stands (Blank d) a p s e = rw (p, s) e

-- BY THE PLAN: a row due before free
module _ (t : List ℕ) (h : Head) (k : Ready t h) (x : Reach) (w : Reaches (round_in t) x) (ks fs : List ℕ) (g : Gives (round_in t) x ks fs) (i : ℕ) (l : i < h.used)
    (d : ℕ) (due : DueAt (round_in t) i d) (b : (at (round_in t) i).due < h.slot.0 + x.free) where
  pub row_asked : LentAsked ks fs (length ks) h.slot.0 d
  row_asked = plan_asked t h x k w ks fs g d (omega (arith, due.from, (known t h k).slot)) (omega (arith, due.is, b))

  pub row_kept : (s : Sub) → Flagged ks fs h.slot.0 d i (Ok s) → Substitutes (round_in t) i s
  row_kept s f =
      plan_substitute t h x k w ks fs g d (omega (arith, due.from, (known t h k).slot)) (omega (arith, due.is, b)) i s l f.0 (sym due.is) f.1

  pub row_out : (e : Refusal) → Flagged ks fs h.slot.0 d i (Err e) → StoodIn (round_in t) i (refused (refusal_number e))
  row_out e f = rw f.1 (stands_outside t h k i l fs g.chosen f.0)

pub sub_there : (r : Round) (i : ℕ) (s : Sub) → Substitutes r i s → There r s
sub_there r i (Row-of j) s = s.0
sub_there r i (Blank d) s = tt

-- tickets rise, so a ticket has one row
pub found_ticket : (a b : ℕ) (xs : List Row) (i : ℕ) (z : Row) → Rising a b xs → i < length xs → with_ticket (get_or xs i z).ticket xs ≡ some (get_or xs i z)
unfolding with_ticket
found_ticket a b [] i z s h = absurd (omega arith)
found_ticket a b (x ∷ xs) zero z s h = rw (eq-eqb x.ticket x.ticket refl)
found_ticket a b (x ∷ xs) (suc i) z s h =
    rw (ne_eqb x.ticket (get_or xs i z).ticket
    (λ e. omega (arith, e, rising_above (suc x.ticket) b (get_or xs i z) xs s.1 (getD_in xs z i (omega arith)))))
    (found_ticket (suc x.ticket) b xs i z s.1 (omega arith))

pub no_ticket : (k : ℕ) (xs : List Row) (z : Row) → ((i : ℕ) → i < length xs → (get_or xs i z).ticket ≡ k → ⊥) → with_ticket k xs ≡ none
unfolding with_ticket
no_ticket k [] z n = refl
no_ticket k (x ∷ xs) z n = rw (ne_eqb x.ticket k (λ e. n 0 (omega arith) e)) (no_ticket k xs z (λ i h e. n (suc i) (omega arith) e))

-- THE CALL: 2 and 3, 5, 10, then what stands in
pub substitute_table : (k : ℕ) (t : List ℕ) (n : ℕ) → n ≡ table_refusal t → (n ≡ 0 → ⊥) → refused n ≡ substitute_answer k t
unfolding substitute_answer first
substitute_table k t n e h =
    let f = ne_eqb (table_refusal t) 0 (λ z. h (e ∙ z)) in rw (f, f) (ap refused e)

module _ (k : ℕ) (t : List ℕ) (sound : table_refusal t ≡ 0) where
  pub substitute_over : (n : ℕ) → first_of (over (round_in t).slot (round_in t).last ∷ []) ≡ n → (n ≡ 0 → ⊥) → refused n ≡ substitute_answer k t
  unfolding substitute_answer first
  substitute_over n e h = rw (sound, e, ne_eqb n 0 h)

  pub substitute_nowhere : first_of (over (round_in t).slot (round_in t).last ∷ []) ≡ 0 →
      ((i : ℕ) → i < length (round_in t).rows → (at (round_in t) i).ticket ≡ k → ⊥) →
      refused 10 ≡ substitute_answer k t
  unfolding substitute_answer first stand_in
  substitute_nowhere e n = rw (sound, e, no_ticket k (round_in t).rows (blank 0) n)

  pub substitute_found : first_of (over (round_in t).slot (round_in t).last ∷ []) ≡ 0 → Fine (round_in t) → (i : ℕ) →
      (i < length (round_in t).rows) × ((at (round_in t) i).ticket ≡ k) →
      stand_in (round_in t) (some (at (round_in t) i)) ≡ substitute_answer k t
  unfolding substitute_answer first
  substitute_found e f i h =
      let g : with_ticket k (round_in t).rows ≡ some (at (round_in t) i) =
      ap (λ (n : ℕ). with_ticket n (round_in t).rows) (sym h.1) ∙ found_ticket 1 (round_in t).next (round_in t).rows i (blank 0) f.rising h.0 in
      rw (sound, e, g)
