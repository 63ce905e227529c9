-- From the counts to the rows due now, and from no row left out to the step.
use mathlib.Core.Path.{◌≡◌, ap, subst}
use mathlib.Core.Bool.{false}
use mathlib.Core.Logic.{inl, inr, ◌≢◌}
use mathlib.Core.List.{List}
use Prim.Native.Nat.{ℕ, suc, ◌+◌, ◌/◌, ◌≤◌}
use native.Mathlib.Omega.{arith}
use lib.ListN.{get_or}
use Rattle.rules.specs.Table.{round_in}
use Rattle.theory.specs.Tests.{leb?}
use Rattle.theory.specs.Sum.{sum, sum_le, length_sum}
use Rattle.theory.specs.All.{all_map}
use Rattle.theory.specs.Bounds.{RowFine}
use Rattle.theory.specs.Feas.{num}
use Rattle.theory.specs.Count.{under, under_1, counts_next, counts_none, counts_below, counts_all}
use Rattle.theory.specs.Members.{RowsOfPlan}
use Rattle.theory.specs.Near.{Near}
use Rattle.theory.specs.Whole.{sends_idle}
use Rattle.sorts.specs.declared.Round.{Round as Head}
use Rattle.round.specs.Rows.{Ready, top_of}
use Rattle.round.specs.Buckets.{Counted}
use Rattle.round.proofs.ReadLaws.{known}
use Rattle.buckets.specs.Reach.{ReachSays, head_top}
use Rattle.buckets.specs.declared.Reach.{Reach}
use Rattle.buckets.proofs.ReachLaws.{reaches, count_rows}
use Rattle.buckets.proofs.SegmentLaws.{whole_rows}
use Rattle.closing.specs.Close.{DueNow}
use Rattle.whole.specs.Whole as whole
use Rattle.whole.specs.declared.Whole.{Whole}
use Rattle.step.specs.Step.{WholeStep}
use Rattle.went.specs.Send.{Silent, SentSays, LeavesAlone}
use Rattle.replies.specs.declared.Step.{Step}
use Rattle.went.proofs.SendLaws.{silence_says, num_most}
use Rattle.first.specs.First.{IsFirst}
use Rattle.first.proofs.SendLaws.{first_sends}

-- ROWS DUE NOW: no more than the first bucket counts
pub due_now : (t : List ℕ) (h : Head) (cs : List ℕ) → Ready t h → Counted (round_in t) cs → (n : ℕ) → n ≡ get_or cs 0 0 / 2048 → DueNow t n
due_now t h cs k c n e =
    let r = round_in t in
    let v = known t h k in
    let a = counts_next r.slot (top_of r) 0 r.rows in
    let b = counts_none r.slot (top_of r) r.rows in
    let d = count_rows r cs c 0 (omega arith) in
    elim (leb? 1 (top_of r)) [
      | inl g ↦
          let q : suc r.slot ≡ r.slot + 1 = omega arith in
          omega (
            arith,
            e,
            d,
            a,
            b,
            counts_below r.slot (top_of r) 1 r.rows g.1
                (all_map {Q = λ x. r.slot ≤ x.due} (λ x (w : RowFine r x). w.due_from) r.rows v.fine.fine),
            ap (λ (u : ℕ). num 0 u r.rows) q,
          )
      | inr g ↦
          let z : top_of r ≡ 0 = omega (arith, g.1) in
          omega (
            arith,
            e,
            d,
            a,
            b,
            counts_all r.slot (top_of r) r.rows,
            ap (λ (u : ℕ). sum (under r.slot (top_of r) (suc u)) r.rows) z,
            num_most (suc r.slot) r.rows,
          )
    ]

-- the first bucket counts no more rows than there are
pub few_now : (t : List ℕ) (h : Head) (cs : List ℕ) → Ready t h → Counted (round_in t) cs → get_or cs 0 0 / 2048 ≤ 1024
few_now t h cs k c =
    let r = round_in t in
    omega (
      arith,
      count_rows r cs c 0 (omega arith),
      counts_next r.slot (top_of r) 0 r.rows,
      counts_none r.slot (top_of r) r.rows,
      sum_le (under r.slot (top_of r) 1) (λ x. 1) (under_1 r.slot (top_of r) 1) r.rows,
      length_sum r.rows,
      (known t h k).small,
    )

-- WHERE NO ROW IS LEFT OUT
pub whole_given : (t cs : List ℕ) (h : Head) (x : Reach) → Ready t h → (h.used ≡ 0 → ⊥) → Counted (round_in t) cs →
    ReachSays cs (head_top h) x → x.over ≡ 0 → whole.Given t cs h x
whole_given t cs h x k n c s o =
    record { ready = k; some = omega (arith, n); counted = c; reaches = reaches t h cs x k c s; none = o }

module _ {t cs : List ℕ} {h : Head} {x : Reach} (g : whole.Given t cs h x) where
  pub whole_step : h.sealed ≢ 1 → {w : Whole} → whole.Picked (round_in t) x.free w → WholeStep t h w
  whole_step u p =
      record {
        ready = g.ready;
        unsealed = λ e. u (omega (arith, e, (known t h g.ready).sealed));
        reach = x;
        reaches = g.reaches;
        none = g.none;
        picked = p;
      }

  -- sealed, the first of all rows goes; silence where rows fill no slot
  module _ (u : h.sealed ≡ 1) where
    all_rows : RowsOfPlan (round_in t) (round_in t).rows
    all_rows = whole_rows (round_in t) (known t h g.ready).fine x g.reaches g.none

    is_sealed : (round_in t).tail.sealed ≡ 1
    is_sealed = omega (arith, u, (known t h g.ready).sealed)

    pub all_alone : (x.free ≡ 0 → ⊥) → {i : ℕ} → IsFirst (round_in t) (round_in t).rows i → LeavesAlone t h false i
    all_alone o {i} f =
        let r = round_in t in
        let n = known t h g.ready in
        record {
          ready = g.ready;
          below = omega (arith, f.below, n.used);
          sends = first_sends r n.fine n.time r.rows all_rows is_sealed (r.slot + x.free) g.reaches.near (omega (arith, o)) i f;
        }

    pub all_idle : x.free ≡ 0 → {v : List ℕ} {w : Step} → Silent t v w → SentSays t v w
    all_idle o s =
        let r = round_in t in
        let n = known t h g.ready in
        let z : r.slot + x.free ≡ r.slot = omega (arith, o) in
        silence_says g.ready (sends_idle r n.fine n.time r.rows all_rows is_sealed (subst (λ (e : ℕ). Near r e) z g.reaches.near)) s
