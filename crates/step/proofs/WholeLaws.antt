-- Where no row is left out: each way that the pick names.
use mathlib.Core.Path.{◌≡◌, subst}
use mathlib.Core.Bool.{true, false}
use mathlib.Core.List.{List}
use Prim.Native.Nat.{ℕ, ◌<◌}
use native.Mathlib.Omega.{arith}
use Rattle.rules.specs.Table.{round_in}
use Rattle.sorts.specs.declared.Round.{Round as Head}
use Rattle.sorts.specs.declared.Slot.{Slot}
use Rattle.sorts.specs.declared.Weight.{Weight}
use Rattle.round.proofs.ReadLaws.{Known, known, at_fine}
use Rattle.whole.specs.Whole.{Picked}
use Rattle.whole.specs.declared.Whole.{Whole}
use Rattle.whole.specs.declared.Whole.TheVariants.{First, Far, Kept}
use Rattle.whole.proofs.SendLaws.{first_sends, far_sends, kept_sends}
use Rattle.went.specs.Send.{LeavesAlone, KeepsBlank}
use Rattle.step.specs.Step.{WholeStep}

module _ {t : List ℕ} {h : Head} {k : Whole} (w : WholeStep t h k) where
  abbrev n : Known t h
  n = known t h w.ready

  picked_as : {q : Whole} → k ≡ q → Picked (round_in t) w.reach.free q
  picked_as e = subst (λ (y : Whole). Picked (round_in t) w.reach.free y) e w.picked

  pub whole_first : {i : ℕ} → k ≡ First i → LeavesAlone t h false i
  whole_first {i} e =
      let p = picked_as e in
      record {
        ready = w.ready;
        below = omega (arith, p.leading.below, n.used);
        sends = first_sends t h w.reach w.ready w.reaches w.none w.unsealed i p;
      }

  pub whole_far : {i : ℕ} → k ≡ Far i → LeavesAlone t h true i
  whole_far {i} e =
      let p = picked_as e in
      record {
        ready = w.ready;
        below = omega (arith, p.leading.below, n.used);
        sends = far_sends t h w.reach w.ready w.reaches w.none w.unsealed i p;
      }

  pub whole_kept : {i : ℕ} {b : Slot} {m : Weight} → k ≡ Kept i b m → KeepsBlank t h i b.0 m.0
  whole_kept {i} {b} {m} e =
      let p = picked_as e in
      let j : i < h.used = omega (arith, p.leading.below, n.used) in
      let f = at_fine t h w.ready i j in
      let l = p.mark in
      let g = at_fine t h w.ready l.row (omega (arith, l.below, n.used)) in
      record {
        ready = w.ready;
        below = j;
        later = p.later;
        by = omega (arith, p.from, f.due_by);
        some = omega (arith, l.weight, g.some);
        most = omega (arith, l.weight, g.most);
        sends = kept_sends t h w.reach w.ready w.reaches w.none w.unsealed i b m p;
      }
