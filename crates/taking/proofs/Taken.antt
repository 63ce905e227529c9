-- Taking on a sound table by its head: the room there is, and what is owed once all is written.
use mathlib.Core.Path.{◌≡◌, ap, ◌∙◌}
use mathlib.Core.List.{List, ◌++◌}
use Prim.Native.Nat.{ℕ, ◌+◌, ◌≤◌, ◌<◌}
use native.Mathlib.Omega.{arith}
use lib.ListN.{length, drop}
use lib.Seq.{sets}
use Rattle.rules.specs.Limits.{row_size, most_rows, ticket_limit, head_zeros_at}
use Rattle.rules.specs.Rows.{Frame, framed, round}
use Rattle.rules.specs.Table.{round_in, table_refusal}
use Rattle.rules.specs.Conditions.{row_at}
use Rattle.rules.specs.Calls.{taking, acting, act, deed, ticket, says, leaves, Says}
use Rattle.theory.specs.Outcomes.{says_accepted}
use Rattle.sorts.specs.declared.Round.{Round}
use Rattle.sorts.specs.Tail.{tail_of}
use Rattle.checks.proofs.Accepted.{take_accepted}
use Rattle.head.specs.Head.{HeadOf}
use Rattle.row.specs.Numbers.{row_numbers}
use Rattle.head.specs.Numbers.{head_numbers}
use Rattle.round.proofs.ByHead.{taking_number, taking_by}
use Rattle.head.proofs.HeadLaws.{sound_head}
use Rattle.round.proofs.TableLaws.{taken_table}

module _ (t : List ℕ) (h : Round) (sound : table_refusal t ≡ 0) (head : HeadOf t h) (f : Frame) where
  pub used_room : h.used ≤ most_rows
  used_room = let s = sound_head t h sound head in omega (arith, s.used, s.few)

  module _ (free : taking_number h f ≡ 0) where
    pub row_free : (row_at h.used + row_size ≤ length t) × (h.used < most_rows) × (h.next.0 < ticket_limit) × (h.used < h.room)
    row_free =
        let s = sound_head t h sound head in
        let n = take_accepted h.slot.0 h.last.0 h.next.0 h.used h.room (tail_of h) f free in
        let m = n.0 in
        (omega (arith, s.long, n.1), omega (arith, s.few, n.1), omega (arith, s.most), n.1)

    -- ALL WRITTEN: the numbers that the writers were given are those of the head, once a frame is taken, and of the frame
    pub taken_says : (s l n u c : ℕ) (v z : List ℕ) (a j k e m p : ℕ) →
        (s ≡ h.slot.0) × (l ≡ h.last.0) × (n ≡ h.next.0 + 1) × (u ≡ h.used + 1) × (c ≡ h.sealed) → a ≡ row_at h.used →
        (j ≡ h.next.0) × (k ≡ h.next.0) × (e ≡ f.due) × (m ≡ f.weight) × (p ≡ f.class) → v ≡ sets t a (row_numbers k (framed e m p)) →
        z ≡ head_numbers s l n u (record { sealed = c }) ++ drop head_zeros_at v → Says (acting (taking f)) (ticket j) t z
    unfolding says leaves deed act round_in round
    taken_says s l n u c v z a j k e m p o i x y q =
        let room = take_accepted h.slot.0 h.last.0 h.next.0 h.used h.room (tail_of h) f free in
        let b = taken_table t h f v z sound head room.1 (y ∙ rw (i, x.1, x.2, x.3, x.4)) (q ∙ rw (o.0, o.1, o.2, o.3, o.4)) in
        let g = says_accepted (acting (taking f)) t z (taking_by t h sound head f ∙ free) b in
        (ap ticket (x.0 ∙ head.next) ∙ g.0, g.1)
