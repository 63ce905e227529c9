use Rattle.round.proofs.ReadLaws.{known}
use mathlib.Core.Path.{refl}
use Rattle.sender.proofs.SenderLaws.{due_now, few_now, whole_given}
use native.Mathlib.Omega.{arith}
use Rattle.buckets.proofs.ReachLaws.{multiples}
use Rattle.went.proofs.SendLaws.{silence_says, none_sends, none_due}
use Rattle.sender.proofs.send_sound.Goals as goal

pub send_silence-requires : goal.send_silence-requires
send_silence-requires c =
    (c.requires.0, none_due c.requires.0 (omega arith))

pub returns-then-round-eq0 : goal.returns-then-round-eq0
returns-then-round-eq0 c =
    silence_says c.requires.0 (none_sends c.requires.0 (omega arith)) c.send_silence.ensures

pub reach_of-reach-requires : goal.reach_of-reach-requires
reach_of-reach-requires c =
    (c.requires.0.time, multiples _ _ _ c.requires.0 c.requires.1)

pub overflow_cast-expiring : goal.overflow_cast-expiring
overflow_cast-expiring c =
    omega (arith, few_now _ _ _ c.requires.0 c.requires.1)

pub send_all-requires : goal.send_all-requires
send_all-requires c = (
  whole_given _ _ _ _ c.requires.0 (λ z. omega (arith, z)) c.requires.1 c.reach_of-reach.ensures (omega arith),
  due_now _ _ _ c.requires.0 c.requires.1 _ refl,
)

pub send_in_arrays-requires : goal.send_in_arrays-requires
send_in_arrays-requires c =
    (c.requires.0, c.requires.1, c.reach_of-reach.ensures, (λ z. omega (arith, z)), due_now _ _ _ c.requires.0 c.requires.1 _ refl, omega arith, omega arith)

pub send_in_arrays-requires-2 : goal.send_in_arrays-requires-2
send_in_arrays-requires-2 c =
    let n = known _ _ c.requires.0 in (
      c.requires.0,
      c.requires.1,
      c.reach_of-reach.ensures,
      (λ z. omega (arith, z)),
      due_now _ _ _ c.requires.0 c.requires.1 _ refl,
      omega (arith, n.used, n.small),
      omega arith,
    )
