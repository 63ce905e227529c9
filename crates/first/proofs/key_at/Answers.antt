-- `first::key_at`: the key of what is read.
use native.Mathlib.Omega.{arith}
use borrow.Author.Rules.{rules}
use Rattle.round.proofs.ReadLaws.{known}
use Rattle.keys.proofs.KeyLaws.{key_read}
use Rattle.first.proofs.key_at.Goals as goal

pub key_of-requires : goal.key_of-requires
key_of-requires c =
    let k = known _ _ c.args.sound.now.ready in
    (c.weight_at-weight.ensures.most, c.requires.1.small, omega (arith, c.class_at-class.ensures.most), omega (arith, k.used, k.small))

pub returns : goal.returns
returns c = key_read _ _ _ _ _ _ c.requires.1 c.weight_at-weight.ensures (search rules) c.key_of.ensures
