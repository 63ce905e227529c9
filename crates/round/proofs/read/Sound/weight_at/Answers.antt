-- `round::read::Sound::weight_at` meets its contract: a row's weight, by its bytes.
use Rattle.round.proofs.ReadLaws.{reads_within, weight_read}
use Rattle.round.proofs.read.Sound.weight_at.Goals as goal

pub weight_in-requires : goal.weight_in-requires
weight_in-requires c = reads_within _ _ c.args.self.now.ready _ c.requires

pub returns : goal.returns
returns c = weight_read _ _ _ _ c.args.self.now.ready c.requires c.weight_in.ensures
