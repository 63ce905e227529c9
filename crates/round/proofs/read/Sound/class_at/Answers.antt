-- `round::read::Sound::class_at` meets its contract: a row's class, by its byte.
use Rattle.round.proofs.ReadLaws.{reads_within, class_read}
use Rattle.round.proofs.read.Sound.class_at.Goals as goal

pub class_in-requires : goal.class_in-requires
class_in-requires c = reads_within _ _ c.args.self.now.ready _ c.requires

pub returns : goal.returns
returns c = class_read _ _ _ _ c.args.self.now.ready c.requires (search c.class_in.ensures)
