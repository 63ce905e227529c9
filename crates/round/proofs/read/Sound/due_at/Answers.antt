-- `round::read::Sound::due_at` meets its contract: a row's due slot, by its bytes.
use Rattle.round.proofs.ReadLaws.{reads_within, due_read}
use Rattle.round.proofs.read.Sound.due_at.Goals as goal

pub due_in-requires : goal.due_in-requires
due_in-requires c = reads_within _ _ c.args.self.now.ready _ c.requires

pub returns : goal.returns
returns c = due_read _ _ _ _ c.args.self.now.ready c.requires c.due_in.ensures
