-- `round::read::Sound::is_kept` meets its contract: a row's kind, by its byte.
use Rattle.round.proofs.ReadLaws.{reads_within, kept_read}
use Rattle.round.proofs.read.Sound.is_kept.Goals as goal

pub kind_in-requires : goal.kind_in-requires
kind_in-requires c = reads_within _ _ c.args.self.now.ready _ c.requires

pub returns : goal.returns
returns c = kept_read _ _ _ _ c.args.self.now.ready c.requires c.kind_in.ensures
