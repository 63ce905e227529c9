-- `round::read::Sound::ticket_at` meets its contract: a row's ticket, by its bytes.
use Rattle.round.proofs.ReadLaws.{reads_within, ticket_read}
use Rattle.round.proofs.read.Sound.ticket_at.Goals as goal

pub ticket_in-requires : goal.ticket_in-requires
ticket_in-requires c = reads_within _ _ c.args.self.now.ready _ c.requires

pub returns : goal.returns
returns c = ticket_read _ _ _ _ c.args.self.now.ready c.requires c.ticket_in.ensures
