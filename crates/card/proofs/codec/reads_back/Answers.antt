use Rattle.card.proofs.Trips.{reads_back}
use Rattle.card.proofs.codec.reads_back.Goals as goal

pub returns : goal.returns
returns c = reads_back
