use Rattle.card.proofs.Trips.{writes_back}
use Rattle.card.proofs.codec.writes_back.Goals as goal

pub returns : goal.returns
returns c = writes_back
