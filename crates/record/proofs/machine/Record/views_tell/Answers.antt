use Rattle.record.proofs.Same.{views_tell}
use Rattle.record.proofs.machine.Record.views_tell.Goals as goal

pub returns : goal.returns
returns c = views_tell
