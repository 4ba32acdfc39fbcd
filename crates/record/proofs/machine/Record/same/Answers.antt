use Rattle.record.proofs.Same.{record_decides}
use Rattle.record.proofs.machine.Record.same.Goals as goal

pub returns : goal.returns
returns c = record_decides c.args.self.now c.args.other.now c.eq.result c.eq.ensures
