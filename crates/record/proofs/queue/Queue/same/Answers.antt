use Rattle.record.proofs.Same.{queue_decides}
use Rattle.record.proofs.queue.Queue.same.Goals as goal

pub returns : goal.returns
returns c = queue_decides c.args.self.now c.args.other.now _ c.eq.ensures
