use Rattle.record.proofs.Queues.{filled_front}
use Rattle.record.proofs.queue.Queue.from_slice.Goals as goal

pub invariant_of-result : goal.invariant_of-result
invariant_of-result c =
    let f = filled_front c.args.from.now c.put_front.new.to c.min-len.result c.min-len.ensures c.put_front.ensures in
    record { sized = f.0; few = f.1; blank = f.2 }

pub returns : goal.returns
returns c = (filled_front c.args.from.now c.put_front.new.to c.min-len.result c.min-len.ensures c.put_front.ensures).3
