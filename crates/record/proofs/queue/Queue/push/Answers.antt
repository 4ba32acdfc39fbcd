use Rattle.std.proofs.Common.{arith}
use Rattle.std.proofs.lemmas.List.{length-set}
use Rattle.record.proofs.Queues.{blank_more, push_ok}
use Rattle.record.proofs.queue.Queue.push.Goals as goal

pub invariant_of-self : goal.invariant_of-self
invariant_of-self c =
    record { sized = simp length-set (omega arith); few = omega arith; blank = blank_more _ _ _ _ c.if-self-ge64.false c.args.self.now.blank }

pub returns : goal.returns
returns c =
    let r = push_ok c.args.self.now c.args.byte c.if-self-ge64.false in record { answer = r.0; after = r.1 }
