use Rattle.std.proofs.Common.{◌∙◌}
use Rattle.record.proofs.Queues.{front_is, rest_is}
use Rattle.record.proofs.queue.Queue.take_front.Goals as goal

pub returns : goal.returns
returns c =
    record {
      value = c.from_slice-front.ensures ∙ front_is c.args.self.now _ _ c.min-cut.ensures;
      after = c.from_slice.ensures ∙ rest_is c.args.self.now _ _ c.min-cut.ensures;
    }
