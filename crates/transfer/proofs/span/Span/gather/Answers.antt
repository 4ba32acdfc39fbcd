use Rattle.std.proofs.Common.{rules, ◌+◌, ◌*◌, get_or}
use Rattle.transfer.proofs.Made.{made}
use Rattle.transfer.specs.Span.{gathered, place}
use Rattle.transfer.proofs.span.Span.gather.Goals as goal

pub returns : goal.returns
unfolding gathered
returns c =
    made _ _ (λ j. get_or c.args.memory.now (place c.args.self (128 * c.args.i + j)) 0) (λ j y f' k. search rules) c.from_fn.result 128 c.from_fn.ensures.items
