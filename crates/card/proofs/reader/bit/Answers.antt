use Rattle.std.proofs.Common.{◌%◌, ap, ◌∙◌, arith}
use Rattle.card.proofs.Streams.{bit_is}
use Rattle.card.proofs.reader.bit.Goals as goal

pub returns : goal.returns
returns c =
    record { value = ap (λ n. n % 2) c.from.ensures ∙ bit_is c.args.bytes.now c.args.at c.requires; bound = omega arith }
