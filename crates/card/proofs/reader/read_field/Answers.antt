use Rattle.std.proofs.Common.{Err, ap, ◌∙◌, arith}
use Rattle.card.proofs.Streams.{field_ends, field_fits}
use Rattle.card.proofs.reader.read_field.Goals as goal

pub returns-then-div_ceil-bytes : goal.returns-then-div_ceil-bytes
returns-then-div_ceil-bytes c =
    record { value = ap Err c.at.ensures ∙ field_ends c.args.bytes.now c.args.at c.args.width.bits (omega arith); bound = tt }

pub returns : goal.returns
returns c =
    record { value = field_fits c.args.bytes.now c.args.at c.args.width.bits _ (omega arith) c.number.ensures.value; bound = c.number.ensures.bound }
