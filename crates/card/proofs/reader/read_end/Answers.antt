use Rattle.std.proofs.Common.{Err, ap, ◌∙◌, arith}
use Rattle.card.proofs.Streams.{ending_done, ending_over}
use Rattle.card.proofs.reader.read_end.Goals as goal

pub returns-then-end-bytes : goal.returns-then-end-bytes
returns-then-end-bytes c =
    ap Err c.at-then-end-bytes.ensures ∙ ending_over c.args.bytes.now c.args.at c.in_ok-read_field.field-0 c.in_ok-read_field.ensures.value c.if-branch-ne0.false (omega arith)

pub returns : goal.returns
returns c =
    ending_done c.args.bytes.now c.args.at c.in_ok-read_field.field-0 c.in_ok-read_field.ensures.value c.if-branch-ne0.false (omega arith)
