use Rattle.std.proofs.lemmas.List.{length-take-le}
use Rattle.card.specs.Bits.{stream}
use Rattle.card.proofs.Streams.{queue_read}
use Rattle.card.proofs.reader.read_queue.Goals as goal

pub returns : goal.returns
returns c =
    let few = c.requires.few in
    queue_read c.read_fields.new.out (stream c.args.bytes.now) _ c.args.from c.args.n _ c.from_slice.ensures c.in_ok-read_fields.ensures c.read_fields.auto.out (length-take-le c.args.n _ few) few
