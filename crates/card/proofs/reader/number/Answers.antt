use Rattle.std.proofs.Common.{◌≡◌, ◌+◌, ◌-◌, ◌<◌, length, arith}
use Rattle.card.specs.Bits.{stream}
use Rattle.card.proofs.Streams.{doubles, spelled_more, spelled_none, stream_long}
use Rattle.card.proofs.reader.number.Goals as goal

pub loop-i-preserved : goal.loop-i-preserved
loop-i-preserved c =
    let s = stream c.args.bytes.now in
    let n = stream_long c.args.bytes.now in
    let lt : c.args.from + c.loop-i.i < length s = omega arith in
    let e = spelled_more s (c.args.from + c.loop-i.i) (c.args.width.bits - c.loop-i.i) c.loop-i.value (omega arith) lt in
    let b = c.bit.ensures.value in
    let k : c.args.width.bits - (c.loop-i.i + 1) ≡ c.args.width.bits - c.loop-i.i - 1 = omega arith in
    let j : c.args.from + (c.loop-i.i + 1) ≡ c.args.from + c.loop-i.i + 1 = omega arith in
    (cc, doubles _ _ _ c.loop-i.invariant.1 c.bit.ensures.bound)

pub returns : goal.returns
returns c =
    let k : c.args.width.bits - c.loop-i.i ≡ 0 = omega arith in
    let n = spelled_none (stream c.args.bytes.now) (c.args.from + c.loop-i.i) c.loop-i.value in
    let w : c.loop-i.i ≡ c.args.width.bits = omega arith in
    record { value = cc; bound = rw w at c.loop-i.invariant.1 }
