use Rattle.std.proofs.Common.{◌*◌, arith}
use Rattle.transfer.proofs.Places.{scattered_all, scatters_on}
use Rattle.transfer.proofs.span.Span.scatter.Goals as goal

pub loop-j-preserved : goal.loop-j-preserved
loop-j-preserved c = scatters_on c.loop-j.memory c.args.memory.now c.args.self (128 * c.args.i) c.place.result c.args.block.now c.loop-j.j (omega arith) c.place.ensures c.loop-j.invariant

pub returns : goal.returns
returns c = scattered_all c.loop-j.memory c.args.memory.now c.args.self (128 * c.args.i) c.args.block.now c.loop-j.j (omega arith) c.loop-j.invariant
