use Rattle.std.proofs.Common.{◌≡◌, arith, rules}
use Rattle.card.specs.Writer.{within}
use Rattle.card.proofs.Runs.{run_more, room_more, run_none}
use Rattle.card.proofs.writer.store.Goals as goal

pub loop-left-preserved : goal.loop-left-preserved
loop-left-preserved c = search (rules, run_more, room_more)

pub returns : goal.returns
returns c =
    let k : c.loop-left.left ≡ 0 = omega arith in
    let n = run_none (within c.loop-left.out c.loop-left.at) c.args.value in cc
