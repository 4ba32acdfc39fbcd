use Rattle.makes.proofs.Densely.{dense_wrote}
use Rattle.makes.proofs.dense.DenseShelf.write.Goals as goal
use Rattle.std.proofs.Common.{arith}

pub returns : goal.returns
returns c =
    let p = rw c.in_ok-place.ensures.ok_part at c.place.ensures in
    let r = dense_wrote c.args.self.now.plan.sizes c.args.self.now.store.words.now c.put.new.self.words.now c.args.words.now c.args.at.drive c.args.at.block c.in_ok-place.place
    p.0 c.args.self.now.enough (omega arith) p.1 c.put.ensures.after in
    record { answer = r.answer; after = r.after; words = r.words_then; lent = c.put.ensures.lent }
