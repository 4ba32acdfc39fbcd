use Rattle.std.proofs.Common.{◌≡◌, ◌+◌, ◌*◌, length, true, sym, refl, arith}
use Rattle.shelf.specs.Meaning.{has}
use Rattle.transfer.proofs.Places.{within}
use Rattle.transfer.proofs.Runs.{ends, goes_on, goes_out, near, stops, there}
use Rattle.transfer.proofs.blocks.read_blocks.Goals as goal

pub scatter-requires : goal.scatter-requires
scatter-requires g c = within c.args.span (length c.args.memory.now) (length c.loop-i.memory) (128 * c.args.extent.count) _ (sym c.if-not-reaches.ensures) (omega arith) (omega arith)

pub loop-i-preserved : goal.loop-i-preserved
loop-i-preserved g c =
    let m = g.S.Shelf.meaning c.args.shelf.now in
    let d = c.args.extent.first.drive in
    let told = rw c.block.ensures at c.read.ensures.answer in
    let out = rw c.block.ensures at c.read.ensures.after in
    let h : has m d (c.args.extent.first.block + c.loop-i.i) ≡ true = there _ _ _ _ _ told c.in_ok-read.was in
    record {
      near = near m d c.args.extent.first.block c.loop-i.i g.S.Shelf.most h (g.met.S.Shelf.bounded c.args.shelf.now d) g.met.S.Shelf.offered;
      left = goes_on c.loop-i.invariant.left c.loop-i-test.true told c.in_ok-read.was (rw (out, h) at c.scatter.ensures);
    }

pub returns-in_err-read : goal.returns-in_err-read
returns-in_err-read g c =
    let told = rw c.block.ensures at c.read.ensures.answer in
    let s = stops c.loop-i.invariant.left c.loop-i-test.true told c.in_err-read.was refl in
    record { answer = goes_out c.from_residual.result _ c.in_err-read.field-0.0 c.from_residual.ensures.1 s.0; after = s.1 }

pub returns : goal.returns
returns g c = let s = ends c.loop-i.invariant.left c.loop-i-test.false in record { answer = s.0; after = s.1 }
