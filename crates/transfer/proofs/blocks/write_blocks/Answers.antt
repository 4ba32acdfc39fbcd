use Rattle.std.proofs.Common.{◌≡◌, ◌+◌, ◌*◌, length, true, sym, refl, arith}
use Rattle.shelf.specs.Meaning.{has}
use Rattle.transfer.proofs.Places.{within}
use Rattle.transfer.proofs.Runs.{ends, goes_on, goes_out, near, refused_keeps, stops, there}
use Rattle.transfer.proofs.blocks.write_blocks.Goals as goal

pub gather-block-requires : goal.gather-block-requires
gather-block-requires g c = within c.args.span (length c.args.memory.now) (length c.args.memory.now) (128 * c.args.extent.count) _ (sym c.if-not-reaches.ensures) refl (omega arith)

pub loop-i-preserved : goal.loop-i-preserved
loop-i-preserved g c =
    let m = g.S.Shelf.meaning c.loop-i.shelf in
    let d = c.args.extent.first.drive in
    let b = c.args.extent.first.block + c.loop-i.i in
    let told = rw c.block.ensures at c.write.ensures.answer in
    let kept = rw c.block.ensures at c.write.ensures.after in
    let h : has m d b ≡ true = there _ _ _ _ _ told c.in_ok-write.was in
    record {
      near = near m d c.args.extent.first.block c.loop-i.i g.S.Shelf.most h (g.met.S.Shelf.bounded c.loop-i.shelf d) g.met.S.Shelf.offered;
      left = goes_on c.loop-i.invariant.left c.loop-i-test.true told c.in_ok-write.was (rw c.gather-block.ensures at kept);
    }

pub returns-in_err-write : goal.returns-in_err-write
returns-in_err-write g c =
    let told = rw c.block.ensures at c.write.ensures.answer in
    let kept = rw c.block.ensures at c.write.ensures.after in
    let m = g.S.Shelf.meaning in
    let same : m c.write.new.self ≡ m c.loop-i.shelf = refused_keeps _ _ _ _ _ _ _ _ _ told c.in_err-write.was kept in
    let s = stops c.loop-i.invariant.left c.loop-i-test.true told c.in_err-write.was same in
    record { answer = goes_out c.from_residual.result _ c.in_err-write.field-0.0 c.from_residual.ensures.1 s.0; after = s.1 }

pub returns : goal.returns
returns g c = let s = ends c.loop-i.invariant.left c.loop-i-test.false in record { answer = s.0; after = s.1 }
