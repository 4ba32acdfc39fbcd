use Rattle.std.proofs.Common.{◌+◌, ◌^◌, ◌<◌}
use Rattle.transfer.proofs.Runs.{Left}
use Rattle.transfer.proofs.blocks.write_blocks.Given as goal
use Rattle.transfer.specs.Transfer.{answers_write, left_write, writing}

-- the blocks that are left give what the whole gives
abbrev pub invariant-loop-i : goal.invariant-loop-i
invariant-loop-i g l =
    let m = g.S.Shelf.meaning in
    record {
      near : l.extent.first.block + l.i < 2 ^ 32;
      left : Left (answers_write l.extent) (left_write l.extent l.memory l.span) l.extent (writing (m l.initial.shelf) l.extent l.memory l.span) l.i (m l.shelf);
    }
