use Rattle.std.proofs.Common.{◌+◌, ◌^◌, ◌<◌}
use Rattle.transfer.proofs.Runs.{Left}
use Rattle.transfer.proofs.blocks.read_blocks.Given as goal
use Rattle.transfer.specs.Transfer.{answers_read, left_read, reading}

-- the blocks that are left give what the whole gives
abbrev pub invariant-loop-i : goal.invariant-loop-i
invariant-loop-i g l =
    let m = g.S.Shelf.meaning l.shelf in
    record {
      near : l.extent.first.block + l.i < 2 ^ 32;
      left : Left (answers_read m l.extent) (left_read m l.extent l.span) l.extent (reading m l.extent l.initial.memory l.span) l.i l.memory;
    }
