use Rattle.std.proofs.Common.{◌≡◌, true}
use Rattle.card.specs.Bits.{bits}
use Rattle.card.specs.Writer.{room, run, within}
use Rattle.card.proofs.writer.store.Given as goal

-- the bits that are left give what the whole gives
abbrev pub invariant-loop-left : goal.invariant-loop-left
invariant-loop-left l =
    (room (within l.out l.at) l.left ≡ true)
    × (run (within l.out l.at) (bits l.left l.value) ≡ run (within l.initial.out l.initial.at) (bits l.initial.left l.value))
