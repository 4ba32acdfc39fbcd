use Rattle.std.proofs.Common.{◌≡◌, ◌+◌, ◌-◌, ◌^◌, ◌<◌, take, drop}
use Rattle.card.specs.Bits.{spelled, stream}
use Rattle.card.proofs.reader.number.Given as goal

-- the bits that are left spell the rest of the number
abbrev pub invariant-loop-i : goal.invariant-loop-i
invariant-loop-i l =
    (spelled l.value (take (l.fn.width.bits - l.i) (drop (l.from + l.i) (stream l.bytes))) ≡ spelled 0 (take l.fn.width.bits (drop l.from (stream l.bytes))))
    × (l.value < 2 ^ l.i)
