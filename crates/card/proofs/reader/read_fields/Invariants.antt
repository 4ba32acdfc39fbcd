use Rattle.std.proofs.Common.{◌≡◌, ◌+◌, ◌-◌, ◌*◌, [], length, map, take}
use Rattle.card.specs.Bits.{stream}
use Rattle.card.specs.Card.{gather}
use Rattle.card.proofs.reader.read_fields.Given as goal

-- the fields that are left are gathered behind those that were read
abbrev pub invariant-loop-field : goal.invariant-loop-field
invariant-loop-field g l =
    (length l.out ≡ length l.initial.out)
    × (l.at ≡ l.from + g.T.Field.wide * l.field-index)
    × (gather (map g.T.Field.value (take l.field-index l.out)) (stream l.bytes) l.at g.T.Field.wide (length l.initial.out - l.field-index) ≡ gather [] (stream l.bytes) l.from g.T.Field.wide (length l.initial.out))
