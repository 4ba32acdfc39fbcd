use Rattle.std.proofs.Common.{◌≡◌, ℕ, ◌*◌, ◌^◌, ◌<◌, drop, get_or, map}
use Rattle.card.specs.Bits.{fields}
use Rattle.card.specs.Writer.{Moved, lent, run, state}
use Rattle.card.proofs.codec.put_fields.Given as goal

-- the fields that are left give what the whole gives
abbrev pub invariant-loop-value : goal.invariant-loop-value
invariant-loop-value g l =
    (lent l.w ≡ lent l.initial.w)
    × Moved (state l.initial.w) (state l.w) (g.T.Field.wide * l.value-index)
    × ((k : ℕ) → k < l.value-index → get_or (map g.T.Field.value l.values) k 0 < 2 ^ g.T.Field.wide)
    × (run (state l.w) (fields g.T.Field.wide (drop l.value-index (map g.T.Field.value l.values))) ≡ run (state l.initial.w) (fields g.T.Field.wide (map g.T.Field.value l.values)))
