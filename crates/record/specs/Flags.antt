-- The flags word: R, Z, N, ERR, SYS, IP and VM are bits 0 to 6.
use Rattle.std.specs.Prelude.{ℕ, ◌+◌, ◌*◌, ◌/◌, ◌%◌, Bool, cond, ◌==◌}
use Rattle.record.specs.declared.state.Conditions.{Conditions}
use Rattle.record.specs.declared.state.Mode.{Mode}

-- a flag that is on counts 1
abbrev pub one_if : Bool → ℕ
one_if b = cond b 1 0

-- the flags as a word; its other bits are 0
abbrev pub flags_from : Conditions → Mode → ℕ
flags_from c m =
    one_if m.running + 2 * one_if c.z + 4 * one_if c.n + 8 * one_if c.err + 16 * one_if m.system + 32 * one_if m.in_interrupt + 64 * one_if m.paging

-- the flags of a word; its other bits set nothing
abbrev pub conditions_of : ℕ → Conditions
conditions_of f = record { z = (f / 2 % 2 == 1); n = (f / 4 % 2 == 1); err = (f / 8 % 2 == 1) }

abbrev pub mode_of : ℕ → Mode
mode_of f = record { running = (f % 2 == 1); system = (f / 16 % 2 == 1); in_interrupt = (f / 32 % 2 == 1); paging = (f / 64 % 2 == 1) }
