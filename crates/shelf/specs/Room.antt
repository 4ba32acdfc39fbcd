-- How much of a drive is held, and how much can still be written.
use Rattle.std.specs.Prelude.{ℕ, ◌-◌, min, count_by}
use Rattle.std.specs.List.{range_with_len}
use Rattle.shelf.specs.Meaning.{Meaning}
use Rattle.shelf.specs.declared.room.Room.{Room}

-- How many of the first n blocks of a drive are held.
abbrev pub held_below : Meaning → ℕ → ℕ → ℕ
held_below m d n = count_by (m.held d) (range_with_len 0 n)

-- The blocks of a drive, those held, and those of the others that there is something to spare for.
abbrev pub room_of : Meaning → ℕ → Room
room_of m d = record {
  blocks = m.size d;
  held = held_below m d (m.size d);
  left = min m.spare (m.size d - held_below m d (m.size d));
}
