-- The slots of a sparse shelf: each tells the block that it is used for, if it is used.
use Rattle.std.specs.Prelude.{◌≡◌, ℕ, Bool, false, List, Some, None, position, count_by, is_none, Option, slice_index_or}
use Rattle.makes.specs.declared.slot.Slot.{Slot}
use Rattle.shelf.specs.Meaning.{same}
use Rattle.std.specs.Option.{option_map_or}

-- A slot that is not used, as making a shelf leaves it.
abbrev pub idle : Slot
idle = record { held = None }

-- A slot that is used for a block.
abbrev pub taken : ℕ → ℕ → Slot
taken d b = record { held = Some (record { drive = d; block = b }) }

-- A slot is used for the block.
abbrev pub tells : Slot → ℕ → ℕ → Bool
tells s d b = option_map_or (λ at. same at.drive at.block d b) s.held false

-- The first slot that is used for the block.
abbrev pub find : List Slot → ℕ → ℕ → Option ℕ
find slots d b = position (λ s. tells s d b) slots

-- The first slot that is not used.
abbrev pub first_idle : List Slot → Option ℕ
first_idle slots = position (λ s. is_none s.held) slots

-- How many slots are not used.
abbrev pub count_idle : List Slot → ℕ
count_idle slots = count_by (λ s. is_none s.held) slots

-- No two slots are used for one block: each that is used for a block is the first that is.
abbrev pub Apart : List Slot → Type 0
Apart slots = (i d b : ℕ) → slice_index_or slots i idle ≡ taken d b → find slots d b ≡ Some i
