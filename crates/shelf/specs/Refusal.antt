-- The numbers of the refusals, and the faults that tell a block.
use Rattle.std.specs.Prelude.{ℕ}
use Rattle.shelf.specs.declared.refusal.BlockFault.{BlockFault}
use Rattle.shelf.specs.declared.refusal.BlockRefusal.{BlockRefusal}
use Rattle.shelf.specs.declared.refusal.BlockRefusal.TheVariants.{NoSuchBlock, RunsShort}
use Rattle.shelf.specs.declared.refusal.PlanRefusal.{PlanRefusal}
use Rattle.shelf.specs.declared.refusal.PlanRefusal.TheVariants.{BadLength, DeclaredBefore, NoSuchDrive}
use Rattle.shelf.specs.declared.refusal.ShelfRefusal.{ShelfRefusal}
use Rattle.shelf.specs.declared.refusal.ShelfRefusal.TheVariants.{DriveTooLong, UnfitMemory}

abbrev pub plan_number : PlanRefusal → ℕ
plan_number NoSuchDrive = 1
plan_number BadLength = 2
plan_number DeclaredBefore = 3

abbrev pub shelf_number : ShelfRefusal → ℕ
shelf_number DriveTooLong = 4
shelf_number UnfitMemory = 5

abbrev pub block_number : BlockRefusal → ℕ
block_number NoSuchBlock = 6
block_number RunsShort = 7

-- A refusal, told with the block.
abbrev pub fault : BlockRefusal → ℕ → ℕ → BlockFault
fault r d b = record { refusal = r; at = record { drive = d; block = b } }

-- There is no such block.
abbrev pub no_such : ℕ → ℕ → BlockFault
no_such d b = fault NoSuchBlock d b

-- A write of the block runs short.
abbrev pub short : ℕ → ℕ → BlockFault
short d b = fault RunsShort d b
