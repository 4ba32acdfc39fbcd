-- What a shelf means, apart from how its make keeps it, and what reading and writing do to that.
use Rattle.std.specs.Prelude.{◌≡◌, ℕ, ◌-◌, ◌^◌, ◌<◌, Bool, false, cond, ◌&&◌, ◌||◌, List, [], length, Ok, Err, Result, ◌==◌, nat_lt, slice_index}
use Rattle.shelf.specs.declared.refusal.BlockFault.{BlockFault}
use Rattle.shelf.specs.Refusal.{no_such, short}
use Rattle.shelf.specs.declared.refusal.ShelfRefusal.{ShelfRefusal}
use Rattle.shelf.specs.declared.refusal.ShelfRefusal.TheVariants.{DriveTooLong}
use Rattle.shelf.specs.Plan.{no_drives, within}

pub record Meaning : Type 0 where
  -- the blocks of a drive, 0 where there is no drive
  pub size : ℕ → ℕ
  -- the words of a block, none where there is no block
  pub block : ℕ → ℕ → List ℕ
  -- a block that can be written whatever is to spare
  pub held : ℕ → ℕ → Bool
  -- how many blocks that are not held can still be written
  pub spare : ℕ

-- A shelf without drives, with so much to spare.
abbrev pub bare : ℕ → Meaning
bare n = record { size = λ d. 0; block = λ d b. []; held = λ d b. false; spare = n }

-- The sizes of the shelf that is made of a plan: no drives where the check refuses.
abbrev pub kept_sizes : Result Unit ShelfRefusal → List ℕ → List ℕ
kept_sizes (Ok u) sizes = sizes
kept_sizes (Err e) sizes = no_drives

-- What is made where a check passes, and what where it refuses.
abbrev pub made : Result Unit ShelfRefusal → Meaning → Meaning → Meaning
made (Ok u) good other = good
made (Err e) good other = other

-- 128 words of 32 bits.
abbrev pub Block : List ℕ → Type 0
Block ws = (length ws ≡ 128) × ((k : ℕ) → slice_index ws k < 2 ^ 32)

-- There is such a block.
abbrev pub has : Meaning → ℕ → ℕ → Bool
has m d b = nat_lt b (m.size d)

-- Two blocks are one.
abbrev pub same : ℕ → ℕ → ℕ → ℕ → Bool
same e c d b = e == d && c == b

-- A write of the block does not run short.
abbrev pub fits : Meaning → ℕ → ℕ → Bool
fits m d b = m.held d b || nat_lt 0 m.spare

-- The words go to the block, which is held then; what was held before takes nothing from spare.
abbrev pub put : Meaning → ℕ → ℕ → List ℕ → Meaning
put m d b ws = record {
  size = m.size;
  block = λ e c. cond (same e c d b) ws (m.block e c);
  held = λ e c. same e c d b || m.held e c;
  spare = cond (m.held d b) m.spare (m.spare - 1);
}

-- A block that is there is read.
abbrev pub read_answer : Meaning → ℕ → ℕ → Result Unit BlockFault
read_answer m d b = cond (has m d b) (Ok tt) (Err (no_such d b))

-- A read leaves the block's words in the buffer; a refusal leaves the buffer.
abbrev pub read_out : Meaning → ℕ → ℕ → List ℕ → List ℕ
read_out m d b old = cond (has m d b) (m.block d b) old

-- A block that is there is written if it is held or there is something to spare.
abbrev pub write_answer : Meaning → ℕ → ℕ → Result Unit BlockFault
write_answer m d b = cond (has m d b) (cond (fits m d b) (Ok tt) (Err (short d b))) (Err (no_such d b))

-- A refused write keeps the meaning.
abbrev pub after_write : Meaning → ℕ → ℕ → List ℕ → Meaning
after_write m d b ws = cond (has m d b) (cond (fits m d b) (put m d b ws) m) m

-- No drive of a plan is too long for a make.
abbrev pub drives_answer : ℕ → List ℕ → Result Unit ShelfRefusal
drives_answer most sizes = cond (within most sizes) (Ok tt) (Err DriveTooLong)
