-- The sparse make: a block is held where a slot is used for it, and reads as zeros elsewhere.
use Rattle.std.specs.Prelude.{ℕ, ◌*◌, false, cond, ◌&&◌, ◌||◌, List, [], take, drop, replicate, Ok, Err, is_some, Option, Result, nat_lt, slice_set}
use Rattle.std.specs.Option.{option_map_or, option_or}
use Rattle.makes.specs.Slot.{count_idle, find, first_idle, taken}
use Rattle.makes.specs.declared.slot.Slot.{Slot}
use Rattle.shelf.specs.Meaning.{Meaning, bare, made}
use Rattle.shelf.specs.Plan.{plan_has, size_of, within}
use Rattle.shelf.specs.declared.refusal.ShelfRefusal.{ShelfRefusal}
use Rattle.shelf.specs.declared.refusal.ShelfRefusal.TheVariants.{DriveTooLong, UnfitMemory}
use Rattle.std.proofs.Math.Seq.{paste}

-- The words of a slot, zeros where there is none.
abbrev pub slot_words : List ℕ → Option ℕ → List ℕ
slot_words words slot = option_map_or (λ i. take 128 (drop (128 * i) words)) slot (replicate 128 0)

-- The words of a block: those of its slot, zeros where it has none, and none where there is no
-- block.
abbrev pub sparse_block : List ℕ → List Slot → List ℕ → ℕ → ℕ → List ℕ
sparse_block sizes slots words d b = cond (plan_has sizes d b) (slot_words words (find slots d b)) []

-- What a sparse shelf of these sizes, slots and words means.
abbrev pub sparse : List ℕ → List Slot → List ℕ → Meaning
sparse sizes slots words = record {
  size = size_of sizes;
  block = sparse_block sizes slots words;
  held = λ d b. plan_has sizes d b && is_some (find slots d b);
  spare = count_idle slots;
}

-- A sparse shelf of these sizes that holds no block, with so many slots.
abbrev pub empty : List ℕ → ℕ → Meaning
empty sizes n = record {
  size = size_of sizes;
  block = λ d b. cond (plan_has sizes d b) (replicate 128 0) [];
  held = λ d b. false;
  spare = n;
}

-- No drive is over 4,096 blocks; then there are at most 524,288 slots, and 128 words for each.
abbrev pub sparse_check : List ℕ → ℕ → ℕ → Result Unit ShelfRefusal
sparse_check sizes slots words =
    cond (within 4096 sizes)
    (cond (nat_lt 524288 slots || nat_lt words (128 * slots)) (Err UnfitMemory) (Ok tt))
    (Err DriveTooLong)

-- The shelf made of a plan and lent memory: one without drives where the check refuses.
abbrev pub sparse_made : List ℕ → ℕ → ℕ → Meaning
sparse_made sizes slots words = made (sparse_check sizes slots words) (empty sizes slots) (bare slots)

-- The slot that a write of the block goes to: its own, or else the first that is not used.
abbrev pub claim : List Slot → ℕ → ℕ → Option ℕ
claim slots d b = option_or (find slots d b) (first_idle slots)

-- The slots then: that one is used for the block.
abbrev pub claimed : List Slot → ℕ → ℕ → List Slot
claimed slots d b = option_map_or (λ i. slice_set slots i (taken d b)) (claim slots d b) slots

-- The slots after a write: nothing is claimed where there is no such block.
abbrev pub sparse_slots : List ℕ → List Slot → ℕ → ℕ → List Slot
sparse_slots sizes slots d b = cond (plan_has sizes d b) (claimed slots d b) slots

-- The lent words after a write: those of the claimed slot are replaced, where there is one.
abbrev pub sparse_words : List ℕ → List Slot → List ℕ → ℕ → ℕ → List ℕ → List ℕ
sparse_words sizes slots words d b ws =
    cond (plan_has sizes d b) (option_map_or (λ i. paste words (128 * i) ws 128) (claim slots d b) words) words
