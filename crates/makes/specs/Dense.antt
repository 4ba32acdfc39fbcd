-- The dense make: every block is held, and lies in the words drive by drive.
use Rattle.std.specs.Prelude.{ℕ, ◌+◌, ◌*◌, cond, List, [], length, take, drop, Ok, Err, sum, Result, nat_lt}
use Rattle.shelf.specs.Meaning.{Meaning, bare, made}
use Rattle.shelf.specs.Plan.{plan_has, size_of, start, within}
use Rattle.shelf.specs.declared.refusal.ShelfRefusal.{ShelfRefusal}
use Rattle.shelf.specs.declared.refusal.ShelfRefusal.TheVariants.{DriveTooLong, UnfitMemory}
use Rattle.std.proofs.Math.Seq.{paste}

-- The words of a block, none where there is no block.
abbrev pub dense_block : List ℕ → List ℕ → ℕ → ℕ → List ℕ
dense_block sizes words d b = cond (plan_has sizes d b) (take 128 (drop (128 * (start sizes d + b)) words)) []

-- What a dense shelf of these sizes over these words means.
abbrev pub dense : List ℕ → List ℕ → Meaning
dense sizes words = record {
  size = size_of sizes;
  block = dense_block sizes words;
  held = plan_has sizes;
  spare = 0;
}

-- No drive is over 65,536 blocks, and then there are 128 words for each block.
abbrev pub dense_check : List ℕ → ℕ → Result Unit ShelfRefusal
dense_check sizes n =
    cond (within 65536 sizes) (cond (nat_lt n (128 * sum sizes)) (Err UnfitMemory) (Ok tt)) (Err DriveTooLong)

-- The shelf made of a plan and lent words: one without drives where the check refuses.
abbrev pub dense_made : List ℕ → List ℕ → Meaning
dense_made sizes words = made (dense_check sizes (length words)) (dense sizes words) (bare 0)

-- The lent words after a write: those of the block are replaced, where there is such a block.
abbrev pub dense_words : List ℕ → List ℕ → ℕ → ℕ → List ℕ → List ℕ
dense_words sizes words d b ws = cond (plan_has sizes d b) (paste words (128 * (start sizes d + b)) ws 128) words
