-- What a transfer of consecutive blocks answers and leaves.
use Rattle.std.specs.Prelude.{ℕ, zero, suc, ◌+◌, ◌*◌, cond, List, length, Ok, Err, Result}
use Rattle.shelf.specs.Meaning.{Meaning}
use Rattle.shelf.specs.Meaning as block
use Rattle.shelf.specs.declared.refusal.BlockFault.{BlockFault}
use Rattle.transfer.specs.Span.{gathered, reaches, scattered}
use Rattle.transfer.specs.declared.blocks.Extent.{Extent}
use Rattle.transfer.specs.declared.fault.TransferFault.{TransferFault}
use Rattle.transfer.specs.declared.fault.TransferFault.TheVariants.{Refused, Unreachable}
use Rattle.transfer.specs.declared.span.Span.{Span}

-- What a transfer answers, and how it leaves what it writes: the memory or the shelf.
pub record Moved (X : Type 0) : Type 0 where
  pub answer : Result Unit TransferFault
  pub left : X

-- A block that is refused ends the transfer, and leaves what there was.
abbrev pub next : {X : Type 0} → Result Unit BlockFault → X → Moved X → Moved X
next (Ok u) x rest = rest
next (Err fault) x rest = record { answer = Err (Refused fault); left = x }

-- n blocks from block b on, with the words of the span from word k on, up to the first refused.
-- `answers x b` is what block b is answered where x is written, and `after x b k` is x after it.
unfoldable pub moved : {X : Type 0} → (X → ℕ → Result Unit BlockFault) → (X → ℕ → ℕ → X) → ℕ → ℕ → ℕ → X → Moved X
moved answers after zero b k x = record { answer = Ok tt; left = x }
moved answers after (suc n) b k x = next (answers x b) x (moved answers after n (b + 1) (k + 128) (after x b k))

-- All words of the span lie in memory, or nothing moves.
abbrev pub transferred : {X : Type 0} → (X → ℕ → Result Unit BlockFault) → (X → ℕ → ℕ → X) → Extent → ℕ → Span → X → Moved X
transferred answers after e len s x =
    cond (reaches s len (128 * e.count))
    (moved answers after e.count e.first.block 0 x)
    (record { answer = Err Unreachable; left = x })

-- A block that is read in its turn: the shelf stays, its words go to their places.
abbrev pub answers_read : Meaning → Extent → List ℕ → ℕ → Result Unit BlockFault
answers_read m e memory b = block.read_answer m e.first.drive b

abbrev pub left_read : Meaning → Extent → Span → List ℕ → ℕ → ℕ → List ℕ
left_read m e s memory b k = scattered memory s k (m.block e.first.drive b)

-- A block that is written in its turn: the memory stays, it takes its words.
abbrev pub answers_write : Extent → Meaning → ℕ → Result Unit BlockFault
answers_write e m b = block.write_answer m e.first.drive b

abbrev pub left_write : Extent → List ℕ → Span → Meaning → ℕ → ℕ → Meaning
left_write e memory s m b k = block.after_write m e.first.drive b (gathered memory s k 128)

-- Blocks read into memory.
abbrev pub reading : Meaning → Extent → List ℕ → Span → Moved (List ℕ)
reading m e memory s = transferred (answers_read m e) (left_read m e s) e (length memory) s memory

abbrev pub read_answer : Meaning → Extent → List ℕ → Span → Result Unit TransferFault
read_answer m e memory s = (reading m e memory s).answer

abbrev pub after_read : Meaning → Extent → List ℕ → Span → List ℕ
after_read m e memory s = (reading m e memory s).left

-- Blocks written from memory.
abbrev pub writing : Meaning → Extent → List ℕ → Span → Moved Meaning
writing m e memory s = transferred (answers_write e) (left_write e memory s) e (length memory) s m

abbrev pub write_answer : Meaning → Extent → List ℕ → Span → Result Unit TransferFault
write_answer m e memory s = (writing m e memory s).answer

abbrev pub after_write : Meaning → Extent → List ℕ → Span → Meaning
after_write m e memory s = (writing m e memory s).left
