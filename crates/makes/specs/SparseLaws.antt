-- The laws of a shelf, for the sparse make.
use Rattle.std.proofs.Common.{◌≡◌, ℕ, ◌*◌, ◌^◌, ◌<◌, ◌≤◌, false, ◌&&◌, ltb, [], get_or, replicate, Option, Some, None, refl, arith}
use Rattle.makes.specs.Parts.{part_whole}
use Rattle.makes.specs.Slot.{find, idle, tells}
use Rattle.makes.specs.Sparse.{slot_words, sparse}
use Rattle.makes.specs.declared.slot.Slot.{Slot}
use Rattle.makes.specs.declared.sparse.Sparse.{Sparse}
use Rattle.shelf.proofs.Drives.{within_size}
use Rattle.shelf.specs.Meaning.{Block}
use Rattle.shelf.specs.Plan.{size_of}
use Rattle.std.proofs.lemmas.Bool.{and_left, cond-false, le-ltb, lt-ltb}
use Rattle.std.proofs.lemmas.Grind.{common_steps}
use Rattle.std.proofs.lemmas.List.Quantifiers.{position-Some}
use Rattle.std.proofs.lemmas.List.{length-replicate}
use Rattle.std.specs.Option.{is_some}

pub is_bounded : (s : Sparse) (d : ℕ) → size_of s.plan.sizes d ≤ 4096
is_bounded s d = within_size 4096 s.plan.sizes d s.few

-- zeros are words
zeros : (n k : ℕ) → get_or (replicate n 0) k 0 < 2 ^ 32
zeros n k = grind (arith, common_steps)

pub has_words : (s : Sparse) (d b : ℕ) → b < size_of s.plan.sizes d → Block ((sparse s.plan.sizes s.slots.now s.store.words.now).block d b)
has_words s d b h = rw (lt-ltb b (size_of s.plan.sizes d) h) (held (find s.slots.now d b) refl)
  where
    held : (slot : Option ℕ) → find s.slots.now d b ≡ slot → Block (slot_words s.store.words.now slot)
    held (Some i) e =
        let p = position-Some (λ (t : Slot). tells t d b) s.slots.now i idle e in
        part_whole (2 ^ 32) s.store.words.now (128 * i) 128 (omega (arith, s.room d b h, p.0)) s.store.fit
    held None e = (length-replicate {A = ℕ} 128 0, zeros 128)

pub has_nothing : (s : Sparse) (d b : ℕ) → size_of s.plan.sizes d ≤ b → ((sparse s.plan.sizes s.slots.now s.store.words.now).block d b ≡ []) × (ltb b (size_of s.plan.sizes d) && is_some (find s.slots.now d b) ≡ false)
has_nothing s d b h = (cond-false _ _ _ (le-ltb _ _ h), and_left _ _ (le-ltb _ _ h))
