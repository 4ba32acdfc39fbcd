-- What a sparse shelf means after it is made and after a write, and what it reads.
use Rattle.std.proofs.Common.{◌≡◌, ℕ, ◌+◌, ◌*◌, ◌<◌, ◌≤◌, true, false, cond, ◌&&◌, ◌||◌, ltb, List, [], length, set, replicate, Option, Some, None, Ok, Err, Result, sym, refl, ap, ◌∙◌, subst₂, ⊎_elim, arith}
use Rattle.makes.proofs.Parts.{part_after, part_before, part_same}
use Rattle.makes.proofs.Slots.{Kept, apart, idle_count, idle_find, kept, none_idle, some_idle}
use Rattle.makes.specs.Slot.{find, first_idle, idle, taken, count_idle}
use Rattle.makes.specs.Sparse.{claim, claimed, empty, slot_words, sparse, sparse_block, sparse_check, sparse_made, sparse_slots, sparse_words}
use Rattle.makes.specs.declared.slot.Slot.{Slot}
use Rattle.shelf.proofs.Drives.{no_size}
use Rattle.shelf.proofs.Meanings.{meaning_ext, same_cases, write_made}
use Rattle.shelf.specs.Meaning.{after_write, bare, kept_sizes, made, put, same, write_answer}
use Rattle.shelf.specs.Plan.{no_drives, size_of}
use Rattle.shelf.specs.Refusal.{short}
use Rattle.shelf.specs.declared.refusal.BlockFault.{BlockFault}
use Rattle.shelf.specs.declared.refusal.ShelfRefusal.{ShelfRefusal}
use Rattle.std.proofs.lemmas.Bool.{and_right, cases_lt, cond-false, cond-true, eq-eqb, le-ltb, lt-ltb}
use Rattle.std.specs.Option.{is_some, option_or}
use lib.Seq.{paste}

-- a sparse shelf after 128 words went to the slot that was claimed for one of its blocks
sparse_put : (sizes : List ℕ) (slots slots' : List Slot) (words ws : List ℕ) (d b i : ℕ) → Kept slots slots' d b i → b < size_of sizes d → 128 * length slots ≤ length words → length ws ≡ 128 →
    sparse sizes slots' (paste words (128 * i) ws 128) ≡ put (sparse sizes slots words) d b ws
sparse_put sizes slots slots' words ws d b i k h room n =
    let low = k.low in
    let inside : 128 * i + 128 ≤ length words = omega arith in
    let t = lt-ltb b (size_of sizes d) h in
    meaning_ext _ _ (λ e. refl)
    (λ e c. ⊎_elim
    (λ (p : (e ≡ d) × (c ≡ b)).
    let P : ℕ → ℕ → Type 0 = λ x y. sparse_block sizes slots' (paste words (128 * i) ws 128) x y ≡ cond (same x y d b) ws (sparse_block sizes slots words x y) in
    subst₂ P (sym p.0) (sym p.1) (rw (t, k.here, eq-eqb d d refl, eq-eqb b b refl) (part_same words ws (128 * i) 128 n inside)))
    (λ (p : ((e ≡ d) × (c ≡ b) → ⊥) × (same e c d b ≡ false)).
    rw (k.other e c p.0, p.1) (ap (λ (x : List ℕ). cond (ltb c (size_of sizes e)) x []) (elsewhere inside e c p.0 (find slots e c) refl)))
    (same_cases e c d b))
    (λ e c. ⊎_elim
    (λ (p : (e ≡ d) × (c ≡ b)).
    let P : ℕ → ℕ → Type 0 = λ x y. ltb y (size_of sizes x) && is_some (find slots' x y) ≡ same x y d b || (ltb y (size_of sizes x) && is_some (find slots x y)) in
    subst₂ P (sym p.0) (sym p.1) (rw (t, k.here, eq-eqb d d refl, eq-eqb b b refl) refl))
    (λ (p : ((e ≡ d) × (c ≡ b) → ⊥) × (same e c d b ≡ false)). rw (k.other e c p.0, p.1) refl)
    (same_cases e c d b))
    (rw t k.spare)
  where
    -- the words of another block's slot lie apart
    elsewhere : 128 * i + 128 ≤ length words → (e c : ℕ) → ((e ≡ d) × (c ≡ b) → ⊥) → (slot : Option ℕ) → find slots e c ≡ slot → slot_words (paste words (128 * i) ws 128) slot ≡ slot_words words slot
    elsewhere inside e c ne (Some j) own =
        let differ : j ≡ i → ⊥ = λ q. ne (apart slots' e c d b j (k.other e c ne ∙ own) (k.here ∙ ap Some (sym q))) in
        ⊎_elim
        (λ (o : j < i). part_before words ws (128 * i) (128 * j) 128 n inside (omega arith))
        (λ (o : i ≤ j). part_after words ws (128 * i) (128 * j) 128 n inside (omega arith))
        (cases_lt j i)
    elsewhere inside e c ne None own = refl

-- a claim is met where the block has a slot or one is not used
can : (slots : List Slot) (d b i : ℕ) → claim slots d b ≡ Some i → (is_some (find slots d b) || ltb 0 (count_idle slots)) ≡ true
can slots d b i h = by_own (find slots d b) refl h
  where
    by_own : (own : Option ℕ) → find slots d b ≡ own → option_or own (first_idle slots) ≡ Some i → (is_some own || ltb 0 (count_idle slots)) ≡ true
    by_own (Some j) e h = refl
    by_own None e h = lt-ltb _ _ (some_idle slots i h)

-- a claim is not met where the block has no slot and none is idle
cannot : (slots : List Slot) (d b : ℕ) → claim slots d b ≡ None → (is_some (find slots d b) || ltb 0 (count_idle slots)) ≡ false
cannot slots d b h = by_own (find slots d b) h
  where
    by_own : (own : Option ℕ) → option_or own (first_idle slots) ≡ None → (is_some own || ltb 0 (count_idle slots)) ≡ false
    by_own (Some j) h = absurd (cc)
    by_own None h = let z = none_idle slots h in le-ltb 0 (count_idle slots) (omega arith)

-- what a write answers and leaves
pub record Wrote (sizes : List ℕ) (slots : List Slot) (words ws : List ℕ) (d b : ℕ) (r : Result Unit BlockFault) (slots' : List Slot) (words' : List ℕ) : Type 0 where
  pub answer : r ≡ write_answer (sparse sizes slots words) d b
  pub after : sparse sizes slots' words' ≡ after_write (sparse sizes slots words) d b ws
  pub slots_then : slots' ≡ sparse_slots sizes slots d b
  pub words_then : words' ≡ sparse_words sizes slots words d b ws

-- a write that puts 128 words to the slot that it claimed
pub sparse_wrote : (sizes : List ℕ) (slots slots' : List Slot) (words words' ws : List ℕ) (d b i : ℕ) → claim slots d b ≡ Some i → slots' ≡ claimed slots d b → b < size_of sizes d → 128 * length slots ≤ length words → length ws ≡ 128 → words' ≡ paste words (128 * i) ws 128 →
    Wrote sizes slots words ws d b (Ok tt) slots' words'
sparse_wrote sizes slots slots' words words' ws d b i ei es h room n ew =
    let t = lt-ltb b (size_of sizes d) h in
    let r = write_made (sparse sizes slots words) d b ws t (rw t (can slots d b i ei)) in
    let to : slots' ≡ set slots i (taken d b) = es ∙ rw ei refl in
    record {
      answer = r.0;
      after = ap (λ (x : List Slot). sparse sizes x words') to ∙ ap (sparse sizes (set slots i (taken d b))) ew ∙ sparse_put sizes slots (set slots i (taken d b)) words ws d b i (kept slots d b i ei) h room n ∙ r.1;
      slots_then = es ∙ sym (cond-true _ _ _ t);
      words_then = rw (t, ei) ew;
    }

-- a write that finds no slot
pub sparse_short : (sizes : List ℕ) (slots slots' : List Slot) (words words' ws : List ℕ) (d b : ℕ) → claim slots d b ≡ None → slots' ≡ claimed slots d b → b < size_of sizes d → words' ≡ words →
    Wrote sizes slots words ws d b (Err (short d b)) slots' words'
sparse_short sizes slots slots' words words' ws d b none es h ew =
    let t = lt-ltb b (size_of sizes d) h in
    let u = cannot slots d b none in
    let to : slots' ≡ slots = es ∙ rw none refl in
    record {
      answer = rw (t, u) refl;
      after = ap (λ (x : List Slot). sparse sizes x words') to ∙ ap (sparse sizes slots) ew ∙ rw (t, u) refl;
      slots_then = es ∙ sym (cond-true _ _ _ t);
      words_then = rw (t, none) ew;
    }

-- without drives it holds nothing
sparse_none : (n : ℕ) (words : List ℕ) → sparse no_drives (replicate n idle) words ≡ bare n
sparse_none n words =
    let none : (d b : ℕ) → ltb b (size_of no_drives d) ≡ false = λ d b. le-ltb b _ (omega (arith, no_size d)) in
    meaning_ext _ _ no_size (λ d b. cond-false _ _ _ (none d b)) (λ d b. rw (none d b) refl) (idle_count n)

-- with no slot used it holds nothing
sparse_empty : (sizes : List ℕ) (n : ℕ) (words : List ℕ) → sparse sizes (replicate n idle) words ≡ empty sizes n
sparse_empty sizes n words =
    meaning_ext _ _ (λ d. refl) (λ d b. rw (idle_find n d b) refl) (λ d b. and_right _ _ (ap is_some (idle_find n d b))) (idle_count n)

kept_means : (r : Result Unit ShelfRefusal) (sizes : List ℕ) (n : ℕ) (words : List ℕ) → sparse (kept_sizes r sizes) (replicate n idle) words ≡ made r (empty sizes n) (bare n)
kept_means (Ok u) sizes n words = sparse_empty sizes n words
kept_means (Err e) sizes n words = sparse_none n words

-- the shelf that is made over cleared slots
pub sparse_makes : (sizes : List ℕ) (n w : ℕ) (r : Result Unit ShelfRefusal) (sizes' : List ℕ) (slots' : List Slot) (words' : List ℕ) → r ≡ sparse_check sizes n w → sizes' ≡ kept_sizes r sizes → slots' ≡ replicate n idle →
    sparse sizes' slots' words' ≡ sparse_made sizes n w
sparse_makes sizes n w r sizes' slots' words' er ek es =
    ap (λ (x : List ℕ). sparse x slots' words') ek
    ∙ ap (λ (x : List Slot). sparse (kept_sizes r sizes) x words') es
    ∙ kept_means r sizes n words'
    ∙ ap (λ (x : Result Unit ShelfRefusal). made x (empty sizes n) (bare n)) er
