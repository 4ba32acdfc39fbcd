-- What a dense shelf means after it is made and after a write.
use Rattle.std.proofs.Common.{◌≡◌, ℕ, ◌+◌, ◌*◌, ◌<◌, ◌≤◌, true, false, cond, ◌||◌, ltb, ◌⊎◌, List, [], length, Ok, Err, sum, Result, sym, refl, ap, ◌∙◌, subst, subst₂, ⊎_elim, arith}
use Rattle.makes.proofs.Parts.{part_after, part_before, part_same}
use Rattle.makes.specs.Dense.{dense, dense_block, dense_check, dense_made, dense_words}
use Rattle.shelf.proofs.Meanings.{meaning_ext, same_cases, write_made}
use Rattle.shelf.proofs.Drives.{before, inside, no_size}
use Rattle.shelf.specs.Meaning.{after_write, bare, kept_sizes, made, put, same, write_answer}
use Rattle.shelf.specs.Plan.{no_drives, size_of, start, within}
use Rattle.shelf.specs.declared.refusal.ShelfRefusal.{ShelfRefusal}
use Rattle.std.proofs.lemmas.Bool.{cases_Bool, cases_lt, cond-false, cond-true, eq-eqb, le-ltb, lt-ltb, or_left}
use lib.Seq.{paste}

-- two blocks that differ lie apart
apart : (sizes : List ℕ) (e c d b : ℕ) → c < size_of sizes e → b < size_of sizes d → ((e ≡ d) × (c ≡ b) → ⊥) →
    (start sizes e + c < start sizes d + b) ⊎ (start sizes d + b < start sizes e + c)
apart sizes e c d b he hd ne =
    let es : e ≡ d → start sizes e ≡ start sizes d = ap (start sizes) in
    let lower = before sizes e c d b he hd in
    let higher = before sizes d b e c hd he in
    grind arith

-- a dense shelf after 128 words went to the place of one of its blocks
dense_put : (sizes words ws : List ℕ) (d b : ℕ) → b < size_of sizes d → 128 * sum sizes ≤ length words → length ws ≡ 128 → dense sizes (paste words (128 * (start sizes d + b)) ws 128) ≡ put (dense sizes words) d b ws
dense_put sizes words ws d b h room n =
    let i = inside sizes d b h in
    let fits : 128 * (start sizes d + b) + 128 ≤ length words = omega arith in
    let t = lt-ltb b (size_of sizes d) h in
    meaning_ext _ _ (λ e. refl)
    (λ e c. ⊎_elim
    (λ (q : (e ≡ d) × (c ≡ b)).
    let P : ℕ → ℕ → Type 0 = λ x y. dense_block sizes (paste words (128 * (start sizes d + b)) ws 128) x y ≡ cond (same x y d b) ws (dense_block sizes words x y) in
    subst₂ P (sym q.0) (sym q.1) (rw (t, eq-eqb d d refl, eq-eqb b b refl) (part_same words ws (128 * (start sizes d + b)) 128 n fits)))
    (λ (q : ((e ≡ d) × (c ≡ b) → ⊥) × (same e c d b ≡ false)).
    rw q.1 (⊎_elim
    (λ (he : c < size_of sizes e).
    ap (λ (x : List ℕ). cond (ltb c (size_of sizes e)) x [])
    (⊎_elim
    (λ (lt : start sizes e + c < start sizes d + b). part_before words ws (128 * (start sizes d + b)) (128 * (start sizes e + c)) 128 n fits (omega arith))
    (λ (gt : start sizes d + b < start sizes e + c). part_after words ws (128 * (start sizes d + b)) (128 * (start sizes e + c)) 128 n fits (omega arith))
    (apart sizes e c d b he h q.0)))
    (λ (ge : size_of sizes e ≤ c). rw (le-ltb c (size_of sizes e) ge) refl)
    (cases_lt c (size_of sizes e))))
    (same_cases e c d b))
    (λ e c. ⊎_elim
    (λ (q : (e ≡ d) × (c ≡ b)).
    let P : ℕ → ℕ → Type 0 = λ x y. ltb y (size_of sizes x) ≡ same x y d b || ltb y (size_of sizes x) in
    subst₂ P (sym q.0) (sym q.1) (rw (t, eq-eqb d d refl, eq-eqb b b refl) refl))
    (λ (q : ((e ≡ d) × (c ≡ b) → ⊥) × (same e c d b ≡ false)). rw q.1 refl)
    (same_cases e c d b))
    (rw t refl)

-- a write that puts 128 words to the place of its block
pub record Wrote (sizes words ws : List ℕ) (d b : ℕ) (words' : List ℕ) : Type 0 where
  pub answer : Ok tt ≡ write_answer (dense sizes words) d b
  pub after : dense sizes words' ≡ after_write (dense sizes words) d b ws
  pub words_then : words' ≡ dense_words sizes words d b ws

pub dense_wrote : (sizes words words' ws : List ℕ) (d b at : ℕ) → b < size_of sizes d → 128 * sum sizes ≤ length words → length ws ≡ 128 → at ≡ start sizes d + b → words' ≡ paste words (128 * at) ws 128 → Wrote sizes words ws d b words'
dense_wrote sizes words words' ws d b at h room n ea ew =
    let t = lt-ltb b (size_of sizes d) h in
    let r = write_made (dense sizes words) d b ws t (or_left _ _ t) in
    let w : words' ≡ paste words (128 * (start sizes d + b)) ws 128 = ew ∙ ap (λ (x : ℕ). paste words (128 * x) ws 128) ea in
    record {
      answer = r.0;
      after = ap (dense sizes) w ∙ dense_put sizes words ws d b h room n ∙ r.1;
      words_then = w ∙ sym (cond-true _ _ _ t);
    }

-- without drives it means nothing
dense_none : (words : List ℕ) → dense no_drives words ≡ bare 0
dense_none words =
    let none : (d b : ℕ) → ltb b (size_of no_drives d) ≡ false = λ d b. le-ltb b _ (omega (arith, no_size d)) in
    meaning_ext _ _ no_size (λ d b. cond-false _ _ _ (none d b)) none refl

kept_means : (r : Result Unit ShelfRefusal) (sizes words : List ℕ) → dense (kept_sizes r sizes) words ≡ made r (dense sizes words) (bare 0)
kept_means (Ok u) sizes words = refl
kept_means (Err e) sizes words = dense_none words

-- the shelf that is made
pub dense_makes : (sizes words : List ℕ) (r : Result Unit ShelfRefusal) (kept : List ℕ) → r ≡ dense_check sizes (length words) → kept ≡ kept_sizes r sizes → dense kept words ≡ dense_made sizes words
dense_makes sizes words r kept er ek =
    ap (λ (x : List ℕ). dense x words) ek ∙ kept_means r sizes words ∙ ap (λ (x : Result Unit ShelfRefusal). made x (dense sizes words) (bare 0)) er

-- what is kept has its words
pub dense_room : (sizes : List ℕ) (n : ℕ) (r : Result Unit ShelfRefusal) (kept : List ℕ) → r ≡ dense_check sizes n → kept ≡ kept_sizes r sizes → 128 * sum kept ≤ n
dense_room sizes n r kept er ek =
    let room : 128 * sum (kept_sizes (dense_check sizes n) sizes) ≤ n
    = ⊎_elim
    (λ (w : within 65536 sizes ≡ true).
    ⊎_elim
    (λ (l : n < 128 * sum sizes). rw (w, lt-ltb _ _ l) (omega arith))
    (λ (g : 128 * sum sizes ≤ n). rw (w, le-ltb _ _ g) g)
    (cases_lt n (128 * sum sizes)))
    (λ (f : within 65536 sizes ≡ false). rw f (omega arith))
    (cases_Bool (within 65536 sizes)) in
    let e : kept ≡ kept_sizes (dense_check sizes n) sizes = ek ∙ ap (λ (x : Result Unit ShelfRefusal). kept_sizes x sizes) er in
    subst (λ (x : List ℕ). 128 * sum x ≤ n) (sym e) room
