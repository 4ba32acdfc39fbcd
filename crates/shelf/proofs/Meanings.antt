-- What shelves mean: equal meanings, and the cases of a write.
use Rattle.std.proofs.Common.{◌≡◌, ℕ, true, false, ◌⊎◌, List, Ok, refl, inl, inr, ⊎_elim}
use Rattle.shelf.specs.Meaning.{Meaning, after_write, fits, has, put, same, write_answer}
use Rattle.std.proofs.lemmas.Bool.{and_left, and_right, cases_eq, ne_eqb}

-- two shelves that tell the same of each block mean the same
pub meaning_ext : (m n : Meaning) → ((d : ℕ) → m.size d ≡ n.size d) → ((d b : ℕ) → m.block d b ≡ n.block d b) → ((d b : ℕ) → m.held d b ≡ n.held d b) → m.spare ≡ n.spare → m ≡ n
meaning_ext m n s b h p i = record { size = λ d. s d i; block = λ d c. b d c i; held = λ d c. h d c i; spare = p i }

-- two blocks are one, or not
pub same_cases : (e c d b : ℕ) → ((e ≡ d) × (c ≡ b)) ⊎ (((e ≡ d) × (c ≡ b) → ⊥) × (same e c d b ≡ false))
same_cases e c d b =
    ⊎_elim
    (λ ee. ⊎_elim (λ ec. inl (ee, ec)) (λ nc. inr (λ p. nc p.1, and_right _ _ (ne_eqb c b nc))) (cases_eq c b))
    (λ ne. inr (λ p. ne p.0, and_left _ _ (ne_eqb e d ne)))
    (cases_eq e d)

-- what a write that is made answers, and what it leaves
pub write_made : (m : Meaning) (d b : ℕ) (ws : List ℕ) → has m d b ≡ true → fits m d b ≡ true → (Ok tt ≡ write_answer m d b) × (put m d b ws ≡ after_write m d b ws)
write_made m d b ws h f = (rw (h, f) refl, rw (h, f) refl)
