-- Lists of a known length, element by element.
use Rattle.std.proofs.Common.{◌≡◌, ℕ, zero, suc, ◌+◌, ◌<◌, ◌≤◌, List, [], ◌∷◌, length, get_or, take, drop, refl, ap, ◌∙◌, arith}
use Rattle.std.proofs.lemmas.List.{drop_more}

-- n elements from i on
abbrev pub listing : ℕ → ℕ → List ℕ → List ℕ
listing zero i xs = []
listing (suc n) i xs = get_or xs i 0 ∷ listing n (suc i) xs

pub listed : (n i : ℕ) (xs : List ℕ) → i + n ≤ length xs → take n (drop i xs) ≡ listing n i xs
listed zero i xs h = refl
listed (suc n) i xs h =
    let lt : i < length xs = omega arith in
    let one : i + 1 ≡ suc i = omega arith in
    let d : drop i xs ≡ get_or xs i 0 ∷ drop (suc i) xs = drop_more xs i 0 lt ∙ ap (λ k. get_or xs i 0 ∷ drop k xs) one in
    ap (take (suc n)) d ∙ ap (λ ys. get_or xs i 0 ∷ ys) (listed n (suc i) xs (omega arith))
