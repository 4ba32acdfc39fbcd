-- A part of a row of words.
use Rattle.std.proofs.Common.{◌≡◌, ℕ, ◌+◌, ◌<◌, ◌≤◌, List, length, get_or, take, drop, ⊎_elim, arith}
use Rattle.std.proofs.lemmas.List.{get_or_past, length-drop, length-take, places}
use Rattle.std.proofs.lemmas.Bool.{cases_lt}

-- a part that lies within the row is whole, and its words are as low
pub part_whole : (m : ℕ) (xs : List ℕ) (p n : ℕ) → p + n ≤ length xs → ((k : ℕ) → get_or xs k 0 < m) → (length (take n (drop p xs)) ≡ n) × ((k : ℕ) → get_or (take n (drop p xs)) k 0 < m)
part_whole m xs p n h f =
    let long : length (take n (drop p xs)) ≡ n = simp (length-take, length-drop) (omega arith) in (
      long,
      λ k. ⊎_elim
          (λ (l : k < n). let q : get_or (take n (drop p xs)) k 0 ≡ get_or xs (p + k) 0 = grind (arith, places) in omega (arith, f (p + k)))
          (λ (l : n ≤ k). let q : get_or (take n (drop p xs)) k 0 ≡ 0 = get_or_past _ k 0 (omega arith) in omega (arith, f 0))
          (cases_lt k n),
    )
