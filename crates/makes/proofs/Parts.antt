-- What a write of n words into a row leaves of its parts.
use Rattle.std.proofs.Common.{◌≡◌, ℕ, ◌+◌, ◌-◌, ◌<◌, ◌≤◌, List, length, get_or, take, drop, ⊎_elim, arith}
use Rattle.std.proofs.lemmas.List.{length-append, length-drop, length-take, places, same_lists}
use Rattle.std.proofs.lemmas.Bool.{cases_lt}
use lib.Seq.{paste}

-- its own part
pub part_same : (xs ws : List ℕ) (p n : ℕ) → length ws ≡ n → p + n ≤ length xs → take n (drop p (paste xs p ws n)) ≡ ws
part_same xs ws p n e h =
    same_lists _ _
    (simp (length-take, length-drop, length-append) (omega arith))
    (λ k d l. let l2 : k < n = omega (arith, length-take n (drop p (paste xs p ws n))) in grind (arith, places))

-- a part before it
pub part_before : (xs ws : List ℕ) (p q n : ℕ) → length ws ≡ n → p + n ≤ length xs → q + n ≤ p → take n (drop q (paste xs p ws n)) ≡ take n (drop q xs)
part_before xs ws p q n e h o =
    same_lists _ _
    (simp (length-take, length-drop, length-append) (omega arith))
    (λ k d l. let l2 : k < n = omega (arith, length-take n (drop q (paste xs p ws n))) in grind (arith, places))

-- a part behind it
pub part_after : (xs ws : List ℕ) (p q n : ℕ) → length ws ≡ n → p + n ≤ length xs → p + n ≤ q → take n (drop q (paste xs p ws n)) ≡ take n (drop q xs)
part_after xs ws p q n e h o =
    same_lists _ _
    (simp (length-take, length-drop, length-append) (omega arith))
    (λ k d l. let l2 : k < n = omega (arith, length-take n (drop q (paste xs p ws n))) in grind (arith, places))

-- what every word is below stays so
pub below_paste : (m : ℕ) (xs ws : List ℕ) (p n : ℕ) → length ws ≡ n → p + n ≤ length xs → ((k : ℕ) → get_or xs k 0 < m) → ((k : ℕ) → get_or ws k 0 < m) → (k : ℕ) → get_or (paste xs p ws n) k 0 < m
below_paste m xs ws p n e h fx fw k =
    ⊎_elim
    (λ (l : k < p). let q : get_or (paste xs p ws n) k 0 ≡ get_or xs k 0 = grind (arith, places) in omega (arith, fx k))
    (λ (l : p ≤ k).
    ⊎_elim
    (λ (l2 : k < p + n). let q : get_or (paste xs p ws n) k 0 ≡ get_or ws (k - p) 0 = grind (arith, places) in omega (arith, fw (k - p)))
    (λ (l2 : p + n ≤ k). let q : get_or (paste xs p ws n) k 0 ≡ get_or xs k 0 = grind (arith, places) in omega (arith, fx k))
    (cases_lt k (p + n)))
    (cases_lt k p)
