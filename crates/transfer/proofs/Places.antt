-- The words of a span: whether they lie in memory, how they are taken and put.
use Rattle.std.proofs.Common.{◌≡◌, ℕ, ◌+◌, ◌<◌, ◌≤◌, true, false, List, length, get_or, drop, set, ⊎_elim, arith}
use Rattle.std.proofs.lemmas.List.FromFn.{get_or-range_with_len, length-range_with_len}
use Rattle.std.proofs.lemmas.List.Folds.{list_all_at}
use Rattle.std.specs.List.{range_with_len}
use Rattle.std.proofs.lemmas.List.{drop_all, drop_more}
use Rattle.std.proofs.lemmas.Bool.{cases_lt, le-ltb}
use Rattle.transfer.specs.Span.{place, reaches, Reaches, scattered}
use Rattle.transfer.specs.declared.span.Span.{Span}

-- fewer words lie in a memory of the same length
pub within : (s : Span) (len long n k : ℕ) → reaches s len n ≡ true → long ≡ len → k ≤ n → Reaches s long k
within s len long n k e same h j below =
    let l : j < length (range_with_len 0 n) = simp length-range_with_len (omega arith) in
    let w : get_or (range_with_len 0 n) j 0 ≡ 0 + j = get_or-range_with_len 0 n j 0 (omega arith) in
    let z : 0 + j ≡ j = omega arith in
    ⊎_elim
    (λ (q : place s j < len). omega arith)
    (λ (q : len ≤ place s j). let out : reaches s len n ≡ false = list_all_at _ (range_with_len 0 n) j 0 l (rw (w, z) (le-ltb (place s j) len q)) in cc)
    (cases_lt (place s j) len)

-- a word goes to its place
pub scatters_on : (memory first : List ℕ) (s : Span) (k at : ℕ) (ws : List ℕ) (i : ℕ) → i < length ws → at ≡ place s (k + i) →
    scattered memory s (k + i) (drop i ws) ≡ scattered first s k ws →
    scattered (set memory at (get_or ws i 0)) s (k + (i + 1)) (drop (i + 1) ws) ≡ scattered first s k ws
unfolding scattered
scatters_on memory first s k at ws i h e inv =
    let w : k + (i + 1) ≡ k + i + 1 = omega arith in
    rw (w, e) (rw (drop_more ws i 0 h) at inv)

-- all words have gone to their places
pub scattered_all : (memory first : List ℕ) (s : Span) (k : ℕ) (ws : List ℕ) (i : ℕ) → length ws ≤ i →
    scattered memory s (k + i) (drop i ws) ≡ scattered first s k ws → memory ≡ scattered first s k ws
unfolding scattered
scattered_all memory first s k ws i h inv = rw (drop_all i ws h) at inv
