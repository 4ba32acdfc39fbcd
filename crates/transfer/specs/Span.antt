-- Where consecutive virtual words lie in memory, and how they are taken and put.
use Rattle.std.specs.Prelude.{ℕ, ◌+◌, ◌-◌, ◌%◌, ◌<◌, Bool, cond, List, [], ◌∷◌, map, nat_lt, slice_index, slice_set}
use Rattle.transfer.specs.declared.span.Span.{Span}
use Rattle.std.specs.List.{list_all, range_with_len}

-- Word k lies behind the first word as long as that is in its page, and then from the base of the
-- next page on.
abbrev pub place : Span → ℕ → ℕ
place s k =
    cond (nat_lt (s.first % 2048 + k) 2048) (s.first + k) (s.second + (s.first % 2048 + k - 2048))

-- The first n words lie in a memory of so many words.
abbrev pub reaches : Span → ℕ → ℕ → Bool
reaches s len n = list_all (λ k. nat_lt (place s k) len) (range_with_len 0 n)

-- The same, as a fact of each word.
abbrev pub Reaches : Span → ℕ → ℕ → Type 0
Reaches s len n = (k : ℕ) → k < n → place s k < len

-- n words from word k on.
unfoldable pub gathered : List ℕ → Span → ℕ → ℕ → List ℕ
gathered memory s k n = map (λ i. slice_index memory (place s (k + i))) (range_with_len 0 n)

-- The memory after words went to the places from word k on, in rising order.
unfoldable pub scattered : List ℕ → Span → ℕ → List ℕ → List ℕ
scattered memory s k [] = memory
scattered memory s k (w ∷ ws) = scattered (slice_set memory (place s k) w) s (k + 1) ws
