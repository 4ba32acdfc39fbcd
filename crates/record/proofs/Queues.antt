-- A queue as the list that it holds, and the zeros behind.
use Rattle.std.proofs.Common.{◌≡◌, ℕ, ◌+◌, ◌-◌, ◌<◌, ◌≤◌, min, List, ◌++◌, length, take, drop, set, replicate, Ok, sym, refl, ap, ◌∙◌, ⊎_elim, arith}
use Rattle.std.proofs.lemmas.List.{drop_all, drop-drop, drop-replicate, drop-set-lt, drop-take, drop_at, length-append, length-replicate, length-take, length-take-le, take_at, take_all, take_more_set, take-take}
use Rattle.std.proofs.lemmas.Bool.{cases_lt, cond-true, lt-ltb}
use Rattle.record.specs.Queue.{items, push_answer, after_push}
use Rattle.record.specs.declared.queue.Queue.{Queue}

zeros_less : (n i : ℕ) → drop {A = ℕ} 1 (replicate (n - i) 0) ≡ replicate (n - (i + 1)) 0
zeros_less n i = drop-replicate 1 (n - i) 0 ∙ ap (λ j. replicate j 0) (omega arith)

-- one byte more at the place behind the others: what is behind that is still zero
pub blank_more : (bytes : List ℕ) (n i y : ℕ) → i < n → drop i bytes ≡ replicate (n - i) 0 → drop (i + 1) (set bytes i y) ≡ replicate (n - (i + 1)) 0
blank_more bytes n i y h e =
    drop-set-lt (i + 1) bytes i y (omega arith) ∙ (sym (drop-drop 1 i bytes) ∙ (ap (drop 1) e ∙ zeros_less n i))

-- it holds as many bytes as its length says
pub items_long : (q : Queue) → length (items q) ≡ q.len
items_long q =
    let few = q.few in
    let sized = q.sized in
    length-take-le q.len q.bytes (omega arith)

pub push_ok : (q : Queue) (y : ℕ) → q.len < 64
    → (Ok tt ≡ push_answer (items q)) × (take (q.len + 1) (set q.bytes q.len y) ≡ after_push (items q) y)
push_ok q y h =
    let n = items_long q in
    let sized = q.sized in
    let t = lt-ltb (length (items q)) 64 (omega arith) in
    (sym (cond-true _ _ _ t), take_more_set q.bytes q.len y (omega arith) ∙ sym (cond-true _ _ _ t))

-- the lesser of a length and 64 takes as much as 64 does
pub first_64 : (xs : List ℕ) (n : ℕ) → n ≡ min (length xs) 64 → take n xs ≡ take 64 xs
first_64 xs n e = ⊎_elim whole part (cases_lt 64 (length xs))
  where
    whole : 64 < length xs → take n xs ≡ take 64 xs
    whole h = let k : n ≡ 64 = omega arith in rw k refl

    part : length xs ≤ 64 → take n xs ≡ take 64 xs
    part h = take_all n xs (omega arith) ∙ sym (take_all 64 xs h)

-- the n oldest bytes, and those behind them
pub front_is : (q : Queue) (n k : ℕ) → k ≡ min n q.len → take 64 (take (k - 0) q.bytes) ≡ take n (items q)
front_is q n k e =
    let none : k - 0 ≡ k = omega arith in
    let few = q.few in
    let short : length (take k q.bytes) ≤ 64 = simp length-take (omega arith) in
    ap (λ j. take 64 (take j q.bytes)) none ∙ (take_all 64 (take k q.bytes) short ∙ ⊎_elim all part (cases_lt q.len n))
  where
    all : q.len < n → take k q.bytes ≡ take n (items q)
    all h = let m : k ≡ q.len = omega arith in rw m (sym (take_all n (items q) (let long = items_long q in omega arith)))

    part : n ≤ q.len → take k q.bytes ≡ take n (items q)
    part h = let m : k ≡ n = omega arith in rw m (sym (take-take n q.len q.bytes h))

pub rest_is : (q : Queue) (n k : ℕ) → k ≡ min n q.len → take 64 (take (q.len - k) (drop k q.bytes)) ≡ drop n (items q)
rest_is q n k e =
    let few = q.few in
    let short : length (take (q.len - k) (drop k q.bytes)) ≤ 64 = simp length-take (omega arith) in
    take_all 64 (take (q.len - k) (drop k q.bytes)) short ∙ ⊎_elim all part (cases_lt q.len n)
  where
    all : q.len < n → take (q.len - k) (drop k q.bytes) ≡ drop n (items q)
    all h =
        let m : q.len - k ≡ 0 = omega arith in
        let long = items_long q in
        rw m (sym (drop_all n (items q) (omega arith)))

    part : n ≤ q.len → take (q.len - k) (drop k q.bytes) ≡ drop n (items q)
    part h =
        let m : k ≡ n = omega arith in
        let s : n + (q.len - n) ≡ q.len = omega arith in
        rw m (sym (drop-take n (q.len - n) q.bytes) ∙ ap (λ j. drop n (take j q.bytes)) s)

-- zeros with the first 64 bytes of a list put to their front
pub filled_front : (from bytes : List ℕ) (n : ℕ) → n ≡ min (length from) 64 → bytes ≡ take n from ++ drop (length (take n from)) (replicate 64 0)
    → (length bytes ≡ 64) × (n ≤ 64) × (drop n bytes ≡ replicate (64 - n) 0) × (take n bytes ≡ take 64 from)
filled_front from bytes n e eb =
    let long : length (take n from) ≡ n = length-take-le n from (omega arith) in
    let behind : drop (length (take n from)) (replicate {A = ℕ} 64 0) ≡ replicate (64 - n) 0 = drop-replicate (length (take n from)) 64 0 ∙ ap (λ k. replicate (64 - k) 0) long in
    let is : bytes ≡ take n from ++ replicate (64 - n) 0 = eb ∙ ap (λ l. take n from ++ l) behind in (
      ap length is ∙ simp (length-append, length-take, length-replicate) (omega arith),
      omega arith,
      ap (drop n) is ∙ drop_at (take n from) (replicate (64 - n) 0) n long,
      ap (take n) is ∙ (take_at (take n from) (replicate (64 - n) 0) n long ∙ first_64 from n e),
    )
