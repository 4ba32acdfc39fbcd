-- The first index of a list at which a test passes.
use Rattle.std.proofs.Common.{◌≡◌, ℕ, suc, ◌<◌, ◌≤◌, Bool, true, false, cond, List, [], ◌∷◌, length, get_or, set, Some, None, refl, ap, ◌∙◌, ⊎_elim, arith}
use Rattle.std.proofs.lemmas.Bool.{cases_lt, cond-false, cond-true, le-ltb, lt-ltb}
use Rattle.std.proofs.lemmas.List.{length-set}
use Rattle.std.proofs.lemmas.List.Folds.{position_or_len-set}
use Rattle.std.proofs.lemmas.List.Sums.{fails_before_first, position_or_len_is, sum_by-cons}
use Rattle.std.specs.List.{count_by, position, position_or_len}

-- it is where the test passes, and at no index before
pub position-is : {X : Type 0} (p : X → Bool) (xs : List X) (i : ℕ) (d : X) → i < length xs → p (get_or xs i d) ≡ true → ((k : ℕ) → k < i → p (get_or xs k d) ≡ false) → position p xs ≡ Some i
position-is p xs i d h at before =
    let e = position_or_len_is p xs i d (omega arith) before (λ l. at) in
    cond-true _ _ _ (lt-ltb (position_or_len p xs) (length xs) (omega arith)) ∙ ap Some e

-- where the test fails everywhere there is none
pub position-none : {X : Type 0} (p : X → Bool) (xs : List X) (d : X) → ((k : ℕ) → k < length xs → p (get_or xs k d) ≡ false) → position p xs ≡ None
position-none p xs d fails =
    let e = position_or_len_is p xs (length xs) d (omega arith) fails (λ l. absurd (omega arith)) in
    cond-false _ _ _ (le-ltb (position_or_len p xs) (length xs) (omega arith))

-- where there is none the test fails everywhere
pub none-fails : {X : Type 0} (p : X → Bool) (xs : List X) (d : X) → position p xs ≡ None → (k : ℕ) → k < length xs → p (get_or xs k d) ≡ false
none-fails p xs d none k l =
    ⊎_elim
    (λ (there : position_or_len p xs < length xs).
    let some : position p xs ≡ Some (position_or_len p xs) = cond-true _ _ _ (lt-ltb _ _ there) in
    absurd (cc))
    (λ (past : length xs ≤ position_or_len p xs). fails_before_first p xs k d (omega arith))
    (cases_lt (position_or_len p xs) (length xs))

-- an element in place of one that the test cannot tell from it moves nothing
pub position-set : {X : Type 0} (p : X → Bool) (xs : List X) (i : ℕ) (y d : X) → p y ≡ p (get_or xs i d) → position p (set xs i y) ≡ position p xs
position-set p xs i y d h = rw (position_or_len-set p xs i y d h, length-set xs i y) refl

-- where the test fails everywhere it counts none
pub count_none : {X : Type 0} (p : X → Bool) (xs : List X) (d : X) → ((k : ℕ) → k < length xs → p (get_or xs k d) ≡ false) → count_by p xs ≡ 0
count_none p [] d fails = refl
count_none {X = X} p (x ∷ xs) d fails =
    let i = count_none p xs d (λ k l. fails (suc k) (omega arith)) in
    let z : cond {A = ℕ} (p x) 1 0 ≡ 0 = cond-false (p x) 1 0 (fails 0 (omega arith)) in
    let s = sum_by-cons (λ (y : X). cond {A = ℕ} (p y) 1 0) x xs in
    omega arith
