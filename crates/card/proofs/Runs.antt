-- The bit writer, a bit, a field and several fields at a time.
use Rattle.std.proofs.Common.{◌≡◌, ℕ, zero, suc, ◌+◌, ◌-◌, ◌*◌, ◌/◌, ◌%◌, ◌^◌, ◌<◌, ◌≤◌, true, eqb, ltb, List, [], ◌∷◌, ◌++◌, length, get_or, drop, refl, ap, ◌∙◌, arith, length-set, mul-add, pow_pos, ⊎_elim}
use Rattle.std.proofs.lemmas.Nat.{div_below, le-div}
use Rattle.std.proofs.lemmas.List.{drop_more, drop_all, get_or_past}
use Rattle.std.proofs.lemmas.Bool.{cases_lt}
use Rattle.std.proofs.lemmas.Bool.Decides.{nat_tests}
use Rattle.card.specs.Bits.{bits, fields}
use Rattle.card.specs.Writer.{State, step, run, room, Moved}

pub run_more : (s : State) (n v : ℕ) → 0 < n → run s (bits n v) ≡ run (step s (v / 2 ^ (n - 1) % 2)) (bits (n - 1) v)
unfolding run bits
run_more s zero v h = absurd (omega arith)
run_more s (suc n) v h = let e : suc n - 1 ≡ n = omega arith in rw e refl

pub run_none : (s : State) (v : ℕ) → run s (bits 0 v) ≡ s
unfolding run bits
run_none s v = refl

pub room_more : (s : State) (n b : ℕ) → 0 < n → room s n ≡ true → room (step s b) (n - 1) ≡ true
room_more s n b h r = grind (arith, nat_tests, length-set)

-- a quotient is 0 where the number is below the divisor
pub quotient_none : (v p : ℕ) → 0 < p → eqb (v / p) 0 ≡ ltb v p
quotient_none v p h = grind (arith, nat_tests, div_below v p 1 h, le-div 1 v p h)

pub run_append : (s : State) (xs ys : List ℕ) → run s (xs ++ ys) ≡ run (run s xs) ys
unfolding run
run_append s [] ys = refl
run_append s (x ∷ xs) ys = run_append (step s x) xs ys

pub bits_long : (w v : ℕ) → length (bits w v) ≡ w
unfolding bits
bits_long zero v = refl
bits_long (suc w) v = ap suc (bits_long w v)

moved_none : (s : State) → s.count < 8 → Moved s s 0
moved_none s h = record { few = h; total = omega arith; long = refl }

moved_one : (s : State) (b : ℕ) → s.count < 8 → Moved s (step s b) 1
moved_one s b h = record { few = grind (arith, nat_tests); total = grind (arith, nat_tests); long = grind (arith, nat_tests, length-set) }

pub moved_both : (s t u : State) (m n k : ℕ) → Moved s t m → Moved t u n → m + n ≡ k → Moved s u k
moved_both s t u m n k p q e = record { few = q.few; total = omega arith; long = q.long ∙ p.long }

pub run_moved : (s : State) (xs : List ℕ) → s.count < 8 → Moved s (run s xs) (length xs)
unfolding run
run_moved s [] h = moved_none s h
run_moved s (x ∷ xs) h =
    let m = moved_one s x h in
    moved_both s (step s x) (run (step s x) xs) 1 (length xs) (suc (length xs)) m (run_moved (step s x) xs m.few) (omega arith)

pub put_moved : (s t : State) (w v : ℕ) → s.count < 8 → t ≡ run s (bits w v) → Moved s t w
put_moved s t w v h e = rw e (let m = run_moved s (bits w v) h in rw bits_long at m)

-- one number more that is below a bound
pub fits_more : (xs : List ℕ) (i x m : ℕ) → ((k : ℕ) → k < i → get_or xs k 0 < m) → x ≡ get_or xs i 0 → x < m → (k : ℕ) → k < i + 1 → get_or xs k 0 < m
fits_more xs i x m f e h k lt = ⊎_elim (λ (l : k < i). f k l) (λ (g : i ≤ k). let is : k ≡ i = omega arith in rw is (rw e at h)) (cases_lt k i)

-- all are, and so is the number that stands for those past the end
pub fits_all : (xs : List ℕ) (w i : ℕ) → ((k : ℕ) → k < i → get_or xs k 0 < 2 ^ w) → length xs ≤ i → (k : ℕ) → get_or xs k 0 < 2 ^ w
fits_all xs w i f h k = ⊎_elim (λ (l : k < i). f k l) (λ (g : i ≤ k). let z = get_or_past xs k 0 (omega arith) in omega (arith, pow_pos w)) (cases_lt k i)

-- a field more of that width
pub mul_more : (w i n : ℕ) → n ≡ w → w * i + n ≡ w * (i + 1)
mul_more w i n e = omega (arith, mul-add w i 1, e)

pub fields_none : (s : State) (w : ℕ) (vs : List ℕ) (i : ℕ) → length vs ≤ i → run s (fields w (drop i vs)) ≡ s
unfolding run fields
fields_none s w vs i h = rw (drop_all i vs h) refl

-- one field more of several
pub fields_step : (s t z : State) (w : ℕ) (vs : List ℕ) (i x : ℕ) → i < length vs → x ≡ get_or vs i 0 → t ≡ run s (bits w x) → run s (fields w (drop i vs)) ≡ z
    → run t (fields w (drop (i + 1) vs)) ≡ z
unfolding fields
fields_step s t z w vs i x h e f g =
    let m : run s (fields w (drop i vs)) ≡ run (run s (bits w (get_or vs i 0))) (fields w (drop (i + 1) vs)) =
    rw (drop_more vs i 0 h) (run_append s (bits w (get_or vs i 0)) (fields w (drop (i + 1) vs))) in
    cc
