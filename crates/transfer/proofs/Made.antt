-- Arrays that a closure makes, element by element.
use Rattle.std.proofs.Common.{◌≡◌, ℕ, zero, suc, ◌+◌, ◌<◌, ◌≤◌, List, map, get_or, subst, ◌∙◌, ⊎_elim, arith}
use Rattle.std.proofs.lemmas.Bool.{cases_lt}
use Rattle.std.proofs.lemmas.List.FromFn.{fill_by_all}
use Rattle.std.specs.Array.{IsFromFnResult, IsFromFnResultFrom}
use Rattle.std.specs.Fn.{Called, Mut}
use Rattle.std.specs.List.{range_with_len}

module _ {F : Type 0} (g : Mut F (ℕ × Unit {0}) ℕ) (f : F) (answer : ℕ → ℕ) (same : (i y : ℕ) (f' : F) → Called g f (i, tt) y f' → (y ≡ answer i) × (f' ≡ f)) where
  made_from : (ys : List ℕ) (i n k : ℕ) → IsFromFnResultFrom g f ys i n → i ≤ k → k < i + n → get_or ys k 0 ≡ answer k
  made_from ys i zero k calls low high = absurd (omega arith)
  made_from ys i (suc n) k calls low high =
      let now = same i calls.1 calls.0 calls.3 in
      ⊎_elim
      (λ (e : i < k). made_from ys (i + 1) n k (subst (λ (q : F). IsFromFnResultFrom g q ys (i + 1) n) now.1 calls.4) (omega arith) (omega arith))
      (λ (e : k ≤ i). let w : k ≡ i = omega arith in rw w (calls.2.1 0 ∙ now.0))
      (cases_lt i k)

  -- a closure that keeps what it captures makes the list of its answers
  pub made : (ys : List ℕ) (n : ℕ) → IsFromFnResult g f ys n → ys ≡ map answer (range_with_len 0 n)
  made ys n h = fill_by_all answer ys n 0 h.long (λ k b. made_from ys 0 n k h.each (omega arith) (omega arith))
