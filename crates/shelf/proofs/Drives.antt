-- Where the blocks of a plan lie: within its blocks, and apart.
use Rattle.std.proofs.Common.{ap, add-one, ◌≡◌, ℕ, zero, suc, ◌*◌, map, refl, ◌+◌, ◌-◌, ◌<◌, ◌≤◌, true, List, length, get_or, take, sum, subst, ⊎_elim, arith}
use Rattle.shelf.specs.Plan.{no_drives, size_of, start, within}
use Rattle.std.proofs.lemmas.Bool.Decides.{nat_tests}
use Rattle.std.proofs.lemmas.Bool.{cases_lt}
use Rattle.std.proofs.lemmas.Grind.{common_steps}
use Rattle.std.proofs.lemmas.List.FromFn.{length-map-range_with_len, get_or-map-range_with_len}
use Rattle.std.proofs.lemmas.List.Sums.{AllPass-from_list_all, sum_by_more, sum_by-take-le}
use Rattle.std.proofs.lemmas.List.{length-take, same_lists, get_or_past, take-take}
use Rattle.std.specs.List.{range_with_len}

-- a drive with a block is one of the list, and not drive 0
pub there : (sizes : List ℕ) (d b : ℕ) → b < size_of sizes d → (1 ≤ d) × (d ≤ 8) × (d - 1 < length sizes) × (b < get_or sizes (d - 1) 0)
there sizes d b h =
    let q : (1 ≤ d) × (d ≤ 8) × (b < get_or sizes (d - 1) 0) = (grind (arith, nat_tests), grind (arith, nat_tests), grind (arith, nat_tests)) in (
      q.0,
      q.1,
      ⊎_elim (λ l. l) (λ past. let e = get_or_past sizes (d - 1) 0 past in omega arith) (cases_lt (d - 1) (length sizes)),
      q.2,
    )

-- what a drive takes lies before the next
pub start_more : (sizes : List ℕ) (k : ℕ) → k < length sizes → sum (take (k + 1) sizes) ≡ sum (take k sizes) + get_or sizes k 0
start_more sizes k h = sum_by_more (λ x. x) sizes k 0 h

start_mono : (sizes : List ℕ) (j k : ℕ) → j ≤ k → sum (take j sizes) ≤ sum (take k sizes)
start_mono sizes j k h = subst (λ (x : List ℕ). sum x ≤ sum (take k sizes)) (take-take j k sizes h) (sum_by-take-le (λ x. x) (take k sizes) j)

-- a block lies among the blocks of all drives
pub inside : (sizes : List ℕ) (d b : ℕ) → b < size_of sizes d → start sizes d + b < sum sizes
inside sizes d b h =
    let t = there sizes d b h in
    omega (arith, start_more sizes (d - 1) t.2, sum_by-take-le (λ x. x) sizes (d - 1 + 1))

-- the blocks of a drive lie before those of the next
pub before : (sizes : List ℕ) (e c d b : ℕ) → c < size_of sizes e → b < size_of sizes d → e < d → start sizes e + c < start sizes d + b
before sizes e c d b he hd lt =
    let t = there sizes e c he in
    let u = there sizes d b hd in
    omega (arith, start_more sizes (e - 1) t.2, start_mono sizes (e - 1 + 1) (d - 1) (omega arith))

-- where no drive is over a limit, none is
within_each : (limit : ℕ) (sizes : List ℕ) (k : ℕ) → within limit sizes ≡ true → get_or sizes k 0 ≤ limit
within_each limit sizes k h = grind (arith, common_steps, AllPass-from_list_all)

pub within_size : (limit : ℕ) (sizes : List ℕ) (d : ℕ) → within limit sizes ≡ true → size_of sizes d ≤ limit
within_size limit sizes d h = let e = within_each limit sizes (d - 1) h in grind (arith, nat_tests)

-- a plan's own bound
pub plan_size : (sizes : List ℕ) (d : ℕ) → ((k : ℕ) → get_or sizes k 0 ≤ 65536) → size_of sizes d ≤ 65536
plan_size sizes d h = let e = h (d - 1) in grind (arith, nat_tests)

-- there are no drives but 1 to 8
pub eight_drives : (sizes : List ℕ) (d : ℕ) → 0 < size_of sizes d → (1 ≤ d) × (d ≤ 8)
eight_drives sizes d h = let t = there sizes d 0 h in (t.0, t.1)

-- a plan without drives
pub no_size : (d : ℕ) → size_of no_drives d ≡ 0
no_size d = grind (arith, common_steps, nat_tests)

-- the drives before a drive, by their numbers
pub sizes_before : (sizes : List ℕ) (n : ℕ) → length sizes ≡ 8 → n ≤ 8 → take n sizes ≡ map (size_of sizes) (range_with_len 1 n)
sizes_before sizes n e h =
    let long : length (take n sizes) ≡ n = omega (arith, length-take n sizes) in
    same_lists _ _ (omega (arith, length-map-range_with_len (size_of sizes) 1 n))
    (λ k d l.
    let s : size_of sizes (1 + k) ≡ get_or sizes (1 + k - 1) 0 = grind (arith, nat_tests) in
    let r = get_or-map-range_with_len (size_of sizes) 1 n k (1 + k) d (omega arith) refl in
    grind (arith, common_steps))

-- they have few blocks
pub few_before : (sizes : List ℕ) (n : ℕ) → ((k : ℕ) → get_or sizes k 0 ≤ 65536) → n ≤ length sizes → sum (take n sizes) ≤ 65536 * n
few_before sizes zero few h = omega arith
few_before sizes (suc n) few h =
    let i = few_before sizes n few (omega arith) in
    let e = ap (λ (k : ℕ). sum (take k sizes)) (add-one n) in
    omega (arith, few n, start_more sizes n (omega arith))
