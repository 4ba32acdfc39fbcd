-- Plans: the sizes of drives 1 to 8, in a list of eight, and where their blocks lie.
use Rattle.std.specs.Prelude.{◌≡◌, ℕ, ◌+◌, ◌-◌, ◌<◌, ◌≤◌, Bool, cond, ◌&&◌, List, take, replicate, Some, None, Ok, Err, sum, Option, Result, ◌==◌, nat_le, nat_lt, slice_index, slice_set}
use Rattle.std.specs.List.{list_all}
use Rattle.shelf.specs.declared.refusal.PlanRefusal.{PlanRefusal}
use Rattle.shelf.specs.declared.refusal.PlanRefusal.TheVariants.{BadLength, DeclaredBefore, NoSuchDrive}

-- A plan without drives.
abbrev pub no_drives : List ℕ
no_drives = replicate 8 0

-- The size of a drive: 0 where there is none.
abbrev pub size_of : List ℕ → ℕ → ℕ
size_of sizes d = cond (nat_le 1 d && nat_le d 8) (slice_index sizes (d - 1)) 0

-- There is such a block.
abbrev pub plan_has : List ℕ → ℕ → ℕ → Bool
plan_has sizes d b = nat_lt b (size_of sizes d)

-- A drive is 1 to 8, its blocks are 1 to 65,536, and it is declared once: judged in that order.
abbrev pub declare_answer : List ℕ → ℕ → ℕ → Result Unit PlanRefusal
declare_answer sizes d n =
    cond (nat_le 1 d && nat_le d 8)
    (cond (nat_le 1 n && nat_le n 65536) (cond (slice_index sizes (d - 1) == 0) (Ok tt) (Err DeclaredBefore)) (Err BadLength))
    (Err NoSuchDrive)

-- The plan after that: a refusal changes nothing.
abbrev pub after_declare : List ℕ → ℕ → ℕ → List ℕ
after_declare sizes d n =
    cond (nat_le 1 d && nat_le d 8)
    (cond (nat_le 1 n && nat_le n 65536) (cond (slice_index sizes (d - 1) == 0) (slice_set sizes (d - 1) n) sizes) sizes)
    sizes

-- No drive is longer than the limit.
abbrev pub within : ℕ → List ℕ → Bool
within limit sizes = list_all (λ size. nat_le size limit) sizes

-- Blocks lie drive by drive, in the order of their numbers: those of drive d begin behind these.
abbrev pub start : List ℕ → ℕ → ℕ
start sizes d = sum (take (d - 1) sizes)

-- The answer where a block lies among all blocks: none where there is no such block.
abbrev pub Placed : List ℕ → ℕ → ℕ → Option ℕ → Type 0
Placed sizes d b (Some at) = (b < size_of sizes d) × (at ≡ start sizes d + b) × (at < sum sizes)
Placed sizes d b None = size_of sizes d ≤ b
