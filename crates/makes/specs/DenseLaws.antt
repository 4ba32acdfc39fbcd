-- The laws of a shelf, for the dense make.
use Rattle.std.proofs.Common.{◌≡◌, ℕ, ◌+◌, ◌*◌, ◌^◌, ◌<◌, ◌≤◌, false, ltb, [], sym, subst, arith}
use Rattle.makes.specs.Parts.{part_whole}
use Rattle.makes.specs.Dense.{dense}
use Rattle.makes.specs.declared.dense.Dense.{Dense}
use Rattle.shelf.proofs.Drives.{inside, plan_size}
use Rattle.shelf.specs.Meaning.{Block}
use Rattle.shelf.specs.Plan.{size_of, start}
use Rattle.std.proofs.lemmas.Bool.{cond-false, cond-true, le-ltb, lt-ltb}

pub is_bounded : (s : Dense) (d : ℕ) → size_of s.plan.sizes d ≤ 65536
is_bounded s d = plan_size s.plan.sizes d s.plan.few

pub has_words : (s : Dense) (d b : ℕ) → b < size_of s.plan.sizes d → Block ((dense s.plan.sizes s.store.words.now).block d b)
has_words s d b h =
    let i = inside s.plan.sizes d b h in
    subst Block (sym (cond-true _ _ _ (lt-ltb _ _ h)))
    (part_whole (2 ^ 32) s.store.words.now (128 * (start s.plan.sizes d + b)) 128 (omega (arith, s.enough)) s.store.fit)

pub has_nothing : (s : Dense) (d b : ℕ) → size_of s.plan.sizes d ≤ b → ((dense s.plan.sizes s.store.words.now).block d b ≡ []) × (ltb b (size_of s.plan.sizes d) ≡ false)
has_nothing s d b h = (cond-false _ _ _ (le-ltb _ _ h), le-ltb _ _ h)
